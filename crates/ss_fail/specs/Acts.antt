-- What the words of a line say.
use Rattle.std.specs.Prelude.{ℕ, ◌^◌, ◌-◌, ◌&&◌, Bool, true, false, not, nat_lt, nat_le, ◌==◌, bytes_eq, List, []}
use Rattle.std.specs.Prelude.{◌∷◌, length, Option, Some, None, position, slice_get, Result, Ok, Err, codes}
use Rattle.std.specs.Prelude.{if◌then◌else◌}
use Rattle.std.specs.Option.{option_map_or, ok_or}
use Rattle.ss_water.specs.declared.node.Kind.{Kind}
use Rattle.ss_water.specs.Graph.{is_sink}
use Rattle.ss_fail.specs.declared.act.Act.{Act}
use Rattle.ss_fail.specs.declared.act.Act.TheVariants as act
use Rattle.ss_fail.specs.declared.fault.ScriptWhy.{ScriptWhy}
use Rattle.ss_fail.specs.declared.fault.ScriptWhy.TheVariants.{BadWord, BadCount, UnknownName, BadNumber, NoReplica}
use Rattle.ss_fail.specs.declared.role.Role.{Role}
use Rattle.ss_fail.specs.declared.trigger.Trigger.{Trigger}
use Rattle.ss_fail.specs.declared.word.ActWord.{ActWord}
use Rattle.ss_fail.specs.declared.word.ActWord.TheVariants.{OfReplica, OfStream, Flush, Take, Pass}
use Rattle.ss_fail.specs.declared.word.ReplicaWord.{ReplicaWord}
use Rattle.ss_fail.specs.declared.word.ReplicaWord.TheVariants.{Read, Write, Snap, Crash, Load}
use Rattle.ss_fail.specs.declared.word.StreamWord.{StreamWord}
use Rattle.ss_fail.specs.declared.word.StreamWord.TheVariants.{Lose, Collect, Trim}
use Rattle.ss_fail.specs.Decimal.{number_below}

infixl 10 ◌>>=◌
abbrev pub ◌>>=◌ : {A B : Type 0} → Result A ScriptWhy → (A → Result B ScriptWhy) → Result B ScriptWhy
(Ok x) >>= f = f x
(Err why) >>= f = Err why

-- the word with which the line of an act begins
abbrev pub act_word : List ℕ → Option ActWord
act_word word =
    if bytes_eq word (codes "read") then Some (OfReplica Read)
    else (if bytes_eq word (codes "write") then Some (OfReplica Write)
    else (if bytes_eq word (codes "snap") then Some (OfReplica Snap)
    else (if bytes_eq word (codes "crash") then Some (OfReplica Crash)
    else (if bytes_eq word (codes "load") then Some (OfReplica Load)
    else (if bytes_eq word (codes "lose") then Some (OfStream Lose)
    else (if bytes_eq word (codes "flush") then Some Flush
    else (if bytes_eq word (codes "take") then Some Take
    else (if bytes_eq word (codes "collect") then Some (OfStream Collect)
    else (if bytes_eq word (codes "trim") then Some (OfStream Trim)
    else (if bytes_eq word (codes "pass") then Some Pass else None))))))))))

-- a sink is wanted, or a vertex with a stream
abbrev pub suits : Bool → Kind → Bool
suits true kind = is_sink kind
suits false kind = not (is_sink kind)

abbrev pub is_wanted : Bool → List ℕ → Role → Bool
is_wanted sink name role = bytes_eq role.name name && suits sink role.kind

-- the vertex with this name, among the sinks or among the others
abbrev pub vertex_of : Bool → List Role → List ℕ → Result ℕ ScriptWhy
vertex_of sink roles name = ok_or (position (is_wanted sink name) roles) UnknownName

abbrev pub replicas_of : List Role → ℕ → ℕ
replicas_of roles v = option_map_or (λ role. role.replicas) (slice_get roles v) 0

-- the replica of vertex v
abbrev pub replica_of : List Role → ℕ → List ℕ → Result ℕ ScriptWhy
replica_of roles v text = do
  r ← ok_or (number_below (2 ^ 32) text) BadNumber
  if nat_lt r (replicas_of roles v) then Ok r else Err NoReplica

-- a number from 1 up to and with `most`
abbrev pub count_to : ℕ → List ℕ → Result ℕ ScriptWhy
count_to most text = do
  count ← ok_or (number_below (2 ^ 64) text) BadNumber
  if nat_le 1 count && nat_le count most then Ok count else Err BadNumber

abbrev pub replica_act : ReplicaWord → ℕ → ℕ → Act
replica_act Read v r = act.Read v r
replica_act Write v r = act.Write v r
replica_act Snap v r = act.Snap v r
replica_act Crash v r = act.Crash v r
replica_act Load v r = act.Load v r

abbrev pub stream_act : StreamWord → ℕ → Act
stream_act Lose v = act.Lose v
stream_act Collect v = act.Collect v
stream_act Trim v = act.Trim v

-- the words, where they are just so many
abbrev pub only_word : List (List ℕ) → Option (List ℕ)
only_word (x ∷ []) = Some x
only_word others = None

abbrev pub word_pair : List (List ℕ) → Option (List ℕ × List ℕ)
word_pair (x ∷ y ∷ []) = Some (x, y)
word_pair others = None

-- the act of a word with what stands behind it: the number of words is tested first, and then each from the left
abbrev pub act_of : ActWord → List Role → List (List ℕ) → Result Act ScriptWhy
act_of (OfReplica word) roles others = do
  pair ← ok_or (word_pair others) BadCount
  v ← vertex_of false roles pair.0
  r ← replica_of roles v pair.1
  Ok (replica_act word v r)
act_of (OfStream word) roles others = do
  name ← ok_or (only_word others) BadCount
  v ← vertex_of false roles name
  Ok (stream_act word v)
act_of Flush roles others = do
  pair ← ok_or (word_pair others) BadCount
  v ← vertex_of false roles pair.0
  count ← count_to 64 pair.1
  Ok (act.Flush v count)
act_of Take roles others = do
  name ← ok_or (only_word others) BadCount
  k ← vertex_of true roles name
  Ok (act.Take k)
act_of Pass roles [] = Ok act.Pass
act_of Pass roles (x ∷ others) = Err BadCount

-- the act of a schedule's line
abbrev pub act_line : List Role → List (List ℕ) → Result Act ScriptWhy
act_line roles [] = Err BadWord
act_line roles (first ∷ others) = do
  word ← ok_or (act_word first) BadWord
  act_of word roles others

-- the acts that follow a write
abbrev pub failure_word : List ℕ → Result ActWord ScriptWhy
failure_word word =
    if bytes_eq word (codes "crash") then Ok (OfReplica Crash)
    else (if bytes_eq word (codes "lose") then Ok (OfStream Lose) else Err BadWord)

-- the number of words behind the word of such an act fits
abbrev pub fits : ActWord → List (List ℕ) → Bool
fits (OfReplica word) others = length others == 2
fits _ others = length others == 1

-- the number of words fits, and then each is read from the left
abbrev pub trigger_with : List Role → ActWord → List ℕ → List ℕ → List (List ℕ) → Result Trigger ScriptWhy
trigger_with roles word name number others =
    if fits word others then (do
      v ← vertex_of false roles name
      count ← count_to (2 ^ 63 - 1) number
      act ← act_of word roles others
      Ok (record { v = v; count = count; act = act }))
    else Err BadCount

-- what stands behind the word `when`
abbrev pub trigger_of : List Role → List (List ℕ) → Result Trigger ScriptWhy
trigger_of roles (name ∷ number ∷ act ∷ others) = do
  word ← failure_word act
  trigger_with roles word name number others
trigger_of roles others = Err BadCount

-- the trigger of a failure file's line
abbrev pub trigger_line : List Role → List (List ℕ) → Result Trigger ScriptWhy
trigger_line roles [] = Err BadWord
trigger_line roles (first ∷ others) = if bytes_eq first (codes "when") then trigger_of roles others else Err BadWord
