-- When the texts of acts, read as a schedule, give the acts again.
use Rattle.std.specs.Prelude.{◌≡◌, ℕ, ◌<◌, ◌≤◌, ◌^◌, ◌&&◌, ◌==◌, not, Bool, true, false, bytes_eq}
use Rattle.std.specs.Prelude.{List, [], ◌∷◌, ◌++◌, Ok, codes, map, length, slice_get, All}
use Rattle.std.specs.List.{IsDistinct, before_first, flat_map, list_all}
use Rattle.std.specs.Option.{option_map_or}
use Rattle.std.specs.Str.Lines.{lines}
use Rattle.ss_fail.specs.Acts.{replicas_of, suits}
use Rattle.ss_fail.specs.Lines.{is_blank}
use Rattle.ss_fail.specs.Scripts.{acts_of}
use Rattle.ss_fail.specs.declared.act.Act.{Act}
use Rattle.ss_fail.specs.declared.act.Act.TheVariants.{Read, Write, Snap, Crash, Load, Lose}
use Rattle.ss_fail.specs.declared.act.Act.TheVariants.{Flush, Take, Collect, Trim, Pass}
use Rattle.ss_fail.specs.declared.outcome.Outcome.{Outcome}
use Rattle.ss_fail.specs.declared.role.Role.{Role}
use Rattle.ss_job.specs.JobText.{JobText}
use Rattle.ss_job.specs.Sound.{IsJob}
use Rattle.ss_report.specs.TraceText.{act_text, trace_text}

-- neither a newline nor a carriage return
abbrev pub is_line_byte : ℕ → Bool
is_line_byte byte = not (byte == 10) && not (byte == 13)

abbrev pub is_colon : ℕ → Bool
is_colon byte = byte == 0x3A

-- nor a colon
abbrev pub is_act_byte : ℕ → Bool
is_act_byte byte = is_line_byte byte && not (is_colon byte)

-- nor a space or a tab
abbrev pub is_word_byte : ℕ → Bool
is_word_byte byte = not (is_blank byte) && is_act_byte byte

-- a text that is one word of a line, without a colon
abbrev pub IsWord : List ℕ → Type 0
IsWord text = (0 < length text) × (list_all is_word_byte text ≡ true)

-- each name is a word, and no two are the same
pub record HasNames (roles : List Role) : Type 0 where
  pub words : All (λ role. IsWord role.name) roles
  pub distinct : IsDistinct bytes_eq (map (λ role. role.name) roles)

-- v is the number of a sink, or of a vertex with a stream
abbrev pub IsVertexOf : Bool → List Role → ℕ → Type 0
IsVertexOf sink roles v =
    (v < length roles) × (option_map_or (λ role. suits sink role.kind) (slice_get roles v) false ≡ true)

-- v is the number of a vertex with a stream, and r that of one of its replicas
abbrev pub IsReplicaOf : List Role → ℕ → ℕ → Type 0
IsReplicaOf roles v r = IsVertexOf false roles v × (r < replicas_of roles v) × (r < 2 ^ 32)

-- an act of a vertex and a replica that are there
abbrev pub CanBeSaid : List Role → Act → Type 0
CanBeSaid roles (Read v r) = IsReplicaOf roles v r
CanBeSaid roles (Write v r) = IsReplicaOf roles v r
CanBeSaid roles (Snap v r) = IsReplicaOf roles v r
CanBeSaid roles (Crash v r) = IsReplicaOf roles v r
CanBeSaid roles (Load v r) = IsReplicaOf roles v r
CanBeSaid roles (Lose v) = IsVertexOf false roles v
CanBeSaid roles (Flush v count) = IsVertexOf false roles v × (1 ≤ count) × (count ≤ 64)
CanBeSaid roles (Take k) = IsVertexOf true roles k
CanBeSaid roles (Collect v) = IsVertexOf false roles v
CanBeSaid roles (Trim v) = IsVertexOf false roles v
CanBeSaid roles Pass = Unit {0}

-- acts as a schedule writes them, each before a newline
abbrev pub schedule_text : List Role → List Act → List ℕ
schedule_text roles acts = flat_map (λ act. act_text roles act ++ codes "\n") acts

-- the lines of a trace, each without its first colon and what stands behind it
abbrev pub before_colons : List ℕ → List ℕ
before_colons trace = flat_map (λ line. before_first is_colon line ++ codes "\n") (lines trace)

-- the trace of acts with what came of each
abbrev pub whole_trace : List Role → List (Act × Outcome) → List ℕ
whole_trace roles made = flat_map (λ entry. trace_text roles entry.0 entry.1) made

-- the text of an act, read as a schedule, gives the act
abbrev pub ActIsReadAgain : Type 0
ActIsReadAgain =
    (roles : List Role) (act : Act) → HasNames roles → CanBeSaid roles act
    → acts_of roles (act_text roles act) ≡ Ok (act ∷ [])

-- the schedule that is written of acts gives these acts, in their order
abbrev pub ActsAreReadAgain : Type 0
ActsAreReadAgain =
    (roles : List Role) (acts : List Act) → HasNames roles → All (CanBeSaid roles) acts
    → acts_of roles (schedule_text roles acts) ≡ Ok acts

-- the names of a job's vertices are words, and no two are the same
abbrev pub JobsHaveNames : Type 0
JobsHaveNames = (job : JobText) → IsJob job → HasNames job.roles

-- what stands before the colons of a trace, read as a schedule of the same job, gives the acts again
abbrev pub TracesAreReadAgain : Type 0
TracesAreReadAgain =
    (job : JobText) (made : List (Act × Outcome)) → IsJob job → All (λ entry. CanBeSaid job.roles entry.0) made
    → acts_of job.roles (before_colons (whole_trace job.roles made)) ≡ Ok (map (λ entry. entry.0) made)
