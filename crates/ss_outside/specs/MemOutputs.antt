-- What contracts see of outputs in memory.
use Rattle.std.specs.Prelude.{◌≡◌, ℕ, Bool, true, List, [], Option, Some, None, Result, Ok, Err, is_some, take}
use Rattle.std.specs.Prelude.{option_map, find, nat_eq}
use Rattle.std.specs.Option.{option_map_or}
use Rattle.std.specs.BTreeMap.{get_by_text}
use Rattle.ss_outside.specs.declared.mem_outputs.MemOutputs.{MemOutputs}
use Rattle.ss_outside.specs.declared.outputs.PutFault.{PutFault}
use Rattle.ss_outside.specs.declared.outputs.PutFault.TheVariants.{Failed, Memory}
use Rattle.ss_outside.specs.Faults.{next_count}
use Rattle.ss_outside.specs.Told.{OutputsTold, Appends}

-- the bytes of a name, none where nothing was put to it
abbrev pub bytes_held : MemOutputs → List ℕ → List ℕ
bytes_held outputs name = option_map_or (λ bytes. bytes.items) (get_by_text outputs.files name) []

abbrev pub bytes_told : MemOutputs → List ℕ → Option (List ℕ)
bytes_told outputs name = Some (bytes_held outputs name)

-- the names that were put to
abbrev pub names_put_to : MemOutputs → List ℕ → Bool
names_put_to outputs name = is_some (get_by_text outputs.files name)

-- what they tell: the bytes of every name
abbrev pub mem_outputs_told : MemOutputs → OutputsTold
mem_outputs_told outputs =
    record { bytes = bytes_told outputs; put_to = names_put_to outputs; faults = outputs.faults }

-- how many puts were made
abbrev pub puts_made : MemOutputs → ℕ
puts_made outputs = outputs.calls

-- the puts that are to fail: the number of the call, and how many bytes it keeps
abbrev pub puts_listed : MemOutputs → List (ℕ × ℕ)
puts_listed outputs = outputs.fails.items

-- how many bytes a list of such entries keeps of a call, where it has the call; of two entries the first counts
abbrev pub kept_in : List (ℕ × ℕ) → ℕ → Option ℕ
kept_in entries call = option_map (λ entry. entry.1) (find (λ entry. nat_eq entry.0 call) entries)

-- how many bytes the next put keeps, where it is to fail
abbrev pub next_kept : MemOutputs → Option ℕ
next_kept outputs = kept_in (puts_listed outputs) (next_count (puts_made outputs))

-- the calls that were made, the list of those that are to fail, and the count of faults are as before
pub record KeepsCalls (old new : MemOutputs) : Type 0 where
  pub made : puts_made new ≡ puts_made old
  pub listed : puts_listed new ≡ puts_listed old
  pub faults : (mem_outputs_told new).faults ≡ (mem_outputs_told old).faults

-- the text went behind what the name had, and nothing else changed
pub record Gains (old new : MemOutputs) (name text : List ℕ) : Type 0 where
  pub appended : Appends (mem_outputs_told old) (mem_outputs_told new) name text
  pub named : names_put_to new name ≡ true

-- a put of this text fails exactly where it is listed: then it keeps as many bytes as was listed, and counts
abbrev pub AnswersAsListed : MemOutputs → MemOutputs → List ℕ → List ℕ → Result (Unit {0}) PutFault → Type 0
AnswersAsListed old new name text (Ok _) =
    (next_kept old ≡ None) × ((mem_outputs_told new).faults ≡ (mem_outputs_told old).faults)
AnswersAsListed old new name text (Err Failed) =
    (kept : ℕ) × (next_kept old ≡ Some kept)
    × Appends (mem_outputs_told old) (mem_outputs_told new) name (take kept text)
    × ((mem_outputs_told new).faults ≡ next_count (mem_outputs_told old).faults)
AnswersAsListed old new name text (Err Memory) = (mem_outputs_told new).faults ≡ (mem_outputs_told old).faults

-- the same, and it is one more call
pub record PutsAsListed (old new : MemOutputs) (name text : List ℕ) (result : Result (Unit {0}) PutFault) : Type 0 where
  pub answer : AnswersAsListed old new name text result
  pub made : puts_made new ≡ next_count (puts_made old)
  pub listed : puts_listed new ≡ puts_listed old
