-- What contracts see of inputs in memory.
use Rattle.std.specs.Prelude.{◌≡◌, ℕ, Bool, true, false, List, Result, Ok, Err, Option, not, ◌||◌, is_some}
use Rattle.std.specs.Prelude.{option_map, if◌then◌else◌, bytes_eq, nat_eq}
use Rattle.std.specs.List.{list_any}
use Rattle.std.specs.Option.{option_map_or}
use Rattle.std.specs.BTreeMap.{get_by_text}
use Rattle.ss_outside.specs.declared.mem_inputs.MemFile.{MemFile}
use Rattle.ss_outside.specs.declared.mem_inputs.MemInputs.{MemInputs}
use Rattle.ss_outside.specs.declared.inputs.InputFault.{InputFault}
use Rattle.ss_outside.specs.declared.inputs.InputFault.TheVariants.{Failed, Memory}
use Rattle.ss_outside.specs.Faults.{next_count}
use Rattle.ss_outside.specs.Told.{HeldFile, FileTold, missing, held, InputsTold}

abbrev pub held_file : MemFile → HeldFile
held_file file = record { bytes = file.bytes.items; mark = file.mark; failures = file.failures }

-- the file of a name, or that there is none: they tell which names they hold
abbrev pub mem_file : MemInputs → List ℕ → FileTold
mem_file inputs name = option_map_or (λ file. held (held_file file)) (get_by_text inputs.files name) missing

-- what they tell
abbrev pub mem_inputs_told : MemInputs → InputsTold
mem_inputs_told inputs = record { file = mem_file inputs; missed = inputs.missed; faults = inputs.faults }

-- the released mark of a name, where it is held
abbrev pub mark_of : MemInputs → List ℕ → Option ℕ
mark_of inputs name = option_map (λ file. file.mark) (get_by_text inputs.files name)

-- how many reads were made
abbrev pub reads_made : MemInputs → ℕ
reads_made inputs = inputs.calls

-- the numbers of the reads that are to fail
abbrev pub reads_listed : MemInputs → List ℕ
reads_listed inputs = inputs.fails.items

-- the name is held
abbrev pub holds : MemInputs → List ℕ → Bool
holds inputs name = is_some (get_by_text inputs.files name)

-- whether the next read fails at this name: it is listed, or the name isn't held
abbrev pub read_fails : MemInputs → List ℕ → Bool
read_fails inputs name =
    list_any (λ call. nat_eq call (next_count (reads_made inputs))) (reads_listed inputs) || not (holds inputs name)

-- whether a read answered Failed
abbrev pub read_failed : Result (Unit {0}) InputFault → Bool
read_failed (Ok _) = false
read_failed (Err Failed) = true
read_failed (Err Memory) = false

-- the calls that were made, the list of those that are to fail, and the counts are as before
pub record KeepsCalls (old new : MemInputs) : Type 0 where
  pub made : reads_made new ≡ reads_made old
  pub listed : reads_listed new ≡ reads_listed old
  pub faults : (mem_inputs_told new).faults ≡ (mem_inputs_told old).faults
  pub missed : (mem_inputs_told new).missed ≡ (mem_inputs_told old).missed

abbrev pub new_file : List ℕ → HeldFile
new_file bytes = record { bytes = bytes; mark = 0; failures = 0 }

-- every name is told as before but this one, which now has these bytes, with nothing released and no failure
pub record Holds (old new : MemInputs) (name bytes : List ℕ) : Type 0 where
  pub files : (other : List ℕ) →
      mem_file new other ≡ (if bytes_eq other name then held (new_file bytes) else mem_file old other)
  pub calls : KeepsCalls old new

abbrev pub raised_where : Bool → ℕ → ℕ
raised_where failed count = if failed then next_count count else count

-- a read fails exactly where it is listed or its name isn't held, and then alone it counts
pub record ReadsAsListed (old new : MemInputs) (name : List ℕ) (result : Result (Unit {0}) InputFault) : Type 0 where
  pub failed : read_failed result ≡ read_fails old name
  pub faults : (mem_inputs_told new).faults ≡ raised_where (read_fails old name) (mem_inputs_told old).faults
  pub made : reads_made new ≡ next_count (reads_made old)
  pub listed : reads_listed new ≡ reads_listed old
