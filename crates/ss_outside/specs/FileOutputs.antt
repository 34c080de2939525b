-- What contracts see of outputs that are real files.
use Rattle.std.specs.Prelude.{◌≡◌, ℕ, Bool, true, false, List, Option, None, Result, OnOk, IsErrOf}
use Rattle.std.specs.Prelude.{bytes_eq, string_bytes, codes, if◌then◌else◌}
use Rattle.std.specs.List.{list_any}
use Rattle.ss_outside.specs.Told.{OutputsTold}
use Rattle.ss_outside.specs.declared.outputs.PutFault.{PutFault}
use Rattle.ss_outside.specs.declared.outputs.PutFault.TheVariants.{Memory}
use Rattle.ss_outside.specs.declared.file_outputs.FileOutputs.{FileOutputs}

-- nothing is told of the bytes of any name
abbrev pub no_bytes_told : List ℕ → Option (List ℕ)
no_bytes_told name = None

-- the name is that of an open file
abbrev pub is_open : {X Y Z : Type 0} → FileOutputs X Y Z → List ℕ → Bool
is_open outputs name = list_any (λ open_name. bytes_eq name (string_bytes open_name)) outputs.names.items

-- the names that were put to: those of the open files, and the two streams
abbrev pub files_put_to : {X Y Z : Type 0} → FileOutputs X Y Z → List ℕ → Bool
files_put_to outputs name =
    if bytes_eq name (codes "-") then outputs.output_used
    else (if bytes_eq name (codes "!") then outputs.error_used else is_open outputs name)

-- what they tell: which names were put to, and their count of faults
abbrev pub file_outputs_told : {X Y Z : Type 0} → FileOutputs X Y Z → OutputsTold
file_outputs_told outputs =
    record { bytes = no_bytes_told; put_to = files_put_to outputs; faults = outputs.faults }

-- a write to this name: this name is put to where it answers Ok and where it was before, none more is where memory is
-- wanting, and no other ever
pub record Writes (old new : OutputsTold) (name : List ℕ) (result : Result (Unit {0}) PutFault) : Type 0 where
  pub named : OnOk result (new.put_to name ≡ true)
  pub stays : old.put_to name ≡ true → new.put_to name ≡ true
  pub untouched : IsErrOf result Memory → new.put_to ≡ old.put_to
  pub others : (other : List ℕ) → bytes_eq other name ≡ false → new.put_to other ≡ old.put_to other
  pub faults : new.faults ≡ old.faults
