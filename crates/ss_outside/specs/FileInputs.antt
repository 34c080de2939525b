-- What contracts see of inputs that are real files.
use Rattle.std.specs.Prelude.{ℕ, List, Vec, Result, Ok, Err, nat_le, length, if◌then◌else◌}
use Rattle.ss_outside.specs.Told.{FileTold, untold, InputsTold}
use Rattle.ss_outside.specs.declared.file_inputs.FileInputs.{FileInputs}
use Rattle.ss_outside.specs.declared.inputs.InputFault.{InputFault}
use Rattle.ss_outside.specs.declared.inputs.InputFault.TheVariants.{Failed}

-- the greatest size of a file that is read
abbrev pub most_bytes : ℕ
most_bytes = 67108864

-- nothing is told of any name
abbrev pub nothing_told : List ℕ → FileTold
nothing_told name = untold

-- what they tell: their count of faults
abbrev pub file_inputs_told : {X Y Z : Type 0} → FileInputs X Y Z → InputsTold
file_inputs_told inputs = record { file = nothing_told; missed = 0; faults = inputs.faults }

-- bytes within the limit, or the fault of those above it, which is not want of memory
abbrev pub within_limit : {X Y : Type 0} → Vec X Y → Result (Vec X Y) InputFault
within_limit bytes = if nat_le (length bytes.items) most_bytes then Ok bytes else Err Failed
