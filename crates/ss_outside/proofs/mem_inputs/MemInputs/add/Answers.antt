-- The map has the new file at the name, and at every other name what it had.
use Rattle.std.proofs.Common.{arith, refl}
use Rattle.std.proofs.lemmas.Map.Text.{text_keys}
use Rattle.ss_outside.proofs.mem_inputs.MemInputs.add.Goals as goal

pub returns-clause-added : goal.returns-clause-added
returns-clause-added c = record {
  files = λ other. grind (arith, text_keys);
  calls = record { made = refl; listed = refl; faults = refl; missed = refl };
}
