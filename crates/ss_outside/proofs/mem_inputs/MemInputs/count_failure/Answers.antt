-- The name's own count has risen, and every other name is as it was.
use Rattle.std.proofs.Common.{arith}
use Rattle.std.proofs.lemmas.Map.Text.{text_keys}
use Rattle.ss_outside.proofs.mem_inputs.MemInputs.count_failure.Goals as goal

pub returns-in-Some-clause-files : goal.returns-in-Some-clause-files
returns-in-Some-clause-files c = λ other. grind (arith, text_keys)
