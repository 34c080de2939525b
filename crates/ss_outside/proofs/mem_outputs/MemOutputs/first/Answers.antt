-- The map has the text at the name, where it had nothing, and at every other name what it had.
use Rattle.std.proofs.Common.{arith}
use Rattle.std.proofs.lemmas.Map.Text.{text_keys}
use Rattle.ss_outside.proofs.mem_outputs.MemOutputs.first.Goals as goal

pub returns-clause-added : goal.returns-clause-added
returns-clause-added c = record {
  appended = record {
    bytes = λ other. grind (arith, text_keys);
    stays = λ was. grind (arith, text_keys);
    others = λ other differs. grind (arith, text_keys);
    faults = omega arith;
  };
  named = grind (arith, text_keys);
}
