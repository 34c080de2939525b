use Rattle.ss_fail.proofs.NameBytes.{kept-text}
use Rattle.ss_fail.proofs.name.Name.of.Goals as goal

pub invariant_of-result : goal.invariant_of-result
invariant_of-result c = rw c.copy_from_slice.ensures.after (kept-text c.args.bytes.now c.requires.some c.requires.few)
