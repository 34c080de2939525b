use Rattle.std.proofs.Common.{arith}
use Rattle.ss_tail.proofs.Standing.{added_stands}
use Rattle.ss_tail.proofs.tail.Tail.write.Goals as goal

pub returns-clause-standing : goal.returns-clause-standing
returns-clause-standing c = λ list most stands is_item below.
    rw c.in_ok-add.ensures (added_stands list most c.args.self.now c.args.n c.args.x.now stands (omega arith) is_item below)
