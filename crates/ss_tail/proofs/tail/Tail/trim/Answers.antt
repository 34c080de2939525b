use Rattle.ss_tail.proofs.Standing.{trimmed_stands}
use Rattle.ss_tail.proofs.tail.Tail.trim.Goals as goal

pub returns-clause-standing : goal.returns-clause-standing
returns-clause-standing c = λ list most stands.
    rw c.drop_below.ensures (trimmed_stands list most c.args.self.now c.args.m stands)
