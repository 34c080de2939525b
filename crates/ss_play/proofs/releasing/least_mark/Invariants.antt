use Rattle.std.proofs.Common.{◌≡◌, get_or}
use Rattle.ss_play.proofs.Least.{least_before}
use Rattle.ss_play.proofs.releasing.least_mark.Given as goal

-- it is the least of the marks passed
abbrev pub invariant-loop-v : goal.invariant-loop-v
invariant-loop-v l = l.least ≡ least_before l.job (λ v. get_or l.marks v 0) l.name l.v
