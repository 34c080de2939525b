use Rattle.std.proofs.Common.{◌≡◌, ◌++◌, take}
use Rattle.ss_report.specs.ReadAgain.{whole_trace}
use Rattle.ss_play.proofs.reporting.put_trace.Given as goal

-- the lines of the acts passed are appended
abbrev pub invariant-loop-act : goal.invariant-loop-act
invariant-loop-act l = l.out.items ≡ l.fn.out.items ++ whole_trace l.roles (take l.act-index l.pairs)
