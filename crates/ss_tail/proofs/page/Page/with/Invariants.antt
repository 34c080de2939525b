use Rattle.std.proofs.Common.{◌≡◌, length}
use Rattle.ss_tail.proofs.page.Page.with.Given as goal

abbrev pub invariant-loop-same : goal.invariant-loop-same
invariant-loop-same l = length l.items.items ≡ l.same
