use Rattle.std.proofs.Common.{◌≡◌, drop}
use Rattle.ss_tail.proofs.page_list.drop_front.Given as goal

abbrev pub invariant-loop-gone : goal.invariant-loop-gone
invariant-loop-gone l = l.pages.items ≡ drop l.gone l.initial.pages.items
