use Rattle.std.proofs.Common.{nat_lt, All, sym, subst}
use Rattle.std.specs.Prelude.{slice_index}
use Rattle.ss_elem.specs.declared.element.Event.{Event}
use Rattle.ss_join.specs.ImageLaws.{HasEarlyTimes}
use Rattle.ss_session.proofs.AloneRows.{all_kept}
use Rattle.ss_session.proofs.except.Except.take_rise.Goals as goal

pub invariant_of-self-else-input-eq0 : goal.invariant_of-self-else-input-eq0
invariant_of-self-else-input-eq0 c =
    subst (All HasEarlyTimes) (sym c.give_ended.ensures.left)
    (all_kept HasEarlyTimes (λ (row : Event). nat_lt (slice_index c.args.bounds 1) row.end) c.self.inside.left c.self.invariant)
