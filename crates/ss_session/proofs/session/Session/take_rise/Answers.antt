use Rattle.std.proofs.Common.{◌≡◌, sym, subst, ◌∙◌}
use Rattle.ss_session.specs.States.{State}
use Rattle.ss_session.specs.SessionSteps.{AreOpen, NoneCloseBefore, left}
use Rattle.ss_session.proofs.SessionFilters.{left_open}
use Rattle.ss_session.proofs.SessionLate.{all_left, none_given}
use Rattle.ss_session.proofs.session.Session.take_rise.Goals as goal

pub returns-then-low-self-clause-entries : goal.returns-then-low-self-clause-entries
returns-then-low-self-clause-entries c =
    subst (λ (s : State). s.entries ≡ left s.settings.gap c.args.low s.entries) c.self.view_is
    (sym (all_left c.self.inside.gap c.self.inside.soonest c.args.low c.self.inside.entries.items c.if-low-self.true c.self.invariant.late))

pub returns-then-low-self-clause-given : goal.returns-then-low-self-clause-given
returns-then-low-self-clause-given c =
    c.in_ok-reserve.ensures.elements ∙ none_given c.self.inside.soonest c.args.low c.args.self.now c.args.out.now.elements c.if-low-self.true
    (subst (λ (s : State). NoneCloseBefore s.settings.gap c.self.inside.soonest s.entries) c.self.view_is c.self.invariant.late)

pub invariant_of-self : goal.invariant_of-self
invariant_of-self c = record {
  opened = subst (AreOpen c.self.inside.gap) (sym c.forget.ensures)
      (left_open c.self.inside.gap c.args.low c.self.inside.entries.items c.self.invariant.opened);
  late = subst (NoneCloseBefore c.self.inside.gap c.soonest-self-inside.result) c.as_slice-2.ensures.value c.soonest-self-inside.ensures;
}
