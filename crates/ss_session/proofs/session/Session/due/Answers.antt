use Rattle.std.proofs.Common.{◌≡◌, length, sym, ap, subst, arith}
use Rattle.ss_session.specs.States.{State, reached}
use Rattle.ss_session.proofs.SessionLate.{none_reached}
use Rattle.ss_session.proofs.session.Session.due.Goals as goal

pub returns-then-get-self-clause-due : goal.returns-then-get-self-clause-due
returns-then-get-self-clause-due c =
    subst (λ (s : State). 0 ≡ length (reached s.settings.gap c.args.low s.entries)) c.self.view_is
    (sym (ap length (none_reached c.self.inside.gap c.self.inside.soonest c.args.low c.self.inside.entries.items
    (omega (arith, c.if-get-self.true, c.get.ensures.value)) c.self.invariant.late)))
