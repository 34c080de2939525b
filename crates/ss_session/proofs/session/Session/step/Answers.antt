use Rattle.std.proofs.Common.{refl}
use Rattle.ss_elem.specs.declared.element.Element.TheVariants.{Cti, End}
use Rattle.ss_session.proofs.SessionArrivals.{row_steps, rise_steps, on_both, on_three}
use Rattle.ss_session.proofs.session.Session.step.Goals as goal

pub returns-in-Row-clause-ok : goal.returns-in-Row-clause-ok
returns-in-Row-clause-ok c =
    on_both c.take_row.result _ _ _
    (λ gaps puts.
    rw c.in-Row.is
    (row_steps c.sessions_follow.ensures.row c.sessions_follow.ensures.rise c.sessions_follow.ensures.given c.sessions_follow.ensures.join
    c.sessions_close_in_time.ensures.order c.args.self.now c.take_row.new.self c.args.out.now.elements c.take_row.new.out.elements c.in-Row.row c.args.low
    gaps c.take_row.ensures.settings c.take_row.ensures.out puts))
    c.take_row.ensures.gap c.take_row.ensures.entries

pub returns-in-Cti-clause-ok : goal.returns-in-Cti-clause-ok
returns-in-Cti-clause-ok c =
    on_three c.take_rise.result _ _ _ _
    (λ gaps kept gives.
    rw (c.in-Cti.is, ← c.get.ensures.value)
    (rise_steps c.sessions_follow.ensures.rise c.sessions_follow.ensures.given c.sessions_close_in_time.ensures.order c.args.self.now c.take_rise.new.self
    c.args.out.now.elements c.take_rise.new.out.elements (Cti c.in-Cti.field-0) c.get.result gaps refl c.take_rise.ensures.settings kept gives))
    c.take_rise.ensures.gap c.take_rise.ensures.entries c.take_rise.ensures.given

pub returns-in-End-clause-ok : goal.returns-in-End-clause-ok
returns-in-End-clause-ok c =
    on_three c.take_rise-in-End.result _ _ _ _
    (λ gaps kept gives.
    rw (c.in-End.is, ← c.get-in-End.ensures.value)
    (rise_steps c.sessions_follow.ensures.rise c.sessions_follow.ensures.given c.sessions_close_in_time.ensures.order c.args.self.now c.take_rise-in-End.new.self
    c.args.out.now.elements c.take_rise-in-End.new.out.elements End c.get-in-End.result gaps refl c.take_rise-in-End.ensures.settings kept gives))
    c.take_rise-in-End.ensures.gap c.take_rise-in-End.ensures.entries c.take_rise-in-End.ensures.given
