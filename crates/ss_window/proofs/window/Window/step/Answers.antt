use Rattle.std.proofs.Common.{refl}
use Rattle.ss_elem.specs.declared.element.Element.TheVariants.{Cti, End}
use Rattle.ss_window.proofs.Arrivals.{row_steps, rise_steps}
use Rattle.ss_window.proofs.Spans.{on_ok, on_both}
use Rattle.ss_window.proofs.window.Window.step.Goals as goal

pub returns-in-Row-clause-ok : goal.returns-in-Row-clause-ok
returns-in-Row-clause-ok c =
    on_ok c.take_row.result _ _
    (λ puts.
    rw (c.in-Row.is, ← c.get.ensures.value)
    (row_steps c.entries_follow.ensures.row c.entries_follow.ensures.rise c.entries_follow.ensures.given c.entries_follow.ensures.grow
    c.args.self.now c.take_row.new.self c.args.out.now.elements c.take_row.new.out.elements c.in-Row.row c.get.result
    c.take_row.ensures.hops c.take_row.ensures.settings c.take_row.ensures.out puts))
    c.take_row.ensures.entries

pub returns-in-Cti-clause-ok : goal.returns-in-Cti-clause-ok
returns-in-Cti-clause-ok c =
    on_both c.take_rise.result _ _ _
    (λ kept gives.
    rw (c.in-Cti.is, ← c.get-in-Cti.ensures.value)
    (rise_steps c.entries_follow.ensures.rise c.entries_follow.ensures.given c.args.self.now c.take_rise.new.self
    c.args.out.now.elements c.take_rise.new.out.elements (Cti c.in-Cti.field-0) c.get-in-Cti.result refl c.take_rise.ensures.settings kept gives))
    c.take_rise.ensures.entries c.take_rise.ensures.given

pub returns-in-End-clause-ok : goal.returns-in-End-clause-ok
returns-in-End-clause-ok c =
    on_both c.take_rise-in-End.result _ _ _
    (λ kept gives.
    rw (c.in-End.is, ← c.get-in-End.ensures.value)
    (rise_steps c.entries_follow.ensures.rise c.entries_follow.ensures.given c.args.self.now c.take_rise-in-End.new.self
    c.args.out.now.elements c.take_rise-in-End.new.out.elements End c.get-in-End.result refl c.take_rise-in-End.ensures.settings kept gives))
    c.take_rise-in-End.ensures.entries c.take_rise-in-End.ensures.given
