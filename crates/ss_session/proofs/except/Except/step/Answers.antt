-- What each arrival makes of the sides.
use Rattle.std.proofs.Common.{◌≡◌, ℕ, zero, suc, ◌<◌, ◌==◌, ◌++◌, cond, List, [], map, refl, sym, subst, ◌∙◌, arith, append-nil}
use Rattle.std.specs.Prelude.{slice_index}
use Rattle.ss_elem.specs.declared.element.Event.{Event}
use Rattle.ss_elem.specs.declared.element.Element.{Element}
use Rattle.ss_elem.specs.declared.element.Element.TheVariants.{Row, Cti, End}
use Rattle.ss_join.specs.States.{Sides, StepsAs}
use Rattle.ss_meaning.specs.Bound.{row_of}
use Rattle.ss_meaning.specs.Emit.{Except}
use Rattle.ss_meaning.specs.Entries.{rows_ending_above}
use Rattle.ss_meaning.specs.Except.{absent_row}
use Rattle.ss_meaning.specs.ExceptLaws.{ending_up_to, ReachedRowsAreGiven}
use Rattle.ss_meaning.specs.JoinLaws.{SideAfterRise}
use Rattle.ss_session.proofs.ExceptSteps.{right_row, rise_left, rise_right, on_ok}
use Rattle.ss_session.proofs.except.Except.step.Goals as goal

pub returns-else-input-eq0-clause-ok : goal.returns-else-input-eq0-clause-ok
returns-else-input-eq0-clause-ok c =
    let second : 1 ≡ c.args.input = omega (arith, c.requires.side, c.if-input-eq0.false) in
    let row : Event = record { start = c.in-Row.row.start; end = c.in-Row.row.end; key = c.in-Row.row.key; a = c.in-Row.row.a; b = c.in-Row.row.b; c = c.in-Row.row.c; d = c.in-Row.row.d } in
    on_ok c.take_right.result c.take_right.ensures.left c.take_right.ensures.right c.take_right.ensures.right
    (λ left right same.
    subst (λ (x : Element). StepsAs Except c.args.self.now c.take_right.new.self c.args.out.now.elements c.take_right.new.out.elements c.args.input x c.args.bounds) (sym c.in-Row.is)
    (subst (λ (n : ℕ). StepsAs Except c.args.self.now c.take_right.new.self c.args.out.now.elements c.take_right.new.out.elements n (Row row) c.args.bounds) second
    (right_row c.absent_rows_follow.ensures.right c.absent_rows_follow.ensures.none c.args.self.now c.take_right.new.self c.args.out.now.elements c.take_right.new.out.elements row c.args.bounds
    left right c.take_right.ensures.out)))

-- a rise of either input
rises : SideAfterRise → ReachedRowsAreGiven → (old new : Sides) (before after : List Element) (input : ℕ) (x : Element) (bounds : List ℕ) → row_of x ≡ [] → input < 2
    → new.left ≡ cond (input == 0) old.left (rows_ending_above (slice_index bounds 1) old.left)
    → new.right ≡ cond (input == 0) (rows_ending_above (slice_index bounds 0) old.right) old.right
    → after ≡ before ++ map (λ (r : Event). Row r) (map absent_row (cond (input == 0) [] (ending_up_to (slice_index bounds 1) old.left)))
    → StepsAs Except old new before after input x bounds
rises rise given old new before after zero x bounds no_row within left right told =
    rise_left rise old new before after x bounds no_row left right (told ∙ append-nil before)
rises rise given old new before after (suc zero) x bounds no_row within left right told = rise_right rise given old new before after x bounds no_row left right told
rises rise given old new before after (suc (suc n)) x bounds no_row within left right told = absurd (omega (arith, within))

pub returns-in-Cti-clause-ok : goal.returns-in-Cti-clause-ok
returns-in-Cti-clause-ok c =
    on_ok c.take_rise.result c.take_rise.ensures.left c.take_rise.ensures.right c.take_rise.ensures.given
    (λ left right given.
    subst (λ (x : Element). StepsAs Except c.args.self.now c.take_rise.new.self c.args.out.now.elements c.take_rise.new.out.elements c.args.input x c.args.bounds) (sym c.in-Cti.is)
    (rises c.join_sides_follow.ensures.rise c.absent_rows_follow.ensures.given c.args.self.now c.take_rise.new.self c.args.out.now.elements c.take_rise.new.out.elements c.args.input (Cti c.in-Cti.field-0) c.args.bounds
    refl c.requires.side left right given))

pub returns-in-End-clause-ok : goal.returns-in-End-clause-ok
returns-in-End-clause-ok c =
    on_ok c.take_rise-in-End.result c.take_rise-in-End.ensures.left c.take_rise-in-End.ensures.right c.take_rise-in-End.ensures.given
    (λ left right given.
    subst (λ (x : Element). StepsAs Except c.args.self.now c.take_rise-in-End.new.self c.args.out.now.elements c.take_rise-in-End.new.out.elements c.args.input x c.args.bounds) (sym c.in-End.is)
    (rises c.join_sides_follow.ensures.rise c.absent_rows_follow.ensures.given c.args.self.now c.take_rise-in-End.new.self c.args.out.now.elements c.take_rise-in-End.new.out.elements c.args.input End c.args.bounds
    refl c.requires.side left right given))
