-- How many rows an arriving row gives.
use Rattle.std.proofs.Common.{◌≡◌, ℕ, zero, suc, ◌<◌, ◌==◌, ◌&&◌, nat_le, cond, List, [], ◌∷◌, length, filter, sym, subst, arith}
use Rattle.std.specs.Prelude.{slice_index}
use Rattle.ss_elem.specs.declared.element.Event.{Event}
use Rattle.ss_elem.specs.declared.element.Element.{Element}
use Rattle.ss_elem.specs.declared.element.Element.TheVariants.{Row}
use Rattle.ss_join.specs.States.{Sides}
use Rattle.ss_meaning.specs.Except.{is_alone}
use Rattle.ss_meaning.specs.ExceptLaws.{EndedRowsNeverMatch, NoneGivenWithoutRise}
use Rattle.ss_session.specs.ExceptStates.{CountsGiven}
use Rattle.ss_session.proofs.ExceptSteps.{left_row_counts, right_row_counts}
use Rattle.ss_session.proofs.except.Except.count_given.Goals as goal

rows_counted : EndedRowsNeverMatch → NoneGivenWithoutRise → (sides : Sides) (input : ℕ) (row : Event) (bounds : List ℕ) (n : ℕ) → input < 2
    → n ≡ cond (input == 0) (length (filter (λ r. nat_le r.end (slice_index bounds 1) && is_alone sides.right r) (row ∷ []))) 0
    → CountsGiven sides input (Row row) bounds n
rows_counted ended none sides zero row bounds n within h = left_row_counts ended sides row bounds n h
rows_counted ended none sides (suc zero) row bounds n within h = subst (CountsGiven sides 1 (Row row) bounds) (sym h) (right_row_counts none sides row bounds)
rows_counted ended none sides (suc (suc m)) row bounds n within h = absurd (omega (arith, within))

pub returns-in-Row-clause-given : goal.returns-in-Row-clause-given
returns-in-Row-clause-given c =
    let row : Event = record { start = c.in-Row.row.start; end = c.in-Row.row.end; key = c.in-Row.row.key; a = c.in-Row.row.a; b = c.in-Row.row.b; c = c.in-Row.row.c; d = c.in-Row.row.d } in
    subst (λ (x : Element). CountsGiven c.args.self.now c.args.input x c.args.bounds c.count_at_row.result) (sym c.in-Row.is)
    (rows_counted c.absent_rows_follow.ensures.ended c.absent_rows_follow.ensures.none c.args.self.now c.args.input row c.args.bounds c.count_at_row.result c.requires c.count_at_row.ensures)
