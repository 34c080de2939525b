-- Rows that end above one bound and up to another, in the order of their ends.
use Rattle.std.proofs.Common.{◌≡◌, ℕ, Bool, true, false, ◌&&◌, nat_lt, nat_le, List, [], ◌∷◌, filter, refl, sym, ap, ◌∙◌}
use Rattle.std.proofs.lemmas.Bool.{lt-leb, ltb-true}
use Rattle.ss_elem.specs.declared.element.Event.{Event}
use Rattle.ss_meaning.specs.ExceptLaws.{by_end, ReachedRowsAreGiven, NoneGivenWithoutRise, EndedRowsAreCounted}
use Rattle.ss_meaning.proofs.ByTime.{by_ends, length-by_time}
use Rattle.ss_meaning.proofs.EntryEnds.{filter-filter, filter-dropped}

pub reached_rows_are_given : ReachedRowsAreGiven
reached_rows_are_given rows before after =
    by_ends (λ (row : Event). row.end) (λ time. nat_lt before time && nat_le time after) rows
    ∙ ap by_end (sym (filter-filter (λ (row : Event). nat_le row.end after) (λ row. nat_lt before row.end) rows))

never : (bound n : ℕ) → (nat_lt bound n && nat_le n bound) ≡ false
never bound n = by_test (nat_lt bound n) refl
  where
    by_test : (b : Bool) → nat_lt bound n ≡ b → (b && nat_le n bound) ≡ false
    by_test true e = lt-leb n bound (ltb-true bound n e)
    by_test false e = refl

none_kept : (rows : List Event) (test : Event → Bool) → ((row : Event) → test row ≡ false) → filter test rows ≡ []
none_kept [] test h = refl
none_kept (row ∷ rows) test h = filter-dropped test row rows (h row) ∙ none_kept rows test h

pub none_given_without_rise : NoneGivenWithoutRise
none_given_without_rise rows bound =
    by_ends (λ (row : Event). row.end) (λ time. nat_lt bound time && nat_le time bound) rows
    ∙ ap by_end (none_kept rows (λ (row : Event). nat_lt bound row.end && nat_le row.end bound) (λ row. never bound row.end))

pub ended_rows_are_counted : EndedRowsAreCounted
ended_rows_are_counted rows bound = length-by_time (λ (row : Event). row.end) (filter (λ row. nat_le row.end bound) rows)
