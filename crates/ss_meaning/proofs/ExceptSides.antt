-- The left rows that a join by absence remembers, as rows arrive on either side.
use Rattle.std.proofs.Common.{◌≡◌, ℕ, ◌≤◌, Bool, true, false, cond, ◌&&◌, ◌||◌, not, nat_lt, List, [], ◌∷◌, ◌++◌, refl, sym, ap, ◌∙◌, arith, ltb-false}
use Rattle.std.specs.List.{list_any}
use Rattle.std.proofs.lemmas.List.Elements.{filter-append}
use Rattle.std.proofs.lemmas.List.Folds.{list_any-append}
use Rattle.ss_elem.specs.declared.element.Event.{Event}
use Rattle.ss_meaning.specs.Join.{matches}
use Rattle.ss_meaning.specs.Except.{is_alone, alone}
use Rattle.ss_meaning.specs.Entries.{rows_ending_above}
use Rattle.ss_meaning.specs.ExceptLaws.{EndedRowsNeverMatch, LeftsAfterLeftRow, LeftsAfterRightRow}
use Rattle.ss_meaning.proofs.EntryEnds.{filter_alike, filter-filter}
use Rattle.ss_meaning.proofs.JoinSides.{ended_is_no_match}

any_open : (row : Event) (bound : ℕ) → bound ≤ row.start → (rights : List Event)
    → list_any (matches row) rights ≡ list_any (matches row) (rows_ending_above bound rights)
any_open row bound h [] = refl
any_open row bound h (y ∷ ys) = by_test (nat_lt bound y.end) refl (any_open row bound h ys)
  where
    by_test : (b : Bool) → nat_lt bound y.end ≡ b → list_any (matches row) ys ≡ list_any (matches row) (rows_ending_above bound ys)
        → (matches row y || list_any (matches row) ys) ≡ list_any (matches row) (cond b (y ∷ rows_ending_above bound ys) (rows_ending_above bound ys))
    by_test true t rest = ap (λ b. matches row y || b) rest
    by_test false t rest =
        let ended : y.end ≤ row.start = (let most = ltb-false bound y.end t in omega (arith, most, h)) in
        ap (λ b. b || list_any (matches row) ys) (ended_is_no_match row y ended) ∙ rest

pub ended_rows_never_match : EndedRowsNeverMatch
ended_rows_never_match row rights bound h = ap not (any_open row bound h rights)

pub lefts_after_left_row : LeftsAfterLeftRow
lefts_after_left_row rights lefts row bound =
    ap (rows_ending_above bound) (filter-append (is_alone rights) lefts (row ∷ []))
    ∙ filter-append (λ (left : Event). nat_lt bound left.end) (alone rights lefts) (alone rights (row ∷ []))

-- alone among more rows: alone among the earlier ones and among the new ones, and it ends above the bound
three_tests : (a b c : Bool) → ((not (a || b)) && c) ≡ ((not a && c) && not b)
three_tests true b c = refl
three_tests false true true = refl
three_tests false true false = refl
three_tests false false true = refl
three_tests false false false = refl

pub lefts_after_right_row : LeftsAfterRightRow
lefts_after_right_row rights lefts row bound =
    let above : Event → Bool = λ (left : Event). nat_lt bound left.end in
    let one : List Event = row ∷ [] in
    filter-filter above (is_alone (rights ++ one)) lefts
    ∙ (filter_alike (λ left. is_alone (rights ++ one) left && above left) (λ left. (is_alone rights left && above left) && is_alone one left) lefts
    (λ left. ap (λ b. not b && above left) (list_any-append (matches left) rights one)
    ∙ three_tests (list_any (matches left) rights) (list_any (matches left) one) (above left))
    ∙ (sym (filter-filter (is_alone one) (λ left. is_alone rights left && above left) lefts)
    ∙ ap (alone one) (sym (filter-filter above (is_alone rights) lefts))))
