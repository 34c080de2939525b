-- The rows that an image says have times below 2^63.
use Rattle.std.proofs.Common.{◌≡◌, ℕ, zero, suc, ◌+◌, nat_lt, Bool, true, false, cond, ◌&&◌, List, [], ◌∷◌, drop, take, Option, Some, None, Result, Ok, Err, refl, subst, arith}
use Rattle.std.proofs.lemmas.Bool.{and_parts, ltb-true}
use Rattle.std.proofs.lemmas.List.Elements.{All-from_recursion}
use Rattle.std.specs.Prelude.{slice_index}
use Rattle.std.specs.List.{AllByRecursion, All}
use Rattle.std.specs.Option.{option_and_then, option_map_or}
use Rattle.ss_elem.specs.Validity.{top}
use Rattle.ss_elem.specs.declared.element.Event.{Event}
use Rattle.ss_image.specs.Numbers.{key_in}
use Rattle.ss_image.specs.declared.row_form.RowForm.{RowForm}
use Rattle.ss_image.specs.Images.{row_len}
use Rattle.ss_join.specs.ImageLaws.{HasEarlyTimes, ImagesHaveEarlyRows}
use Rattle.ss_join.specs.ImageTests.{row_in, row_read, rows_read, with_first, is_open_span, both_sides, left_count, right_count, right_place, form_in, sides_read}
use Rattle.ss_join.specs.States.{Sides}

early_row : (form : RowForm) (bound : ℕ) (bytes : List ℕ) (row : Event) → row_read form bound bytes ≡ Some row → HasEarlyTimes row
unfolding row_read
early_row form bound bytes row h = by_key (key_in (take 16 (drop 16 bytes))) h
  where
    same_row : (x y : Event) → Some x ≡ Some y → x ≡ y
    same_row x y e = cc

    by_test : (b : Bool) (x : Event) → is_open_span bound x.start x.end ≡ b → cond b (Some x) None ≡ Some row → HasEarlyTimes row
    by_test true x e f =
        let parts = and_parts (nat_lt x.start x.end && nat_lt x.end top) (nat_lt bound x.end) e in
        let both = and_parts (nat_lt x.start x.end) (nat_lt x.end top) parts.0 in
        let less = ltb-true x.start x.end both.0 in
        let most = ltb-true x.end top both.1 in
        subst HasEarlyTimes (same_row x row f) (record { start = omega (arith, less, most); end = omega (arith, most) })
    by_test false x e f = absurd (let no : ⊥ = cc in no)

    by_key : (o : Option ℕ) → option_and_then (λ key. let x = row_in form key bytes in cond (is_open_span bound x.start x.end) (Some x) None) o ≡ Some row → HasEarlyTimes row
    by_key None e = absurd (let no : ⊥ = cc in no)
    by_key (Some key) e = by_test (is_open_span bound (row_in form key bytes).start (row_in form key bytes).end) (row_in form key bytes) refl e

early_rows : (form : RowForm) (bound count at : ℕ) (bytes : List ℕ) (rows : List Event) → rows_read form bound count at bytes ≡ Ok rows → AllByRecursion HasEarlyTimes rows
unfolding rows_read
early_rows form bound zero at bytes rows h = subst (AllByRecursion HasEarlyTimes) (none [] rows h) tt
  where
    none : (xs ys : List Event) → ◌≡◌ {A = Result (List Event) ℕ} (Ok xs) (Ok ys) → xs ≡ ys
    none xs ys e = cc
early_rows form bound (suc count) at bytes rows h =
    by_row (λ rest f. early_rows form bound count (at + row_len form) (drop (row_len form) bytes) rest f) (row_read form bound bytes) refl h
  where
    more : Result (List Event) ℕ
    more = rows_read form bound count (at + row_len form) (drop (row_len form) bytes)

    same : (xs ys : List Event) → ◌≡◌ {A = Result (List Event) ℕ} (Ok xs) (Ok ys) → xs ≡ ys
    same xs ys e = cc

    by_rest : ((rest : List Event) → more ≡ Ok rest → AllByRecursion HasEarlyTimes rest) → (row : Event) → HasEarlyTimes row → (r : Result (List Event) ℕ) → more ≡ r → with_first row r ≡ Ok rows → AllByRecursion HasEarlyTimes rows
    by_rest ih row early (Ok rest) f e = subst (AllByRecursion HasEarlyTimes) (same (row ∷ rest) rows e) (early, ih rest f)
    by_rest ih row early (Err place) f e = absurd (let no : ⊥ = cc in no)

    by_row : ((rest : List Event) → more ≡ Ok rest → AllByRecursion HasEarlyTimes rest) → (o : Option Event) → row_read form bound bytes ≡ o → option_map_or (λ row. with_first row more) o (Err at) ≡ Ok rows → AllByRecursion HasEarlyTimes rows
    by_row ih None f e = absurd (let no : ⊥ = cc in no)
    by_row ih (Some row) f e = by_rest ih row (early_row form bound bytes row f) more refl e

pub images_have_early_rows : ImagesHaveEarlyRows
images_have_early_rows bounds bytes sides h = by_form (form_in bytes) h
  where
    same : (x y : Sides) → ◌≡◌ {A = Result Sides ℕ} (Ok x) (Ok y) → x ≡ y
    same x y e = cc

    by_both : (l r : Result (List Event) ℕ) → ((rows : List Event) → l ≡ Ok rows → AllByRecursion HasEarlyTimes rows) → both_sides l r ≡ Ok sides → All HasEarlyTimes sides.left
    by_both (Ok left) (Ok right) f e =
        let made : Sides = record { left = left; right = right } in
        subst (λ (s : Sides). All HasEarlyTimes s.left) (same made sides e) (All-from_recursion HasEarlyTimes left (f left refl))
    by_both (Ok left) (Err at) f e = absurd (let no : ⊥ = cc in no)
    by_both (Err at) r f e = absurd (let no : ⊥ = cc in no)

    by_form : (o : Option RowForm) → option_map_or (sides_read bounds bytes) o (Err 0) ≡ Ok sides → All HasEarlyTimes sides.left
    by_form None e = absurd (let no : ⊥ = cc in no)
    by_form (Some form) e =
        by_both (rows_read form (slice_index bounds 1) (left_count bytes) 8 (drop 8 bytes))
        (rows_read form (slice_index bounds 0) (right_count bytes) (right_place form bytes) (drop (right_place form bytes) bytes))
        (early_rows form (slice_index bounds 1) (left_count bytes) 8 (drop 8 bytes)) e
