-- Bytes that are read as an image are the image of what is read.
use Rattle.std.proofs.Common.{◌≡◌, ℕ, zero, suc, ◌+◌, ◌*◌, ◌^◌, ◌<◌, ◌≤◌, ◌==◌, Bool, true, false, cond, not, ◌&&◌, List, [], ◌∷◌, ◌++◌, length, take, drop, Option, Some, None, Result, Ok, Err, ℤ, pos, refl, sym, ap, subst, ◌∙◌, arith, append_assoc, eqb-true}
use Rattle.std.specs.Prelude.{slice_index, nat_abs}
use Rattle.std.specs.Int.{w64, cast_unsigned}
use Rattle.std.specs.List.{flat_map, list_all}
use Rattle.std.specs.Option.{option_map_or}
use Rattle.std.proofs.Math.Facts.{sfits_to_z}
use Rattle.std.proofs.lemmas.Bool.{and_parts, and_from}
use Rattle.std.proofs.lemmas.Int.{of_z-to_z}
use Rattle.std.proofs.lemmas.List.{append-nil, get_or-drop, length-drop, nil_from_length, take-append-drop, drop-drop}
use Rattle.std.proofs.lemmas.List.Folds.{list_all-append}
use Rattle.std.proofs.lemmas.Option.{option_and_then_some, cond_some}
use Rattle.ss_elem.specs.Rows.{has_two_values}
use Rattle.ss_elem.specs.declared.element.Event.{Event}
use Rattle.ss_image.specs.declared.row_form.RowForm.{RowForm}
use Rattle.ss_image.specs.declared.row_form.RowForm.TheVariants.{Narrow, Wide}
use Rattle.ss_image.specs.Numbers.{AreBytes, number_bytes, number_at, key_bytes, key_in}
use Rattle.ss_image.specs.NumberLaws.{NumbersHaveOneSpelling}
use Rattle.ss_image.specs.Images.{narrow_bytes, wide_bytes, row_bytes, row_len, form_of, image_in, join_image}
use Rattle.ss_join.specs.ImageTests.{row_in, row_read, rows_read, with_first, both_sides, is_open_span, value_at, wide_value}
use Rattle.ss_join.specs.ImageTests.{has_whole_rows, say_two_values, form_in, sides_read, image_read, left_count, right_count, row_count, right_place}
use Rattle.ss_join.specs.States.{Sides}
use Rattle.ss_join.proofs.Spellings.{unsigned_zero}

bytes-drop : (n : ℕ) (bytes : List ℕ) → AreBytes bytes → AreBytes (drop n bytes)
bytes-drop n bytes h i = rw get_or-drop (h (n + i))

same_ok : (rows more : List Event) → ◌≡◌ {A = Result (List Event) ℕ} (Ok rows) (Ok more) → rows ≡ more
same_ok rows more h = cc

err_ok : (at : ℕ) (rows : List Event) → ◌≡◌ {A = Result (List Event) ℕ} (Err at) (Ok rows) → ⊥
err_ok at rows h = cc

same_sides : (x y : Sides) → ◌≡◌ {A = Result Sides ℕ} (Ok x) (Ok y) → x ≡ y
same_sides x y h = cc

no_sides : (at : ℕ) (x : Sides) → ◌≡◌ {A = Result Sides ℕ} (Err at) (Ok x) → ⊥
no_sides at x h = cc

-- ---- a row

value_front : NumbersHaveOneSpelling → (place : ℕ) (bytes : List ℕ) → AreBytes bytes → place + 8 ≤ length bytes
    → drop place bytes ≡ number_bytes 8 (cast_unsigned w64 (value_at place bytes)) ++ drop (place + 8) bytes
value_front laws place bytes fits le =
    let below : number_at 8 place bytes < 256 ^ 8 = laws.below 8 place bytes fits in
    laws.number 8 place bytes fits le
    ∙ ap (λ (n : ℕ). number_bytes 8 n ++ drop (place + 8) bytes) (sym (of_z-to_z w64 (number_at 8 place bytes) below))

narrow_front : NumbersHaveOneSpelling → (form : RowForm) (key : ℕ) (bytes : List ℕ) → AreBytes bytes → 48 ≤ length bytes → key_in (take 16 (drop 16 bytes)) ≡ Some key
    → bytes ≡ narrow_bytes (row_in form key bytes) ++ drop 48 bytes
unfolding narrow_bytes
narrow_front laws form key bytes fits le of_key =
    let s = number_bytes 8 (number_at 8 0 bytes) in
    let e = number_bytes 8 (number_at 8 8 bytes) in
    let k = key_bytes key in
    let a = number_bytes 8 (cast_unsigned w64 (value_at 32 bytes)) in
    let b = number_bytes 8 (cast_unsigned w64 (value_at 40 bytes)) in
    let d0 : bytes ≡ s ++ drop 8 bytes = laws.number 8 0 bytes fits (omega (arith, le)) in
    let d8 : drop 8 bytes ≡ e ++ drop 16 bytes = laws.number 8 8 bytes fits (omega (arith, le)) in
    let d16 : drop 16 bytes ≡ k ++ drop 32 bytes =
    sym (take-append-drop 16 (drop 16 bytes))
    ∙ (ap (λ (xs : List ℕ). xs ++ drop 16 (drop 16 bytes)) (sym (laws.key (take 16 (drop 16 bytes)) key of_key))
    ∙ ap (λ (xs : List ℕ). k ++ xs) (drop-drop 16 16 bytes)) in
    let d32 : drop 32 bytes ≡ a ++ drop 40 bytes = value_front laws 32 bytes fits (omega (arith, le)) in
    let d40 : drop 40 bytes ≡ b ++ drop 48 bytes = value_front laws 40 bytes fits (omega (arith, le)) in
    d0
    ∙ (ap (λ (xs : List ℕ). s ++ xs)
    (d8 ∙ ap (λ (xs : List ℕ). e ++ xs) (d16 ∙ ap (λ (xs : List ℕ). k ++ xs) (d32 ∙ ap (λ (xs : List ℕ). a ++ xs) d40)))
    ∙ regrouped s e k a b (drop 48 bytes))
  where
    regrouped : (s e k a b rest : List ℕ) → s ++ (e ++ (k ++ (a ++ (b ++ rest)))) ≡ (s ++ e ++ k ++ a ++ b) ++ rest
    regrouped s e k a b rest = simp append_assoc

wide_front : NumbersHaveOneSpelling → (key : ℕ) (bytes : List ℕ) → AreBytes bytes → 64 ≤ length bytes → key_in (take 16 (drop 16 bytes)) ≡ Some key
    → bytes ≡ wide_bytes (row_in Wide key bytes) ++ drop 64 bytes
unfolding wide_bytes
wide_front laws key bytes fits le of_key =
    let n = narrow_bytes (row_in Wide key bytes) in
    let c = number_bytes 8 (cast_unsigned w64 (value_at 48 bytes)) in
    let d = number_bytes 8 (cast_unsigned w64 (value_at 56 bytes)) in
    let d48 : drop 48 bytes ≡ c ++ drop 56 bytes = value_front laws 48 bytes fits (omega (arith, le)) in
    let d56 : drop 56 bytes ≡ d ++ drop 64 bytes = value_front laws 56 bytes fits (omega (arith, le)) in
    narrow_front laws Wide key bytes fits (omega (arith, le)) of_key
    ∙ (ap (λ (xs : List ℕ). n ++ xs) (d48 ∙ ap (λ (xs : List ℕ). c ++ xs) d56) ∙ regrouped n c d (drop 64 bytes))
  where
    regrouped : (n c d rest : List ℕ) → n ++ (c ++ (d ++ rest)) ≡ (n ++ c ++ d) ++ rest
    regrouped n c d rest = simp append_assoc

row_front : NumbersHaveOneSpelling → (form : RowForm) (key : ℕ) (bytes : List ℕ) → AreBytes bytes → row_len form ≤ length bytes → key_in (take 16 (drop 16 bytes)) ≡ Some key
    → bytes ≡ row_bytes form (row_in form key bytes) ++ drop (row_len form) bytes
row_front laws Narrow key bytes fits le of_key = narrow_front laws Narrow key bytes fits le of_key
row_front laws Wide key bytes fits le of_key = wide_front laws key bytes fits le of_key

-- what is known of a row that was read: its bytes, and where its last two values stand
record IsRead (form : RowForm) (bytes : List ℕ) (row : Event) : Type 0 where
  front : bytes ≡ row_bytes form row ++ drop (row_len form) bytes
  c : wide_value form 48 bytes ≡ row.c
  d : wide_value form 56 bytes ≡ row.d

row_is_read : NumbersHaveOneSpelling → (form : RowForm) (bound : ℕ) (bytes : List ℕ) (row : Event) → AreBytes bytes → row_len form ≤ length bytes
    → row_read form bound bytes ≡ Some row → IsRead form bytes row
unfolding row_read
row_is_read laws form bound bytes row fits le h =
    option_and_then_some
    (λ key. cond (is_open_span bound (row_in form key bytes).start (row_in form key bytes).end) (Some (row_in form key bytes)) None)
    (key_in (take 16 (drop 16 bytes))) row h
    (λ key of_key found.
    let x = row_in form key bytes in
    let same = (cond_some (is_open_span bound x.start x.end) x row found).1 in
    record {
      front = subst (λ (y : Event). bytes ≡ row_bytes form y ++ drop (row_len form) bytes) same (row_front laws form key bytes fits le of_key);
      c = ap (λ (y : Event). y.c) same;
      d = ap (λ (y : Event). y.d) same;
    })

-- what is known of a row whose form has no more values, and of one whose form has
no_more : (form : RowForm) (place : ℕ) (bytes : List ℕ) → form ≡ Narrow → wide_value form place bytes ≡ pos 0
no_more Narrow place bytes e = refl
no_more Wide place bytes e = absurd (apart e)
  where
    apart : Wide ≡ Narrow → ⊥
    apart e = cc

has_more : (form : RowForm) (place : ℕ) (bytes : List ℕ) → form ≡ Wide → wide_value form place bytes ≡ value_at place bytes
has_more Narrow place bytes e = absurd (apart e)
  where
    apart : Narrow ≡ Wide → ⊥
    apart e = cc
has_more Wide place bytes e = refl

is_zero : (x z : ℤ) → x ≡ pos 0 → x ≡ z → (nat_abs z == 0) ≡ true
is_zero x z e same = ap (λ (y : ℤ). nat_abs y == 0) (sym same ∙ e)

says_zero : NumbersHaveOneSpelling → (place : ℕ) (bytes : List ℕ) (z : ℤ) → AreBytes bytes → value_at place bytes ≡ z → (number_at 8 place bytes == 0) ≡ (nat_abs z == 0)
says_zero laws place bytes z fits same =
    let below : number_at 8 place bytes < 256 ^ 8 = laws.below 8 place bytes fits in
    ap (λ (n : ℕ). n == 0) (sym (of_z-to_z w64 (number_at 8 place bytes) below))
    ∙ (unsigned_zero (value_at place bytes) (sfits_to_z {w = w64} (record { fits = below })) ∙ ap (λ (y : ℤ). nat_abs y == 0) same)

two_narrow : (form : RowForm) (bytes : List ℕ) (row : Event) → IsRead form bytes row → form ≡ Narrow → has_two_values row ≡ true
two_narrow form bytes row h e =
    and_from (nat_abs row.c == 0) (nat_abs row.d == 0) (is_zero (wide_value form 48 bytes) row.c (no_more form 48 bytes e) h.c)
    (is_zero (wide_value form 56 bytes) row.d (no_more form 56 bytes e) h.d)

two_wide : NumbersHaveOneSpelling → (form : RowForm) (bytes : List ℕ) (row : Event) → AreBytes bytes → IsRead form bytes row → form ≡ Wide
    → (number_at 8 48 bytes == 0 && number_at 8 56 bytes == 0) ≡ has_two_values row
two_wide laws form bytes row fits h e =
    ap (λ b. b && number_at 8 56 bytes == 0) (says_zero laws 48 bytes row.c fits (sym (has_more form 48 bytes e) ∙ h.c))
    ∙ ap (λ b. nat_abs row.c == 0 && b) (says_zero laws 56 bytes row.d fits (sym (has_more form 56 bytes e) ∙ h.d))

-- ---- rows

-- so many rows stand in front, and what they say of their last two values is so
record AreRead (form : RowForm) (n : ℕ) (bytes : List ℕ) (rows : List Event) : Type 0 where
  front : bytes ≡ flat_map (row_bytes form) rows ++ drop (row_len form * n) bytes
  count : n ≡ length rows
  narrow : form ≡ Narrow → list_all has_two_values rows ≡ true
  wide : form ≡ Wide → say_two_values n bytes ≡ list_all has_two_values rows

times : (form : RowForm) (n : ℕ) → row_len form * suc n ≡ row_len form + row_len form * n
times Narrow n = omega arith
times Wide n = omega arith

none : (form : RowForm) → row_len form * 0 ≡ 0
none Narrow = refl
none Wide = refl

nothing_read : (form : RowForm) (bytes : List ℕ) → AreRead form 0 bytes []
unfolding say_two_values
nothing_read form bytes = record { front = ap (λ (n : ℕ). drop n bytes) (sym (none form)); count = refl; narrow = λ e. refl; wide = λ e. refl }

one_more : NumbersHaveOneSpelling → (form : RowForm) (n : ℕ) (bytes : List ℕ) (row : Event) (rows : List Event) → AreBytes bytes → IsRead form bytes row
    → AreRead form n (drop (row_len form) bytes) rows → AreRead form (suc n) bytes (row ∷ rows)
unfolding say_two_values
one_more laws form n bytes row rows fits first rest =
    let len = row_len form in
    let f = row_bytes form row in
    let fs = flat_map (row_bytes form) rows in
    let behind : drop (len * n) (drop len bytes) ≡ drop (len * suc n) bytes = drop-drop (len * n) len bytes ∙ ap (λ (m : ℕ). drop m bytes) (sym (times form n)) in
    record {
      front =
          first.front ∙ (ap (λ (xs : List ℕ). f ++ xs) rest.front
          ∙ (sym (append_assoc f fs (drop (len * n) (drop len bytes))) ∙ ap (λ (xs : List ℕ). (f ++ fs) ++ xs) behind));
      count = ap suc rest.count;
      narrow = λ e. and_from (has_two_values row) (list_all has_two_values rows) (two_narrow form bytes row first e) (rest.narrow e);
      wide = λ e.
          let sixty : drop 64 bytes ≡ drop len bytes = ap (λ (m : RowForm). drop (row_len m) bytes) (sym e) in
          ap (λ b. b && say_two_values n (drop 64 bytes)) (two_wide laws form bytes row fits first e)
          ∙ ap (λ b. has_two_values row && b) (ap (say_two_values n) sixty ∙ rest.wide e);
    }

fewer : (form : RowForm) (n : ℕ) (bytes : List ℕ) → row_len form * suc n ≤ length bytes
    → (row_len form ≤ length bytes) × (row_len form * n ≤ length (drop (row_len form) bytes))
fewer Narrow n bytes le = (omega (arith, le), omega (arith, le, length-drop 48 bytes))
fewer Wide n bytes le = (omega (arith, le), omega (arith, le, length-drop 64 bytes))

rows_are_read : NumbersHaveOneSpelling → (form : RowForm) (bound n at : ℕ) (bytes : List ℕ) (rows : List Event) → AreBytes bytes
    → row_len form * n ≤ length bytes → rows_read form bound n at bytes ≡ Ok rows → AreRead form n bytes rows
unfolding rows_read
rows_are_read laws form bound zero at bytes rows fits le h = subst (AreRead form 0 bytes) (same_ok [] rows h) (nothing_read form bytes)
rows_are_read laws form bound (suc n) at bytes rows fits le h =
    let len = row_len form in
    by_row (row_read form bound bytes) refl h
    (λ more. rows_are_read laws form bound n (at + len) (drop len bytes) more (bytes-drop len bytes fits) (fewer form n bytes le).1)
  where
    by_rest : (row : Event) (r : Result (List Event) ℕ) → IsRead form bytes row → with_first row r ≡ Ok rows
        → ((more : List Event) → r ≡ Ok more → AreRead form n (drop (row_len form) bytes) more) → AreRead form (suc n) bytes rows
    by_rest row (Ok more) first g rest =
        subst (AreRead form (suc n) bytes) (same_ok (row ∷ more) rows g) (one_more laws form n bytes row more fits first (rest more refl))
    by_rest row (Err place) first g rest = absurd (err_ok place rows g)

    by_row : (o : Option Event) → row_read form bound bytes ≡ o
        → option_map_or (λ x. with_first x (rows_read form bound n (at + row_len form) (drop (row_len form) bytes))) o (Err at) ≡ Ok rows
        → ((more : List Event) → rows_read form bound n (at + row_len form) (drop (row_len form) bytes) ≡ Ok more → AreRead form n (drop (row_len form) bytes) more)
        → AreRead form (suc n) bytes rows
    by_row None f g rest = absurd (err_ok at rows g)
    by_row (Some row) f g rest =
        by_rest row (rows_read form bound n (at + row_len form) (drop (row_len form) bytes))
        (row_is_read laws form bound bytes row fits (fewer form n bytes le).0 f) g rest

-- ---- the image

say-append : (n m : ℕ) (bytes : List ℕ) → say_two_values (n + m) bytes ≡ (say_two_values n bytes && say_two_values m (drop (64 * n) bytes))
unfolding say_two_values
say-append zero m bytes = ap (λ (k : ℕ). say_two_values k bytes) (omega arith)
say-append (suc n) m bytes =
    let one = number_at 8 48 bytes == 0 && number_at 8 56 bytes == 0 in
    let rest = say_two_values n (drop 64 bytes) in
    let place : drop (64 * n) (drop 64 bytes) ≡ drop (64 * suc n) bytes = drop-drop (64 * n) 64 bytes ∙ ap (λ (k : ℕ). drop k bytes) (omega arith) in
    let count : suc n + m ≡ suc (n + m) = omega arith in
    ap (λ (k : ℕ). say_two_values k bytes) count
    ∙ ap (λ b. one && b) (say-append n m (drop 64 bytes))
    ∙ (ap (λ (xs : List ℕ). one && (rest && say_two_values m xs)) place ∙ grouped one rest (say_two_values m (drop (64 * suc n) bytes)))
  where
    grouped : (x y z : Bool) → (x && (y && z)) ≡ ((x && y) && z)
    grouped true y z = refl
    grouped false y z = refl

-- what the length and the values tell of the form
record IsForm (form : RowForm) (bytes : List ℕ) : Type 0 where
  long : length bytes ≡ 8 + row_len form * row_count bytes
  needed : form ≡ Wide → say_two_values (row_count bytes) (drop 8 bytes) ≡ false

form_is : (form : RowForm) (bytes : List ℕ) → form_in bytes ≡ Some form → IsForm form bytes
form_is form bytes h = by_narrow (has_whole_rows Narrow bytes) refl h
  where
    same_form : (x y : RowForm) → ◌≡◌ {A = Option RowForm} (Some x) (Some y) → x ≡ y
    same_form x y e = cc

    no_form : (y : RowForm) → ◌≡◌ {A = Option RowForm} None (Some y) → ⊥
    no_form y e = cc

    not_wide : Narrow ≡ Wide → ⊥
    not_wide e = cc

    is_narrow : has_whole_rows Narrow bytes ≡ true → IsForm Narrow bytes
    is_narrow t = record { long = eqb-true (length bytes) (8 + 48 * row_count bytes) t; needed = λ e. absurd (not_wide e) }

    flipped : (b : Bool) → not b ≡ true → b ≡ false
    flipped true e = cc
    flipped false e = refl

    is_wide : (has_whole_rows Wide bytes && not (say_two_values (row_count bytes) (drop 8 bytes))) ≡ true → IsForm Wide bytes
    is_wide t =
        let parts = and_parts (has_whole_rows Wide bytes) (not (say_two_values (row_count bytes) (drop 8 bytes))) t in
        record {
          long = eqb-true (length bytes) (8 + 64 * row_count bytes) parts.0;
          needed = λ e. flipped (say_two_values (row_count bytes) (drop 8 bytes)) parts.1;
        }

    by_wide : (b : Bool) → (has_whole_rows Wide bytes && not (say_two_values (row_count bytes) (drop 8 bytes))) ≡ b
        → cond b (Some Wide) None ≡ Some form → IsForm form bytes
    by_wide true t g = subst (λ (f : RowForm). IsForm f bytes) (same_form Wide form g) (is_wide t)
    by_wide false t g = absurd (no_form form g)

    by_narrow : (b : Bool) → has_whole_rows Narrow bytes ≡ b
        → cond b (Some Narrow) (cond (has_whole_rows Wide bytes && not (say_two_values (row_count bytes) (drop 8 bytes))) (Some Wide) None) ≡ Some form
        → IsForm form bytes
    by_narrow true t g = subst (λ (f : RowForm). IsForm f bytes) (same_form Narrow form g) (is_narrow t)
    by_narrow false t g = by_wide (has_whole_rows Wide bytes && not (say_two_values (row_count bytes) (drop 8 bytes))) refl g

-- both sides, each with what was read of it
record SidesRead (form : RowForm) (bytes : List ℕ) (sides : Sides) : Type 0 where
  left : AreRead form (left_count bytes) (drop 8 bytes) sides.left
  right : AreRead form (right_count bytes) (drop (right_place form bytes) bytes) sides.right

room : (form : RowForm) (bytes : List ℕ) → IsForm form bytes
    → (row_len form * left_count bytes ≤ length (drop 8 bytes)) × (row_len form * right_count bytes ≡ length (drop (right_place form bytes) bytes))
room Narrow bytes is = (omega (arith, is.long, length-drop 8 bytes), omega (arith, is.long, length-drop (right_place Narrow bytes) bytes))
room Wide bytes is = (omega (arith, is.long, length-drop 8 bytes), omega (arith, is.long, length-drop (right_place Wide bytes) bytes))

sides_are_read : NumbersHaveOneSpelling → (form : RowForm) (bounds bytes : List ℕ) (sides : Sides) → AreBytes bytes → IsForm form bytes
    → sides_read bounds bytes form ≡ Ok sides → SidesRead form bytes sides
sides_are_read laws form bounds bytes sides fits is h =
    by_both (rows_read form (slice_index bounds 1) (left_count bytes) 8 (drop 8 bytes))
    (rows_read form (slice_index bounds 0) (right_count bytes) (right_place form bytes) (drop (right_place form bytes) bytes)) refl refl h
  where
    by_both : (l r : Result (List Event) ℕ) → rows_read form (slice_index bounds 1) (left_count bytes) 8 (drop 8 bytes) ≡ l
        → rows_read form (slice_index bounds 0) (right_count bytes) (right_place form bytes) (drop (right_place form bytes) bytes) ≡ r
        → both_sides l r ≡ Ok sides → SidesRead form bytes sides
    by_both (Ok left) (Ok right) f g e =
        let made : Sides = record { left = left; right = right } in
        subst (SidesRead form bytes) (same_sides made sides e) (record {
          left = rows_are_read laws form (slice_index bounds 1) (left_count bytes) 8 (drop 8 bytes) left (bytes-drop 8 bytes fits) (room form bytes is).0 f;
          right =
              rows_are_read laws form (slice_index bounds 0) (right_count bytes) (right_place form bytes) (drop (right_place form bytes) bytes) right
              (bytes-drop (right_place form bytes) bytes fits) (omega (arith, (room form bytes is).1)) g;
        })
    by_both (Ok left) (Err at) f g e = absurd (no_sides at sides e)
    by_both (Err at) r f g e = absurd (no_sides at sides e)

of_form : (form : RowForm) (bytes : List ℕ) (sides : Sides) → IsForm form bytes → SidesRead form bytes sides → form ≡ form_of (sides.left ++ sides.right)
of_form Narrow bytes sides is read =
    let all : list_all has_two_values (sides.left ++ sides.right) ≡ true =
    list_all-append has_two_values sides.left sides.right
    ∙ and_from (list_all has_two_values sides.left) (list_all has_two_values sides.right) (read.left.narrow refl) (read.right.narrow refl) in
    ap (λ b. cond b Narrow Wide) (sym all)
of_form Wide bytes sides is read =
    let place : drop (64 * left_count bytes) (drop 8 bytes) ≡ drop (right_place Wide bytes) bytes = drop-drop (64 * left_count bytes) 8 bytes in
    let all : list_all has_two_values (sides.left ++ sides.right) ≡ false =
    list_all-append has_two_values sides.left sides.right
    ∙ (ap (λ b. b && list_all has_two_values sides.right) (sym (read.left.wide refl))
    ∙ (ap (λ b. say_two_values (left_count bytes) (drop 8 bytes) && b) (sym (read.right.wide refl))
    ∙ (ap (λ (xs : List ℕ). say_two_values (left_count bytes) (drop 8 bytes) && say_two_values (right_count bytes) xs) (sym place)
    ∙ (sym (say-append (left_count bytes) (right_count bytes) (drop 8 bytes)) ∙ is.needed refl)))) in
    ap (λ b. cond b Narrow Wide) (sym all)

in_its_form : NumbersHaveOneSpelling → (form : RowForm) (bytes : List ℕ) (sides : Sides) → AreBytes bytes → IsForm form bytes → SidesRead form bytes sides
    → bytes ≡ image_in form sides.left sides.right
in_its_form laws form bytes sides fits is read =
    let one = number_bytes 4 (left_count bytes) in
    let two = number_bytes 4 (right_count bytes) in
    let lefts = flat_map (row_bytes form) sides.left in
    let rights = flat_map (row_bytes form) sides.right in
    let last : ℕ = row_len form * right_count bytes in
    let long = is.long in
    let d0 : bytes ≡ one ++ drop 4 bytes = laws.number 4 0 bytes fits (omega (arith, long)) in
    let d4 : drop 4 bytes ≡ two ++ drop 8 bytes = laws.number 4 4 bytes fits (omega (arith, long)) in
    let place : drop (row_len form * left_count bytes) (drop 8 bytes) ≡ drop (right_place form bytes) bytes = drop-drop (row_len form * left_count bytes) 8 bytes in
    let nothing : drop last (drop (right_place form bytes) bytes) ≡ [] =
    nil_from_length (drop last (drop (right_place form bytes) bytes)) (omega (arith, length-drop last (drop (right_place form bytes) bytes), (room form bytes is).1)) in
    let d_right : drop (right_place form bytes) bytes ≡ rights =
    read.right.front ∙ (ap (λ (xs : List ℕ). rights ++ xs) nothing ∙ append-nil rights) in
    let d8 : drop 8 bytes ≡ lefts ++ rights = read.left.front ∙ ap (λ (xs : List ℕ). lefts ++ xs) (place ∙ d_right) in
    d0
    ∙ (ap (λ (xs : List ℕ). one ++ xs) (d4 ∙ ap (λ (xs : List ℕ). two ++ xs) d8)
    ∙ (regrouped one two lefts rights
    ∙ (ap (λ (n : ℕ). number_bytes 4 n ++ two ++ lefts ++ rights) read.left.count
    ∙ ap (λ (n : ℕ). number_bytes 4 (length sides.left) ++ number_bytes 4 n ++ lefts ++ rights) read.right.count)))
  where
    regrouped : (a b c d : List ℕ) → a ++ (b ++ (c ++ d)) ≡ a ++ b ++ c ++ d
    regrouped a b c d = simp append_assoc

pub image_read-spelled : NumbersHaveOneSpelling → (bounds bytes : List ℕ) (sides : Sides) → AreBytes bytes → image_read bounds bytes ≡ Ok sides
    → bytes ≡ join_image sides.left sides.right
unfolding join_image
image_read-spelled laws bounds bytes sides fits h = by_form (form_in bytes) refl h
  where
    by_form : (o : Option RowForm) → form_in bytes ≡ o → option_map_or (sides_read bounds bytes) o (Err 0) ≡ Ok sides
        → bytes ≡ image_in (form_of (sides.left ++ sides.right)) sides.left sides.right
    by_form None f g = absurd (no_sides 0 sides g)
    by_form (Some form) f g =
        let is = form_is form bytes f in
        let read = sides_are_read laws form bounds bytes sides fits is g in
        in_its_form laws form bytes sides fits is read
        ∙ ap (λ (form : RowForm). image_in form sides.left sides.right) (of_form form bytes sides is read)
