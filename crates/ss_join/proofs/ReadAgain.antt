-- Rows that may stand in an image are read from it.
use Rattle.std.proofs.Common.{◌≡◌, ℕ, ◌+◌, ◌*◌, ◌^◌, ◌≤◌, ◌<◌, ◌==◌, nat_lt, Bool, true, false, cond, not, ◌&&◌, List, [], ◌∷◌, ◌++◌, length, drop, Option, Some, None, Result, Ok, Err, refl, sym, ap, ◌∙◌, arith, ltb-true, eq-eqb}
use Rattle.std.specs.Prelude.{slice_index, nat_abs}
use Rattle.std.proofs.lemmas.Bool.{and_parts, and_from, cond-true, ne_eqb}
use Rattle.std.proofs.lemmas.List.{append_assoc, append-nil, length-append, drop_at, drop-drop}
use Rattle.std.proofs.lemmas.List.Elements.{recursion_from_All}
use Rattle.std.proofs.lemmas.List.Folds.{list_all-append}
use Rattle.std.proofs.lemmas.Grind.{flat_map-append}
use Rattle.std.specs.List.{AllByRecursion, flat_map, list_all}
use Rattle.std.specs.Option.{option_and_then, option_map_or}
use Rattle.ss_elem.specs.Rows.{has_two_values}
use Rattle.ss_elem.specs.Validity.{top}
use Rattle.ss_elem.specs.declared.element.Event.{Event}
use Rattle.ss_image.specs.declared.row_form.RowForm.{RowForm}
use Rattle.ss_image.specs.declared.row_form.RowForm.TheVariants.{Narrow, Wide}
use Rattle.ss_image.specs.Numbers.{number_bytes, number_at}
use Rattle.ss_image.specs.NumberLaws.{NumbersAreReadAgain}
use Rattle.ss_image.specs.Images.{row_bytes, row_len, image_in, join_image}
use Rattle.ss_join.specs.ImageTests.{row_in, row_read, rows_read, with_first, both_sides, is_open_span}
use Rattle.ss_join.specs.ImageTests.{has_whole_rows, say_two_values, form_in, sides_read, image_read, left_count, right_count, row_count, right_place}
use Rattle.ss_join.specs.ImageLaws.{MayStand, SidesAreReadAgain, NarrowImagesAreRead}
use Rattle.ss_join.specs.States.{Sides}
use Rattle.ss_join.proofs.Spellings.{Fits, row_bytes-parts, row_in-bytes, length-row_bytes, wide_says, unsigned_zero, no_both}

-- a row that may stand in an image of a form
abbrev MayStandIn : RowForm → ℕ → Event → Type 0
MayStandIn form bound row = MayStand bound row × (form ≡ Narrow → has_two_values row ≡ true)

fits_form : (form : RowForm) (bound : ℕ) (row : Event) → MayStandIn form bound row → Fits form row
fits_form form bound row h =
    let tests = and_parts (nat_lt row.start row.end && nat_lt row.end top) (nat_lt bound row.end) h.0.passes in
    let span = and_parts (nat_lt row.start row.end) (nat_lt row.end top) tests.0 in
    let less = ltb-true row.start row.end span.0 in
    let below = ltb-true row.end top span.1 in
    record { start = omega (arith, less, below); end = omega (arith, below); is_kept = h.0.is_kept; says_all = h.1 }

row_read-bytes : NumbersAreReadAgain → (form : RowForm) (bound : ℕ) (row : Event) (rest : List ℕ) → MayStandIn form bound row
    → row_read form bound (row_bytes form row ++ rest) ≡ Some row
unfolding row_read
row_read-bytes laws form bound row rest h =
    let bytes = row_bytes form row ++ rest in
    let parts = row_bytes-parts laws form row rest (fits_form form bound row h) in
    let passing : Event → Option Event = λ x. cond (is_open_span bound x.start x.end) (Some x) None in
    ap (option_and_then (λ key. passing (row_in form key bytes))) parts.key
    ∙ (ap passing (row_in-bytes form row bytes rest parts) ∙ cond-true (is_open_span bound row.start row.end) (Some row) None h.0.passes)

rows_again : NumbersAreReadAgain → (form : RowForm) (bound at : ℕ) (rows : List Event) (rest : List ℕ) → AllByRecursion (MayStandIn form bound) rows
    → rows_read form bound (length rows) at (flat_map (row_bytes form) rows ++ rest) ≡ Ok rows
unfolding rows_read
rows_again laws form bound at [] rest h = refl
rows_again laws form bound at (row ∷ rows) rest h =
    let behind = flat_map (row_bytes form) rows ++ rest in
    let len = row_len form in
    let whole : flat_map (row_bytes form) (row ∷ rows) ++ rest ≡ row_bytes form row ++ behind =
    append_assoc (row_bytes form row) (flat_map (row_bytes form) rows) rest in
    let read : row_read form bound (row_bytes form row ++ behind) ≡ Some row = row_read-bytes laws form bound row behind h.0 in
    let left : drop len (row_bytes form row ++ behind) ≡ behind = (row_bytes-parts laws form row behind (fits_form form bound row h.0)).behind in
    ap (λ bytes. rows_read form bound (length (row ∷ rows)) at bytes) whole
    ∙ (ap (λ o. option_map_or (λ x. with_first x (rows_read form bound (length rows) (at + len) (drop len (row_bytes form row ++ behind)))) o (Err at)) read
    ∙ (ap (λ bytes. with_first row (rows_read form bound (length rows) (at + len) bytes)) left
    ∙ ap (with_first row) (rows_again laws form bound (at + len) rows rest h.1)))

length-rows : NumbersAreReadAgain → (form : RowForm) (rows : List Event) → length (flat_map (row_bytes form) rows) ≡ row_len form * length rows
length-rows laws form [] = omega arith
length-rows laws form (row ∷ rows) =
    let rest = length-rows laws form rows in
    omega (arith, length-append (row_bytes form row) (flat_map (row_bytes form) rows), length-row_bytes laws form row, rest)

-- ---- what bytes of an image say of its form

-- each of so many rows says its last two values where it stands
two_said : NumbersAreReadAgain → (rows : List Event) (rest : List ℕ) → AllByRecursion (Fits Wide) rows
    → say_two_values (length rows) (flat_map (row_bytes Wide) rows ++ rest) ≡ list_all has_two_values rows
unfolding say_two_values
two_said laws [] rest h = refl
two_said laws (row ∷ rows) rest h =
    let behind = flat_map (row_bytes Wide) rows ++ rest in
    let bytes = row_bytes Wide row ++ behind in
    let whole : flat_map (row_bytes Wide) (row ∷ rows) ++ rest ≡ bytes = append_assoc (row_bytes Wide row) (flat_map (row_bytes Wide) rows) rest in
    let said = wide_says laws row behind h.0 in
    let c : (number_at 8 48 bytes == 0) ≡ (nat_abs row.c == 0) = ap (λ n. n == 0) said.c ∙ unsigned_zero row.c h.0.is_kept.c in
    let d : (number_at 8 56 bytes == 0) ≡ (nat_abs row.d == 0) = ap (λ n. n == 0) said.d ∙ unsigned_zero row.d h.0.is_kept.d in
    let left : drop 64 bytes ≡ behind = (row_bytes-parts laws Wide row behind h.0).behind in
    ap (say_two_values (length (row ∷ rows))) whole
    ∙ (ap (λ b. (b && number_at 8 56 bytes == 0) && say_two_values (length rows) (drop 64 bytes)) c
    ∙ (ap (λ b. (nat_abs row.c == 0 && b) && say_two_values (length rows) (drop 64 bytes)) d
    ∙ (ap (λ xs. has_two_values row && say_two_values (length rows) xs) left ∙ ap (λ b. has_two_values row && b) (two_said laws rows rest h.1))))

regrouped : (a b c d : List ℕ) → a ++ b ++ c ++ d ≡ a ++ (b ++ (c ++ d))
regrouped a b c d = simp append_assoc

-- what the bytes of an image say, in whichever form
record Said (form : RowForm) (sides : Sides) (bytes : List ℕ) : Type 0 where
  left : left_count bytes ≡ length sides.left
  right : right_count bytes ≡ length sides.right
  len : length bytes ≡ 8 + (row_len form * length sides.left + row_len form * length sides.right)
  behind : drop 8 bytes ≡ flat_map (row_bytes form) sides.left ++ flat_map (row_bytes form) sides.right
  last : drop (8 + row_len form * length sides.left) bytes ≡ flat_map (row_bytes form) sides.right ++ []

said : NumbersAreReadAgain → (form : RowForm) (sides : Sides) → length sides.left + length sides.right < 2 ^ 32
    → Said form sides (image_in form sides.left sides.right)
said laws form sides few =
    let lefts = flat_map (row_bytes form) sides.left in
    let rights = flat_map (row_bytes form) sides.right in
    let one = number_bytes 4 (length sides.left) in
    let two = number_bytes 4 (length sides.right) in
    let bytes = one ++ two ++ lefts ++ rights in
    let whole : bytes ≡ one ++ (two ++ (lefts ++ rights)) = regrouped one two lefts rights in
    let d4 : drop 4 bytes ≡ two ++ (lefts ++ rights) =
    ap (drop 4) whole ∙ drop_at one (two ++ (lefts ++ rights)) 4 (laws.number_len 4 (length sides.left)) in
    let d8 : drop 8 bytes ≡ lefts ++ rights =
    sym (drop-drop 4 4 bytes) ∙ (ap (drop 4) d4 ∙ drop_at two (lefts ++ rights) 4 (laws.number_len 4 (length sides.right))) in
    record {
      left = laws.number 4 0 (length sides.left) bytes (two ++ (lefts ++ rights)) whole (omega (arith, few));
      right = laws.number 4 4 (length sides.right) bytes (lefts ++ rights) d4 (omega (arith, few));
      len =
          omega (
            arith,
            length-append (one ++ two ++ lefts) rights,
            length-append (one ++ two) lefts,
            length-append one two,
            laws.number_len 4 (length sides.left),
            laws.number_len 4 (length sides.right),
            length-rows laws form sides.left,
            length-rows laws form sides.right,
          );
      behind = d8;
      last =
          sym (drop-drop (row_len form * length sides.left) 8 bytes)
          ∙ (ap (drop (row_len form * length sides.left)) d8
          ∙ (drop_at lefts rights (row_len form * length sides.left) (length-rows laws form sides.left) ∙ sym (append-nil rights)));
    }

narrow_form : (sides : Sides) (bytes : List ℕ) → Said Narrow sides bytes → form_in bytes ≡ Some Narrow
narrow_form sides bytes s =
    cond-true (has_whole_rows Narrow bytes) (Some Narrow)
    (cond (has_whole_rows Wide bytes && not (say_two_values (row_count bytes) (drop 8 bytes))) (Some Wide) None)
    (eq-eqb (length bytes) (8 + 48 * row_count bytes) (omega (arith, s.len, s.left, s.right)))

some_row : (rows : List Event) → list_all has_two_values rows ≡ false → 1 ≤ length rows
some_row [] h = absurd (no_both true refl h)
some_row (row ∷ rows) h = omega arith

wide_form : NumbersAreReadAgain → (sides : Sides) (bytes : List ℕ) → Said Wide sides bytes → AllByRecursion (Fits Wide) (sides.left ++ sides.right)
    → list_all has_two_values (sides.left ++ sides.right) ≡ false → form_in bytes ≡ Some Wide
wide_form laws sides bytes s fits h =
    let rows = sides.left ++ sides.right in
    let few = some_row rows h in
    let count : row_count bytes ≡ length rows = omega (arith, s.left, s.right, length-append sides.left sides.right) in
    let long : length bytes ≡ 8 + 64 * row_count bytes = omega (arith, s.len, s.left, s.right) in
    let narrow : has_whole_rows Narrow bytes ≡ false = ne_eqb (length bytes) (8 + 48 * row_count bytes) (λ e. omega (arith, e, long, count, few)) in
    let behind : drop 8 bytes ≡ flat_map (row_bytes Wide) rows ++ [] =
    s.behind ∙ (sym (flat_map-append (row_bytes Wide) sides.left sides.right) ∙ sym (append-nil (flat_map (row_bytes Wide) rows))) in
    let two : say_two_values (row_count bytes) (drop 8 bytes) ≡ false =
    ap (λ n. say_two_values n (drop 8 bytes)) count ∙ (ap (say_two_values (length rows)) behind ∙ (two_said laws rows [] fits ∙ h)) in
    let needed : not (say_two_values (row_count bytes) (drop 8 bytes)) ≡ true = ap not two in
    ap (λ b. cond b (Some Narrow) (cond (has_whole_rows Wide bytes && not (say_two_values (row_count bytes) (drop 8 bytes))) (Some Wide) None)) narrow
    ∙ cond-true (has_whole_rows Wide bytes && not (say_two_values (row_count bytes) (drop 8 bytes))) (Some Wide) None
    (and_from (has_whole_rows Wide bytes) (not (say_two_values (row_count bytes) (drop 8 bytes)))
    (eq-eqb (length bytes) (8 + 64 * row_count bytes) long) needed)

-- ---- and so both sides are read

image_again : NumbersAreReadAgain → (form : RowForm) (bounds : List ℕ) (sides : Sides) (bytes : List ℕ) → Said form sides bytes → form_in bytes ≡ Some form
    → AllByRecursion (MayStandIn form (slice_index bounds 1)) sides.left → AllByRecursion (MayStandIn form (slice_index bounds 0)) sides.right
    → image_read bounds bytes ≡ Ok sides
image_again laws form bounds sides bytes s in_form left_stand right_stand =
    let place : right_place form bytes ≡ 8 + row_len form * length sides.left = ap (λ n. 8 + row_len form * n) s.left in
    let left_read : rows_read form (slice_index bounds 1) (left_count bytes) 8 (drop 8 bytes) ≡ Ok sides.left =
    ap (λ n. rows_read form (slice_index bounds 1) n 8 (drop 8 bytes)) s.left
    ∙ (ap (rows_read form (slice_index bounds 1) (length sides.left) 8) s.behind
    ∙ rows_again laws form (slice_index bounds 1) 8 sides.left (flat_map (row_bytes form) sides.right) left_stand) in
    let right_read : rows_read form (slice_index bounds 0) (right_count bytes) (right_place form bytes) (drop (right_place form bytes) bytes) ≡ Ok sides.right =
    ap (λ n. rows_read form (slice_index bounds 0) n (right_place form bytes) (drop (right_place form bytes) bytes)) s.right
    ∙ (ap (rows_read form (slice_index bounds 0) (length sides.right) (right_place form bytes)) (ap (λ n. drop n bytes) place ∙ s.last)
    ∙ rows_again laws form (slice_index bounds 0) (right_place form bytes) sides.right [] right_stand) in
    ap (λ o. option_map_or (sides_read bounds bytes) o (Err 0)) in_form
    ∙ (ap (λ (r : Result (List Event) ℕ). both_sides r (rows_read form (slice_index bounds 0) (right_count bytes) (right_place form bytes) (drop (right_place form bytes) bytes))) left_read
    ∙ ap (λ (r : Result (List Event) ℕ). both_sides (Ok sides.left) r) right_read)

stand_narrow : (bound : ℕ) (rows : List Event) → list_all has_two_values rows ≡ true → AllByRecursion (MayStand bound) rows → AllByRecursion (MayStandIn Narrow bound) rows
stand_narrow bound [] h k = tt
stand_narrow bound (row ∷ rows) h k =
    let two = and_parts (has_two_values row) (list_all has_two_values rows) h in
    ((k.0, λ e. two.0), stand_narrow bound rows two.1 k.1)

stand_wide : (bound : ℕ) (rows : List Event) → AllByRecursion (MayStand bound) rows → AllByRecursion (MayStandIn Wide bound) rows
stand_wide bound [] k = tt
stand_wide bound (row ∷ rows) k = ((k.0, λ e. absurd (not_narrow e)), stand_wide bound rows k.1)
  where
    not_narrow : Wide ≡ Narrow → ⊥
    not_narrow e = cc

all_fit : (form : RowForm) (bound other : ℕ) (left right : List Event) → AllByRecursion (MayStandIn form bound) left → AllByRecursion (MayStandIn form other) right
    → AllByRecursion (Fits form) (left ++ right)
all_fit form bound other [] [] h k = tt
all_fit form bound other [] (row ∷ rows) h k = (fits_form form other row k.0, all_fit form bound other [] rows h k.1)
all_fit form bound other (row ∷ rows) right h k = (fits_form form bound row h.0, all_fit form bound other rows right h.1 k)

pub narrow_images_are_read : NumbersAreReadAgain → NarrowImagesAreRead
narrow_images_are_read laws bounds sides few left_stand right_stand two =
    let both = and_parts (list_all has_two_values sides.left) (list_all has_two_values sides.right)
    (sym (list_all-append has_two_values sides.left sides.right) ∙ two) in
    let s = said laws Narrow sides few in
    image_again laws Narrow bounds sides (image_in Narrow sides.left sides.right) s (narrow_form sides (image_in Narrow sides.left sides.right) s)
    (stand_narrow (slice_index bounds 1) sides.left both.0 (recursion_from_All (MayStand (slice_index bounds 1)) sides.left left_stand))
    (stand_narrow (slice_index bounds 0) sides.right both.1 (recursion_from_All (MayStand (slice_index bounds 0)) sides.right right_stand))

pub sides_are_read_again : NumbersAreReadAgain → SidesAreReadAgain
unfolding join_image
sides_are_read_again laws bounds sides few left_stand right_stand = by_values (list_all has_two_values (sides.left ++ sides.right)) refl
  where
    by_values : (b : Bool) → list_all has_two_values (sides.left ++ sides.right) ≡ b
        → image_read bounds (image_in (cond b Narrow Wide) sides.left sides.right) ≡ Ok sides
    by_values true h = narrow_images_are_read laws bounds sides few left_stand right_stand h
    by_values false h =
        let left_wide = stand_wide (slice_index bounds 1) sides.left (recursion_from_All (MayStand (slice_index bounds 1)) sides.left left_stand) in
        let right_wide = stand_wide (slice_index bounds 0) sides.right (recursion_from_All (MayStand (slice_index bounds 0)) sides.right right_stand) in
        let s = said laws Wide sides few in
        let fit = all_fit Wide (slice_index bounds 1) (slice_index bounds 0) sides.left sides.right left_wide right_wide in
        image_again laws Wide bounds sides (image_in Wide sides.left sides.right) s
        (wide_form laws sides (image_in Wide sides.left sides.right) s fit h) left_wide right_wide
