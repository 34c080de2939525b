-- How long the bytes of numbers, keys, entries and rows are.
use Rattle.std.proofs.Common.{◌≡◌, ℕ, ◌+◌, ◌-◌, ◌*◌, ◌≤◌, List, [], ◌∷◌, ◌++◌, length, arith}
use Rattle.std.specs.Prelude.{replicate}
use Rattle.std.specs.Int.{w64, w128, to_be_bytes, cast_unsigned}
use Rattle.std.specs.List.{flat_map, prefix_len}
use Rattle.std.proofs.lemmas.List.{length-append, length-replicate, length-take}
use Rattle.byteorder.specs.Numbers.{length-bytes_high_first}
use Rattle.ss_elem.specs.Key.{is_not_zero, key_text}
use Rattle.ss_elem.specs.declared.element.Event.{Event}
use Rattle.ss_meaning.specs.Entries.{WindowEntry}
use Rattle.ss_meaning.specs.Session.{SessionEntry}
use Rattle.ss_image.specs.declared.row_form.RowForm.{RowForm}
use Rattle.ss_image.specs.declared.row_form.RowForm.TheVariants.{Narrow, Wide}
use Rattle.ss_image.specs.Images.{entry_bytes, session_bytes, narrow_bytes, wide_bytes, row_bytes, row_len, form_of, image_in, window_image, session_image, join_image}
use Rattle.ss_image.specs.Laws.{WindowImagesHaveLengths, SessionImagesHaveLengths, JoinImagesHaveLengths, JoinImagesAreShort}
use Rattle.ss_image.specs.Numbers.{number_bytes, key_bytes}

pub length-number_bytes : (len n : ℕ) → length (number_bytes len n) ≡ len
unfolding number_bytes
length-number_bytes len n = length-bytes_high_first len n

pub length-key_bytes : (key : ℕ) → length (key_bytes key) ≡ 16
unfolding key_bytes
length-key_bytes key =
    let short : length (key_text key) ≤ 16 = omega (arith, length-take (prefix_len is_not_zero (to_be_bytes w128 key)) (to_be_bytes w128 key)) in
    omega (arith, length-append (key_text key) (replicate (16 - length (key_text key)) 0), length-replicate {A = ℕ} (16 - length (key_text key)) 0)

pub length-entry_bytes : (e : WindowEntry) → length (entry_bytes e) ≡ 48
unfolding entry_bytes
length-entry_bytes e =
    let a = number_bytes 8 e.end in
    let k = key_bytes e.key in
    let v = number_bytes 16 (cast_unsigned w128 e.value) in
    let r = number_bytes 8 e.rows in
    omega (
      arith,
      length-append (a ++ k ++ v) r,
      length-append (a ++ k) v,
      length-append a k,
      length-number_bytes 8 e.end,
      length-key_bytes e.key,
      length-number_bytes 16 (cast_unsigned w128 e.value),
      length-number_bytes 8 e.rows,
    )

length-session_bytes : (s : SessionEntry) → length (session_bytes s) ≡ 56
unfolding session_bytes
length-session_bytes s =
    let k = key_bytes s.key in
    let f = number_bytes 8 s.first in
    let l = number_bytes 8 s.last in
    let v = number_bytes 16 (cast_unsigned w128 s.value) in
    let r = number_bytes 8 s.rows in
    omega (
      arith,
      length-append (k ++ f ++ l ++ v) r,
      length-append (k ++ f ++ l) v,
      length-append (k ++ f) l,
      length-append k f,
      length-key_bytes s.key,
      length-number_bytes 8 s.first,
      length-number_bytes 8 s.last,
      length-number_bytes 16 (cast_unsigned w128 s.value),
      length-number_bytes 8 s.rows,
    )

length-narrow_bytes : (row : Event) → length (narrow_bytes row) ≡ 48
unfolding narrow_bytes
length-narrow_bytes row =
    let s = number_bytes 8 row.start in
    let e = number_bytes 8 row.end in
    let k = key_bytes row.key in
    let a = number_bytes 8 (cast_unsigned w64 row.a) in
    let b = number_bytes 8 (cast_unsigned w64 row.b) in
    omega (
      arith,
      length-append (s ++ e ++ k ++ a) b,
      length-append (s ++ e ++ k) a,
      length-append (s ++ e) k,
      length-append s e,
      length-number_bytes 8 row.start,
      length-number_bytes 8 row.end,
      length-key_bytes row.key,
      length-number_bytes 8 (cast_unsigned w64 row.a),
      length-number_bytes 8 (cast_unsigned w64 row.b),
    )

length-wide_bytes : (row : Event) → length (wide_bytes row) ≡ 64
unfolding wide_bytes
length-wide_bytes row =
    let c = number_bytes 8 (cast_unsigned w64 row.c) in
    let d = number_bytes 8 (cast_unsigned w64 row.d) in
    omega (
      arith,
      length-append (narrow_bytes row ++ c) d,
      length-append (narrow_bytes row) c,
      length-narrow_bytes row,
      length-number_bytes 8 (cast_unsigned w64 row.c),
      length-number_bytes 8 (cast_unsigned w64 row.d),
    )

length-row_bytes : (form : RowForm) (row : Event) → length (row_bytes form row) ≡ row_len form
length-row_bytes Narrow row = length-narrow_bytes row
length-row_bytes Wide row = length-wide_bytes row

-- pieces of one length, one behind the other
pub length-pieces : {A : Type 0} (f : A → List ℕ) (size : ℕ) → ((x : A) → length (f x) ≡ size) → (xs : List A) → length (flat_map f xs) ≡ size * length xs
length-pieces f size h [] = omega arith
length-pieces f size h (x ∷ xs) = omega (arith, h x, length-pieces f size h xs, length-append (f x) (flat_map f xs))

pub window_lengths : WindowImagesHaveLengths
unfolding window_image
window_lengths entries =
    omega (
      arith,
      length-append (number_bytes 4 (length entries)) (flat_map entry_bytes entries),
      length-number_bytes 4 (length entries),
      length-pieces entry_bytes 48 length-entry_bytes entries,
    )

pub session_lengths : SessionImagesHaveLengths
unfolding session_image
session_lengths entries =
    omega (
      arith,
      length-append (number_bytes 4 (length entries)) (flat_map session_bytes entries),
      length-number_bytes 4 (length entries),
      length-pieces session_bytes 56 length-session_bytes entries,
    )

length-image_in : (form : RowForm) (left right : List Event) → length (image_in form left right) ≡ 8 + (row_len form * length left + row_len form * length right)
length-image_in form left right =
    let l = number_bytes 4 (length left) in
    let r = number_bytes 4 (length right) in
    let ls = flat_map (row_bytes form) left in
    let rs = flat_map (row_bytes form) right in
    omega (
      arith,
      length-append (l ++ r ++ ls) rs,
      length-append (l ++ r) ls,
      length-append l r,
      length-number_bytes 4 (length left),
      length-number_bytes 4 (length right),
      length-pieces (row_bytes form) (row_len form) (length-row_bytes form) left,
      length-pieces (row_bytes form) (row_len form) (length-row_bytes form) right,
    )

both : (form : RowForm) (left right : List Event) → length (image_in form left right) ≡ 8 + row_len form * (length left + length right)
both Narrow left right = omega (arith, length-image_in Narrow left right)
both Wide left right = omega (arith, length-image_in Wide left right)

most : (form : RowForm) (left right : List Event) → length (image_in form left right) ≤ 8 + 64 * (length left + length right)
most Narrow left right = omega (arith, length-image_in Narrow left right)
most Wide left right = omega (arith, length-image_in Wide left right)

pub join_lengths : JoinImagesHaveLengths
unfolding join_image
join_lengths left right = both (form_of (left ++ right)) left right

pub join_short : JoinImagesAreShort
unfolding join_image
join_short left right = most (form_of (left ++ right)) left right
