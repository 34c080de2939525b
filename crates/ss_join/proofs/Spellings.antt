-- What bytes say that spell a row.
use Rattle.std.proofs.Common.{◌≡◌, ℕ, ◌^◌, ◌<◌, ◌==◌, Bool, true, false, List, ◌++◌, length, take, drop, Some, refl, sym, ap, subst, ◌∙◌, arith, eqb-true, ℤ, pos, negsuc, FitsSigned}
use Rattle.std.specs.Prelude.{nat_abs}
use Rattle.std.specs.Int.{w64, cast_signed, cast_unsigned}
use Rattle.std.proofs.lemmas.Bool.{and_parts, ne_eqb}
use Rattle.std.proofs.lemmas.Int.{to_z-of_z}
use Rattle.std.proofs.lemmas.List.{append_assoc, length-append, take_at, drop_at, drop-drop}
use Rattle.std.proofs.Math.Facts.{Fits-of_z}
use Rattle.ss_elem.specs.Rows.{IsKeptRow, has_two_values}
use Rattle.ss_elem.specs.declared.element.Event.{Event}
use Rattle.ss_image.specs.declared.row_form.RowForm.{RowForm}
use Rattle.ss_image.specs.declared.row_form.RowForm.TheVariants.{Narrow, Wide}
use Rattle.ss_image.specs.Numbers.{number_bytes, number_at, key_bytes, key_in}
use Rattle.ss_image.specs.NumberLaws.{NumbersAreReadAgain}
use Rattle.ss_image.specs.Images.{narrow_bytes, wide_bytes, row_bytes, row_len}
use Rattle.ss_join.specs.ImageTests.{row_in, value_at, wide_value}

-- where the parts of a row stand in its bytes
pub record HasParts (form : RowForm) (row : Event) (bytes rest : List ℕ) : Type 0 where
  pub start : number_at 8 0 bytes ≡ row.start
  pub end : number_at 8 8 bytes ≡ row.end
  pub key : key_in (take 16 (drop 16 bytes)) ≡ Some row.key
  pub a : value_at 32 bytes ≡ row.a
  pub b : value_at 40 bytes ≡ row.b
  pub c : wide_value form 48 bytes ≡ row.c
  pub d : wide_value form 56 bytes ≡ row.d
  pub behind : drop (row_len form) bytes ≡ rest

-- a row fits a form: its times take 8 bytes, and the narrow form says all of it
pub record Fits (form : RowForm) (row : Event) : Type 0 where
  pub start : row.start < 256 ^ 8
  pub end : row.end < 256 ^ 8
  pub is_kept : IsKeptRow row
  pub says_all : form ≡ Narrow → has_two_values row ≡ true

value_there : NumbersAreReadAgain → (place : ℕ) (z : ℤ) (bytes rest : List ℕ) → drop place bytes ≡ number_bytes 8 (cast_unsigned w64 z) ++ rest → FitsSigned w64 z
    → value_at place bytes ≡ z
value_there laws place z bytes rest h fits =
    let small : cast_unsigned w64 z < 256 ^ 8 = (Fits-of_z {w = w64} {z = z} fits).fits in
    ap (cast_signed w64) (laws.number 8 place (cast_unsigned w64 z) bytes rest h small) ∙ to_z-of_z w64 z fits

-- what the first 48 bytes of a row are, whatever its form
record Front (row : Event) (bytes rest : List ℕ) : Type 0 where
  pub start : number_at 8 0 bytes ≡ row.start
  pub end : number_at 8 8 bytes ≡ row.end
  pub key : key_in (take 16 (drop 16 bytes)) ≡ Some row.key
  pub a : value_at 32 bytes ≡ row.a
  pub b : value_at 40 bytes ≡ row.b
  pub behind : drop 48 bytes ≡ rest

front : NumbersAreReadAgain → (row : Event) (rest : List ℕ) → row.start < 256 ^ 8 → row.end < 256 ^ 8 → IsKeptRow row
    → Front row (narrow_bytes row ++ rest) rest
unfolding narrow_bytes
front laws row rest starts ends kept =
    let s = number_bytes 8 row.start in
    let e = number_bytes 8 row.end in
    let k = key_bytes row.key in
    let a = number_bytes 8 (cast_unsigned w64 row.a) in
    let b = number_bytes 8 (cast_unsigned w64 row.b) in
    let bytes = (s ++ e ++ k ++ a ++ b) ++ rest in
    let whole : bytes ≡ s ++ (e ++ (k ++ (a ++ (b ++ rest)))) = regrouped s e k a b rest in
    let d8 : drop 8 bytes ≡ e ++ (k ++ (a ++ (b ++ rest))) =
    ap (drop 8) whole ∙ drop_at s (e ++ (k ++ (a ++ (b ++ rest)))) 8 (laws.number_len 8 row.start) in
    let d16 : drop 16 bytes ≡ k ++ (a ++ (b ++ rest)) =
    sym (drop-drop 8 8 bytes) ∙ (ap (drop 8) d8 ∙ drop_at e (k ++ (a ++ (b ++ rest))) 8 (laws.number_len 8 row.end)) in
    let d32 : drop 32 bytes ≡ a ++ (b ++ rest) =
    sym (drop-drop 16 16 bytes) ∙ (ap (drop 16) d16 ∙ drop_at k (a ++ (b ++ rest)) 16 (laws.key_len row.key)) in
    let d40 : drop 40 bytes ≡ b ++ rest =
    sym (drop-drop 8 32 bytes) ∙ (ap (drop 8) d32 ∙ drop_at a (b ++ rest) 8 (laws.number_len 8 (cast_unsigned w64 row.a))) in
    let d48 : drop 48 bytes ≡ rest =
    sym (drop-drop 8 40 bytes) ∙ (ap (drop 8) d40 ∙ drop_at b rest 8 (laws.number_len 8 (cast_unsigned w64 row.b))) in
    record {
      start = laws.number 8 0 row.start bytes (e ++ (k ++ (a ++ (b ++ rest)))) whole starts;
      end = laws.number 8 8 row.end bytes (k ++ (a ++ (b ++ rest))) d8 ends;
      key = ap (λ xs. key_in (take 16 xs)) d16 ∙ (ap key_in (take_at k (a ++ (b ++ rest)) 16 (laws.key_len row.key)) ∙ laws.key row.key kept.is_key);
      a = value_there laws 32 row.a bytes (b ++ rest) d32 kept.a;
      b = value_there laws 40 row.b bytes rest d40 kept.b;
      behind = d48;
    }
  where
    regrouped : (s e k a b rest : List ℕ) → (s ++ e ++ k ++ a ++ b) ++ rest ≡ s ++ (e ++ (k ++ (a ++ (b ++ rest))))
    regrouped s e k a b rest = simp append_assoc

zero_value : (z : ℤ) → (nat_abs z == 0) ≡ true → pos 0 ≡ z
zero_value (pos n) h = let e : n ≡ 0 = eqb-true n 0 h in ap (λ m. pos m) (sym e)
zero_value (negsuc n) h = absurd (omega (arith, eqb-true (nat_abs (negsuc n)) 0 h))

narrow_parts : NumbersAreReadAgain → (row : Event) (rest : List ℕ) → Fits Narrow row → HasParts Narrow row (narrow_bytes row ++ rest) rest
narrow_parts laws row rest fits =
    let two = and_parts (nat_abs row.c == 0) (nat_abs row.d == 0) (fits.says_all refl) in
    let f = front laws row rest fits.start fits.end fits.is_kept in
    record {
      start = f.start;
      end = f.end;
      key = f.key;
      a = f.a;
      b = f.b;
      c = zero_value row.c two.0;
      d = zero_value row.d two.1;
      behind = f.behind;
    }

wide_parts : NumbersAreReadAgain → (row : Event) (rest : List ℕ) → Fits Wide row → HasParts Wide row (wide_bytes row ++ rest) rest
unfolding wide_bytes
wide_parts laws row rest fits =
    let n = narrow_bytes row in
    let c = number_bytes 8 (cast_unsigned w64 row.c) in
    let d = number_bytes 8 (cast_unsigned w64 row.d) in
    let bytes = (n ++ c ++ d) ++ rest in
    let whole : bytes ≡ n ++ (c ++ (d ++ rest)) = regrouped n c d rest in
    let f : Front row bytes (c ++ (d ++ rest)) =
    subst (λ (xs : List ℕ). Front row xs (c ++ (d ++ rest))) (sym whole) (front laws row (c ++ (d ++ rest)) fits.start fits.end fits.is_kept) in
    let d56 : drop 56 bytes ≡ d ++ rest =
    sym (drop-drop 8 48 bytes) ∙ (ap (drop 8) f.behind ∙ drop_at c (d ++ rest) 8 (laws.number_len 8 (cast_unsigned w64 row.c))) in
    let d64 : drop 64 bytes ≡ rest =
    sym (drop-drop 8 56 bytes) ∙ (ap (drop 8) d56 ∙ drop_at d rest 8 (laws.number_len 8 (cast_unsigned w64 row.d))) in
    record {
      start = f.start;
      end = f.end;
      key = f.key;
      a = f.a;
      b = f.b;
      c = value_there laws 48 row.c bytes (d ++ rest) f.behind fits.is_kept.c;
      d = value_there laws 56 row.d bytes rest d56 fits.is_kept.d;
      behind = d64;
    }
  where
    regrouped : (n c d rest : List ℕ) → (n ++ c ++ d) ++ rest ≡ n ++ (c ++ (d ++ rest))
    regrouped n c d rest = simp append_assoc

length-narrow_bytes : NumbersAreReadAgain → (row : Event) → length (narrow_bytes row) ≡ 48
unfolding narrow_bytes
length-narrow_bytes laws row =
    let s = number_bytes 8 row.start in
    let e = number_bytes 8 row.end in
    let k = key_bytes row.key in
    let a = number_bytes 8 (cast_unsigned w64 row.a) in
    let b = number_bytes 8 (cast_unsigned w64 row.b) in
    omega (
      arith,
      length-append (s ++ e ++ k ++ a) b,
      length-append (s ++ e ++ k) a,
      length-append (s ++ e) k,
      length-append s e,
      laws.number_len 8 row.start,
      laws.number_len 8 row.end,
      laws.key_len row.key,
      laws.number_len 8 (cast_unsigned w64 row.a),
      laws.number_len 8 (cast_unsigned w64 row.b),
    )

-- the last two values as the bytes of a wide row say them
pub record SaysValues (row : Event) (bytes : List ℕ) : Type 0 where
  pub c : number_at 8 48 bytes ≡ cast_unsigned w64 row.c
  pub d : number_at 8 56 bytes ≡ cast_unsigned w64 row.d

below : (z : ℤ) → FitsSigned w64 z → cast_unsigned w64 z < 256 ^ 8
below z fits = (Fits-of_z {w = w64} {z = z} fits).fits

pub wide_says : NumbersAreReadAgain → (row : Event) (rest : List ℕ) → Fits Wide row → SaysValues row (wide_bytes row ++ rest)
unfolding wide_bytes
wide_says laws row rest fits =
    let n = narrow_bytes row in
    let c = number_bytes 8 (cast_unsigned w64 row.c) in
    let d = number_bytes 8 (cast_unsigned w64 row.d) in
    let bytes = (n ++ c ++ d) ++ rest in
    let d48 : drop 48 bytes ≡ c ++ (d ++ rest) =
    ap (drop 48) (regrouped n c d rest) ∙ drop_at n (c ++ (d ++ rest)) 48 (length-narrow_bytes laws row) in
    let d56 : drop 56 bytes ≡ d ++ rest =
    sym (drop-drop 8 48 bytes) ∙ (ap (drop 8) d48 ∙ drop_at c (d ++ rest) 8 (laws.number_len 8 (cast_unsigned w64 row.c))) in
    record {
      c = laws.number 8 48 (cast_unsigned w64 row.c) bytes (d ++ rest) d48 (below row.c fits.is_kept.c);
      d = laws.number 8 56 (cast_unsigned w64 row.d) bytes rest d56 (below row.d fits.is_kept.d);
    }
  where
    regrouped : (n c d rest : List ℕ) → (n ++ c ++ d) ++ rest ≡ n ++ (c ++ (d ++ rest))
    regrouped n c d rest = simp append_assoc

pub no_both : (b : Bool) → b ≡ true → b ≡ false → ⊥
no_both b h k = cc

-- a value is 0 just where its two's complement is
pub unsigned_zero : (z : ℤ) → FitsSigned w64 z → (cast_unsigned w64 z == 0) ≡ (nat_abs z == 0)
unsigned_zero z fits = by_value (nat_abs z == 0) refl
  where
    by_value : (b : Bool) → (nat_abs z == 0) ≡ b → (cast_unsigned w64 z == 0) ≡ b
    by_value true h = ap (λ (y : ℤ). cast_unsigned w64 y == 0) (sym (zero_value z h))
    by_value false h =
        ne_eqb (cast_unsigned w64 z) 0
        (λ e.
        let is : z ≡ pos 0 = sym (to_z-of_z w64 z fits) ∙ ap (cast_signed w64) e in
        no_both (nat_abs z == 0) (ap (λ (y : ℤ). nat_abs y == 0) is) h)

pub row_bytes-parts : NumbersAreReadAgain → (form : RowForm) (row : Event) (rest : List ℕ) → Fits form row → HasParts form row (row_bytes form row ++ rest) rest
row_bytes-parts laws Narrow row rest fits = narrow_parts laws row rest fits
row_bytes-parts laws Wide row rest fits = wide_parts laws row rest fits

-- a row's bytes, with others behind, say the row
pub row_in-bytes : (form : RowForm) (row : Event) (bytes rest : List ℕ) → HasParts form row bytes rest → row_in form row.key bytes ≡ row
row_in-bytes form row bytes rest h =
    let made = λ (start end : ℕ) (a b c d : ℤ). let x : Event = record { start = start; end = end; key = row.key; a = a; b = b; c = c; d = d } in x in
    ap (λ n. made n (number_at 8 8 bytes) (value_at 32 bytes) (value_at 40 bytes) (wide_value form 48 bytes) (wide_value form 56 bytes)) h.start
    ∙ (ap (λ n. made row.start n (value_at 32 bytes) (value_at 40 bytes) (wide_value form 48 bytes) (wide_value form 56 bytes)) h.end
    ∙ (ap (λ z. made row.start row.end z (value_at 40 bytes) (wide_value form 48 bytes) (wide_value form 56 bytes)) h.a
    ∙ (ap (λ z. made row.start row.end row.a z (wide_value form 48 bytes) (wide_value form 56 bytes)) h.b
    ∙ (ap (λ z. made row.start row.end row.a row.b z (wide_value form 56 bytes)) h.c ∙ ap (made row.start row.end row.a row.b row.c) h.d))))

length-wide_bytes : NumbersAreReadAgain → (row : Event) → length (wide_bytes row) ≡ 64
unfolding wide_bytes
length-wide_bytes laws row =
    let c = number_bytes 8 (cast_unsigned w64 row.c) in
    let d = number_bytes 8 (cast_unsigned w64 row.d) in
    omega (
      arith,
      length-append (narrow_bytes row ++ c) d,
      length-append (narrow_bytes row) c,
      length-narrow_bytes laws row,
      laws.number_len 8 (cast_unsigned w64 row.c),
      laws.number_len 8 (cast_unsigned w64 row.d),
    )

pub length-row_bytes : NumbersAreReadAgain → (form : RowForm) (row : Event) → length (row_bytes form row) ≡ row_len form
length-row_bytes laws Narrow row = length-narrow_bytes laws row
length-row_bytes laws Wide row = length-wide_bytes laws row
