-- What passes the tests of an image can be held.
use Rattle.std.proofs.Common.{◌≡◌, ℕ, ◌-◌, ◌*◌, ◌^◌, ◌<◌, ◌≤◌, true, nat_lt, nat_le, ℤ, pos, neg_ℤ, ◌≤ℤ◌, arith, ltb-true, leb-true}
use Rattle.std.specs.Prelude.{int_le}
use Rattle.std.proofs.lemmas.Bool.{and_parts}
use Rattle.std.proofs.lemmas.Int.{ints}
use Rattle.ss_expr.specs.declared.stream_operator.Agg.{Agg}
use Rattle.ss_expr.specs.declared.stream_operator.Agg.TheVariants.{Sum, Least, Greatest}
use Rattle.ss_meaning.specs.Entries.{WindowEntry}
use Rattle.ss_window.specs.Held.{IsHeld}
use Rattle.ss_window.specs.ImageTests.{is_count, is_sum_of, summands}

le_from_test : (x y : ℤ) → int_le x y ≡ true → x ≤ℤ y
le_from_test x y h = grind (arith, ints)

sum_low : (count : ℕ) (value : ℤ) → is_sum_of count value ≡ true → neg_ℤ (pos (count * 2 ^ 63)) ≤ℤ value
sum_low count value h =
    le_from_test (neg_ℤ (pos (count * 2 ^ 63))) value
    (and_parts (int_le (neg_ℤ (pos (count * 2 ^ 63))) value) (int_le value (pos (count * (2 ^ 63 - 1)))) h).0

sum_high : (count : ℕ) (value : ℤ) → is_sum_of count value ≡ true → value ≤ℤ pos (count * (2 ^ 63 - 1))
sum_high count value h =
    le_from_test value (pos (count * (2 ^ 63 - 1)))
    (and_parts (int_le (neg_ℤ (pos (count * 2 ^ 63))) value) (int_le value (pos (count * (2 ^ 63 - 1)))) h).1

summands-le : (agg : Agg) (rows : ℕ) → 0 < rows → summands agg rows ≤ rows
summands-le Sum rows h = omega arith
summands-le Least rows h = omega (arith, h)
summands-le Greatest rows h = omega (arith, h)

pub passing_is_held : (agg : Agg) (e : WindowEntry) → is_count e.rows ≡ true
    → is_sum_of (summands agg e.rows) e.value ≡ true → IsHeld (record { value = e.value; rows = e.rows })
passing_is_held agg e k l =
    let counts = and_parts (nat_lt 0 e.rows) (nat_le e.rows (2 ^ 62)) k in
    let some = ltb-true 0 e.rows counts.0 in
    let few = leb-true e.rows (2 ^ 62) counts.1 in
    let le = summands-le agg e.rows some in
    let down = sum_low (summands agg e.rows) e.value l in
    let up = sum_high (summands agg e.rows) e.value l in
    record {
      few = omega (arith, few);
      least = omega (arith, ints, le, down);
      most = omega (arith, ints, le, up);
    }
