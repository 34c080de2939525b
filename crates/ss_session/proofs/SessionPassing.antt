-- What passes the tests of an image can be held.
use Rattle.std.proofs.Common.{◌≡◌, ℕ, ◌+◌, ◌&&◌, ◌-◌, ◌*◌, ◌^◌, ◌<◌, ◌≤◌, true, nat_lt, nat_le, ℤ, pos, neg_ℤ, ◌≤ℤ◌, arith, ltb-true, leb-true}
use Rattle.std.specs.Prelude.{int_le}
use Rattle.std.proofs.lemmas.Bool.{and_parts}
use Rattle.std.proofs.lemmas.Int.{ints}
use Rattle.ss_expr.specs.declared.stream_operator.Agg.{Agg}
use Rattle.ss_expr.specs.declared.stream_operator.Agg.TheVariants.{Sum, Least, Greatest}
use Rattle.ss_meaning.specs.Session.{SessionEntry, closing}
use Rattle.ss_session.specs.SessionHeld.{IsHeld}
use Rattle.ss_session.specs.ImageTests.{is_open_span, is_count, is_sum_of, is_session, summands}

le_from_test : (x y : ℤ) → int_le x y ≡ true → x ≤ℤ y
le_from_test x y h = grind (arith, ints)

sum_low : (count : ℕ) (value : ℤ) → is_sum_of count value ≡ true → neg_ℤ (pos (count * 2 ^ 63)) ≤ℤ value
sum_low count value h =
    le_from_test (neg_ℤ (pos (count * 2 ^ 63))) value
    (and_parts (int_le (neg_ℤ (pos (count * 2 ^ 63))) value) (int_le value (pos (count * (2 ^ 63 - 1)))) h).0

sum_high : (count : ℕ) (value : ℤ) → is_sum_of count value ≡ true → value ≤ℤ pos (count * (2 ^ 63 - 1))
sum_high count value h =
    le_from_test value (pos (count * (2 ^ 63 - 1)))
    (and_parts (int_le (neg_ℤ (pos (count * 2 ^ 63))) value) (int_le value (pos (count * (2 ^ 63 - 1)))) h).1

summands-le : (agg : Agg) (rows : ℕ) → 0 < rows → summands agg rows ≤ rows
summands-le Sum rows h = omega arith
summands-le Least rows h = omega (arith, h)
summands-le Greatest rows h = omega (arith, h)

pub passing_is_held : (agg : Agg) (e : SessionEntry) → e.first ≤ e.last → e.last < 2 ^ 62 + 2 ^ 60 → is_count e.rows ≡ true
    → is_sum_of (summands agg e.rows) e.value ≡ true → IsHeld e
passing_is_held agg e times late k l =
    let counts = and_parts (nat_lt 0 e.rows) (nat_le e.rows (2 ^ 62)) k in
    let some = ltb-true 0 e.rows counts.0 in
    let few = leb-true e.rows (2 ^ 62) counts.1 in
    let le = summands-le agg e.rows some in
    let down = sum_low (summands agg e.rows) e.value l in
    let up = sum_high (summands agg e.rows) e.value l in
    record {
      times = times;
      late = omega (arith, late);
      some = some;
      few = omega (arith, few);
      least = omega (arith, ints, le, down);
      most = omega (arith, ints, le, up);
    }

-- the same of what passes all tests
pub held : (gap : ℕ) (agg : Agg) (low : ℕ) (e : SessionEntry) → is_session gap agg low e ≡ true → IsHeld e
held gap agg low e h =
    let parts = and_parts (is_open_span gap low e) (is_count e.rows && is_sum_of (summands agg e.rows) e.value) h in
    let counts = and_parts (is_count e.rows) (is_sum_of (summands agg e.rows) e.value) parts.1 in
    let span = and_parts (nat_le e.first e.last) (nat_lt e.last (2 ^ 62 + 2 ^ 60) && nat_lt low (closing gap e)) parts.0 in
    let late = and_parts (nat_lt e.last (2 ^ 62 + 2 ^ 60)) (nat_lt low (closing gap e)) span.1 in
    passing_is_held agg e (leb-true e.first e.last span.0) (ltb-true e.last (2 ^ 62 + 2 ^ 60) late.0) counts.0 counts.1
