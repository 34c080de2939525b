-- Two aggregates joined are within what the rows of both can make of them.
use Rattle.std.proofs.Common.{ℕ, ◌+◌, ◌*◌, ◌^◌, ◌<◌, ℤ, pos, neg_ℤ, ◌≤ℤ◌, arith, FitsSigned}
use Rattle.std.specs.Int.{w128}
use Rattle.std.proofs.lemmas.Int.{ints, clamps}
use Rattle.ss_expr.specs.declared.stream_operator.Agg.{Agg}
use Rattle.ss_expr.specs.declared.stream_operator.Agg.TheVariants.{Sum, Least, Greatest}
use Rattle.ss_session.specs.SessionHeld.{join_of}

pub join-least : (agg : Agg) (x y : ℤ) (r s : ℕ) → neg_ℤ (pos (r * 2 ^ 63)) ≤ℤ x → neg_ℤ (pos (s * 2 ^ 63)) ≤ℤ y
    → neg_ℤ (pos ((r + s) * 2 ^ 63)) ≤ℤ join_of agg x y
join-least Sum x y r s h k = omega (arith, ints)
join-least Least x y r s h k = omega (arith, ints, clamps)
join-least Greatest x y r s h k = omega (arith, ints, clamps)

pub join-most : (agg : Agg) (x y : ℤ) (r s : ℕ) → x ≤ℤ pos (r * 2 ^ 63) → y ≤ℤ pos (s * 2 ^ 63) → join_of agg x y ≤ℤ pos ((r + s) * 2 ^ 63)
join-most Sum x y r s h k = omega (arith, ints)
join-most Least x y r s h k = omega (arith, ints, clamps)
join-most Greatest x y r s h k = omega (arith, ints, clamps)

-- what is held fits 128 bits
pub fits-held : (x : ℤ) (rows : ℕ) → rows < 2 ^ 63 → neg_ℤ (pos (rows * 2 ^ 63)) ≤ℤ x → x ≤ℤ pos (rows * 2 ^ 63) → FitsSigned w128 x
fits-held x rows few h k = omega (arith, ints, few, h, k)
