-- One more value leaves an aggregate within what so many rows can make of it.
use Rattle.std.proofs.Common.{ℕ, ◌+◌, ◌*◌, ◌^◌, ◌<◌, ℤ, pos, neg_ℤ, ◌≤ℤ◌, arith, FitsSigned}
use Rattle.std.specs.Int.{w128}
use Rattle.std.proofs.lemmas.Int.{ints, clamps}
use Rattle.ss_expr.specs.declared.stream_operator.Agg.{Agg}
use Rattle.ss_expr.specs.declared.stream_operator.Agg.TheVariants.{Sum, Least, Greatest}
use Rattle.ss_window.specs.Held.{join_of}

pub join-least : (agg : Agg) (x v : ℤ) (rows : ℕ) → neg_ℤ (pos (rows * 2 ^ 63)) ≤ℤ x → neg_ℤ (pos (2 ^ 63)) ≤ℤ v
    → neg_ℤ (pos ((rows + 1) * 2 ^ 63)) ≤ℤ join_of agg x v
join-least Sum x v rows h k = omega (arith, ints)
join-least Least x v rows h k = omega (arith, ints, clamps)
join-least Greatest x v rows h k = omega (arith, ints, clamps)

pub join-most : (agg : Agg) (x v : ℤ) (rows : ℕ) → x ≤ℤ pos (rows * 2 ^ 63) → v ≤ℤ pos (2 ^ 63)
    → join_of agg x v ≤ℤ pos ((rows + 1) * 2 ^ 63)
join-most Sum x v rows h k = omega (arith, ints)
join-most Least x v rows h k = omega (arith, ints, clamps)
join-most Greatest x v rows h k = omega (arith, ints, clamps)

-- what is held fits 128 bits
pub fits-held : (x : ℤ) (rows : ℕ) → rows < 2 ^ 63 → neg_ℤ (pos (rows * 2 ^ 63)) ≤ℤ x → x ≤ℤ pos (rows * 2 ^ 63) → FitsSigned w128 x
fits-held x rows few h k = omega (arith, ints, few, h, k)
