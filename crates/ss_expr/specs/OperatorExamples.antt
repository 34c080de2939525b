-- Worked examples of what specs compute.
use Rattle.std.specs.Prelude.{◌≡◌, ℤ, pos, negsuc, [], ◌∷◌, Some, None}
use Rattle.ss_elem.specs.declared.element.Event.{Event}
use Rattle.ss_meaning.specs.Emit.{rows_at}
use Rattle.ss_meaning.specs.Examples.{from, k, valued, of_four}
use Rattle.ss_meaning.specs.Entries.{WindowEntries, entries_after}
use Rattle.ss_meaning.specs.EntryExamples.{summed}
use Rattle.ss_expr.specs.Operators.{operator_of}
use Rattle.ss_expr.specs.Tree.{Tree, leaf, binary}
use Rattle.ss_expr.specs.declared.atom.Atom.TheVariants as atom
use Rattle.ss_expr.specs.declared.operators.BinaryOp.TheVariants.{Compare, Compute}
use Rattle.ss_expr.specs.declared.operators.Comparison.TheVariants.{Less}
use Rattle.ss_expr.specs.declared.operators.Arithmetic.TheVariants.{Subtract}
use Rattle.ss_expr.specs.declared.stream_operator.Agg.TheVariants.{Least}
use Rattle.ss_expr.specs.declared.stream_operator.Field.TheVariants.{B, D}
use Rattle.ss_expr.specs.declared.stream_operator.Spec.TheVariants.{Select, Window}

-- a row with these values
abbrev pub with_four : ℤ → ℤ → ℤ → ℤ → Event
with_four a b c d = record { start = 5; end = 9; key = k; a = a; b = b; c = c; d = d }

abbrev pub with_values : ℤ → ℤ → Event
with_values a b = with_four a b (pos 0) (pos 0)

-- the expression a
abbrev pub first_value : Tree
first_value = leaf 0 atom.A

-- the expression b
abbrev pub second_value : Tree
second_value = leaf 0 atom.B

-- the expression c
abbrev pub third_value : Tree
third_value = leaf 0 atom.C

-- the expression d
abbrev pub fourth_value : Tree
fourth_value = leaf 0 atom.D

-- the expression 0
abbrev pub nought : Tree
nought = leaf 0 (atom.Number (pos 0))

-- the expression a - c
abbrev pub less_by_third : Tree
less_by_third = binary (Compute Subtract) 2 (leaf 0 atom.A) (leaf 4 atom.C)

-- the expression a - b
abbrev pub difference : Tree
difference = binary (Compute Subtract) 2 (leaf 0 atom.A) (leaf 4 atom.B)

-- the expression a < b
abbrev pub is_less : Tree
is_less = binary (Compare Less) 2 (leaf 0 atom.A) (leaf 4 atom.B)

-- a select without a test passes every row, and computes its values from the old ones
abbrev pub SelectsSwap : Type 0
SelectsSwap =
    rows_at (operator_of (Select None second_value first_value third_value fourth_value)) 1 []
    (from 0 (valued 5 9 k (pos 3) (pos 4)))
    ≡ with_values (pos 4) (pos 3) ∷ []

-- all four of them, the cleared third one and the fourth included
abbrev pub SelectsMove : Type 0
SelectsMove =
    rows_at (operator_of (Select None third_value second_value nought less_by_third)) 1 []
    (from 0 (of_four 5 9 k (pos 3) (pos 0) (pos 7) (pos 0)))
    ≡ with_four (pos 7) (pos 0) (pos 0) (negsuc 3) ∷ []

-- a row for which the test holds passes
abbrev pub SelectsPass : Type 0
SelectsPass =
    rows_at (operator_of (Select (Some is_less) difference first_value third_value fourth_value)) 1 []
    (from 0 (valued 5 9 k (pos 3) (pos 4)))
    ≡ with_values (negsuc 0) (pos 3) ∷ []

-- and one for which it doesn't is not given
abbrev pub SelectsHold : Type 0
SelectsHold =
    rows_at (operator_of (Select (Some is_less) difference first_value third_value fourth_value)) 1 []
    (from 0 (valued 5 9 k (pos 4) (pos 4)))
    ≡ []

-- a window aggregates the field that it is told
abbrev pub WindowsTakeTheirField : Type 0
WindowsTakeTheirField =
    entries_after (operator_of (Window 20 10 Least B)) 1
    (from 0 (valued 5 9 k (pos 3) (pos 7)) ∷ from 0 (valued 6 9 k (pos 2) (pos 8)) ∷ [])
    ≡ WindowEntries (summed 10 k 7 2 ∷ summed 20 k 7 2 ∷ [])

-- also the fourth
abbrev pub WindowsTakeTheFourth : Type 0
WindowsTakeTheFourth =
    entries_after (operator_of (Window 10 10 Least D)) 1
    (from 0 (of_four 5 9 k (pos 1) (pos 2) (pos 3) (pos 8)) ∷ from 0 (of_four 6 9 k (pos 1) (pos 2) (pos 3) (pos 7)) ∷ [])
    ≡ WindowEntries (summed 10 k 7 2 ∷ [])
