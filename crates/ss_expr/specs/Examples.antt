-- Texts and what they are read as, and results of arithmetic, worked out by hand.
use Rattle.std.specs.Prelude.{◌≡◌, ℕ, pos, negsuc, codes, Result, Ok, Err, refl}
use Rattle.ss_expr.specs.Reading.{expression_of}
use Rattle.ss_expr.specs.Values.{arithmetic}
use Rattle.ss_expr.specs.Tree.{Tree, leaf, unary, binary}
use Rattle.ss_expr.specs.declared.atom.Atom.TheVariants as atom
use Rattle.ss_expr.specs.declared.operators.UnaryOp.TheVariants.{Not, Negate}
use Rattle.ss_expr.specs.declared.operators.BinaryOp.TheVariants.{Connect, Compare, Compute}
use Rattle.ss_expr.specs.declared.operators.Connective.TheVariants.{Or, And}
use Rattle.ss_expr.specs.declared.operators.Comparison.TheVariants.{Equal}
use Rattle.ss_expr.specs.declared.operators.Arithmetic.TheVariants.{Add, Subtract, Multiply, Divide, Remainder}
use Rattle.ss_expr.specs.declared.fault.ExprFault.{ExprFault}
use Rattle.ss_expr.specs.declared.fault.ExprWhy.{ExprWhy}
use Rattle.ss_expr.specs.declared.fault.ExprWhy.TheVariants.{BadToken, BadNumber, Unexpected}

abbrev a_at : ℕ → Tree
a_at at = leaf at atom.A

abbrev b_at : ℕ → Tree
b_at at = leaf at atom.B

abbrev c_at : ℕ → Tree
c_at at = leaf at atom.C

abbrev d_at : ℕ → Tree
d_at at = leaf at atom.D

abbrev fault : ℕ → ExprWhy → Result Tree ExprFault
fault at why = Err (record { at = at; why = why })

products_first : expression_of (codes "a + b * 2")
    ≡ Ok (binary (Compute Add) 2 (a_at 0) (binary (Compute Multiply) 6 (b_at 4) (leaf 8 (atom.Number (pos 2)))))
products_first = refl

brackets_first : expression_of (codes "(a + b) * 2")
    ≡ Ok (binary (Compute Multiply) 8 (binary (Compute Add) 3 (a_at 1) (b_at 5)) (leaf 10 (atom.Number (pos 2))))
brackets_first = refl

to_the_left : expression_of (codes "a - b - a")
    ≡ Ok (binary (Compute Subtract) 6 (binary (Compute Subtract) 2 (a_at 0) (b_at 4)) (a_at 8))
to_the_left = refl

and_first : expression_of (codes "a = b or b = a and a = a")
    ≡ Ok (
    binary (Connect Or) 6 (binary (Compare Equal) 2 (a_at 0) (b_at 4))
    (binary (Connect And) 15 (binary (Compare Equal) 11 (b_at 9) (a_at 13))
    (binary (Compare Equal) 21 (a_at 19) (a_at 23)))
    )
and_first = refl

not_last : expression_of (codes "not a = b") ≡ Ok (unary Not 0 (binary (Compare Equal) 6 (a_at 4) (b_at 8)))
not_last = refl

minus_first : expression_of (codes "-a*-b")
    ≡ Ok (binary (Compute Multiply) 2 (unary Negate 0 (a_at 1)) (unary Negate 3 (b_at 4)))
minus_first = refl

quoted : expression_of (codes "key='k'")
    ≡ Ok (binary (Compare Equal) 3 (leaf 0 atom.Subject) (leaf 4 (atom.Text 0x6B000000000000000000000000000000)))
quoted = refl

last_two_values : expression_of (codes "c - d") ≡ Ok (binary (Compute Subtract) 2 (c_at 0) (d_at 4))
last_two_values = refl

no_fifth_value : expression_of (codes "c + e") ≡ fault 4 BadToken
no_fifth_value = refl

no_second_comparison : expression_of (codes "a = b = a") ≡ fault 6 Unexpected
no_second_comparison = refl

too_short : expression_of (codes "a +") ≡ fault 3 Unexpected
too_short = refl

never_closed : expression_of (codes "(a") ≡ fault 2 Unexpected
never_closed = refl

never_opened : expression_of (codes "a)") ≡ fault 1 Unexpected
never_opened = refl

unknown_name : expression_of (codes "a + andy") ≡ fault 4 BadToken
unknown_name = refl

first_fault : expression_of (codes "a a $") ≡ fault 2 Unexpected
first_fault = refl

large_number : expression_of (codes "9223372036854775808") ≡ fault 0 BadNumber
large_number = refl

sum_is_clamped : arithmetic Add (pos 9223372036854775807) (pos 1) ≡ pos 9223372036854775807
sum_is_clamped = refl

towards_zero : arithmetic Divide (negsuc 6) (pos 2) ≡ negsuc 2
towards_zero = refl

sign_of_the_left_side : arithmetic Remainder (negsuc 6) (pos 2) ≡ negsuc 0
sign_of_the_left_side = refl

not_of_the_right_side : arithmetic Remainder (pos 7) (negsuc 1) ≡ pos 1
not_of_the_right_side = refl

by_zero : arithmetic Divide (pos 5) (pos 0) ≡ pos 0
by_zero = refl

least_by_minus_one : arithmetic Divide (negsuc 9223372036854775807) (negsuc 0) ≡ pos 9223372036854775807
least_by_minus_one = refl
