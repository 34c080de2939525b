-- What an expression is worth on an event.
use Rattle.std.specs.Prelude.{◌<◌, ◌^◌, Bool, ◌&&◌, ◌||◌, not, ℤ, pos, ◌+ℤ◌, ◌-ℤ◌, ◌*ℤ◌, neg_ℤ, int_div, int_rem}
use Rattle.std.specs.Prelude.{if◌then◌else◌}
use Rattle.std.specs.Ordering.{nat_cmp, int_cmp, int_eq, is_eq, is_lt, is_gt}
use Rattle.std.specs.declared.cmp.Ordering.{Ordering}
use Rattle.std.specs.Int.{w64, saturate_signed}
use Rattle.ss_elem.specs.declared.element.Event.{Event}
use Rattle.ss_expr.specs.Tree.{Tree, leaf, unary, binary}
use Rattle.ss_expr.specs.declared.atom.Atom.{Atom}
use Rattle.ss_expr.specs.declared.atom.Atom.TheVariants as atom
use Rattle.ss_expr.specs.declared.operators.UnaryOp.{UnaryOp}
use Rattle.ss_expr.specs.declared.operators.UnaryOp.TheVariants.{Not, Negate}
use Rattle.ss_expr.specs.declared.operators.BinaryOp.{BinaryOp}
use Rattle.ss_expr.specs.declared.operators.BinaryOp.TheVariants.{Connect, Compare, Compute}
use Rattle.ss_expr.specs.declared.operators.Connective.{Connective}
use Rattle.ss_expr.specs.declared.operators.Connective.TheVariants.{Or, And}
use Rattle.ss_expr.specs.declared.operators.Comparison.{Comparison}
use Rattle.ss_expr.specs.declared.operators.Comparison.TheVariants.{Equal, NotEqual, Less, AtMost, Greater, AtLeast}
use Rattle.ss_expr.specs.declared.operators.Arithmetic.{Arithmetic}
use Rattle.ss_expr.specs.declared.operators.Arithmetic.TheVariants.{Add, Subtract, Multiply, Divide, Remainder}
use Rattle.ss_expr.specs.declared.kind.ValueKind.{ValueKind}
use Rattle.ss_expr.specs.declared.kind.ValueKind.TheVariants as kind
use Rattle.ss_expr.specs.declared.value.Value.{Value}
use Rattle.ss_expr.specs.declared.value.Value.TheVariants.{Num, Text, Truth}

-- the nearest number that 64 bits hold
abbrev pub clamp : ℤ → ℤ
clamp z = saturate_signed w64 z

-- a result of arithmetic: division goes towards zero, its rest has the sign of the left side, and by zero both are 0
abbrev pub arithmetic : Arithmetic → ℤ → ℤ → ℤ
arithmetic Add x y = clamp (x +ℤ y)
arithmetic Subtract x y = clamp (x -ℤ y)
arithmetic Multiply x y = clamp (x *ℤ y)
arithmetic Divide x y = if int_eq y (pos 0) then pos 0 else clamp (int_div x y)
arithmetic Remainder x y = if int_eq y (pos 0) then pos 0 else int_rem x y

-- a comparison, from how the left side compares to the right
abbrev pub holds : Comparison → Ordering → Bool
holds Equal order = is_eq order
holds NotEqual order = not (is_eq order)
holds Less order = is_lt order
holds AtMost order = not (is_gt order)
holds Greater order = is_gt order
holds AtLeast order = not (is_lt order)

abbrev pub connects : Connective → Bool → Bool → Bool
connects Or p q = p || q
connects And p q = p && q

abbrev pub atom_value : Atom → Event → Value
atom_value (atom.Number n) x = Num n
atom_value (atom.Text k) x = Text k
atom_value atom.Start x = Num (pos x.start)
atom_value atom.End x = Num (pos x.end)
atom_value atom.Subject x = Text x.key
atom_value atom.A x = Num x.a
atom_value atom.B x = Num x.b
atom_value atom.C x = Num x.c
atom_value atom.D x = Num x.d

abbrev pub unary_value : UnaryOp → Value → Value
unary_value Negate (Num n) = Num (clamp (neg_ℤ n))
unary_value Not (Truth p) = Truth (not p)
unary_value op value = value

-- Texts are keys, whose numbers are in the order of their bytes. An operator is never asked for what it doesn't take.
abbrev pub binary_value : BinaryOp → Value → Value → Value
binary_value (Compute op) (Num x) (Num y) = Num (arithmetic op x y)
binary_value (Compare op) (Num x) (Num y) = Truth (holds op (int_cmp x y))
binary_value (Compare op) (Text k) (Text l) = Truth (holds op (nat_cmp k l))
binary_value (Connect op) (Truth p) (Truth q) = Truth (connects op p q)
binary_value op left right = left

abbrev pub value_of : Tree → Event → Value
value_of (leaf at atom) x = atom_value atom x
value_of (unary op at e) x = unary_value op (value_of e x)
value_of (binary op at l r) x = binary_value op (value_of l x) (value_of r x)

-- a time that is also a number of an expression
abbrev pub HasShortTimes : Event → Type 0
HasShortTimes x = (x.start < 2 ^ 63) × (x.end < 2 ^ 63)

-- what a value is
abbrev pub value_kind : Value → ValueKind
value_kind (Num n) = kind.Num
value_kind (Text k) = kind.Text
value_kind (Truth p) = kind.Truth
