-- The values of expressions have 64 bits.
use Rattle.std.proofs.Common.{◌≡◌, zero, suc, ◌^◌, ◌<◌, ◌≤◌, Bool, true, false, cond, ℤ, pos, negsuc, FitsSigned, refl, arith}
use Rattle.std.specs.Prelude.{int_rem, int_div, neg_ℤ, ◌+ℤ◌, ◌-ℤ◌, ◌*ℤ◌, unsigned_abs}
use Rattle.std.specs.Int.{w64}
use Rattle.std.specs.Ordering.{int_eq}
use Rattle.std.proofs.lemmas.Int.{ints, rem_below, fits_signed_from_abs}
use Rattle.ss_elem.specs.declared.element.Event.{Event}
use Rattle.ss_expr.specs.Operators.{as_number}
use Rattle.ss_expr.specs.Tree.{Tree, leaf, unary, binary}
use Rattle.ss_expr.specs.Values.{clamp, arithmetic, atom_value, unary_value, binary_value, value_of, HasShortTimes}
use Rattle.ss_expr.specs.declared.atom.Atom.{Atom}
use Rattle.ss_expr.specs.declared.atom.Atom.TheVariants as atom
use Rattle.ss_expr.specs.declared.operators.UnaryOp.{UnaryOp}
use Rattle.ss_expr.specs.declared.operators.UnaryOp.TheVariants.{Not, Negate}
use Rattle.ss_expr.specs.declared.operators.BinaryOp.{BinaryOp}
use Rattle.ss_expr.specs.declared.operators.BinaryOp.TheVariants.{Connect, Compare, Compute}
use Rattle.ss_expr.specs.declared.operators.Arithmetic.{Arithmetic}
use Rattle.ss_expr.specs.declared.operators.Arithmetic.TheVariants.{Add, Subtract, Multiply, Divide, Remainder}
use Rattle.ss_expr.specs.declared.value.Value.{Value}
use Rattle.ss_expr.specs.declared.value.Value.TheVariants.{Num, Text, Truth}
use Rattle.ss_frames.specs.Ranges.{IsAtomOfProgram, IsTreeOfProgram}

pub clamp_fits : (z : ℤ) → FitsSigned w64 (clamp z)
clamp_fits (pos n) = omega (arith, ints)
clamp_fits (negsuc n) = omega (arith, ints)

pub zero_fits : FitsSigned w64 (pos 0)
zero_fits = omega (arith, ints)

abs_small : (y : ℤ) → FitsSigned w64 y → unsigned_abs y ≤ 2 ^ 63
abs_small (pos n) h = omega (arith, ints, h)
abs_small (negsuc n) h = omega (arith, ints, h)

abs_some : (y : ℤ) → int_eq y (pos 0) ≡ false → 0 < unsigned_abs y
abs_some (pos zero) h = cc
abs_some (pos (suc n)) h = omega arith
abs_some (negsuc n) h = omega arith

rem_fits : (x y : ℤ) → FitsSigned w64 y → int_eq y (pos 0) ≡ false → FitsSigned w64 (int_rem x y)
rem_fits x y h k =
    let below = rem_below x y (abs_some y k) in
    let small = abs_small y h in
    fits_signed_from_abs w64 (int_rem x y) (omega (arith, below, small))

chosen : (b : Bool) (x y : ℤ) → (b ≡ true → FitsSigned w64 x) → (b ≡ false → FitsSigned w64 y) → FitsSigned w64 (cond b x y)
chosen true x y h k = h refl
chosen false x y h k = k refl

arithmetic_fits : (op : Arithmetic) (x y : ℤ) → FitsSigned w64 y → FitsSigned w64 (arithmetic op x y)
arithmetic_fits Add x y h = clamp_fits (x +ℤ y)
arithmetic_fits Subtract x y h = clamp_fits (x -ℤ y)
arithmetic_fits Multiply x y h = clamp_fits (x *ℤ y)
arithmetic_fits Divide x y h = chosen (int_eq y (pos 0)) (pos 0) (clamp (int_div x y)) (λ e. zero_fits) (λ e. clamp_fits (int_div x y))
arithmetic_fits Remainder x y h = chosen (int_eq y (pos 0)) (pos 0) (int_rem x y) (λ e. zero_fits) (λ e. rem_fits x y h e)

-- a value that is a number has 64 bits
abbrev IsShortValue : Value → Type 0
IsShortValue (Num n) = FitsSigned w64 n
IsShortValue (Text k) = Unit {0}
IsShortValue (Truth p) = Unit {0}

-- what the program's type of rows keeps, and its times
pub record IsShortRow (row : Event) : Type 0 where
  pub times : HasShortTimes row
  pub a : FitsSigned w64 row.a
  pub b : FitsSigned w64 row.b
  pub c : FitsSigned w64 row.c
  pub d : FitsSigned w64 row.d

atom_fits : (a : Atom) (row : Event) → IsAtomOfProgram a → IsShortRow row → IsShortValue (atom_value a row)
atom_fits (atom.Number n) row h k = h
atom_fits (atom.Text key) row h k = tt
atom_fits atom.Start row h k = let early = k.times.0 in omega (arith, ints, early)
atom_fits atom.End row h k = let early = k.times.1 in omega (arith, ints, early)
atom_fits atom.Subject row h k = tt
atom_fits atom.A row h k = k.a
atom_fits atom.B row h k = k.b
atom_fits atom.C row h k = k.c
atom_fits atom.D row h k = k.d

unary_fits : (op : UnaryOp) (v : Value) → IsShortValue v → IsShortValue (unary_value op v)
unary_fits Negate (Num n) h = clamp_fits (neg_ℤ n)
unary_fits Negate (Text k) h = tt
unary_fits Negate (Truth p) h = tt
unary_fits Not (Num n) h = h
unary_fits Not (Text k) h = tt
unary_fits Not (Truth p) h = tt

binary_fits : (op : BinaryOp) (l r : Value) → IsShortValue l → IsShortValue r → IsShortValue (binary_value op l r)
binary_fits (Compute op) (Num x) (Num y) h k = arithmetic_fits op x y k
binary_fits (Compare op) (Num x) (Num y) h k = tt
binary_fits (Compare op) (Text x) (Text y) h k = tt
binary_fits (Connect op) (Truth p) (Truth q) h k = tt
binary_fits op l r h k = h

value_fits : (e : Tree) (row : Event) → IsTreeOfProgram e → IsShortRow row → IsShortValue (value_of e row)
value_fits (leaf at a) row h k = atom_fits a row h k
value_fits (unary op at e) row h k = unary_fits op (value_of e row) (value_fits e row h k)
value_fits (binary op at l r) row h k =
    binary_fits op (value_of l row) (value_of r row) (value_fits l row h.0 k) (value_fits r row h.1 k)

number_fits : (v : Value) → IsShortValue v → FitsSigned w64 (as_number v)
number_fits (Num n) h = h
number_fits (Text k) h = zero_fits
number_fits (Truth p) h = zero_fits

pub computed_fits : (e : Tree) (row : Event) → IsTreeOfProgram e → IsShortRow row → FitsSigned w64 (as_number (value_of e row))
computed_fits e row h k = number_fits (value_of e row) (value_fits e row h k)
