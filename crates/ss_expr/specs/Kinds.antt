-- The kinds of an expression's nodes.
use Rattle.std.specs.Prelude.{◌≡◌, ℕ, Bool, true, false, ◌&&◌, not, Option, Some, None, option_map, find, if◌then◌else◌}
use Rattle.ss_expr.specs.Tree.{Tree, leaf, unary, binary, place, nodes}
use Rattle.ss_expr.specs.declared.atom.Atom.{Atom}
use Rattle.ss_expr.specs.declared.atom.Atom.TheVariants as atom
use Rattle.ss_expr.specs.declared.operators.UnaryOp.{UnaryOp}
use Rattle.ss_expr.specs.declared.operators.UnaryOp.TheVariants.{Not, Negate}
use Rattle.ss_expr.specs.declared.operators.BinaryOp.{BinaryOp}
use Rattle.ss_expr.specs.declared.operators.BinaryOp.TheVariants.{Connect, Compare, Compute}
use Rattle.ss_expr.specs.declared.kind.ValueKind.{ValueKind}
use Rattle.ss_expr.specs.declared.kind.ValueKind.TheVariants.{Num, Text, Truth}

-- two kinds are one
abbrev pub same_kind : ValueKind → ValueKind → Bool
same_kind Num Num = true
same_kind Text Text = true
same_kind Truth Truth = true
same_kind _ _ = false

abbrev pub atom_kind : Atom → ValueKind
atom_kind (atom.Text key) = Text
atom_kind atom.Subject = Text
atom_kind _ = Num

-- what an operator between two values takes: two truths, two numbers or two texts, or two numbers
abbrev pub takes : BinaryOp → ValueKind → ValueKind → Bool
takes (Connect op) left right = same_kind left Truth && same_kind right Truth
takes (Compare op) left right = same_kind left right && not (same_kind left Truth)
takes (Compute op) left right = same_kind left Num && same_kind right Num

abbrev pub gives : BinaryOp → ValueKind
gives (Connect op) = Truth
gives (Compare op) = Truth
gives (Compute op) = Num

-- what a unary operator takes, which is also what it gives
abbrev pub unary_kind : UnaryOp → ValueKind
unary_kind Not = Truth
unary_kind Negate = Num

-- the kind of the value that an expression gives: its root alone tells
abbrev pub kind_of : Tree → ValueKind
kind_of (leaf at atom) = atom_kind atom
kind_of (unary op at e) = unary_kind op
kind_of (binary op at left right) = gives op

-- the operands of a node are of the kinds that its operator takes
abbrev pub fits : Tree → Bool
fits (leaf at atom) = true
fits (unary op at e) = same_kind (kind_of e) (unary_kind op)
fits (binary op at left right) = takes op (kind_of left) (kind_of right)

abbrev pub is_misfit : Tree → Bool
is_misfit e = not (fits e)

-- the place of a node whose own operands don't fit
abbrev pub own_misfit : Tree → Option ℕ
own_misfit e = if is_misfit e then Some (place e) else None

-- the place of the first node whose operands don't fit
abbrev pub misfit : Tree → Option ℕ
misfit e = option_map place (find is_misfit (nodes e))

-- the place at which an expression is not of the kind that is wanted: a misfit first, else the root
abbrev pub kind_fault : Tree → ValueKind → Option ℕ
kind_fault e want = fault_else (misfit e)
  where
    fault_else : Option ℕ → Option ℕ
    fault_else (Some at) = Some at
    fault_else None = if same_kind (kind_of e) want then None else Some (place e)

-- all nodes fit, and the root gives the kind
pub record HasKind (e : Tree) (kind : ValueKind) : Type 0 where
  pub fitting : misfit e ≡ None
  pub root : kind_of e ≡ kind
