-- Which tokens form which expression.
use Rattle.std.specs.Prelude.{◌≡◌, ◌≤◌, ℕ, ◌+◌, max, List, [], ◌∷◌, ◌++◌}
use Rattle.ss_expr.specs.Tree.{Tree, leaf, unary, binary}
use Rattle.ss_expr.specs.declared.atom.Atom.{Atom}
use Rattle.ss_expr.specs.declared.operators.UnaryOp.{UnaryOp}
use Rattle.ss_expr.specs.declared.operators.UnaryOp.TheVariants as unary_op
use Rattle.ss_expr.specs.declared.operators.BinaryOp.{BinaryOp}
use Rattle.ss_expr.specs.declared.operators.BinaryOp.TheVariants.{Connect, Compare, Compute}
use Rattle.ss_expr.specs.declared.operators.Connective.TheVariants.{Or, And}
use Rattle.ss_expr.specs.declared.operators.Arithmetic.{Arithmetic}
use Rattle.ss_expr.specs.declared.operators.Arithmetic.TheVariants.{Add, Subtract, Multiply, Divide, Remainder}
use Rattle.ss_expr.specs.declared.token.Token.{Token}
use Rattle.ss_expr.specs.declared.token.Token.TheVariants as token
use Rattle.ss_expr.specs.declared.token.Placed.{Placed}

-- An expression as it is written, with its brackets. Each number is the place of an atom, a bracket or an operator.
pub data Form : Type 0 where
  single : ℕ → Atom → Form
  bracketed : ℕ → Form → ℕ → Form
  prefixed : UnaryOp → ℕ → Form → Form
  joined : BinaryOp → ℕ → Form → Form → Form

-- a `-` in front of an operand is the token that also stands between two
abbrev pub unary_token : UnaryOp → Token
unary_token unary_op.Not = token.Not
unary_token unary_op.Negate = token.Operator (Compute Subtract)

-- a form's tokens, each with its place
abbrev pub print : Form → List Placed
print (single at atom) = record { at = at; token = token.Atom atom } ∷ []
print (bracketed from f to) =
    record { at = from; token = token.Open } ∷ print f ++ record { at = to; token = token.Close } ∷ []
print (prefixed op at f) = record { at = at; token = unary_token op } ∷ print f
print (joined op at l r) = print l ++ record { at = at; token = token.Operator op } ∷ print r

-- the tree without the brackets
abbrev pub tree_of_form : Form → Tree
tree_of_form (single at atom) = leaf at atom
tree_of_form (bracketed from f to) = tree_of_form f
tree_of_form (prefixed op at f) = unary op at (tree_of_form f)
tree_of_form (joined op at l r) = binary op at (tree_of_form l) (tree_of_form r)

-- How tightly a form binds: 0 `or`, 1 `and`, 2 `not`, 3 comparisons, 4 sums, 5 products, 6 a `-` in front, 7 atoms and
-- brackets.
abbrev pub unary_binding : UnaryOp → ℕ
unary_binding unary_op.Not = 2
unary_binding unary_op.Negate = 6

abbrev pub arithmetic_binding : Arithmetic → ℕ
arithmetic_binding Add = 4
arithmetic_binding Subtract = 4
arithmetic_binding Multiply = 5
arithmetic_binding Divide = 5
arithmetic_binding Remainder = 5

abbrev pub binding : BinaryOp → ℕ
binding (Connect Or) = 0
binding (Connect And) = 1
binding (Compare op) = 3
binding (Compute op) = arithmetic_binding op

-- The left side of an operator binds at least as tightly as the operator, so that repeated ones group to the left.
-- Comparisons don't repeat: their left side is a sum.
abbrev pub left_binding : BinaryOp → ℕ
left_binding (Connect op) = binding (Connect op)
left_binding (Compare op) = 4
left_binding (Compute op) = binding (Compute op)

-- the right side binds more tightly
abbrev pub right_binding : BinaryOp → ℕ
right_binding op = binding op + 1

abbrev pub form_binding : Form → ℕ
form_binding (single at atom) = 7
form_binding (bracketed from f to) = 7
form_binding (prefixed op at f) = unary_binding op
form_binding (joined op at l r) = binding op

-- each operand binds as tightly as its operator wants
abbrev pub IsFormed : Form → Type 0
IsFormed (single at atom) = Unit {0}
IsFormed (bracketed from f to) = IsFormed f
IsFormed (prefixed op at f) = (unary_binding op ≤ form_binding f) × IsFormed f
IsFormed (joined op at l r) =
    (left_binding op ≤ form_binding l) × (right_binding op ≤ form_binding r) × IsFormed l × IsFormed r

-- how many levels are open at once: each bracket, `not` and `-` in front opens one up to the end of its operand
abbrev pub levels : Form → ℕ
levels (single at atom) = 0
levels (bracketed from f to) = levels f + 1
levels (prefixed op at f) = levels f + 1
levels (joined op at l r) = max (levels l) (levels r)

-- the tokens are those of a form of at most so many levels
pub record IsFormOf (most : ℕ) (tokens : List Placed) (f : Form) : Type 0 where
  pub formed : IsFormed f
  pub within : levels f ≤ most
  pub printed : print f ≡ tokens

-- some form of at most so many levels begins with these tokens
abbrev pub Begins : ℕ → List Placed → Type 0
Begins most tokens = (more : List Placed) × (f : Form) × IsFormOf most (tokens ++ more) f

-- some form begins with these tokens
abbrev pub BeginsAtAll : List Placed → Type 0
BeginsAtAll tokens = (most : ℕ) × Begins most tokens

-- the tokens spell the tree, with at most so many levels
pub record Spells (most : ℕ) (tokens : List Placed) (e : Tree) : Type 0 where
  pub form : Form
  pub of : IsFormOf most tokens form
  pub tree : tree_of_form form ≡ e
