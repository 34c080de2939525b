-- Expressions as trees.
use Rattle.std.specs.Prelude.{ℕ, ◌+◌, List, [], ◌∷◌, ◌++◌}
use Rattle.ss_expr.specs.declared.atom.Atom.{Atom}
use Rattle.ss_expr.specs.declared.operators.UnaryOp.{UnaryOp}
use Rattle.ss_expr.specs.declared.operators.BinaryOp.{BinaryOp}

-- each node has its place in the text
pub data Tree : Type 0 where
  leaf : ℕ → Atom → Tree
  unary : UnaryOp → ℕ → Tree → Tree
  binary : BinaryOp → ℕ → Tree → Tree → Tree

-- the place of the root
abbrev pub place : Tree → ℕ
place (leaf at atom) = at
place (unary op at e) = at
place (binary op at l r) = at

-- how many nodes there are
abbrev pub count : Tree → ℕ
count (leaf at atom) = 1
count (unary op at e) = count e + 1
count (binary op at l r) = count l + count r + 1

-- all nodes: those of the left side, those of the right side, the node
abbrev pub nodes : Tree → List Tree
nodes (leaf at atom) = leaf at atom ∷ []
nodes (unary op at e) = nodes e ++ unary op at e ∷ []
nodes (binary op at l r) = nodes l ++ nodes r ++ binary op at l r ∷ []
