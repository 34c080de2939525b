-- Trees are data that can be told apart: each is given back by the list of its nodes, a node before its sides.
use Rattle.std.specs.Prelude.{◌≡◌, ℕ, List, [], ◌∷◌, refl}
use Rattle.std.specs.Coded.{Coded, code_by, coded_list}
use Rattle.std.proofs.Common.{ap, ◌∙◌}
use Rattle.ss_expr.specs.Tree.{Tree, leaf, unary, binary}
use Rattle.ss_expr.specs.declared.atom.Atom.{Atom}
use Rattle.ss_expr.specs.declared.atom.Atom.TheVariants as atom
use Rattle.ss_expr.specs.declared.operators.UnaryOp.{UnaryOp}
use Rattle.ss_expr.specs.declared.operators.BinaryOp.{BinaryOp}

-- a node without its sides
pub data Mark : Type 0 where
  atom_mark : ℕ → Atom → Mark
  unary_mark : UnaryOp → ℕ → Mark
  binary_mark : BinaryOp → ℕ → Mark

-- a tree's marks, in front of others
abbrev pub marks : Tree → List Mark → List Mark
marks (leaf at a) rest = atom_mark at a ∷ rest
marks (unary op at e) rest = unary_mark op at ∷ marks e rest
marks (binary op at l r) rest = binary_mark op at ∷ marks l (marks r rest)

abbrev pub under_unary : UnaryOp → ℕ → List Tree → List Tree
under_unary op at (e ∷ es) = unary op at e ∷ es
under_unary op at [] = []

abbrev pub under_binary : BinaryOp → ℕ → List Tree → List Tree
under_binary op at (l ∷ r ∷ es) = binary op at l r ∷ es
under_binary op at _ = []

-- the trees that marks spell, one behind the other
abbrev pub trees : List Mark → List Tree
trees [] = []
trees (atom_mark at a ∷ rest) = leaf at a ∷ trees rest
trees (unary_mark op at ∷ rest) = under_unary op at (trees rest)
trees (binary_mark op at ∷ rest) = under_binary op at (trees rest)

abbrev pub first_tree : List Tree → Tree
first_tree (e ∷ es) = e
first_tree [] = leaf 0 atom.Start

pub trees-marks : (e : Tree) (rest : List Mark) → trees (marks e rest) ≡ e ∷ trees rest
trees-marks (leaf at a) rest = refl
trees-marks (unary op at e) rest = ap (under_unary op at) (trees-marks e rest)
trees-marks (binary op at l r) rest =
    ap (under_binary op at) (trees-marks l (marks r rest) ∙ ap (λ es. l ∷ es) (trees-marks r rest))

abbrev pub tree_code : Coded Mark → Coded Tree
tree_code code =
    code_by (List Mark) (coded_list code) (λ e. marks e []) (λ ms. first_tree (trees ms))
    (λ e. ap first_tree (trees-marks e []))
