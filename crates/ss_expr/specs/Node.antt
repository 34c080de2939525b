-- The root of an expression as a tree: where its sides lie in memory is left out.
use Rattle.ss_expr.specs.Tree.{Tree, leaf, unary, binary}
use Rattle.ss_expr.specs.declared.expr.Node.{Node}
use Rattle.ss_expr.specs.declared.expr.Node.TheVariants.{Leaf, Unary, Binary}

abbrev pub tree_of_node : Node → Tree
tree_of_node (Leaf at atom) = leaf at atom
tree_of_node (Unary op at e) = unary op at e.value
tree_of_node (Binary op at l r) = binary op at l.value r.value
