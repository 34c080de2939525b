-- Expressions written out.
use Rattle.std.specs.Prelude.{◌≡◌, ◌<◌, ◌^◌, ℕ, ℤ, pos, negsuc, true, List, [], ◌∷◌, ◌++◌, Some, codes}
use Rattle.std.specs.Fmt.{decimal}
use Rattle.std.specs.List.{list_all}
use Rattle.ss_elem.specs.Key.{key_of, key_text}
use Rattle.ss_expr.specs.Grammar.{Form, single, bracketed, prefixed, joined, print}
use Rattle.ss_expr.specs.Tokens.{is_inside_quotes}
use Rattle.ss_expr.specs.Tree.{Tree, leaf, unary, binary}
use Rattle.ss_expr.specs.declared.atom.Atom.{Atom}
use Rattle.ss_expr.specs.declared.atom.Atom.TheVariants as atom
use Rattle.ss_expr.specs.declared.operators.BinaryOp.{BinaryOp}
use Rattle.ss_expr.specs.declared.operators.BinaryOp.TheVariants.{Connect, Compare, Compute}
use Rattle.ss_expr.specs.declared.operators.Connective.TheVariants.{Or, And}
use Rattle.ss_expr.specs.declared.operators.Comparison.TheVariants as compare
use Rattle.ss_expr.specs.declared.operators.Arithmetic.TheVariants.{Add, Subtract, Multiply, Divide, Remainder}
use Rattle.ss_expr.specs.declared.token.Token.{Token}
use Rattle.ss_expr.specs.declared.token.Token.TheVariants as token
use Rattle.ss_expr.specs.declared.token.Placed.{Placed}

-- no token is a number below zero
abbrev pub number_text : ℤ → List ℕ
number_text (pos n) = decimal n
number_text (negsuc n) = []

abbrev pub atom_text : Atom → List ℕ
atom_text (atom.Number z) = number_text z
atom_text (atom.Text key) = 39 ∷ (key_text key ++ 39 ∷ [])
atom_text atom.Start = codes "start"
atom_text atom.End = codes "end"
atom_text atom.Subject = codes "key"
atom_text atom.A = codes "a"
atom_text atom.B = codes "b"
atom_text atom.C = codes "c"
atom_text atom.D = codes "d"

abbrev pub operator_text : BinaryOp → List ℕ
operator_text (Connect Or) = codes "or"
operator_text (Connect And) = codes "and"
operator_text (Compare compare.Equal) = codes "="
operator_text (Compare compare.NotEqual) = codes "!="
operator_text (Compare compare.Less) = codes "<"
operator_text (Compare compare.AtMost) = codes "<="
operator_text (Compare compare.Greater) = codes ">"
operator_text (Compare compare.AtLeast) = codes ">="
operator_text (Compute Add) = codes "+"
operator_text (Compute Subtract) = codes "-"
operator_text (Compute Multiply) = codes "*"
operator_text (Compute Divide) = codes "/"
operator_text (Compute Remainder) = codes "%"

abbrev pub token_text : Token → List ℕ
token_text (token.Atom a) = atom_text a
token_text (token.Operator op) = operator_text op
token_text token.Not = codes "not"
token_text token.Open = codes "("
token_text token.Close = codes ")"

-- tokens without their places
abbrev pub kinds_of : List Placed → List Token
kinds_of [] = []
kinds_of (t ∷ ts) = t.token ∷ kinds_of ts

-- a text of these tokens, with a blank behind each
abbrev pub written : List Token → List ℕ
written [] = []
written (t ∷ ts) = token_text t ++ 32 ∷ written ts

-- a number or a text that some token has: the bytes of a key, none of them a quote
abbrev pub IsWritable : Atom → Type 0
IsWritable (atom.Number (pos n)) = n < 2 ^ 63
IsWritable (atom.Number (negsuc n)) = ⊥
IsWritable (atom.Text key) = (key_of (key_text key) ≡ Some key) × (list_all is_inside_quotes (key_text key) ≡ true)
IsWritable _ = Unit {0}

abbrev pub AllWritable : Tree → Type 0
AllWritable (leaf at a) = IsWritable a
AllWritable (unary op at e) = AllWritable e
AllWritable (binary op at l r) = AllWritable l × AllWritable r

-- a tree with brackets round each operand; the places don't matter
abbrev pub with_brackets : Tree → Form
with_brackets (leaf at a) = single at a
with_brackets (unary op at e) = prefixed op at (bracketed 0 (with_brackets e) 0)
with_brackets (binary op at l r) = joined op at (bracketed 0 (with_brackets l) 0) (bracketed 0 (with_brackets r) 0)

-- the text of a tree, with all its brackets
abbrev pub text_of : Tree → List ℕ
text_of e = written (kinds_of (print (with_brackets e)))

-- a tree without its places
abbrev pub unplaced : Tree → Tree
unplaced (leaf at a) = leaf 0 a
unplaced (unary op at e) = unary op 0 (unplaced e)
unplaced (binary op at l r) = binary op 0 (unplaced l) (unplaced r)
