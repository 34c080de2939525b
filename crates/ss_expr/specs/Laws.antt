-- What follows from the grammar.
use Rattle.std.specs.Prelude.{◌≡◌, ◌≤◌, ℕ, length, List, None, Ok}
use Rattle.ss_expr.specs.Expressions.{scanned, IsExpression}
use Rattle.ss_expr.specs.Grammar.{Form, single, bracketed, prefixed, joined, print, tree_of_form, levels}
use Rattle.ss_expr.specs.Limits.{most_bytes, most_levels}
use Rattle.ss_expr.specs.Printing.{AllWritable, text_of, unplaced, with_brackets}
use Rattle.ss_expr.specs.Reading.{expression_of}
use Rattle.ss_expr.specs.Tree.{Tree}

-- a text is that of one expression at most
abbrev pub OneExpression : Type 0
OneExpression = (text : List ℕ) (e g : Tree) → IsExpression text e → IsExpression text g → e ≡ g

-- an atom, or a form in brackets
abbrev pub IsClosed : Form → Type 0
IsClosed (single at atom) = Unit {0}
IsClosed (bracketed from f to) = Unit {0}
IsClosed (prefixed op at f) = ⊥
IsClosed (joined op at l r) = ⊥

-- each operand is an atom or in brackets
abbrev pub HasAllBrackets : Form → Type 0
HasAllBrackets (single at atom) = Unit {0}
HasAllBrackets (bracketed from f to) = HasAllBrackets f
HasAllBrackets (prefixed op at f) = IsClosed f × HasAllBrackets f
HasAllBrackets (joined op at l r) = IsClosed l × IsClosed r × HasAllBrackets l × HasAllBrackets r

-- a tree that is written with all its brackets is read as that tree, whatever its operators
abbrev pub BracketsKeepTheTree : Type 0
BracketsKeepTheTree =
    (text : List ℕ) (f : Form)
    → HasAllBrackets f → levels f ≤ most_levels → length text ≤ most_bytes
    → (scanned text).fault ≡ None → print f ≡ (scanned text).tokens
    → expression_of text ≡ Ok (tree_of_form f)

-- A tree that is written out with all its brackets is read as that tree, at the places that it now has. Its numbers are
-- those that a token has, and so are its texts.
abbrev pub PrintedIsRead : Type 0
PrintedIsRead =
    (e : Tree) → AllWritable e → levels (with_brackets e) ≤ most_levels → length (text_of e) ≤ most_bytes
    → (g : Tree) × (expression_of (text_of e) ≡ Ok g) × (unplaced g ≡ unplaced e)
