-- A tree that is written out with all its brackets is read as that tree.
use Rattle.std.proofs.Common.{◌≡◌, ◌≤◌, [], ◌∷◌, refl, ap, sym, subst, ◌∙◌}
use Rattle.ss_expr.specs.Expressions.{scanned}
use Rattle.ss_expr.specs.Grammar.{Form, bracketed, print, tree_of_form, unary_token}
use Rattle.ss_expr.specs.Laws.{HasAllBrackets, PrintedIsRead}
use Rattle.ss_expr.specs.Limits.{most_levels}
use Rattle.ss_expr.specs.Printing.{kinds_of, AllWritable, with_brackets, text_of, unplaced}
use Rattle.ss_expr.specs.Tree.{Tree, leaf, unary, binary}
use Rattle.ss_expr.specs.declared.operators.BinaryOp.TheVariants.{Compute}
use Rattle.ss_expr.specs.declared.operators.Arithmetic.TheVariants.{Subtract}
use Rattle.ss_expr.specs.declared.operators.UnaryOp.{UnaryOp}
use Rattle.ss_expr.specs.declared.operators.UnaryOp.TheVariants.{Not, Negate}
use Rattle.ss_expr.specs.declared.token.Token.TheVariants as token
use Rattle.ss_expr.proofs.Exact.{expression_is_read}
use Rattle.ss_expr.proofs.LawFacts.{all_formed}
use Rattle.ss_expr.proofs.Places.{kinds_of-append, moved}
use Rattle.ss_expr.proofs.Written.{Readable, AllReadable, scan_written, atom_readable, operator_readable, not_readable, open_readable, close_readable, all-append}

brackets_all : (e : Tree) → HasAllBrackets (with_brackets e)
brackets_all (leaf at a) = tt
brackets_all (unary op at e) = (tt, brackets_all e)
brackets_all (binary op at l r) = (tt, tt, brackets_all l, brackets_all r)

same_tree : (e : Tree) → tree_of_form (with_brackets e) ≡ e
same_tree (leaf at a) = refl
same_tree (unary op at e) = ap (unary op at) (same_tree e)
same_tree (binary op at l r) = ap (λ (x : Tree). binary op at x (tree_of_form (with_brackets r))) (same_tree l) ∙ ap (binary op at l) (same_tree r)

unary_readable : (op : UnaryOp) → Readable (unary_token op)
unary_readable Not = not_readable
unary_readable Negate = operator_readable (Compute Subtract)

-- in brackets
inside : (f : Form) → AllReadable (kinds_of (print f)) → AllReadable (kinds_of (print (bracketed 0 f 0)))
inside f all =
    subst AllReadable (sym (kinds_of-append (record { at = 0; token = token.Open } ∷ print f) (record { at = 0; token = token.Close } ∷ [])))
    (open_readable, all-append (kinds_of (print f)) (token.Close ∷ []) all (close_readable, tt))

tokens_readable : (e : Tree) → AllWritable e → AllReadable (kinds_of (print (with_brackets e)))
tokens_readable (leaf at a) h = (atom_readable a h, tt)
tokens_readable (unary op at e) h = (unary_readable op, inside (with_brackets e) (tokens_readable e h))
tokens_readable (binary op at l r) h =
    let left = bracketed 0 (with_brackets l) 0 in
    let right = bracketed 0 (with_brackets r) 0 in
    subst AllReadable (sym (kinds_of-append (print left) (record { at = at; token = token.Operator op } ∷ print right)))
    (all-append (kinds_of (print left)) (token.Operator op ∷ kinds_of (print right)) (inside (with_brackets l) (tokens_readable l h.0)) (operator_readable op, inside (with_brackets r) (tokens_readable r h.1)))

pub printed_is_read : PrintedIsRead
printed_is_read e writable within short =
    let f = with_brackets e in
    let read = scan_written (kinds_of (print f)) (tokens_readable e writable) 0 in
    let m = moved f (scanned (text_of e)).tokens read.0 in (
      tree_of_form m.form,
      expression_is_read (text_of e) (tree_of_form m.form) (record {
        short = short;
        unbroken = read.1;
        spelled = record {
          form = m.form;
          of = record { formed = m.formed (all_formed f (brackets_all e)); within = subst (λ n. n ≤ most_levels) (sym m.deep) within; printed = m.printed };
          tree = refl;
        };
      }),
      m.tree ∙ ap unplaced (same_tree e),
    )
