-- The laws of the grammar.
use Rattle.std.proofs.Common.{◌≡◌, ◌≤◌, Ok, Result, refl, sym, ◌∙◌, arith, le_trans}
use Rattle.ss_expr.specs.Grammar.{Form, single, bracketed, prefixed, joined, form_binding, IsFormed, tree_of_form}
use Rattle.ss_expr.specs.Laws.{OneExpression, IsClosed, HasAllBrackets, BracketsKeepTheTree}
use Rattle.ss_expr.specs.Tree.{Tree}
use Rattle.ss_expr.specs.declared.fault.ExprFault.{ExprFault}
use Rattle.ss_expr.proofs.Exact.{expression_is_read}
use Rattle.ss_expr.proofs.Sound.{unary-le-6, right-le-6, left-le-7}

pub one_expression_only : OneExpression
one_expression_only text e g first second =
    let both : ◌≡◌ {A = Result Tree ExprFault} (Ok e) (Ok g) = sym (expression_is_read text e first) ∙ expression_is_read text g second in
    cc

closed_binds : (f : Form) → IsClosed f → 7 ≤ form_binding f
closed_binds (single at atom) h = omega arith
closed_binds (bracketed from f to) h = omega arith
closed_binds (prefixed op at f) h = absurd h
closed_binds (joined op at l r) h = absurd h

pub all_formed : (f : Form) → HasAllBrackets f → IsFormed f
all_formed (single at atom) h = tt
all_formed (bracketed from f to) h = all_formed f h
all_formed (prefixed op at f) h =
    let tight = closed_binds f h.0 in
    let low = unary-le-6 op in
    (omega (arith, tight, low), all_formed f h.1)
all_formed (joined op at l r) h =
    let left = closed_binds l h.0 in
    let right = closed_binds r h.1 in
    let low = left-le-7 op in
    let lower = right-le-6 op in
    (le_trans low left, omega (arith, right, lower), all_formed l h.2, all_formed r h.3)

pub brackets_keep : BracketsKeepTheTree
brackets_keep text f brackets within short unbroken printed =
    expression_is_read text (tree_of_form f) (record {
      short = short;
      unbroken = unbroken;
      spelled = record { form = f; of = record { formed = all_formed f brackets; within = within; printed = printed }; tree = refl };
    })
