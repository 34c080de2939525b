-- Each form is read: its tokens lead to its tree.
use Rattle.std.proofs.Common.{if◌then◌else◌, ◌≡◌, ℕ, ◌+◌, ◌<◌, ◌≤◌, List, [], ◌∷◌, ◌++◌, Result, Ok, nat_le, nat_lt, refl, ap, sym, ◌∙◌, arith, append_assoc, append-nil, zero-le, le_trans}
use Rattle.std.proofs.lemmas.Bool.{cond-true, cond-false, lt-ltb, le-leb}
use Rattle.std.proofs.lemmas.Bool.Decides.{nat_tests}
use Rattle.ss_expr.specs.Grammar.{Form, single, bracketed, prefixed, joined, unary_token, print, tree_of_form, unary_binding, binding, left_binding, form_binding, IsFormed, levels, IsFormOf}
use Rattle.ss_expr.specs.Reading.{wanted, open_levels, wanting, holding, close, deepen, put_operator, close_bracket, step, ◌>>=◌, fault_at, run, tree_if_complete, finish, start}
use Rattle.ss_expr.specs.Tree.{Tree, leaf, unary, binary}
use Rattle.ss_expr.specs.declared.operators.UnaryOp.{UnaryOp}
use Rattle.ss_expr.specs.declared.operators.UnaryOp.TheVariants as unary_op
use Rattle.ss_expr.specs.declared.operators.BinaryOp.{BinaryOp}
use Rattle.ss_expr.specs.declared.operators.BinaryOp.TheVariants.{Connect, Compare, Compute}
use Rattle.ss_expr.specs.declared.operators.Connective.TheVariants.{Or, And}
use Rattle.ss_expr.specs.declared.operators.Arithmetic.TheVariants.{Add, Subtract, Multiply, Divide, Remainder}
use Rattle.ss_expr.specs.declared.fault.ExprWhy.{ExprWhy}
use Rattle.ss_expr.specs.declared.parser.Parser.{Parser}
use Rattle.ss_expr.specs.declared.frame.Frame.{Frame}
use Rattle.ss_expr.specs.declared.frame.Frame.TheVariants.{Open, Prefix, Left}
use Rattle.ss_expr.specs.declared.token.Token.TheVariants as token
use Rattle.ss_expr.specs.declared.token.Placed.{Placed}

-- the frames that are left open where a form's last token was read
abbrev pub open_frames : Form → List Frame → List Frame
open_frames (single at atom) stack = stack
open_frames (bracketed from f to) stack = stack
open_frames (prefixed op at f) stack = open_frames f (Prefix op at ∷ stack)
open_frames (joined op at l r) stack = open_frames r (Left op at (tree_of_form l) ∷ stack)

-- the operand that a form ends in
abbrev pub tip : Form → Tree
tip (single at atom) = leaf at atom
tip (bracketed from f to) = tree_of_form f
tip (prefixed op at f) = tip f
tip (joined op at l r) = tip r

if_le : {A : Type 0} (a b : ℕ) (x y : A) → a ≤ b → (if nat_le a b then x else y) ≡ x
if_le a b x y h = cond-true (nat_le a b) x y (le-leb a b h)

if_gt : {A : Type 0} (a b : ℕ) (x y : A) → b < a → (if nat_le a b then x else y) ≡ y
if_gt a b x y h = cond-false (nat_le a b) x y (grind (arith, nat_tests))

binding-le-left : (op : BinaryOp) → binding op ≤ left_binding op
binding-le-left (Connect op) = omega arith
binding-le-left (Compare op) = omega arith
binding-le-left (Compute op) = omega arith

unary_looser : (u : UnaryOp) (op : BinaryOp) → unary_binding u ≤ binding op → unary_binding u < left_binding op
unary_looser unary_op.Not (Connect Or) h = omega arith
unary_looser unary_op.Not (Connect And) h = omega arith
unary_looser unary_op.Not (Compare op) h = omega arith
unary_looser unary_op.Not (Compute Add) h = omega arith
unary_looser unary_op.Not (Compute Subtract) h = omega arith
unary_looser unary_op.Not (Compute Multiply) h = omega arith
unary_looser unary_op.Not (Compute Divide) h = omega arith
unary_looser unary_op.Not (Compute Remainder) h = omega arith
unary_looser unary_op.Negate (Connect Or) h = omega arith
unary_looser unary_op.Negate (Connect And) h = omega arith
unary_looser unary_op.Negate (Compare op) h = omega arith
unary_looser unary_op.Negate (Compute Add) h = omega arith
unary_looser unary_op.Negate (Compute Subtract) h = omega arith
unary_looser unary_op.Negate (Compute Multiply) h = omega arith
unary_looser unary_op.Negate (Compute Divide) h = omega arith
unary_looser unary_op.Negate (Compute Remainder) h = omega arith

-- what a form left open is closed where something binds no tighter than the form
pub close-open_frames : (f : Form) (stack : List Frame) (least : ℕ) → IsFormed f → least ≤ form_binding f → close (open_frames f stack) least (tip f) ≡ close stack least (tree_of_form f)
close-open_frames (single at atom) stack least formed le = refl
close-open_frames (bracketed from f to) stack least formed le = refl
close-open_frames (prefixed op at f) stack least formed le =
    close-open_frames f (Prefix op at ∷ stack) least formed.1 (le_trans le formed.0)
    ∙ if_le least (unary_binding op) (close stack least (unary op at (tree_of_form f))) (holding (Prefix op at ∷ stack) (tree_of_form f)) le
close-open_frames (joined op at l r) stack least formed le =
    close-open_frames r (Left op at (tree_of_form l) ∷ stack) least formed.3 (omega arith)
    ∙ if_le least (binding op) (close stack least (binary op at (tree_of_form l) (tree_of_form r))) (holding (Left op at (tree_of_form l) ∷ stack) (tree_of_form r)) le

-- an operator that fits closes nothing of what wants it
close-stays : (stack : List Frame) (op : BinaryOp) (e : Tree) → wanted stack ≤ binding op → close stack (left_binding op) e ≡ holding stack e
close-stays [] op e h = refl
close-stays (Open ∷ below) op e h = refl
close-stays (Prefix u at ∷ below) op e h =
    if_gt (left_binding op) (unary_binding u) (close below (left_binding op) (unary u at e)) (holding (Prefix u at ∷ below) e) (unary_looser u op h)
close-stays (Left o at l ∷ below) op e h =
    if_gt (left_binding op) (binding o) (close below (left_binding op) (binary o at l e)) (holding (Left o at l ∷ below) e) (omega (arith, binding-le-left op))

pub run-step : (most : ℕ) (t : Placed) (ts : List Placed) (p q : Parser) → step most p t ≡ Ok q → run most (t ∷ ts) p ≡ run most ts q
run-step most t ts p q h = ap (λ (r : Result Parser ExprWhy). fault_at t.at r >>= run most ts) h

deepens : (most : ℕ) (stack : List Frame) (frame : Frame) → open_levels stack < most → deepen most stack frame ≡ Ok (wanting (frame ∷ stack))
deepens most stack frame h = cond-true (nat_lt (open_levels stack) most) _ _ (lt-ltb (open_levels stack) most h)

step-prefix : (op : UnaryOp) (most at : ℕ) (stack : List Frame) → wanted stack ≤ unary_binding op → open_levels stack < most → step most (wanting stack) (record { at = at; token = unary_token op }) ≡ Ok (wanting (Prefix op at ∷ stack))
step-prefix unary_op.Not most at stack fits room = if_le (wanted stack) 2 _ _ fits ∙ deepens most stack (Prefix unary_op.Not at) room
step-prefix unary_op.Negate most at stack fits room = deepens most stack (Prefix unary_op.Negate at) room

step-operator : (op : BinaryOp) (most at : ℕ) (l : Form) (stack : List Frame) → IsFormed l → left_binding op ≤ form_binding l → wanted stack ≤ binding op
    → step most (holding (open_frames l stack) (tip l)) (record { at = at; token = token.Operator op }) ≡ Ok (wanting (Left op at (tree_of_form l) ∷ stack))
step-operator op most at l stack formed tight fits =
    ap (λ (p : Parser). put_operator op at p.stack p.tree) (close-open_frames l stack (left_binding op) formed tight ∙ close-stays stack op (tree_of_form l) fits)
    ∙ if_le (wanted stack) (binding op) _ _ fits

step-close : (most at : ℕ) (f : Form) (stack : List Frame) → IsFormed f → step most (holding (open_frames f (Open ∷ stack)) (tip f)) (record { at = at; token = token.Close }) ≡ Ok (holding stack (tree_of_form f))
step-close most at f stack formed = ap (λ (p : Parser). close_bracket p.stack p.tree) (close-open_frames f (Open ∷ stack) 0 formed zero-le)

-- where an operand that binds as tightly as a form is wanted, the form's tokens are taken
pub run-form : (f : Form) (most : ℕ) (stack : List Frame) (rest : List Placed) → IsFormed f → wanted stack ≤ form_binding f → open_levels stack + levels f ≤ most
    → run most (print f ++ rest) (wanting stack) ≡ run most rest (holding (open_frames f stack) (tip f))
run-form (single at atom) most stack rest formed fits room = refl
run-form (bracketed from f to) most stack rest formed fits room =
    let opener : Placed = record { at = from; token = token.Open } in
    let closer : Placed = record { at = to; token = token.Close } in
    run-step most opener ((print f ++ closer ∷ []) ++ rest) (wanting stack) (wanting (Open ∷ stack)) (deepens most stack Open (omega arith))
    ∙ ap (λ (ts : List Placed). run most ts (wanting (Open ∷ stack))) (append_assoc (print f) (closer ∷ []) rest)
    ∙ run-form f most (Open ∷ stack) (closer ∷ rest) formed zero-le (omega arith)
    ∙ run-step most closer rest (holding (open_frames f (Open ∷ stack)) (tip f)) (holding stack (tree_of_form f)) (step-close most to f stack formed)
run-form (prefixed op at f) most stack rest formed fits room =
    let first : Placed = record { at = at; token = unary_token op } in
    run-step most first (print f ++ rest) (wanting stack) (wanting (Prefix op at ∷ stack)) (step-prefix op most at stack fits (omega arith))
    ∙ run-form f most (Prefix op at ∷ stack) rest formed.1 formed.0 (omega arith)
run-form (joined op at l r) most stack rest formed fits room =
    let between : Placed = record { at = at; token = token.Operator op } in
    let on_top : List Frame = Left op at (tree_of_form l) ∷ stack in
    ap (λ (ts : List Placed). run most ts (wanting stack)) (append_assoc (print l) (between ∷ print r) rest)
    ∙ run-form l most stack (between ∷ (print r ++ rest)) formed.2 (le_trans fits (le_trans (binding-le-left op) formed.0)) (omega arith)
    ∙ run-step most between (print r ++ rest) (holding (open_frames l stack) (tip l)) (wanting on_top) (step-operator op most at l stack formed.2 formed.0 fits)
    ∙ run-form r most on_top rest formed.3 formed.1 (omega arith)

-- a form's tokens are taken from the start on
pub run-whole : (f : Form) (most : ℕ) (tokens : List Placed) → IsFormOf most tokens f → run most tokens start ≡ Ok (holding (open_frames f []) (tip f))
run-whole f most tokens h =
    ap (λ (ts : List Placed). run most ts start) (sym h.printed ∙ sym (append-nil (print f)))
    ∙ run-form f most [] [] h.formed zero-le (omega (arith, h.within))

-- and at their end its tree is there
pub finish-whole : (f : Form) (size : ℕ) → IsFormed f → finish size (holding (open_frames f []) (tip f)) ≡ Ok (tree_of_form f)
finish-whole f size formed = ap (λ (p : Parser). tree_if_complete p.stack p.tree size) (close-open_frames f [] 0 formed zero-le)
