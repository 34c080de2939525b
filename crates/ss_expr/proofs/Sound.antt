-- What the reader took is the beginning of a form, and a whole form where it finishes.
use Rattle.std.proofs.Common.{if◌then◌else◌, ◌≡◌, ℕ, ◌+◌, ◌≤◌, Bool, true, false, List, [], ◌∷◌, ◌++◌, Some, Result, Ok, Err, nat_le, nat_lt, refl, ap, sym, subst, ◌∙◌, arith, append_assoc, append-nil, zero-le, le_trans, le_refl}
use Rattle.std.proofs.lemmas.Bool.{cond-true, cond-false, ltb-true, leb-true}
use Rattle.ss_expr.specs.Grammar.{Form, single, bracketed, prefixed, joined, unary_token, print, tree_of_form, unary_binding, binding, left_binding, right_binding, form_binding, IsFormed, levels, Begins, Spells}
use Rattle.ss_expr.specs.Reading.{wanted, open_levels, wanting, holding, close, deepen, take_minus, take_operand, take_operator, put_operator, close_bracket, step, ◌>>=◌, fault_at, run, tree_if_complete, finish, start}
use Rattle.ss_expr.specs.Tree.{Tree, leaf, unary, binary}
use Rattle.ss_expr.specs.declared.atom.Atom.TheVariants as atom
use Rattle.ss_expr.specs.declared.operators.UnaryOp.{UnaryOp}
use Rattle.ss_expr.specs.declared.operators.UnaryOp.TheVariants as unary_op
use Rattle.ss_expr.specs.declared.operators.BinaryOp.{BinaryOp}
use Rattle.ss_expr.specs.declared.operators.BinaryOp.TheVariants.{Connect, Compare, Compute}
use Rattle.ss_expr.specs.declared.operators.Connective.TheVariants.{Or, And}
use Rattle.ss_expr.specs.declared.operators.Arithmetic.TheVariants.{Add, Subtract, Multiply, Divide, Remainder}
use Rattle.ss_expr.specs.declared.fault.ExprWhy.{ExprWhy}
use Rattle.ss_expr.specs.declared.fault.ExprWhy.TheVariants.{TooDeep, Unexpected}
use Rattle.ss_expr.specs.declared.fault.ExprFault.{ExprFault}
use Rattle.ss_expr.specs.declared.parser.Parser.{Parser}
use Rattle.ss_expr.specs.declared.frame.Frame.{Frame}
use Rattle.ss_expr.specs.declared.frame.Frame.TheVariants.{Open, Prefix, Left}
use Rattle.ss_expr.specs.declared.token.Token.{Token}
use Rattle.ss_expr.specs.declared.token.Token.TheVariants as token
use Rattle.ss_expr.specs.declared.token.Placed.{Placed}

-- a frame as it is written
pub data Part : Type 0 where
  bracket_part : ℕ → Part
  prefix_part : UnaryOp → ℕ → Part
  left_part : BinaryOp → ℕ → Form → Part

abbrev pub frames_of : List Part → List Frame
frames_of [] = []
frames_of (bracket_part at ∷ below) = Open ∷ frames_of below
frames_of (prefix_part op at ∷ below) = Prefix op at ∷ frames_of below
frames_of (left_part op at l ∷ below) = Left op at (tree_of_form l) ∷ frames_of below

abbrev pub opener : ℕ → Placed
opener at = record { at = at; token = token.Open }

abbrev pub closer : ℕ → Placed
closer at = record { at = at; token = token.Close }

abbrev pub front_sign : UnaryOp → ℕ → Placed
front_sign op at = record { at = at; token = unary_token op }

abbrev pub between_sign : BinaryOp → ℕ → Placed
between_sign op at = record { at = at; token = token.Operator op }

-- the tokens of open frames
abbrev pub spelled : List Part → List Placed
spelled [] = []
spelled (bracket_part at ∷ below) = spelled below ++ opener at ∷ []
spelled (prefix_part op at ∷ below) = spelled below ++ front_sign op at ∷ []
spelled (left_part op at l ∷ below) = spelled below ++ (print l ++ between_sign op at ∷ [])

-- each frame may stand on those below it
abbrev pub Stands : ℕ → List Part → Type 0
Stands most [] = Unit {0}
Stands most (bracket_part at ∷ below) = Stands most below
Stands most (prefix_part op at ∷ below) = (wanted (frames_of below) ≤ unary_binding op) × Stands most below
Stands most (left_part op at l ∷ below) = (wanted (frames_of below) ≤ binding op) × (left_binding op ≤ form_binding l) × (open_levels (frames_of below) + levels l ≤ most) × IsFormed l × Stands most below

-- the tokens are those of the frames and of an operand behind them
pub record Held (most : ℕ) (tokens : List Placed) (parts : List Part) (f : Form) (least : ℕ) : Type 0 where
  pub stands : Stands most parts
  pub formed : IsFormed f
  pub fits : wanted (frames_of parts) ≤ form_binding f
  pub tight : least ≤ form_binding f
  pub within : open_levels (frames_of parts) + levels f ≤ most
  pub spelt : spelled parts ++ print f ≡ tokens

pub record Closed (most : ℕ) (tokens : List Placed) (stack : List Frame) (e : Tree) (least : ℕ) : Type 0 where
  pub parts : List Part
  pub form : Form
  pub is : close stack least e ≡ holding (frames_of parts) (tree_of_form form)
  pub held : Held most tokens parts form least

closes_prefix : {most : ℕ} {tokens : List Placed} {op : UnaryOp} {at : ℕ} {below : List Part} {f : Form} {least : ℕ} → Held most tokens (prefix_part op at ∷ below) f least → least ≤ unary_binding op → Held most tokens below (prefixed op at f) least
closes_prefix {most} {tokens} {op} {at} {below} {f} {least} h le = record {
  stands = h.stands.1;
  formed = (h.fits, h.formed);
  fits = h.stands.0;
  tight = le;
  within = omega (arith, h.within);
  spelt = sym (append_assoc (spelled below) (front_sign op at ∷ []) (print f)) ∙ h.spelt;
}

closes_left : {most : ℕ} {tokens : List Placed} {op : BinaryOp} {at : ℕ} {l : Form} {below : List Part} {f : Form} {least : ℕ} → Held most tokens (left_part op at l ∷ below) f least → least ≤ binding op → Held most tokens below (joined op at l f) least
closes_left {most} {tokens} {op} {at} {l} {below} {f} {least} h le = record {
  stands = h.stands.4;
  formed = (h.stands.1, h.fits, h.stands.3, h.formed);
  fits = h.stands.0;
  tight = le;
  within = omega (arith, h.within, h.stands.2);
  spelt = sym (append_assoc (spelled below) (print l ++ between_sign op at ∷ []) (print f) ∙ ap (λ (ts : List Placed). spelled below ++ ts) (append_assoc (print l) (between_sign op at ∷ []) (print f))) ∙ h.spelt;
}

prefix_closed : (most : ℕ) (tokens : List Placed) (op : UnaryOp) (at : ℕ) (below : List Part) (f : Form) (least : ℕ) (b : Bool) → nat_le least (unary_binding op) ≡ b
    → Held most tokens (prefix_part op at ∷ below) f least
    → (least ≤ unary_binding op → Closed most tokens (frames_of below) (unary op at (tree_of_form f)) least)
    → Closed most tokens (Prefix op at ∷ frames_of below) (tree_of_form f) least
prefix_closed most tokens op at below f least true e h next =
    let r = next (leb-true least (unary_binding op) e) in
    record { parts = r.parts; form = r.form; is = cond-true (nat_le least (unary_binding op)) (close (frames_of below) least (unary op at (tree_of_form f))) (holding (Prefix op at ∷ frames_of below) (tree_of_form f)) e ∙ r.is; held = r.held }
prefix_closed most tokens op at below f least false e h next =
    record { parts = prefix_part op at ∷ below; form = f; is = cond-false (nat_le least (unary_binding op)) (close (frames_of below) least (unary op at (tree_of_form f))) (holding (Prefix op at ∷ frames_of below) (tree_of_form f)) e; held = h }

left_closed : (most : ℕ) (tokens : List Placed) (op : BinaryOp) (at : ℕ) (l : Form) (below : List Part) (f : Form) (least : ℕ) (b : Bool) → nat_le least (binding op) ≡ b
    → Held most tokens (left_part op at l ∷ below) f least
    → (least ≤ binding op → Closed most tokens (frames_of below) (binary op at (tree_of_form l) (tree_of_form f)) least)
    → Closed most tokens (Left op at (tree_of_form l) ∷ frames_of below) (tree_of_form f) least
left_closed most tokens op at l below f least true e h next =
    let r = next (leb-true least (binding op) e) in
    record { parts = r.parts; form = r.form; is = cond-true (nat_le least (binding op)) (close (frames_of below) least (binary op at (tree_of_form l) (tree_of_form f))) (holding (Left op at (tree_of_form l) ∷ frames_of below) (tree_of_form f)) e ∙ r.is; held = r.held }
left_closed most tokens op at l below f least false e h next =
    record { parts = left_part op at l ∷ below; form = f; is = cond-false (nat_le least (binding op)) (close (frames_of below) least (binary op at (tree_of_form l) (tree_of_form f))) (holding (Left op at (tree_of_form l) ∷ frames_of below) (tree_of_form f)) e; held = h }

-- closing frames keeps the tokens
pub close-held : (parts : List Part) (f : Form) (least most : ℕ) (tokens : List Placed) → Held most tokens parts f least → Closed most tokens (frames_of parts) (tree_of_form f) least
close-held [] f least most tokens h = record { parts = []; form = f; is = refl; held = h }
close-held (bracket_part at ∷ below) f least most tokens h = record { parts = bracket_part at ∷ below; form = f; is = refl; held = h }
close-held (prefix_part op at ∷ below) f least most tokens h =
    prefix_closed most tokens op at below f least (nat_le least (unary_binding op)) refl h (λ le. close-held below (prefixed op at f) least most tokens (closes_prefix h le))
close-held (left_part op at l ∷ below) f least most tokens h =
    left_closed most tokens op at l below f least (nat_le least (binding op)) refl h (λ le. close-held below (joined op at l f) least most tokens (closes_left h le))

-- the tokens that were taken, and what the reader made of them
pub data Reached (most : ℕ) (tokens : List Placed) : Parser → Type 0 where
  wants : (parts : List Part) → Stands most parts → open_levels (frames_of parts) ≤ most → spelled parts ≡ tokens → Reached most tokens (wanting (frames_of parts))
  holds : (parts : List Part) (f : Form) → Held most tokens parts f 7 → Reached most tokens (holding (frames_of parts) (tree_of_form f))

guarded : {A E : Type 0} (b : Bool) (x y : A) (e : E) → (if b then Ok x else Err e) ≡ Ok y → (b ≡ true) × (x ≡ y)
guarded true x y e h = (refl, cc)
guarded false x y e h = cc

guarded_step : {A E : Type 0} (b : Bool) (r : Result A E) (y : A) (e : E) → (if b then r else Err e) ≡ Ok y → (b ≡ true) × (r ≡ Ok y)
guarded_step true r y e h = (refl, h)
guarded_step false r y e h = cc

deepened : {most : ℕ} {stack : List Frame} {frame : Frame} {q : Parser} → deepen most stack frame ≡ Ok q → (open_levels stack + 1 ≤ most) × (wanting (frame ∷ stack) ≡ q)
deepened {most} {stack} {frame} {q} h =
    let g = guarded (nat_lt (open_levels stack) most) (wanting (frame ∷ stack)) q TooDeep h in
    let low = ltb-true (open_levels stack) most g.0 in
    (omega (arith, low), g.1)

along : {most : ℕ} {tokens : List Placed} {p q : Parser} → p ≡ q → Reached most tokens p → Reached most tokens q
along {most} {tokens} e r = subst (λ (x : Parser). Reached most tokens x) e r

took_minus : (most : ℕ) (parts : List Part) (at : ℕ) (op : BinaryOp) (q : Parser) → Stands most parts → open_levels (frames_of parts) ≤ most → wanted (frames_of parts) ≤ 6
    → take_minus most (frames_of parts) at op ≡ Ok q → Reached most (spelled parts ++ between_sign op at ∷ []) q
took_minus most parts at (Compute Subtract) q stands within low h =
    let d = deepened h in
    along d.1 (wants (prefix_part unary_op.Negate at ∷ parts) (low, stands) d.0 refl)
took_minus most parts at (Connect op) q stands within low h = cc
took_minus most parts at (Compare op) q stands within low h = cc
took_minus most parts at (Compute Add) q stands within low h = cc
took_minus most parts at (Compute Multiply) q stands within low h = cc
took_minus most parts at (Compute Divide) q stands within low h = cc
took_minus most parts at (Compute Remainder) q stands within low h = cc

pub unary-le-6 : (op : UnaryOp) → unary_binding op ≤ 6
unary-le-6 unary_op.Not = omega arith
unary-le-6 unary_op.Negate = omega arith

pub right-le-6 : (op : BinaryOp) → right_binding op ≤ 6
right-le-6 (Connect Or) = omega arith
right-le-6 (Connect And) = omega arith
right-le-6 (Compare op) = omega arith
right-le-6 (Compute Add) = omega arith
right-le-6 (Compute Subtract) = omega arith
right-le-6 (Compute Multiply) = omega arith
right-le-6 (Compute Divide) = omega arith
right-le-6 (Compute Remainder) = omega arith

pub left-le-7 : (op : BinaryOp) → left_binding op ≤ 7
left-le-7 (Connect Or) = omega arith
left-le-7 (Connect And) = omega arith
left-le-7 (Compare op) = omega arith
left-le-7 (Compute Add) = omega arith
left-le-7 (Compute Subtract) = omega arith
left-le-7 (Compute Multiply) = omega arith
left-le-7 (Compute Divide) = omega arith
left-le-7 (Compute Remainder) = omega arith

pub wanted-le-6 : (stack : List Frame) → wanted stack ≤ 6
wanted-le-6 [] = omega arith
wanted-le-6 (Open ∷ below) = omega arith
wanted-le-6 (Prefix op at ∷ below) = unary-le-6 op
wanted-le-6 (Left op at l ∷ below) = right-le-6 op

took_operand : (most : ℕ) (parts : List Part) (at : ℕ) (t : Token) (q : Parser) → Stands most parts → open_levels (frames_of parts) ≤ most
    → take_operand most (frames_of parts) at t ≡ Ok q → Reached most (spelled parts ++ record { at = at; token = t } ∷ []) q
took_operand most parts at (token.Atom a) q stands within h =
    let low = wanted-le-6 (frames_of parts) in
    let held : Held most (spelled parts ++ record { at = at; token = token.Atom a } ∷ []) parts (single at a) 7 = record {
      stands = stands;
      formed = tt;
      fits = omega (arith, low);
      tight = le_refl 7;
      within = omega (arith, within);
      spelt = refl;
    } in
    let same : holding (frames_of parts) (leaf at a) ≡ q = cc in
    along same (holds parts (single at a) held)
took_operand most parts at token.Open q stands within h =
    let d = deepened h in
    along d.1 (wants (bracket_part at ∷ parts) stands d.0 refl)
took_operand most parts at token.Not q stands within h =
    let g = guarded_step (nat_le (wanted (frames_of parts)) 2) (deepen most (frames_of parts) (Prefix unary_op.Not at)) q Unexpected h in
    let d = deepened g.1 in
    along d.1 (wants (prefix_part unary_op.Not at ∷ parts) (leb-true (wanted (frames_of parts)) 2 g.0, stands) d.0 refl)
took_operand most parts at (token.Operator op) q stands within h = took_minus most parts at op q stands within (wanted-le-6 (frames_of parts)) h
took_operand most parts at token.Close q stands within h = cc

loosened : {most : ℕ} {tokens : List Placed} {parts : List Part} {f : Form} (least : ℕ) → least ≤ 7 → Held most tokens parts f 7 → Held most tokens parts f least
loosened least le h = record { stands = h.stands; formed = h.formed; fits = h.fits; tight = le_trans le h.tight; within = h.within; spelt = h.spelt }

put_behind : (most : ℕ) (tokens : List Placed) (op : BinaryOp) (at : ℕ) (parts : List Part) (f : Form) (q : Parser) → Held most tokens parts f (left_binding op)
    → put_operator op at (frames_of parts) (Some (tree_of_form f)) ≡ Ok q → Reached most (tokens ++ between_sign op at ∷ []) q
put_behind most tokens op at parts f q h e =
    let g = guarded (nat_le (wanted (frames_of parts)) (binding op)) (wanting (Left op at (tree_of_form f) ∷ frames_of parts)) q Unexpected e in
    let low = leb-true (wanted (frames_of parts)) (binding op) g.0 in
    let same = sym (append_assoc (spelled parts) (print f) (between_sign op at ∷ [])) ∙ ap (λ (ts : List Placed). ts ++ between_sign op at ∷ []) h.spelt in
    along g.1 (wants (left_part op at f ∷ parts) (low, h.tight, h.within, h.formed, h.stands) (omega (arith, h.within)) same)

closed_bracket : (most : ℕ) (tokens : List Placed) (at : ℕ) (parts : List Part) (f : Form) (q : Parser) → Held most tokens parts f 0
    → close_bracket (frames_of parts) (Some (tree_of_form f)) ≡ Ok q → Reached most (tokens ++ closer at ∷ []) q
closed_bracket most tokens at [] f q h e = cc
closed_bracket most tokens at (prefix_part op from ∷ below) f q h e = cc
closed_bracket most tokens at (left_part op from l ∷ below) f q h e = cc
closed_bracket most tokens at (bracket_part from ∷ below) f q h e =
    let low = wanted-le-6 (frames_of below) in
    let held : Held most (tokens ++ closer at ∷ []) below (bracketed from f at) 7 = record {
      stands = h.stands;
      formed = h.formed;
      fits = omega (arith, low);
      tight = le_refl 7;
      within = omega (arith, h.within);
      spelt = sym (append_assoc (spelled below) (opener from ∷ print f) (closer at ∷ []) ∙ refl) ∙ ap (λ (ts : List Placed). ts ++ closer at ∷ []) (sym (append_assoc (spelled below) (opener from ∷ []) (print f)) ∙ h.spelt);
    } in
    let same : holding (frames_of below) (tree_of_form f) ≡ q = cc in
    along same (holds below (bracketed from f at) held)

took_operator : (most : ℕ) (tokens : List Placed) (parts : List Part) (f : Form) (at : ℕ) (t : Token) (q : Parser) → Held most tokens parts f 7
    → take_operator (frames_of parts) (tree_of_form f) at t ≡ Ok q → Reached most (tokens ++ record { at = at; token = t } ∷ []) q
took_operator most tokens parts f at (token.Operator op) q h e =
    let c = close-held parts f (left_binding op) most tokens (loosened (left_binding op) (left-le-7 op) h) in
    put_behind most tokens op at c.parts c.form q c.held (sym (ap (λ (p : Parser). put_operator op at p.stack p.tree) c.is) ∙ e)
took_operator most tokens parts f at token.Close q h e =
    let c = close-held parts f 0 most tokens (loosened 0 zero-le h) in
    closed_bracket most tokens at c.parts c.form q c.held (sym (ap (λ (p : Parser). close_bracket p.stack p.tree) c.is) ∙ e)
took_operator most tokens parts f at (token.Atom a) q h e = cc
took_operator most tokens parts f at token.Open q h e = cc
took_operator most tokens parts f at token.Not q h e = cc

pub step-reached : (most : ℕ) (tokens : List Placed) (t : Placed) {p q : Parser} → Reached most tokens p → step most p t ≡ Ok q → Reached most (tokens ++ t ∷ []) q
step-reached most tokens t {p} {q} (wants parts stands within spelt) h =
    subst (λ (ts : List Placed). Reached most (ts ++ t ∷ []) q) spelt (took_operand most parts t.at t.token q stands within h)
step-reached most tokens t {p} {q} (holds parts f held) h = took_operator most tokens parts f t.at t.token q held h

pub stepped : {B : Type 0} (at : ℕ) (r : Result Parser ExprWhy) (g : Parser → Result B ExprFault) (y : B) → (fault_at at r >>= g) ≡ Ok y → (p : Parser) × (r ≡ Ok p) × (g p ≡ Ok y)
stepped at (Ok p) g y h = (p, refl, h)
stepped at (Err why) g y h = cc

pub run-reached : (ts : List Placed) (most : ℕ) (front : List Placed) (p q : Parser) → Reached most front p → run most ts p ≡ Ok q → Reached most (front ++ ts) q
run-reached [] most front p q r h =
    let same : p ≡ q = cc in
    subst (λ (xs : List Placed). Reached most xs q) (sym (append-nil front)) (along same r)
run-reached (t ∷ ts) most front p q r h =
    let s = stepped t.at (step most p t) (run most ts) q h in
    subst (λ (xs : List Placed). Reached most xs q) (append_assoc front (t ∷ []) ts)
    (run-reached ts most (front ++ t ∷ []) s.0 q (step-reached most front t r s.1) s.2)

-- nothing is taken at the start
pub start-reached : (most : ℕ) → Reached most [] start
start-reached most = wants [] tt zero-le refl

-- the form that open frames make with an operand
abbrev sealed : List Part → Form → Form
sealed [] f = f
sealed (bracket_part at ∷ below) f = sealed below (bracketed at f 0)
sealed (prefix_part op at ∷ below) f = sealed below (prefixed op at f)
sealed (left_part op at l ∷ below) f = sealed below (joined op at l f)

abbrev closers : List Part → List Placed
closers [] = []
closers (bracket_part at ∷ below) = closer 0 ∷ closers below
closers (prefix_part op at ∷ below) = closers below
closers (left_part op at l ∷ below) = closers below

print-sealed : (parts : List Part) (f : Form) → print (sealed parts f) ≡ (spelled parts ++ print f) ++ closers parts
print-sealed [] f = sym (append-nil (print f))
print-sealed (bracket_part at ∷ below) f = print-sealed below (bracketed at f 0) ∙ simp append_assoc
print-sealed (prefix_part op at ∷ below) f = print-sealed below (prefixed op at f) ∙ simp append_assoc
print-sealed (left_part op at l ∷ below) f = print-sealed below (joined op at l f) ∙ simp append_assoc

sealed_formed : (parts : List Part) (most : ℕ) (f : Form) → Stands most parts → IsFormed f → wanted (frames_of parts) ≤ form_binding f → IsFormed (sealed parts f)
sealed_formed [] most f stands formed fits = formed
sealed_formed (bracket_part at ∷ below) most f stands formed fits =
    let low = wanted-le-6 (frames_of below) in
    sealed_formed below most (bracketed at f 0) stands formed (omega (arith, low))
sealed_formed (prefix_part op at ∷ below) most f stands formed fits = sealed_formed below most (prefixed op at f) stands.1 (fits, formed) stands.0
sealed_formed (left_part op at l ∷ below) most f stands formed fits = sealed_formed below most (joined op at l f) stands.4 (stands.1, fits, stands.3, formed) stands.0

levels-sealed : (parts : List Part) (most : ℕ) (f : Form) → Stands most parts → open_levels (frames_of parts) + levels f ≤ most → levels (sealed parts f) ≤ most
levels-sealed [] most f stands within = omega arith
levels-sealed (bracket_part at ∷ below) most f stands within = levels-sealed below most (bracketed at f 0) stands (omega arith)
levels-sealed (prefix_part op at ∷ below) most f stands within = levels-sealed below most (prefixed op at f) stands.1 (omega arith)
levels-sealed (left_part op at l ∷ below) most f stands within = levels-sealed below most (joined op at l f) stands.4 (omega (arith, stands.2))

-- some form begins with the tokens that were taken
pub reached-begins : (most : ℕ) (tokens : List Placed) {p : Parser} → Reached most tokens p → Begins most tokens
reached-begins most tokens (wants parts stands within spelt) =
    let low = wanted-le-6 (frames_of parts) in
    let last = single 0 atom.A in (
      print last ++ closers parts,
      sealed parts last,
      record {
        formed = sealed_formed parts most last stands tt (omega (arith, low));
        within = levels-sealed parts most last stands (omega (arith, within));
        printed = print-sealed parts last ∙ append_assoc (spelled parts) (print last) (closers parts) ∙ ap (λ (ts : List Placed). ts ++ (print last ++ closers parts)) spelt;
      },
    )
reached-begins most tokens (holds parts f held) = (
  closers parts,
  sealed parts f,
  record {
    formed = sealed_formed parts most f held.stands held.formed held.fits;
    within = levels-sealed parts most f held.stands held.within;
    printed = print-sealed parts f ∙ ap (λ (ts : List Placed). ts ++ closers parts) held.spelt;
  },
)

-- the tokens that were taken spell the tree where the reader finishes
whole_form : (most size : ℕ) (tokens : List Placed) (parts : List Part) (f : Form) (e : Tree) → Held most tokens parts f 0 → tree_if_complete (frames_of parts) (Some (tree_of_form f)) size ≡ Ok e → Spells most tokens e
whole_form most size tokens [] f e held h = record { form = f; of = record { formed = held.formed; within = omega (arith, held.within); printed = held.spelt }; tree = cc }
whole_form most size tokens (bracket_part at ∷ below) f e held h = cc
whole_form most size tokens (prefix_part op at ∷ below) f e held h = cc
whole_form most size tokens (left_part op at l ∷ below) f e held h = cc

pub reached-whole : (most size : ℕ) (tokens : List Placed) {p : Parser} (e : Tree) → Reached most tokens p → finish size p ≡ Ok e → Spells most tokens e
reached-whole most size tokens e (wants parts stands within spelt) h = cc
reached-whole most size tokens e (holds parts f held) h =
    let c = close-held parts f 0 most tokens (loosened 0 zero-le held) in
    whole_form most size tokens c.parts c.form e c.held (sym (ap (λ (p : Parser). tree_if_complete p.stack p.tree size) c.is) ∙ h)
