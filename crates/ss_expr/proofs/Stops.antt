-- Where the reader refuses a token: what it says of all expressions.
use Rattle.std.proofs.Common.{if◌then◌else◌, ◌≡◌, ℕ, ◌+◌, ◌≤◌, Bool, true, false, List, [], ◌∷◌, ◌++◌, Option, Some, None, Result, Ok, Err, nat_le, nat_lt, refl, ap, sym, ◌∙◌, arith, append_assoc}
use Rattle.std.proofs.lemmas.Bool.{cond-true, lt-ltb, ltb-true}
use Rattle.std.proofs.lemmas.Bool.Decides.{nat_tests}
use Rattle.ss_expr.specs.Grammar.{Form, IsFormOf, Begins, BeginsAtAll, binding, left_binding}
use Rattle.ss_expr.specs.Reading.{wanted, open_levels, wanting, holding, close, deepen, take_minus, take_operand, take_operator, put_operator, close_bracket, step_at, step, ◌>>=◌, fault_at, run, start}
use Rattle.ss_expr.specs.Tree.{Tree}
use Rattle.ss_expr.specs.declared.operators.UnaryOp.TheVariants as unary_op
use Rattle.ss_expr.specs.declared.operators.BinaryOp.{BinaryOp}
use Rattle.ss_expr.specs.declared.operators.BinaryOp.TheVariants.{Connect, Compare, Compute}
use Rattle.ss_expr.specs.declared.operators.Arithmetic.TheVariants.{Add, Subtract, Multiply, Divide, Remainder}
use Rattle.ss_expr.specs.declared.fault.ExprWhy.{ExprWhy}
use Rattle.ss_expr.specs.declared.fault.ExprWhy.TheVariants.{TooDeep, Unexpected}
use Rattle.ss_expr.specs.declared.fault.ExprFault.{ExprFault}
use Rattle.ss_expr.specs.declared.parser.Parser.{Parser}
use Rattle.ss_expr.specs.declared.frame.Frame.{Frame}
use Rattle.ss_expr.specs.declared.frame.Frame.TheVariants.{Open, Prefix, Left}
use Rattle.ss_expr.specs.declared.token.Token.{Token}
use Rattle.ss_expr.specs.declared.token.Token.TheVariants as token
use Rattle.ss_expr.specs.declared.token.Placed.{Placed}
use Rattle.ss_expr.proofs.Complete.{open_frames, tip, run-step, run-whole}
use Rattle.ss_expr.proofs.Sound.{stepped, step-reached, run-reached, start-reached, reached-begins}

-- the first token that is refused
pub record Stop (most : ℕ) (tokens : List Placed) (p : Parser) (fault : ExprFault) : Type 0 where
  pub front : List Placed
  pub next : Placed
  pub behind : List Placed
  pub state : Parser
  pub split : tokens ≡ front ++ next ∷ behind
  pub ran : run most front p ≡ Ok state
  pub refused : step most state next ≡ Err fault.why
  pub place : fault.at ≡ next.at

stop_at : (most : ℕ) (t : Placed) (ts : List Placed) (p : Parser) (fault : ExprFault) (r : Result Parser ExprWhy) → step most p t ≡ r → (fault_at t.at r >>= run most ts) ≡ Err fault
    → ((q : Parser) → run most ts q ≡ Err fault → Stop most ts q fault) → Stop most (t ∷ ts) p fault
stop_at most t ts p fault (Ok q) e h next =
    let s = next q h in
    record { front = t ∷ s.front; next = s.next; behind = s.behind; state = s.state; split = ap (λ (xs : List Placed). t ∷ xs) s.split; ran = run-step most t s.front p q e ∙ s.ran; refused = s.refused; place = s.place }
stop_at most t ts p fault (Err why) e h next =
    let same : record { at = t.at; why = why } ≡ fault = cc in
    record { front = []; next = t; behind = ts; state = p; split = refl; ran = refl; refused = e ∙ ap (λ (f : ExprFault). Err f.why) same; place = sym (ap (λ (f : ExprFault). f.at) same) }

pub run-stop : (ts : List Placed) (most : ℕ) (p : Parser) (fault : ExprFault) → run most ts p ≡ Err fault → Stop most ts p fault
run-stop [] most p fault h = cc
run-stop (t ∷ ts) most p fault h = stop_at most t ts p fault (step most p t) refl h (λ q. run-stop ts most q fault)

pub run-append : (xs : List Placed) (most : ℕ) (ys : List Placed) (p q : Parser) → run most xs p ≡ Ok q → run most (xs ++ ys) p ≡ run most ys q
run-append [] most ys p q h =
    let same : p ≡ q = cc in
    ap (run most ys) same
run-append (t ∷ xs) most ys p q h =
    let s = stepped t.at (step most p t) (run most xs) q h in
    run-step most t (xs ++ ys) p s.0 s.1 ∙ run-append xs most ys s.0 q s.2

-- More levels change nothing that was taken, and nothing that was unexpected.
deep_ok : (b : Bool) (x q : Parser) → (if b then Ok x else Err TooDeep) ≡ Ok q → b ≡ true
deep_ok true x q h = refl
deep_ok false x q h = cc

deepen-more : (m n : ℕ) (stack : List Frame) (frame : Frame) (q : Parser) → m ≤ n → deepen m stack frame ≡ Ok q → deepen n stack frame ≡ Ok q
deepen-more m n stack frame q le h =
    let room = ltb-true (open_levels stack) m (deep_ok (nat_lt (open_levels stack) m) (wanting (frame ∷ stack)) q h) in
    let wider = lt-ltb (open_levels stack) n (omega (arith, room)) in
    let more = lt-ltb (open_levels stack) m room in
    cond-true (nat_lt (open_levels stack) n) (Ok (wanting (frame ∷ stack))) (Err TooDeep) wider
    ∙ sym (cond-true (nat_lt (open_levels stack) m) (Ok (wanting (frame ∷ stack))) (Err TooDeep) more) ∙ h

take_minus-more : (m n : ℕ) (stack : List Frame) (at : ℕ) (op : BinaryOp) (q : Parser) → m ≤ n → take_minus m stack at op ≡ Ok q → take_minus n stack at op ≡ Ok q
take_minus-more m n stack at (Compute Subtract) q le h = deepen-more m n stack (Prefix unary_op.Negate at) q le h
take_minus-more m n stack at (Connect op) q le h = h
take_minus-more m n stack at (Compare op) q le h = h
take_minus-more m n stack at (Compute Add) q le h = h
take_minus-more m n stack at (Compute Multiply) q le h = h
take_minus-more m n stack at (Compute Divide) q le h = h
take_minus-more m n stack at (Compute Remainder) q le h = h

not-more : (b : Bool) (m n : ℕ) (stack : List Frame) (frame : Frame) (q : Parser) → m ≤ n → (if b then deepen m stack frame else Err Unexpected) ≡ Ok q → (if b then deepen n stack frame else Err Unexpected) ≡ Ok q
not-more true m n stack frame q le h = deepen-more m n stack frame q le h
not-more false m n stack frame q le h = h

take_operand-more : (m n : ℕ) (stack : List Frame) (at : ℕ) (t : Token) (q : Parser) → m ≤ n → take_operand m stack at t ≡ Ok q → take_operand n stack at t ≡ Ok q
take_operand-more m n stack at (token.Atom a) q le h = h
take_operand-more m n stack at token.Open q le h = deepen-more m n stack Open q le h
take_operand-more m n stack at token.Not q le h = not-more (nat_le (wanted stack) 2) m n stack (Prefix unary_op.Not at) q le h
take_operand-more m n stack at (token.Operator op) q le h = take_minus-more m n stack at op q le h
take_operand-more m n stack at token.Close q le h = h

step-more : (m n : ℕ) (stack : List Frame) (tree : Option Tree) (t : Placed) (q : Parser) → m ≤ n → step_at m stack tree t ≡ Ok q → step_at n stack tree t ≡ Ok q
step-more m n stack None t q le h = take_operand-more m n stack t.at t.token q le h
step-more m n stack (Some e) t q le h = h

pub run-more : (ts : List Placed) (m n : ℕ) (p q : Parser) → m ≤ n → run m ts p ≡ Ok q → run n ts p ≡ Ok q
run-more [] m n p q le h = h
run-more (t ∷ ts) m n p q le h =
    let s = stepped t.at (step m p t) (run m ts) q h in
    run-step n t ts p s.0 (step-more m n p.stack p.tree t s.0 le s.1) ∙ run-more ts m n s.0 q le s.2

never_unexpected : (b : Bool) (x : Parser) → (if b then Ok x else Err TooDeep) ≡ Err Unexpected → ⊥
never_unexpected true x h = cc
never_unexpected false x h = cc

deepen-expected : (m : ℕ) (stack : List Frame) (frame : Frame) → deepen m stack frame ≡ Err Unexpected → ⊥
deepen-expected m stack frame h = never_unexpected (nat_lt (open_levels stack) m) (wanting (frame ∷ stack)) h

take_minus-stuck : (m n : ℕ) (stack : List Frame) (at : ℕ) (op : BinaryOp) → take_minus m stack at op ≡ Err Unexpected → take_minus n stack at op ≡ Err Unexpected
take_minus-stuck m n stack at (Compute Subtract) h = absurd (deepen-expected m stack (Prefix unary_op.Negate at) h)
take_minus-stuck m n stack at (Connect op) h = h
take_minus-stuck m n stack at (Compare op) h = h
take_minus-stuck m n stack at (Compute Add) h = h
take_minus-stuck m n stack at (Compute Multiply) h = h
take_minus-stuck m n stack at (Compute Divide) h = h
take_minus-stuck m n stack at (Compute Remainder) h = h

not-stuck : (b : Bool) (m n : ℕ) (stack : List Frame) (frame : Frame) → (if b then deepen m stack frame else Err Unexpected) ≡ Err Unexpected → (if b then deepen n stack frame else Err Unexpected) ≡ Err Unexpected
not-stuck true m n stack frame h = absurd (deepen-expected m stack frame h)
not-stuck false m n stack frame h = refl

take_operand-stuck : (m n : ℕ) (stack : List Frame) (at : ℕ) (t : Token) → take_operand m stack at t ≡ Err Unexpected → take_operand n stack at t ≡ Err Unexpected
take_operand-stuck m n stack at (token.Atom a) h = cc
take_operand-stuck m n stack at token.Open h = absurd (deepen-expected m stack Open h)
take_operand-stuck m n stack at token.Not h = not-stuck (nat_le (wanted stack) 2) m n stack (Prefix unary_op.Not at) h
take_operand-stuck m n stack at (token.Operator op) h = take_minus-stuck m n stack at op h
take_operand-stuck m n stack at token.Close h = refl

step-stuck : (m n : ℕ) (stack : List Frame) (tree : Option Tree) (t : Placed) → step_at m stack tree t ≡ Err Unexpected → step_at n stack tree t ≡ Err Unexpected
step-stuck m n stack None t h = take_operand-stuck m n stack t.at t.token h
step-stuck m n stack (Some e) t h = h

-- What is too deep is taken where more levels may be open.
record Deeper (m : ℕ) (taken : ℕ → Result Parser ExprWhy) : Type 0 where
  most : ℕ
  state : Parser
  more : m ≤ most
  took : taken most ≡ Ok state

was_deep : (b : Bool) (x : Parser) → (if b then Ok x else Err TooDeep) ≡ Err TooDeep → b ≡ false
was_deep true x h = cc
was_deep false x h = refl

deepen-deeper : (m : ℕ) (stack : List Frame) (frame : Frame) → deepen m stack frame ≡ Err TooDeep → Deeper m (λ n. deepen n stack frame)
deepen-deeper m stack frame h =
    let full = was_deep (nat_lt (open_levels stack) m) (wanting (frame ∷ stack)) h in
    let low : m ≤ open_levels stack = grind (arith, nat_tests) in
    record {
      most = open_levels stack + 1;
      state = wanting (frame ∷ stack);
      more = omega (arith, low);
      took = cond-true (nat_lt (open_levels stack) (open_levels stack + 1)) (Ok (wanting (frame ∷ stack))) (Err TooDeep) (lt-ltb (open_levels stack) (open_levels stack + 1) (omega arith));
    }

take_minus-deeper : (m : ℕ) (stack : List Frame) (at : ℕ) (op : BinaryOp) → take_minus m stack at op ≡ Err TooDeep → Deeper m (λ n. take_minus n stack at op)
take_minus-deeper m stack at (Compute Subtract) h = deepen-deeper m stack (Prefix unary_op.Negate at) h
take_minus-deeper m stack at (Connect op) h = cc
take_minus-deeper m stack at (Compare op) h = cc
take_minus-deeper m stack at (Compute Add) h = cc
take_minus-deeper m stack at (Compute Multiply) h = cc
take_minus-deeper m stack at (Compute Divide) h = cc
take_minus-deeper m stack at (Compute Remainder) h = cc

not-deeper : (b : Bool) (m : ℕ) (stack : List Frame) (frame : Frame) → (if b then deepen m stack frame else Err Unexpected) ≡ Err TooDeep → Deeper m (λ n. if b then deepen n stack frame else Err Unexpected)
not-deeper true m stack frame h = deepen-deeper m stack frame h
not-deeper false m stack frame h = cc

take_operand-deeper : (m : ℕ) (stack : List Frame) (at : ℕ) (t : Token) → take_operand m stack at t ≡ Err TooDeep → Deeper m (λ n. take_operand n stack at t)
take_operand-deeper m stack at (token.Atom a) h = cc
take_operand-deeper m stack at token.Open h = deepen-deeper m stack Open h
take_operand-deeper m stack at token.Not h = not-deeper (nat_le (wanted stack) 2) m stack (Prefix unary_op.Not at) h
take_operand-deeper m stack at (token.Operator op) h = take_minus-deeper m stack at op h
take_operand-deeper m stack at token.Close h = cc

put_shallow : (b : Bool) (x : Parser) → (if b then Ok x else Err Unexpected) ≡ Err TooDeep → ⊥
put_shallow true x h = cc
put_shallow false x h = cc

put_operator-shallow : (op : BinaryOp) (at : ℕ) (stack : List Frame) (tree : Option Tree) → put_operator op at stack tree ≡ Err TooDeep → ⊥
put_operator-shallow op at stack None h = cc
put_operator-shallow op at stack (Some l) h = put_shallow (nat_le (wanted stack) (binding op)) (wanting (Left op at l ∷ stack)) h

close_bracket-shallow : (stack : List Frame) (tree : Option Tree) → close_bracket stack tree ≡ Err TooDeep → ⊥
close_bracket-shallow [] tree h = cc
close_bracket-shallow (Open ∷ below) tree h = cc
close_bracket-shallow (Prefix op at ∷ below) tree h = cc
close_bracket-shallow (Left op at l ∷ below) tree h = cc

take_operator-shallow : (stack : List Frame) (e : Tree) (at : ℕ) (t : Token) → take_operator stack e at t ≡ Err TooDeep → ⊥
take_operator-shallow stack e at (token.Operator op) h = put_operator-shallow op at (close stack (left_binding op) e).stack (close stack (left_binding op) e).tree h
take_operator-shallow stack e at token.Close h = close_bracket-shallow (close stack 0 e).stack (close stack 0 e).tree h
take_operator-shallow stack e at (token.Atom a) h = cc
take_operator-shallow stack e at token.Not h = cc
take_operator-shallow stack e at token.Open h = cc

step-deeper : (m : ℕ) (stack : List Frame) (tree : Option Tree) (t : Placed) → step_at m stack tree t ≡ Err TooDeep → Deeper m (λ n. step_at n stack tree t)
step-deeper m stack None t h = take_operand-deeper m stack t.at t.token h
step-deeper m stack (Some e) t h = absurd (take_operator-shallow stack e t.at t.token h)

-- A form that goes on so is taken whole.
conflict : (n : ℕ) (front : List Placed) (next : Placed) (more : List Placed) (f : Form) (q : Parser) (why : ExprWhy)
    → IsFormOf n ((front ++ next ∷ []) ++ more) f → run n front start ≡ Ok q → step n q next ≡ Err why → ⊥
conflict n front next more f q why of ran refused =
    let whole_read = run-whole f n ((front ++ next ∷ []) ++ more) of in
    let regrouped = ap (λ (ts : List Placed). run n ts start) (append_assoc front (next ∷ []) more) in
    let onward = run-append front n (next ∷ more) start q ran in
    let stuck = ap (λ (r : Result Parser ExprWhy). fault_at next.at r >>= run n more) refused in
    let both : Ok (holding (open_frames f []) (tip f)) ≡ Err (record { at = next.at; why = why }) = sym whole_read ∙ regrouped ∙ onward ∙ stuck in
    cc

-- with a token that is unexpected no expression goes on
pub unexpected_stops : (m : ℕ) (front : List Placed) (next : Placed) (q : Parser) → run m front start ≡ Ok q → step m q next ≡ Err Unexpected → BeginsAtAll (front ++ next ∷ []) → ⊥
unexpected_stops m front next q ran refused begins =
    let n = m + begins.0 in
    let of = begins.1.2 in
    conflict n front next begins.1.0 begins.1.1 q Unexpected
    (record { formed = of.formed; within = omega (arith, of.within); printed = of.printed })
    (run-more front m n start q (omega arith) ran)
    (step-stuck m n q.stack q.tree next refused)

-- within the levels no expression goes on with a token that is too deep
pub deep_stops : (m : ℕ) (front : List Placed) (next : Placed) (q : Parser) → run m front start ≡ Ok q → step m q next ≡ Err TooDeep → Begins m (front ++ next ∷ []) → ⊥
deep_stops m front next q ran refused begins = conflict m front next begins.0 begins.1 q TooDeep begins.2 ran refused

-- with more levels some do
pub deep_goes_on : (m : ℕ) (front : List Placed) (next : Placed) (q : Parser) → run m front start ≡ Ok q → step m q next ≡ Err TooDeep → BeginsAtAll (front ++ next ∷ [])
deep_goes_on m front next q ran refused =
    let d = step-deeper m q.stack q.tree next refused in
    let reached = run-reached front d.most [] start q (start-reached d.most) (run-more front m d.most start q d.more ran) in
    (d.most, reached-begins d.most (front ++ next ∷ []) (step-reached d.most front next reached d.took))
