-- Which faults tokens have, and which the steps of the reader.
use Rattle.std.proofs.Common.{if◌then◌else◌, ◌≡◌, ℕ, zero, suc, ◌+◌, ◌-◌, ◌==◌, ◌&&◌, Bool, true, false, List, [], ◌∷◌, length, take, Option, Some, None, option_map, Result, Ok, Err, nat_le, nat_lt, subst}
use Rattle.std.specs.Char.{is_ascii_alphabetic, is_ascii_digit}
use Rattle.std.specs.List.{prefix_len}
use Rattle.ss_elem.specs.Key.{key_of}
use Rattle.ss_expr.specs.Grammar.{binding, left_binding}
use Rattle.ss_expr.specs.Reading.{wanted, open_levels, wanting, close, deepen, take_minus, take_operand, take_operator, put_operator, close_bracket, step_at, step}
use Rattle.ss_expr.specs.Tokens.{Read, known, word_of, number_of, number_token, is_inside_quotes, text_token, quoted_at, sign_at, begins_equals, token_at, is_blank, Scanned, token_then, scan}
use Rattle.ss_expr.specs.Tree.{Tree}
use Rattle.ss_expr.specs.declared.operators.UnaryOp.TheVariants as unary_op
use Rattle.ss_expr.specs.declared.operators.BinaryOp.{BinaryOp}
use Rattle.ss_expr.specs.declared.operators.BinaryOp.TheVariants.{Connect, Compare, Compute}
use Rattle.ss_expr.specs.declared.operators.Arithmetic.TheVariants.{Add, Subtract, Multiply, Divide, Remainder}
use Rattle.ss_expr.specs.declared.fault.ExprFault.{ExprFault}
use Rattle.ss_expr.specs.declared.fault.ExprWhy.{ExprWhy}
use Rattle.ss_expr.specs.declared.fault.ExprWhy.TheVariants.{TooLong, BadToken, BadNumber, TooDeep, Unexpected}
use Rattle.ss_expr.specs.declared.parser.Parser.{Parser}
use Rattle.ss_expr.specs.declared.frame.Frame.{Frame}
use Rattle.ss_expr.specs.declared.frame.Frame.TheVariants.{Open, Prefix, Left}
use Rattle.ss_expr.specs.declared.token.Token.{Token}
use Rattle.ss_expr.specs.declared.token.Token.TheVariants as token
use Rattle.ss_expr.specs.declared.token.Placed.{Placed}

abbrev pub IsStepWhy : ExprWhy → Type 0
IsStepWhy TooDeep = Unit {0}
IsStepWhy Unexpected = Unit {0}
IsStepWhy (TooLong len) = ⊥
IsStepWhy BadToken = ⊥
IsStepWhy BadNumber = ⊥

abbrev pub IsScanWhy : ExprWhy → Type 0
IsScanWhy BadToken = Unit {0}
IsScanWhy BadNumber = Unit {0}
IsScanWhy (TooLong len) = ⊥
IsScanWhy TooDeep = ⊥
IsScanWhy Unexpected = ⊥

abbrev IsStep : Result Parser ExprWhy → Type 0
IsStep (Ok p) = Unit {0}
IsStep (Err why) = IsStepWhy why

abbrev IsRead : Read → Type 0
IsRead (Ok found) = Unit {0}
IsRead (Err why) = IsScanWhy why

step_if : (b : Bool) (x y : Result Parser ExprWhy) → IsStep x → IsStep y → IsStep (if b then x else y)
step_if true x y p q = p
step_if false x y p q = q

deepen_is : (most : ℕ) (stack : List Frame) (frame : Frame) → IsStep (deepen most stack frame)
deepen_is most stack frame = step_if (nat_lt (open_levels stack) most) (Ok (wanting (frame ∷ stack))) (Err TooDeep) tt tt

minus_is : (most : ℕ) (stack : List Frame) (at : ℕ) (op : BinaryOp) → IsStep (take_minus most stack at op)
minus_is most stack at (Compute Subtract) = deepen_is most stack (Prefix unary_op.Negate at)
minus_is most stack at (Connect op) = tt
minus_is most stack at (Compare op) = tt
minus_is most stack at (Compute Add) = tt
minus_is most stack at (Compute Multiply) = tt
minus_is most stack at (Compute Divide) = tt
minus_is most stack at (Compute Remainder) = tt

operand_is : (most : ℕ) (stack : List Frame) (at : ℕ) (t : Token) → IsStep (take_operand most stack at t)
operand_is most stack at (token.Atom a) = tt
operand_is most stack at token.Open = deepen_is most stack Open
operand_is most stack at token.Not = step_if (nat_le (wanted stack) 2) (deepen most stack (Prefix unary_op.Not at)) (Err Unexpected) (deepen_is most stack (Prefix unary_op.Not at)) tt
operand_is most stack at (token.Operator op) = minus_is most stack at op
operand_is most stack at token.Close = tt

put_is : (op : BinaryOp) (at : ℕ) (stack : List Frame) (tree : Option Tree) → IsStep (put_operator op at stack tree)
put_is op at stack None = tt
put_is op at stack (Some l) = step_if (nat_le (wanted stack) (binding op)) (Ok (wanting (Left op at l ∷ stack))) (Err Unexpected) tt tt

bracket_is : (stack : List Frame) (tree : Option Tree) → IsStep (close_bracket stack tree)
bracket_is [] tree = tt
bracket_is (Open ∷ below) tree = tt
bracket_is (Prefix op at ∷ below) tree = tt
bracket_is (Left op at l ∷ below) tree = tt

operator_is : (stack : List Frame) (e : Tree) (at : ℕ) (t : Token) → IsStep (take_operator stack e at t)
operator_is stack e at (token.Operator op) = put_is op at (close stack (left_binding op) e).stack (close stack (left_binding op) e).tree
operator_is stack e at token.Close = bracket_is (close stack 0 e).stack (close stack 0 e).tree
operator_is stack e at (token.Atom a) = tt
operator_is stack e at token.Not = tt
operator_is stack e at token.Open = tt

step_is : (most : ℕ) (stack : List Frame) (tree : Option Tree) (t : Placed) → IsStep (step_at most stack tree t)
step_is most stack None t = operand_is most stack t.at t.token
step_is most stack (Some e) t = operator_is stack e t.at t.token

pub step-why : (most : ℕ) (p : Parser) (t : Placed) (why : ExprWhy) → step most p t ≡ Err why → IsStepWhy why
step-why most p t why h = subst IsStep h (step_is most p.stack p.tree t)

read_if : (b : Bool) (x y : Read) → IsRead x → IsRead y → IsRead (if b then x else y)
read_if true x y p q = p
read_if false x y p q = q

known_is : (why : ExprWhy) (found : Option Token) (len : ℕ) → IsScanWhy why → IsRead (known why found len)
known_is why (Some t) len is = tt
known_is why None len is = is

quoted_is : (rest : List ℕ) → IsRead (quoted_at rest)
quoted_is rest =
    let len = prefix_len is_inside_quotes rest in
    read_if (nat_lt len (length rest)) (known BadToken (option_map text_token (key_of (take len rest))) (len + 2)) (Err BadToken) (known_is BadToken (option_map text_token (key_of (take len rest))) (len + 2) tt) tt

sign_is : (b : ℕ) (equals : Bool) → IsRead (sign_at b equals)
sign_is b equals =
    read_if (b == 0x28) _ _ tt (read_if (b == 0x29) _ _ tt (read_if (b == 0x2B) _ _ tt (read_if (b == 0x2D) _ _ tt (read_if (b == 0x2A) _ _ tt (read_if (b == 0x2F) _ _ tt (read_if (b == 0x25) _ _ tt (read_if (b == 0x3D) _ _ tt (read_if (b == 0x3C) _ _ (read_if equals _ _ tt tt) (read_if (b == 0x3E) _ _ (read_if equals _ _ tt tt) (read_if (b == 0x21 && equals) _ _ tt tt))))))))))

token_is : (text : List ℕ) → IsRead (token_at text)
token_is [] = tt
token_is (b ∷ rest) =
    let len = prefix_len is_ascii_alphabetic (b ∷ rest) in
    let digits = prefix_len is_ascii_digit (b ∷ rest) in
    read_if (is_ascii_alphabetic b) _ _ (known_is BadToken (word_of (take len (b ∷ rest))) len tt)
    (read_if (is_ascii_digit b) _ _ (known_is BadNumber (option_map number_token (number_of (take digits (b ∷ rest)))) digits tt)
    (read_if (b == 39) _ _ (quoted_is rest) (sign_is b (begins_equals rest))))

abbrev IsScan : Option ExprFault → Type 0
IsScan None = Unit {0}
IsScan (Some fault) = IsScanWhy fault.why

scan_if : (b : Bool) (x y : Scanned) → IsScan x.fault → IsScan y.fault → IsScan (if b then x else y).fault
scan_if true x y p q = p
scan_if false x y p q = q

then_is : (at : ℕ) (r : Read) (behind : ℕ → Scanned) → IsRead r → ((len : ℕ) → IsScan (behind len).fault) → IsScan (token_then at r behind).fault
then_is at (Ok found) behind is next = next found.1
then_is at (Err why) behind is next = is

scan_is : (text : List ℕ) (at taken : ℕ) → IsScan (scan text at taken).fault
scan_is [] at taken = tt
scan_is (b ∷ rest) at (suc taken) = scan_is rest (at + 1) taken
scan_is (b ∷ rest) at zero =
    scan_if (is_blank b) (scan rest (at + 1) 0) (token_then at (token_at (b ∷ rest)) (λ len. scan rest (at + 1) (len - 1))) (scan_is rest (at + 1) 0)
    (then_is at (token_at (b ∷ rest)) (λ len. scan rest (at + 1) (len - 1)) (token_is (b ∷ rest)) (λ len. scan_is rest (at + 1) (len - 1)))

pub scan-why : (text : List ℕ) (fault : ExprFault) → (scan text 0 0).fault ≡ Some fault → IsScanWhy fault.why
scan-why text fault h = subst IsScan h (scan_is text 0 0)
