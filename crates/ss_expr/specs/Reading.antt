-- A plain reader of expressions: it takes one token after the other.
use Rattle.std.specs.Prelude.{ℕ, ◌+◌, Bool, false, nat_lt, nat_le, length, List, [], ◌∷◌, Option, Some, None, Result}
use Rattle.std.specs.Prelude.{Ok, Err, if◌then◌else◌}
use Rattle.ss_expr.specs.Grammar.{unary_binding, binding, left_binding, right_binding}
use Rattle.ss_expr.specs.Tree.{Tree, leaf, unary, binary}
use Rattle.ss_expr.specs.declared.operators.UnaryOp.TheVariants as unary_op
use Rattle.ss_expr.specs.declared.operators.BinaryOp.{BinaryOp}
use Rattle.ss_expr.specs.declared.operators.BinaryOp.TheVariants.{Compute}
use Rattle.ss_expr.specs.declared.operators.Arithmetic.TheVariants.{Subtract}
use Rattle.ss_expr.specs.declared.fault.ExprWhy.{ExprWhy}
use Rattle.ss_expr.specs.declared.fault.ExprWhy.TheVariants.{TooLong, TooDeep, Unexpected}
use Rattle.ss_expr.specs.declared.fault.ExprFault.{ExprFault}
use Rattle.ss_expr.specs.Limits.{most_bytes, most_levels}
use Rattle.ss_expr.specs.Tokens.{Scanned, scan}
use Rattle.ss_expr.specs.declared.parser.Parser.{Parser}
use Rattle.ss_expr.specs.declared.frame.Frame.{Frame}
use Rattle.ss_expr.specs.declared.frame.Frame.TheVariants.{Open, Prefix, Left}
use Rattle.ss_expr.specs.declared.token.Token.{Token}
use Rattle.ss_expr.specs.declared.token.Token.TheVariants as token
use Rattle.ss_expr.specs.declared.token.Placed.{Placed}

-- how tightly the operand has to bind that is wanted next
abbrev pub wanted : List Frame → ℕ
wanted [] = 0
wanted (Open ∷ below) = 0
wanted (Prefix op at ∷ below) = unary_binding op
wanted (Left op at l ∷ below) = right_binding op

-- a bracket and an operator in front open a level
abbrev pub frame_levels : Frame → ℕ
frame_levels Open = 1
frame_levels (Prefix op at) = 1
frame_levels (Left op at l) = 0

-- how many levels are open where an operand is wanted
abbrev pub open_levels : List Frame → ℕ
open_levels [] = 0
open_levels (frame ∷ below) = open_levels below + frame_levels frame

-- an operator that binds at least so tightly
abbrev pub binds : Frame → ℕ → Bool
binds Open least = false
binds (Prefix op at) least = nat_le least (unary_binding op)
binds (Left op at l) least = nat_le least (binding op)

-- what a frame makes of its operand
abbrev pub over : Frame → Tree → Tree
over Open e = e
over (Prefix op at) e = unary op at e
over (Left op at l) e = binary op at l e

-- an operand is wanted
abbrev pub wanting : List Frame → Parser
wanting stack = record { stack = stack; tree = None }

-- an operand was read
abbrev pub holding : List Frame → Tree → Parser
holding stack e = record { stack = stack; tree = Some e }

-- closes the operators that bind at least so tightly: the tree is the operand of each
abbrev pub close : List Frame → ℕ → Tree → Parser
close [] least e = holding [] e
close (frame ∷ below) least e =
    if binds frame least then close below least (over frame e) else holding (frame ∷ below) e

-- a frame that opens a level
abbrev pub deepen : ℕ → List Frame → Frame → Result Parser ExprWhy
deepen most stack frame = if nat_lt (open_levels stack) most then Ok (wanting (frame ∷ stack)) else Err TooDeep

abbrev pub take_minus : ℕ → List Frame → ℕ → BinaryOp → Result Parser ExprWhy
take_minus most stack at (Compute Subtract) = deepen most stack (Prefix unary_op.Negate at)
take_minus most stack at _ = Err Unexpected

-- a token where an operand is wanted
abbrev pub take_operand : ℕ → List Frame → ℕ → Token → Result Parser ExprWhy
take_operand most stack at (token.Atom atom) = Ok (holding stack (leaf at atom))
take_operand most stack at token.Open = deepen most stack Open
take_operand most stack at token.Not =
    if nat_le (wanted stack) (unary_binding unary_op.Not) then deepen most stack (Prefix unary_op.Not at)
    else Err Unexpected
take_operand most stack at (token.Operator op) = take_minus most stack at op
take_operand most stack at token.Close = Err Unexpected

-- an operator behind its left side, where it binds as tightly as the frame below wants
abbrev pub put_operator : BinaryOp → ℕ → List Frame → Option Tree → Result Parser ExprWhy
put_operator op at stack (Some l) =
    if nat_le (wanted stack) (binding op) then Ok (wanting (Left op at l ∷ stack)) else Err Unexpected
put_operator op at stack None = Err Unexpected

abbrev pub close_bracket : List Frame → Option Tree → Result Parser ExprWhy
close_bracket (Open ∷ below) e = Ok (record { stack = below; tree = e })
close_bracket _ e = Err Unexpected

-- a token behind an operand
abbrev pub take_operator : List Frame → Tree → ℕ → Token → Result Parser ExprWhy
take_operator stack e at (token.Operator op) =
    let p = close stack (left_binding op) e in
    put_operator op at p.stack p.tree
take_operator stack e at token.Close = let p = close stack 0 e in close_bracket p.stack p.tree
take_operator stack e at _ = Err Unexpected

abbrev pub step_at : ℕ → List Frame → Option Tree → Placed → Result Parser ExprWhy
step_at most stack None t = take_operand most stack t.at t.token
step_at most stack (Some e) t = take_operator stack e t.at t.token

-- what the next token makes of what was read, where at most so many levels may be open
abbrev pub step : ℕ → Parser → Placed → Result Parser ExprWhy
step most p t = step_at most p.stack p.tree t

infixl 10 ◌>>=◌
abbrev pub ◌>>=◌ : {A B E : Type 0} → Result A E → (A → Result B E) → Result B E
(Ok x) >>= f = f x
(Err e) >>= f = Err e

-- a fault of a token, at the token's place
abbrev pub fault_at : {A : Type 0} → ℕ → Result A ExprWhy → Result A ExprFault
fault_at at (Ok x) = Ok x
fault_at at (Err why) = Err (record { at = at; why = why })

-- all tokens, one after the other
abbrev pub run : ℕ → List Placed → Parser → Result Parser ExprFault
run most [] p = Ok p
run most (t ∷ ts) p = fault_at t.at (step most p t) >>= run most ts

abbrev pub tree_if_complete : List Frame → Option Tree → ℕ → Result Tree ExprFault
tree_if_complete [] (Some e) size = Ok e
tree_if_complete _ e size = Err (record { at = size; why = Unexpected })

abbrev pub finish_at : List Frame → Option Tree → ℕ → Result Tree ExprFault
finish_at stack None size = Err (record { at = size; why = Unexpected })
finish_at stack (Some e) size = let p = close stack 0 e in tree_if_complete p.stack p.tree size

-- the expression, at the end of a text of so many bytes
abbrev pub finish : ℕ → Parser → Result Tree ExprFault
finish size p = finish_at p.stack p.tree size

-- nothing is read yet
abbrev pub start : Parser
start = wanting []

abbrev pub unbroken : {A : Type 0} → Option ExprFault → A → Result A ExprFault
unbroken None x = Ok x
unbroken (Some fault) x = Err fault

-- what the tokens make of what was read, and then the end of the text, or what is no token
abbrev pub read_from : ℕ → Scanned → Parser → Result Tree ExprFault
read_from size s p = run most_levels s.tokens p >>= unbroken s.fault >>= finish size

-- the expression with this text, or the first fault
abbrev pub expression_of : List ℕ → Result Tree ExprFault
expression_of text =
    if nat_lt most_bytes (length text) then Err (record { at = 0; why = TooLong (length text) })
    else read_from (length text) (scan text 0 0) start
