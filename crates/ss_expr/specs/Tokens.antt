-- The tokens of a text.
use Rattle.std.specs.Prelude.{ℕ, zero, suc, ◌+◌, ◌-◌, ◌^◌, Bool, false, ◌&&◌, ◌||◌, not, ◌==◌, nat_lt, ℤ, pos, length}
use Rattle.std.specs.Prelude.{take, List, [], ◌∷◌, Option, Some, None, option_map, Result, Ok, Err, find}
use Rattle.std.specs.Prelude.{if◌then◌else◌, codes}
use Rattle.std.specs.Char.{is_ascii_alphabetic, is_ascii_digit, is_digit}
use Rattle.std.specs.List.{list_all, prefix_len}
use Rattle.std.specs.Str.{bytes_eq}
use Rattle.std.specs.Str.Parse.{digits_value}
use Rattle.ss_elem.specs.Key.{key_of}
use Rattle.ss_expr.specs.declared.atom.Atom.TheVariants as atom
use Rattle.ss_expr.specs.declared.operators.BinaryOp.TheVariants.{Connect, Compare, Compute}
use Rattle.ss_expr.specs.declared.operators.Connective.TheVariants.{Or, And}
use Rattle.ss_expr.specs.declared.operators.Comparison.{Comparison}
use Rattle.ss_expr.specs.declared.operators.Comparison.TheVariants as compare
use Rattle.ss_expr.specs.declared.operators.Arithmetic.{Arithmetic}
use Rattle.ss_expr.specs.declared.operators.Arithmetic.TheVariants.{Add, Subtract, Multiply, Divide, Remainder}
use Rattle.ss_expr.specs.declared.fault.ExprFault.{ExprFault}
use Rattle.ss_expr.specs.declared.fault.ExprWhy.{ExprWhy}
use Rattle.ss_expr.specs.declared.fault.ExprWhy.TheVariants.{BadToken, BadNumber}
use Rattle.ss_expr.specs.declared.token.Token.{Token}
use Rattle.ss_expr.specs.declared.token.Token.TheVariants as token
use Rattle.ss_expr.specs.declared.token.Placed.{Placed}

-- the words, and what each of them is
abbrev pub words : List (List ℕ × Token)
words =
    (codes "start", token.Atom atom.Start)
    ∷ (codes "end", token.Atom atom.End)
    ∷ (codes "key", token.Atom atom.Subject)
    ∷ (codes "a", token.Atom atom.A)
    ∷ (codes "b", token.Atom atom.B)
    ∷ (codes "c", token.Atom atom.C)
    ∷ (codes "d", token.Atom atom.D)
    ∷ (codes "and", token.Operator (Connect And))
    ∷ (codes "or", token.Operator (Connect Or))
    ∷ (codes "not", token.Not)
    ∷ []

abbrev pub word_of : List ℕ → Option Token
word_of name = option_map (λ w. w.1) (find (λ w. bytes_eq name w.0) words)

abbrev pub is_decimal : ℕ → Bool
is_decimal byte = is_digit byte 10

-- a token and how many bytes it has, at the front of a text
abbrev pub Read : Type 0
Read = Result (Token × ℕ) ExprWhy

abbrev pub known : ExprWhy → Option Token → ℕ → Read
known why (Some found) len = Ok (found, len)
known why None len = Err why

-- all letters in front are one word
abbrev pub word_at : List ℕ → Read
word_at text = let len = prefix_len is_ascii_alphabetic text in known BadToken (word_of (take len text)) len

-- the number that digits write, where 64 bits hold it
abbrev pub number_of : List ℕ → Option ℤ
number_of digits =
    if list_all is_decimal digits && nat_lt (digits_value 10 digits) (2 ^ 63) then Some (pos (digits_value 10 digits))
    else None

abbrev pub number_token : ℤ → Token
number_token n = token.Atom (atom.Number n)

-- all digits in front are one number
abbrev pub number_at : List ℕ → Read
number_at text =
    let len = prefix_len is_ascii_digit text in
    known BadNumber (option_map number_token (number_of (take len text))) len

abbrev pub is_inside_quotes : ℕ → Bool
is_inside_quotes b = not (b == 39)

abbrev pub text_token : ℕ → Token
text_token key = token.Atom (atom.Text key)

-- behind a quote: a key without a quote in it, up to the next quote
abbrev pub quoted_at : List ℕ → Read
quoted_at rest = let len = prefix_len is_inside_quotes rest in
    if nat_lt len (length rest) then known BadToken (option_map text_token (key_of (take len rest))) (len + 2)
    else Err BadToken

abbrev pub compute : Arithmetic → Read
compute op = Ok (token.Operator (Compute op), 1)

abbrev pub comparison : Comparison → ℕ → Read
comparison op len = Ok (token.Operator (Compare op), len)

-- the sign with this byte, where an `=` may follow that belongs to it
abbrev pub sign_at : ℕ → Bool → Read
sign_at b equals =
    if b == 0x28 then Ok (token.Open, 1)
    else (if b == 0x29 then Ok (token.Close, 1)
    else (if b == 0x2B then compute Add
    else (if b == 0x2D then compute Subtract
    else (if b == 0x2A then compute Multiply
    else (if b == 0x2F then compute Divide
    else (if b == 0x25 then compute Remainder
    else (if b == 0x3D then comparison compare.Equal 1
    else (if b == 0x3C then (if equals then comparison compare.AtMost 2 else comparison compare.Less 1)
    else (if b == 0x3E then (if equals then comparison compare.AtLeast 2 else comparison compare.Greater 1)
    else (if b == 0x21 && equals then comparison compare.NotEqual 2
    else Err BadToken))))))))))

abbrev pub begins_equals : List ℕ → Bool
begins_equals [] = false
begins_equals (b ∷ rest) = b == 0x3D

-- the token at the front of a text, as long as it can be
abbrev pub token_at : List ℕ → Read
token_at [] = Err BadToken
token_at (b ∷ rest) =
    if is_ascii_alphabetic b then word_at (b ∷ rest)
    else (if is_ascii_digit b then number_at (b ∷ rest)
    else (if b == 39 then quoted_at rest
    else sign_at b (begins_equals rest)))

-- what lies between tokens: spaces and tabs
abbrev pub is_blank : ℕ → Bool
is_blank b = b == 32 || b == 9

-- the tokens up to the text's end, or up to the first place where none begins
pub record Scanned : Type 0 where
  pub tokens : List Placed
  pub fault : Option ExprFault

-- a token with this length at this place, and what comes behind it; or a fault, and nothing behind it
abbrev pub token_then : ℕ → Read → (ℕ → Scanned) → Scanned
token_then at (Ok found) behind =
    let s = behind found.1 in
    record { tokens = record { at = at; token = found.0 } ∷ s.tokens; fault = s.fault }
token_then at (Err why) behind = record { tokens = []; fault = Some (record { at = at; why = why }) }

-- the tokens of a text whose first byte is at a place, and whose first bytes belong to a token before it
abbrev pub scan : List ℕ → ℕ → ℕ → Scanned
scan [] at taken = record { tokens = []; fault = None }
scan (b ∷ rest) at (suc taken) = scan rest (at + 1) taken
scan (b ∷ rest) at zero =
    if is_blank b then scan rest (at + 1) 0
    else token_then at (token_at (b ∷ rest)) (λ len. scan rest (at + 1) (len - 1))
