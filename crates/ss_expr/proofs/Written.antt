-- What is written is scanned.
use Rattle.std.proofs.Common.{◌≡◌, ℕ, suc, ◌+◌, ◌-◌, ◌<◌, ◌≤◌, ◌^◌, Bool, true, false, ◌&&◌, List, [], ◌∷◌, ◌++◌, length, take, Option, Some, None, option_map, Ok, Err, pos, negsuc, refl, ap, sym, ◌∙◌, arith, append_assoc, if◌then◌else◌, nat_lt, ◌==◌, ℤ}
use Rattle.std.proofs.Math.Seq.{take-append_seam}
use Rattle.std.proofs.lemmas.Bool.{cond-true, cond-false, lt-ltb}
use Rattle.std.proofs.lemmas.Bool.Decides.{nat_tests}
use Rattle.std.proofs.lemmas.Fmt.{decimal_is_IsNumeral}
use Rattle.std.proofs.lemmas.List.{length-append}
use Rattle.std.specs.Char.{digit_value, is_ascii_alphabetic, is_ascii_digit}
use Rattle.std.specs.Fmt.{decimal}
use Rattle.std.specs.List.{list_all, prefix_len}
use Rattle.std.specs.Str.Parse.{AllDigits, digits_value}
use Rattle.ss_elem.specs.Key.{key_of, key_text}
use Rattle.ss_expr.specs.Printing.{token_text, kinds_of, written, IsWritable}
use Rattle.ss_expr.specs.Tokens.{is_blank, is_decimal, is_inside_quotes, known, number_of, number_token, number_at, text_token, quoted_at, scan, Scanned, token_at, token_then, word_at, sign_at, begins_equals, Read}
use Rattle.ss_expr.specs.declared.atom.Atom.{Atom}
use Rattle.ss_expr.specs.declared.atom.Atom.TheVariants as atom
use Rattle.ss_expr.specs.declared.operators.BinaryOp.{BinaryOp}
use Rattle.ss_expr.specs.declared.operators.BinaryOp.TheVariants.{Connect, Compare, Compute}
use Rattle.ss_expr.specs.declared.operators.Connective.TheVariants.{Or, And}
use Rattle.ss_expr.specs.declared.operators.Comparison.TheVariants as compare
use Rattle.ss_expr.specs.declared.operators.Arithmetic.TheVariants.{Add, Subtract, Multiply, Divide, Remainder}
use Rattle.ss_expr.specs.declared.fault.ExprWhy.TheVariants.{BadToken, BadNumber}
use Rattle.ss_expr.specs.declared.token.Token.{Token}
use Rattle.ss_expr.specs.declared.token.Token.TheVariants as token

-- the token is read from its text, whatever follows behind a blank
pub record Readable (t : Token) : Type 0 where
  first : ℕ
  more : List ℕ
  text : first ∷ more ≡ token_text t
  solid : is_blank first ≡ false
  reads : (rest : List ℕ) → token_at (first ∷ (more ++ 32 ∷ rest)) ≡ Ok (t, suc (length more))

skip_over : (xs rest : List ℕ) (at : ℕ) → scan (xs ++ rest) at (length xs) ≡ scan rest (at + length xs) 0
skip_over [] rest at =
    let same : at ≡ at + 0 = omega arith in
    ap (λ (n : ℕ). scan rest n 0) same
skip_over (x ∷ xs) rest at =
    let same : (at + 1) + length xs ≡ at + suc (length xs) = omega arith in
    skip_over xs rest (at + 1) ∙ ap (λ (n : ℕ). scan rest n 0) same

-- one token, and the blank behind it
record Scanning (t : Token) (rest : List ℕ) (at : ℕ) : Type 0 where
  next : ℕ
  is : scan (token_text t ++ 32 ∷ rest) at 0 ≡ record { tokens = record { at = at; token = t } ∷ (scan rest next 0).tokens; fault = (scan rest next 0).fault }

scan_one : (t : Token) → Readable t → (rest : List ℕ) (at : ℕ) → Scanning t rest at
scan_one t r rest at =
    let tail = r.more ++ 32 ∷ rest in
    let behind : ℕ → Scanned = λ len. scan tail (at + 1) (len - 1) in
    let wrap : Scanned → Scanned = λ s. record { tokens = record { at = at; token = t } ∷ s.tokens; fault = s.fault } in
    let fewer : suc (length r.more) - 1 ≡ length r.more = omega arith in
    record {
      next = ((at + 1) + length r.more) + 1;
      is = ap (λ (xs : List ℕ). scan (xs ++ 32 ∷ rest) at 0) (sym r.text)
          ∙ cond-false (is_blank r.first) (scan tail (at + 1) 0) (token_then at (token_at (r.first ∷ tail)) behind) r.solid
          ∙ ap (λ (x : Read). token_then at x behind) (r.reads rest)
          ∙ ap (λ (k : ℕ). wrap (scan tail (at + 1) k)) fewer
          ∙ ap wrap (skip_over r.more (32 ∷ rest) (at + 1));
    }

abbrev pub AllReadable : List Token → Type 0
AllReadable [] = Unit {0}
AllReadable (t ∷ ts) = Readable t × AllReadable ts

-- tokens with blanks behind them are scanned
pub scan_written : (ts : List Token) → AllReadable ts → (at : ℕ) → (kinds_of (scan (written ts) at 0).tokens ≡ ts) × ((scan (written ts) at 0).fault ≡ None)
scan_written [] all at = (refl, refl)
scan_written (t ∷ ts) all at =
    let one = scan_one t all.0 (written ts) at in
    let rest = scan_written ts all.1 one.next in
    (ap (λ (s : Scanned). kinds_of s.tokens) one.is ∙ ap (λ (xs : List Token). t ∷ xs) rest.0, ap (λ (s : Scanned). s.fault) one.is ∙ rest.1)

both_true : (a b : Bool) → (a && b) ≡ true → (a ≡ true) × (b ≡ true)
both_true true b h = (refl, h)
both_true false b h = cc

-- a run of bytes that pass ends where one doesn't
run_of : (p : ℕ → Bool) (xs : List ℕ) (stop : ℕ) (rest : List ℕ) → list_all p xs ≡ true → p stop ≡ false → prefix_len p (xs ++ stop ∷ rest) ≡ length xs
run_of p [] stop rest all h = cond-false (p stop) (1 + prefix_len p rest) 0 h
run_of p (x ∷ xs) stop rest all h =
    let parts = both_true (p x) (list_all p xs) all in
    let more : 1 + length xs ≡ suc (length xs) = omega arith in
    cond-true (p x) (1 + prefix_len p (xs ++ stop ∷ rest)) 0 parts.0 ∙ ap (λ (n : ℕ). 1 + n) (run_of p xs stop rest parts.1 h) ∙ more

digit_in : (c : ℕ) → digit_value c < 10 → (48 ≤ c) × (c < 58)
digit_in c h = (grind (arith, nat_tests), grind (arith, nat_tests))

digits_pass : (ds : List ℕ) → AllDigits 10 ds → list_all is_ascii_digit ds ≡ true
digits_pass [] all = refl
digits_pass (d ∷ ds) all =
    let range = digit_in d all.0 in
    let here : is_ascii_digit d ≡ true = grind (arith, nat_tests) in
    ap (λ (b : Bool). b && list_all is_ascii_digit ds) here ∙ digits_pass ds all.1

digits_decimal : (ds : List ℕ) → AllDigits 10 ds → list_all is_decimal ds ≡ true
digits_decimal [] all = refl
digits_decimal (d ∷ ds) all =
    let low = all.0 in
    ap (λ (b : Bool). b && list_all is_decimal ds) (lt-ltb (digit_value d) 10 low) ∙ digits_decimal ds all.1

number_is : (ds : List ℕ) (n : ℕ) → AllDigits 10 ds → digits_value 10 ds ≡ n → n < 2 ^ 63 → number_of ds ≡ Some (pos n)
number_is ds n all value low =
    let small : digits_value 10 ds < 2 ^ 63 = omega (arith, value, low) in
    let fits : (list_all is_decimal ds && nat_lt (digits_value 10 ds) (2 ^ 63)) ≡ true = ap (λ (b : Bool). b && nat_lt (digits_value 10 ds) (2 ^ 63)) (digits_decimal ds all) ∙ lt-ltb (digits_value 10 ds) (2 ^ 63) small in
    cond-true (list_all is_decimal ds && nat_lt (digits_value 10 ds) (2 ^ 63)) (Some (pos (digits_value 10 ds))) None fits ∙ ap (λ (k : ℕ). Some (pos k)) value

number_reads : (ds : List ℕ) (n : ℕ) (rest : List ℕ) → AllDigits 10 ds → digits_value 10 ds ≡ n → n < 2 ^ 63 → number_at (ds ++ 32 ∷ rest) ≡ Ok (token.Atom (atom.Number (pos n)), length ds)
number_reads ds n rest all value low =
    ap (λ (len : ℕ). known BadNumber (option_map number_token (number_of (take len (ds ++ 32 ∷ rest)))) len) (run_of is_ascii_digit ds 32 rest (digits_pass ds all) refl)
    ∙ ap (λ (xs : List ℕ). known BadNumber (option_map number_token (number_of xs)) (length ds)) (take-append_seam ds (32 ∷ rest))
    ∙ ap (λ (o : Option ℤ). known BadNumber (option_map number_token o) (length ds)) (number_is ds n all value low)

number_readable : (ds : List ℕ) (n : ℕ) → ds ≡ decimal n → 0 < length ds → AllDigits 10 ds → digits_value 10 ds ≡ n → n < 2 ^ 63 → Readable (token.Atom (atom.Number (pos n)))
number_readable [] n text some all value low = absurd (omega arith)
number_readable (d ∷ ds) n text some all value low =
    let range = digit_in d all.0 in
    record {
      first = d;
      more = ds;
      text = text;
      solid = grind (arith, nat_tests);
      reads = λ rest.
          let no_letter : is_ascii_alphabetic d ≡ false = grind (arith, nat_tests) in
          let digit : is_ascii_digit d ≡ true = grind (arith, nat_tests) in
          let whole = d ∷ (ds ++ 32 ∷ rest) in
          let other : Read = if d == 39 then quoted_at (ds ++ 32 ∷ rest) else sign_at d (begins_equals (ds ++ 32 ∷ rest)) in
          cond-false (is_ascii_alphabetic d) (word_at whole) (if is_ascii_digit d then number_at whole else other) no_letter
          ∙ cond-true (is_ascii_digit d) (number_at whole) other digit
          ∙ number_reads (d ∷ ds) n rest all value low;
    }

quoted_reads : (text : List ℕ) (key : ℕ) (rest : List ℕ) → key_of text ≡ Some key → list_all is_inside_quotes text ≡ true → quoted_at (text ++ 39 ∷ rest) ≡ Ok (token.Atom (atom.Text key), length text + 2)
quoted_reads text key rest is all =
    let whole = text ++ 39 ∷ rest in
    let inside : length text < length whole = omega (arith, length-append text (39 ∷ rest)) in
    let given : ℕ → Read = λ len. known BadToken (option_map text_token (key_of (take len whole))) (len + 2) in
    ap (λ (len : ℕ). if nat_lt len (length whole) then given len else Err BadToken) (run_of is_inside_quotes text 39 rest all refl)
    ∙ cond-true (nat_lt (length text) (length whole)) (given (length text)) (Err BadToken) (lt-ltb (length text) (length whole) inside)
    ∙ ap (λ (xs : List ℕ). known BadToken (option_map text_token (key_of xs)) (length text + 2)) (take-append_seam text (39 ∷ rest))
    ∙ ap (λ (o : Option ℕ). known BadToken (option_map text_token o) (length text + 2)) is

text_readable : (key : ℕ) → key_of (key_text key) ≡ Some key → list_all is_inside_quotes (key_text key) ≡ true → Readable (token.Atom (atom.Text key))
text_readable key is all = record {
  first = 39;
  more = key_text key ++ 39 ∷ [];
  text = refl;
  solid = refl;
  reads = λ rest.
      let size : length (key_text key) + 2 ≡ suc (length (key_text key ++ 39 ∷ [])) = omega (arith, length-append (key_text key) (39 ∷ [])) in
      ap quoted_at (append_assoc (key_text key) (39 ∷ []) (32 ∷ rest))
      ∙ quoted_reads (key_text key) key (32 ∷ rest) is all
      ∙ ap (λ (len : ℕ). Ok (token.Atom (atom.Text key), len)) size;
}

fixed : (t : Token) (first : ℕ) (more : List ℕ) → first ∷ more ≡ token_text t → is_blank first ≡ false → ((rest : List ℕ) → token_at (first ∷ (more ++ 32 ∷ rest)) ≡ Ok (t, suc (length more))) → Readable t
fixed t first more text solid reads = record { first = first; more = more; text = text; solid = solid; reads = reads }

pub atom_readable : (a : Atom) → IsWritable a → Readable (token.Atom a)
atom_readable (atom.Number (pos n)) h =
    let wide : n < 2 ^ 64 = omega (arith, h) in
    let numeral = decimal_is_IsNumeral n wide in
    number_readable (decimal n) n refl numeral.0.0 numeral.0.1 numeral.1 h
atom_readable (atom.Number (negsuc n)) h = absurd h
atom_readable (atom.Text key) h = text_readable key h.0 h.1
atom_readable atom.Start h = fixed (token.Atom atom.Start) 115 (116 ∷ 97 ∷ 114 ∷ 116 ∷ []) refl refl (λ rest. refl)
atom_readable atom.End h = fixed (token.Atom atom.End) 101 (110 ∷ 100 ∷ []) refl refl (λ rest. refl)
atom_readable atom.Subject h = fixed (token.Atom atom.Subject) 107 (101 ∷ 121 ∷ []) refl refl (λ rest. refl)
atom_readable atom.A h = fixed (token.Atom atom.A) 97 [] refl refl (λ rest. refl)
atom_readable atom.B h = fixed (token.Atom atom.B) 98 [] refl refl (λ rest. refl)
atom_readable atom.C h = fixed (token.Atom atom.C) 99 [] refl refl (λ rest. refl)
atom_readable atom.D h = fixed (token.Atom atom.D) 100 [] refl refl (λ rest. refl)

pub operator_readable : (op : BinaryOp) → Readable (token.Operator op)
operator_readable (Connect Or) = fixed (token.Operator (Connect Or)) 111 (114 ∷ []) refl refl (λ rest. refl)
operator_readable (Connect And) = fixed (token.Operator (Connect And)) 97 (110 ∷ 100 ∷ []) refl refl (λ rest. refl)
operator_readable (Compare compare.Equal) = fixed (token.Operator (Compare compare.Equal)) 61 [] refl refl (λ rest. refl)
operator_readable (Compare compare.NotEqual) = fixed (token.Operator (Compare compare.NotEqual)) 33 (61 ∷ []) refl refl (λ rest. refl)
operator_readable (Compare compare.Less) = fixed (token.Operator (Compare compare.Less)) 60 [] refl refl (λ rest. refl)
operator_readable (Compare compare.AtMost) = fixed (token.Operator (Compare compare.AtMost)) 60 (61 ∷ []) refl refl (λ rest. refl)
operator_readable (Compare compare.Greater) = fixed (token.Operator (Compare compare.Greater)) 62 [] refl refl (λ rest. refl)
operator_readable (Compare compare.AtLeast) = fixed (token.Operator (Compare compare.AtLeast)) 62 (61 ∷ []) refl refl (λ rest. refl)
operator_readable (Compute Add) = fixed (token.Operator (Compute Add)) 43 [] refl refl (λ rest. refl)
operator_readable (Compute Subtract) = fixed (token.Operator (Compute Subtract)) 45 [] refl refl (λ rest. refl)
operator_readable (Compute Multiply) = fixed (token.Operator (Compute Multiply)) 42 [] refl refl (λ rest. refl)
operator_readable (Compute Divide) = fixed (token.Operator (Compute Divide)) 47 [] refl refl (λ rest. refl)
operator_readable (Compute Remainder) = fixed (token.Operator (Compute Remainder)) 37 [] refl refl (λ rest. refl)

pub not_readable : Readable token.Not
not_readable = fixed token.Not 110 (111 ∷ 116 ∷ []) refl refl (λ rest. refl)

pub open_readable : Readable token.Open
open_readable = fixed token.Open 40 [] refl refl (λ rest. refl)

pub close_readable : Readable token.Close
close_readable = fixed token.Close 41 [] refl refl (λ rest. refl)

pub all-append : (xs ys : List Token) → AllReadable xs → AllReadable ys → AllReadable (xs ++ ys)
all-append [] ys p q = q
all-append (x ∷ xs) ys p q = (p.0, all-append xs ys p.1 q)
