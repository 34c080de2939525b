-- Reading a text byte by byte.
use Rattle.std.proofs.Common.{◌≡◌, ℕ, zero, suc, ◌+◌, ◌-◌, ◌<◌, false, List, ◌∷◌, length, length-drop, drop, take, take_all, get_or, Result, Ok, Err, ap, sym, ◌∙◌, arith, drop-cons, add-one}
use Rattle.std.proofs.lemmas.Bool.{cond-false}
use Rattle.ss_expr.specs.Answers.{IsFaultOfReading}
use Rattle.ss_expr.specs.Limits.{most_levels}
use Rattle.ss_expr.specs.Reading.{◌>>=◌, fault_at, finish, read_from, run, step, unbroken}
use Rattle.ss_expr.specs.Tokens.{is_blank, scan, Scanned, token_at, token_then}
use Rattle.ss_expr.specs.declared.fault.ExprFault.{ExprFault}
use Rattle.ss_expr.specs.declared.fault.ExprWhy.{ExprWhy}
use Rattle.ss_expr.specs.declared.fault.ParseFault.{ParseFault}
use Rattle.ss_expr.specs.declared.fault.ParseFault.TheVariants.{At, Memory}
use Rattle.ss_expr.specs.declared.parser.Parser.{Parser}
use Rattle.ss_expr.specs.declared.token.Token.{Token}

split_at : (text : List ℕ) (at : ℕ) → at < length text → drop at text ≡ get_or text at 0 ∷ drop (at + 1) text
split_at text at h = rw (add-one, drop-cons text at 0)

skip : (b : ℕ) (rest : List ℕ) (at taken : ℕ) → 0 < taken → scan (b ∷ rest) at taken ≡ scan rest (at + 1) (taken - 1)
skip b rest at zero h = absurd (omega arith)
skip b rest at (suc k) h =
    let same : k ≡ suc k - 1 = omega arith in
    ap (scan rest (at + 1)) same

-- a byte of a token that was taken
pub scan_skips : (text : List ℕ) (at taken : ℕ) → at < length text → 0 < taken → scan (drop at text) at taken ≡ scan (drop (at + 1) text) (at + 1) (taken - 1)
scan_skips text at taken inside h = ap (λ (bs : List ℕ). scan bs at taken) (split_at text at inside) ∙ skip (get_or text at 0) (drop (at + 1) text) at taken h

-- a token begins
scan_token : (text : List ℕ) (at : ℕ) → at < length text → is_blank (get_or text at 0) ≡ false → scan (drop at text) at 0 ≡ token_then at (token_at (drop at text)) (λ len. scan (drop (at + 1) text) (at + 1) (len - 1))
scan_token text at inside h =
    let b = get_or text at 0 in
    let rest = drop (at + 1) text in
    ap (λ (bs : List ℕ). scan bs at 0) (split_at text at inside)
    ∙ cond-false (is_blank b) (scan rest (at + 1) 0) (token_then at (token_at (b ∷ rest)) (λ len. scan rest (at + 1) (len - 1))) h
    ∙ ap (λ (bs : List ℕ). token_then at (token_at bs) (λ len. scan rest (at + 1) (len - 1))) (sym (split_at text at inside))

begun : (text : List ℕ) (at size : ℕ) (p : Parser) → at < length text → is_blank (get_or text at 0) ≡ false → (found : Result (Token × ℕ) ExprWhy) → token_at (drop at text) ≡ found
    → read_from size (scan (drop at text) at 0) p ≡ read_from size (token_then at found (λ len. scan (drop (at + 1) text) (at + 1) (len - 1))) p
begun text at size p inside h found is =
    ap (λ (s : Scanned). read_from size s p) (scan_token text at inside h ∙ ap (λ (r : Result (Token × ℕ) ExprWhy). token_then at r (λ len. scan (drop (at + 1) text) (at + 1) (len - 1))) is)

-- the part of a text from a place on, as a slice
pub from_place : (text : List ℕ) (at : ℕ) → at < length text → take (length text - at) (drop at text) ≡ drop at text
from_place text at h = take_all (length text - at) (drop at text) (omega (arith, length-drop at text))

-- a token that is taken
pub read_taken : (text : List ℕ) (at size len : ℕ) (found : Token) (p q : Parser) → at < length text → is_blank (get_or text at 0) ≡ false → token_at (drop at text) ≡ Ok (found, len)
    → step most_levels p (record { at = at; token = found }) ≡ Ok q
    → read_from size (scan (drop at text) at 0) p ≡ read_from size (scan (drop (at + 1) text) (at + 1) (len - 1)) q
read_taken text at size len found p q inside h is taken =
    let s = scan (drop (at + 1) text) (at + 1) (len - 1) in
    begun text at size p inside h (Ok (found, len)) is
    ∙ ap (λ (r : Result Parser ExprWhy). (fault_at at r >>= run most_levels s.tokens) >>= unbroken s.fault >>= finish size) taken

-- a token that is refused
read_refused : (text : List ℕ) (at size len : ℕ) (found : Token) (p : Parser) (fault : ExprFault) → at < length text → is_blank (get_or text at 0) ≡ false → token_at (drop at text) ≡ Ok (found, len)
    → fault_at at (step most_levels p (record { at = at; token = found })) ≡ Err fault
    → read_from size (scan (drop at text) at 0) p ≡ Err fault
read_refused text at size len found p fault inside h is refused =
    let s = scan (drop (at + 1) text) (at + 1) (len - 1) in
    begun text at size p inside h (Ok (found, len)) is
    ∙ ap (λ (r : Result Parser ExprFault). (r >>= run most_levels s.tokens) >>= unbroken s.fault >>= finish size) refused

-- a token that is refused, or for which memory ran out
pub read_stopped : (text : List ℕ) (at size len : ℕ) (found : Token) (p : Parser) (e : ParseFault) → at < length text → is_blank (get_or text at 0) ≡ false → token_at (drop at text) ≡ Ok (found, len)
    → IsFaultOfReading e (fault_at at (step most_levels p (record { at = at; token = found })))
    → IsFaultOfReading e (read_from size (scan (drop at text) at 0) p)
read_stopped text at size len found p Memory inside h is refused = tt
read_stopped text at size len found p (At fault) inside h is refused = read_refused text at size len found p fault inside h is refused

-- no token
pub read_broken : (text : List ℕ) (at size : ℕ) (why : ExprWhy) (p : Parser) → at < length text → is_blank (get_or text at 0) ≡ false → token_at (drop at text) ≡ Err why
    → read_from size (scan (drop at text) at 0) p ≡ Err (record { at = at; why = why })
read_broken text at size why p inside h is = begun text at size p inside h (Err why) is
