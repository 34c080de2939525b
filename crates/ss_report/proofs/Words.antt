-- Texts of words and of numbers, cut into words again.
use Rattle.std.proofs.Common.{◌≡◌, ℕ, ◌<◌, ◌^◌, Bool, true, false, List, [], ◌∷◌, ◌++◌, length, Some, None, refl, sym, ap, ◌∙◌, append_assoc, arith}
use Rattle.std.specs.Prelude.{◌||◌, ◌==◌, All, codes, cond, filter, nat_lt, not}
use Rattle.std.specs.Fmt.{decimal}
use Rattle.std.specs.List.{list_all, slice_split}
use Rattle.std.specs.Str.Parse.{AllDigits, digits_value}
use Rattle.std.proofs.lemmas.Bool.{and_from, and_parts, cond-true, lt-ltb, ne_eqb}
use Rattle.std.proofs.lemmas.Fmt.{decimal_is_IsNumeral}
use Rattle.std.proofs.lemmas.List.Splits.{slice_split_at, slice_split_none}
use Rattle.std.proofs.lemmas.List.Sums.{AllPass-from_list_all, list_all-from_AllPass}
use Rattle.ss_fail.specs.Decimal.{is_decimal, number_below}
use Rattle.ss_fail.specs.Lines.{has_bytes, is_blank, words}
use Rattle.ss_report.specs.ReadAgain.{IsWord, is_act_byte, is_line_byte, is_word_byte}

pub not_true : (b : Bool) → not b ≡ true → b ≡ false
not_true true e = sym e
not_true false e = refl

no_blank : (text : List ℕ) → list_all is_word_byte text ≡ true → All (λ byte. is_blank byte ≡ false) text
no_blank text e k d l = not_true _ (and_parts _ _ (AllPass-from_list_all is_word_byte text e k d l)).0

not_either : (a b : Bool) → not a ≡ true → not b ≡ true → not (a || b) ≡ true
not_either true b na nb = na
not_either false b na nb = nb

pub word_in_line : (text : List ℕ) → list_all is_word_byte text ≡ true → list_all is_act_byte text ≡ true
word_in_line text e = list_all-from_AllPass is_act_byte text (λ k d l. (and_parts _ _ (AllPass-from_list_all is_word_byte text e k d l)).1)

pub act_in_line : (text : List ℕ) → list_all is_act_byte text ≡ true → list_all is_line_byte text ≡ true
act_in_line text e = list_all-from_AllPass is_line_byte text (λ k d l. (and_parts _ _ (AllPass-from_list_all is_act_byte text e k d l)).0)

kept : (text : List ℕ) (others : List (List ℕ)) → 0 < length text → filter has_bytes (text ∷ others) ≡ text ∷ filter has_bytes others
kept text others some = ap (λ b. cond b (text ∷ filter has_bytes others) (filter has_bytes others)) (lt-ltb 0 (length text) some)

-- a word before a space is the first, and the others are those behind the space
pub words_more : (text rest : List ℕ) → IsWord text → words (text ++ 32 ∷ rest) ≡ text ∷ words rest
words_more text rest word =
    ap (filter has_bytes) (slice_split_at is_blank text 32 rest (no_blank text word.1) refl) ∙ kept text (slice_split is_blank rest) word.0

pub words_last : (text : List ℕ) → IsWord text → words text ≡ text ∷ []
words_last text word =
    ap (filter has_bytes) (slice_split_none is_blank text (no_blank text word.1)) ∙ kept text [] word.0

-- a byte differs from one that doesn't pass
pub differs : (p : ℕ → Bool) (byte other : ℕ) → p byte ≡ true → p other ≡ false → not (byte == other) ≡ true
differs p byte other passes fails = ap not (ne_eqb byte other (λ e. absurd (let t : p other ≡ true = ap p (sym e) ∙ passes in cc)))

-- a byte that passes is one of a word, where no blank, no end of a line and no colon passes
pub word_byte : (p : ℕ → Bool) (byte : ℕ) → p byte ≡ true → p 32 ≡ false → p 9 ≡ false → p 10 ≡ false → p 13 ≡ false → p 58 ≡ false
    → is_word_byte byte ≡ true
word_byte p byte passes space tab newline return colon =
    and_from _ _ (not_either (byte == 32) (byte == 9) (differs p byte 32 passes space) (differs p byte 9 passes tab))
    (and_from _ _
    (and_from _ _ (differs p byte 10 passes newline) (differs p byte 13 passes return))
    (differs p byte 58 passes colon))

digits_word : (ds : List ℕ) → AllDigits 10 ds → list_all is_word_byte ds ≡ true
digits_word [] d = refl
digits_word (c ∷ cs) d = and_from _ _ (word_byte is_decimal c (lt-ltb _ 10 d.0) refl refl refl refl refl) (digits_word cs d.1)

digits_tested : (ds : List ℕ) → AllDigits 10 ds → list_all is_decimal ds ≡ true
digits_tested [] d = refl
digits_tested (c ∷ cs) d = and_from _ _ (lt-ltb _ 10 d.0) (digits_tested cs d.1)

pub decimal_word : (n : ℕ) → n < 2 ^ 64 → IsWord (decimal n)
decimal_word n small = let is = decimal_is_IsNumeral n small in (is.0.0, digits_word (decimal n) is.0.1)

-- a number is read again
pub number_again : (limit n : ℕ) → n < limit → n < 2 ^ 64 → number_below limit (decimal n) ≡ Some n
number_again limit n lt small =
    let is = decimal_is_IsNumeral n small in
    let value : digits_value 10 (decimal n) ≡ n = is.1 in
    let some : nat_lt 0 (length (decimal n)) ≡ true = lt-ltb 0 (length (decimal n)) is.0.0 in
    let below : nat_lt (digits_value 10 (decimal n)) limit ≡ true = lt-ltb (digits_value 10 (decimal n)) limit (omega (arith, value)) in
    cond-true _ (Some (digits_value 10 (decimal n))) None (and_from _ _ (and_from _ _ some (digits_tested (decimal n) is.0.1)) below) ∙ ap (λ m. Some m) value

-- a word and a number
pub pair_words : (name : List ℕ) (n : ℕ) → IsWord name → n < 2 ^ 64 → words (name ++ codes " " ++ decimal n) ≡ name ∷ decimal n ∷ []
pair_words name n word small =
    ap words (append_assoc name (codes " ") (decimal n)) ∙ words_more name (decimal n) word ∙ ap (λ ws. name ∷ ws) (words_last (decimal n) (decimal_word n small))
