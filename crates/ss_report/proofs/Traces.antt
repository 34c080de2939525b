-- The lines of a trace, cut at their first colons.
use Rattle.std.proofs.Common.{◌≡◌, ℕ, ◌/◌, ◌%◌, ◌<◌, Bool, zero, suc, true, false, List, [], ◌∷◌, ◌++◌, length, take, Ok}
use Rattle.std.proofs.Common.{refl, ap, ◌∙◌, append_assoc, arith}
use Rattle.std.specs.Prelude.{◌==◌, All, codes, cond, map}
use Rattle.std.specs.Char.{digit_value}
use Rattle.std.specs.Fmt.{decimal, digit_glyph, digits, digits_onto}
use Rattle.std.specs.List.{before_first, flat_map, list_all, position_or_len}
use Rattle.std.proofs.lemmas.Bool.{and_from, and_parts, lt-ltb}
use Rattle.std.proofs.lemmas.List.{length-append}
use Rattle.std.proofs.lemmas.List.Elements.{All-head, All-map, All-tail}
use Rattle.std.proofs.lemmas.List.Folds.{list_all-append}
use Rattle.std.proofs.lemmas.List.Sums.{AllPass-from_list_all, position_or_len_is}
use Rattle.std.proofs.lemmas.Str.{digit_value-digit_char}
use Rattle.std.proofs.Math.ListN.{get_or-append}
use Rattle.std.proofs.Math.Nat.{mod-lt}
use Rattle.std.proofs.Math.Seq.{get_or-append_seam, take-append_seam}
use Rattle.ss_fail.specs.Decimal.{is_decimal}
use Rattle.ss_fail.specs.Scripts.{acts_of}
use Rattle.ss_fail.specs.declared.act.Act.{Act}
use Rattle.ss_fail.specs.declared.outcome.Outcome.{Outcome}
use Rattle.ss_fail.specs.declared.outcome.Outcome.TheVariants as outcome
use Rattle.ss_fail.specs.declared.role.Role.{Role}
use Rattle.ss_report.specs.ReadAgain.{CanBeSaid, HasNames, before_colons, is_act_byte, is_colon, is_line_byte}
use Rattle.ss_report.specs.ReadAgain.{is_word_byte, schedule_text, whole_trace}
use Rattle.ss_report.specs.TraceText.{act_text, outcome_text, pair_text, trace_text}
use Rattle.ss_report.proofs.ActsAgain.{acts_again, says_act}
use Rattle.ss_report.proofs.Said.{Says, first_line}
use Rattle.ss_report.proofs.Words.{act_in_line, not_true, word_byte, word_in_line}

glyph_word : (d : ℕ) → d < 10 → is_word_byte (digit_glyph false d) ≡ true
glyph_word d lt =
    let value : digit_value (digit_glyph false d) ≡ d = digit_value-digit_char d (omega (arith, lt)) in
    word_byte is_decimal (digit_glyph false d) (lt-ltb (digit_value (digit_glyph false d)) 10 (omega (arith, lt, value)))
    refl refl refl refl refl

either : (b : Bool) (xs ys : List ℕ) → list_all is_word_byte xs ≡ true → list_all is_word_byte ys ≡ true
    → list_all is_word_byte (cond b xs ys) ≡ true
either true xs ys l r = l
either false xs ys l r = r

digits_word : (k n : ℕ) (behind : List ℕ) → list_all is_word_byte behind ≡ true
    → list_all is_word_byte (digits_onto k 10 false n behind) ≡ true
digits_word zero n behind e = e
digits_word (suc k) n behind e =
    let front : List ℕ = digit_glyph false (n % 10) ∷ behind in
    let more : list_all is_word_byte front ≡ true = and_from _ _ (glyph_word (n % 10) (mod-lt n (omega arith))) e in
    either (n / 10 == 0) front (digits_onto k 10 false (n / 10) front) more (digits_word k (n / 10) front more)

decimal_line : (n : ℕ) → list_all is_line_byte (decimal n) ≡ true
unfolding digits
decimal_line n = act_in_line (decimal n) (word_in_line (decimal n) (digits_word 64 n [] refl))

two_in_line : (front back : List ℕ) → list_all is_line_byte front ≡ true → list_all is_line_byte back ≡ true
    → list_all is_line_byte (front ++ back) ≡ true
two_in_line front back e f = list_all-append is_line_byte front back ∙ and_from _ _ e f

number_in_line : (word : List ℕ) (n : ℕ) → list_all is_line_byte word ≡ true → list_all is_line_byte (word ++ decimal n) ≡ true
number_in_line word n e = two_in_line word (decimal n) e (decimal_line n)

pair_in_line : (word : List ℕ) (first second : ℕ) → list_all is_line_byte word ≡ true
    → list_all is_line_byte (pair_text word first second) ≡ true
pair_in_line word first second e =
    two_in_line (word ++ decimal first ++ codes " ") (decimal second)
    (two_in_line (word ++ decimal first) (codes " ") (number_in_line word first e) refl) (decimal_line second)

outcome_in_line : (o : Outcome) → list_all is_line_byte (outcome_text o) ≡ true
outcome_in_line outcome.Down = refl
outcome_in_line (outcome.Pending left) = number_in_line (codes "pending ") left refl
outcome_in_line outcome.Ended = refl
outcome_in_line (outcome.Got input n) = pair_in_line (codes "got ") input n refl
outcome_in_line (outcome.Gone input n) = pair_in_line (codes "gone ") input n refl
outcome_in_line (outcome.Wait input n) = pair_in_line (codes "wait ") input n refl
outcome_in_line (outcome.Gap end) = number_in_line (codes "gap ") end refl
outcome_in_line outcome.Idle = refl
outcome_in_line (outcome.Stored n) = number_in_line (codes "stored ") n refl
outcome_in_line (outcome.Known n) = number_in_line (codes "known ") n refl
outcome_in_line (outcome.Old n) = number_in_line (codes "old ") n refl
outcome_in_line (outcome.Kept n) = number_in_line (codes "kept ") n refl
outcome_in_line outcome.Crashed = refl
outcome_in_line outcome.Up = refl
outcome_in_line (outcome.Loaded n) = number_in_line (codes "loaded ") n refl
outcome_in_line (outcome.Lost count) = number_in_line (codes "lost ") count refl
outcome_in_line (outcome.Flushed count) = number_in_line (codes "flushed ") count refl
outcome_in_line (outcome.PassDue since) = number_in_line (codes "pass_due ") since refl
outcome_in_line (outcome.Apart from dur) = pair_in_line (codes "apart ") from dur refl
outcome_in_line (outcome.Took n) = number_in_line (codes "took ") n refl
outcome_in_line (outcome.WaitDur dur) = number_in_line (codes "wait ") dur refl
outcome_in_line (outcome.Base n) = number_in_line (codes "base ") n refl
outcome_in_line (outcome.Low n) = number_in_line (codes "low ") n refl
outcome_in_line (outcome.Mark n) = number_in_line (codes "mark ") n refl
outcome_in_line outcome.Passed = refl

-- what stands before a colon, where nothing of it is one
cut : (text rest : List ℕ) → list_all is_act_byte text ≡ true → before_first is_colon (text ++ 58 ∷ rest) ≡ text
cut text rest e =
    let place : position_or_len is_colon (text ++ 58 ∷ rest) ≡ length text =
    position_or_len_is is_colon (text ++ 58 ∷ rest) (length text) 0 (omega (arith, length-append text (58 ∷ rest)))
    (λ k lt. ap is_colon (get_or-append text (58 ∷ rest) 0 k lt)
    ∙ not_true _ (and_parts _ _ (AllPass-from_list_all is_act_byte text e k 0 lt)).1)
    (λ _. ap is_colon (get_or-append_seam text 58 rest 0)) in
    ap (λ n. take n (text ++ 58 ∷ rest)) place ∙ take-append_seam text (58 ∷ rest)

abbrev line_of : List Role → Act → Outcome → List ℕ
line_of roles act o = act_text roles act ++ codes ": " ++ outcome_text o

line_in_line : (roles : List Role) (act : Act) (o : Outcome) → Says roles (act_text roles act) act
    → list_all is_line_byte (line_of roles act o) ≡ true
line_in_line roles act o says =
    two_in_line (act_text roles act ++ codes ": ") (outcome_text o)
    (two_in_line (act_text roles act) (codes ": ") (act_in_line (act_text roles act) says.in_line) refl) (outcome_in_line o)

line_some : (roles : List Role) (act : Act) (o : Outcome) → Says roles (act_text roles act) act → 0 < length (line_of roles act o)
line_some roles act o says =
    omega (arith, says.some, length-append (act_text roles act ++ codes ": ") (outcome_text o), length-append (act_text roles act) (codes ": "))

-- the first line of a trace, and those behind it
first_cut : (roles : List Role) (act : Act) (o : Outcome) (rest : List ℕ) → Says roles (act_text roles act) act
    → before_colons (trace_text roles act o ++ rest) ≡ (act_text roles act ++ codes "\n") ++ before_colons rest
first_cut roles act o rest says =
    let line : List ℕ = line_of roles act o in
    let cut_first : before_first is_colon line ≡ act_text roles act =
    ap (before_first is_colon) (append_assoc (act_text roles act) (codes ": ") (outcome_text o))
    ∙ cut (act_text roles act) (32 ∷ outcome_text o) says.in_line in
    ap (λ (t : List ℕ). before_colons t) (append_assoc line (codes "\n") rest)
    ∙ ap (flat_map (λ line. before_first is_colon line ++ codes "\n"))
    (first_line line rest (line_in_line roles act o says) (line_some roles act o says))
    ∙ ap (λ (t : List ℕ). (t ++ codes "\n") ++ before_colons rest) cut_first

all_cut : (roles : List Role) (made : List (Act × Outcome)) → HasNames roles → All (λ entry. CanBeSaid roles entry.0) made
    → before_colons (whole_trace roles made) ≡ schedule_text roles (map (λ entry. entry.0) made)
all_cut roles [] named can = refl
all_cut roles (entry ∷ made) named can =
    first_cut roles entry.0 entry.1 (whole_trace roles made)
    (says_act roles entry.0 named (All-head (λ e. CanBeSaid roles e.0) entry made can))
    ∙ ap (λ (t : List ℕ). (act_text roles entry.0 ++ codes "\n") ++ t)
    (all_cut roles made named (All-tail (λ e. CanBeSaid roles e.0) entry made can))

pub traces_again : (roles : List Role) (made : List (Act × Outcome)) → HasNames roles → All (λ entry. CanBeSaid roles entry.0) made
    → acts_of roles (before_colons (whole_trace roles made)) ≡ Ok (map (λ entry. entry.0) made)
traces_again roles made named can =
    ap (acts_of roles) (all_cut roles made named can)
    ∙ acts_again roles (map (λ entry. entry.0) made) named (All-map (CanBeSaid roles) (λ entry. entry.0) made can)
