-- Lines of acts, read again.
use Rattle.std.proofs.Common.{◌≡◌, ℕ, ◌+◌, ◌-◌, ◌<◌, true, false, List, [], ◌∷◌, ◌++◌, length, Some, None, Ok, refl, ap, ◌∙◌, append_assoc, arith}
use Rattle.std.specs.Prelude.{◌||◌, ◌==◌, All, codes, option_to_list, slice_index, take}
use Rattle.std.specs.List.{list_all, slice_split}
use Rattle.std.specs.Str.Lines.{lines, lines_of_parts, strip_carriage_return}
use Rattle.std.proofs.lemmas.Bool.{and_from, and_parts, cond-false, ne_eqb}
use Rattle.std.proofs.lemmas.List.{length-append}
use Rattle.std.proofs.lemmas.List.Folds.{list_all-append}
use Rattle.std.proofs.lemmas.List.Splits.{length-slice_split, slice_split_at, slice_split_none}
use Rattle.std.proofs.lemmas.List.Sums.{AllPass-from_list_all}
use Rattle.ss_fail.specs.declared.act.Act.{Act}
use Rattle.ss_fail.specs.declared.role.Role.{Role}
use Rattle.ss_fail.specs.Acts.{act_line}
use Rattle.ss_fail.specs.Lines.{is_comment, said_line, said_lines, then_values, values_of, words}
use Rattle.ss_report.specs.ReadAgain.{is_act_byte, is_line_byte}
use Rattle.ss_report.proofs.Words.{act_in_line, not_true}

-- a text is one line without a colon, whose words say this act
pub record Says (roles : List Role) (text : List ℕ) (act : Act) : Type 0 where
  pub in_line : list_all is_act_byte text ≡ true
  pub some : 0 < length text
  pub said : (number : ℕ) → said_line number text ≡ Some (record { number = number; words = words text })
  pub is : act_line roles (words text) ≡ Ok act

-- the front of a text: a word and a space
pub record IsHead (head first : List ℕ) : Type 0 where
  pub splits : (rest : List ℕ) → words (head ++ rest) ≡ first ∷ words rest
  pub no_comment : (rest : List ℕ) → is_comment (head ++ rest) ≡ false
  pub in_line : list_all is_act_byte head ≡ true
  pub some : 0 < length head

said_text : (text first : List ℕ) (others : List (List ℕ)) (number : ℕ) → words text ≡ first ∷ others → is_comment text ≡ false
    → said_line number text ≡ Some (record { number = number; words = words text })
said_text text first others number cut no_comment =
    cond-false (length (words text) == 0 || is_comment text) None (Some (record { number = number; words = words text }))
    (ap (λ (ws : List (List ℕ)). length ws == 0 || is_comment text) cut
    ∙ ap (λ b. b || is_comment text) (ne_eqb (length (first ∷ others)) 0 (λ e. absurd (omega (arith, e))))
    ∙ no_comment)

pub says : (roles : List Role) (head first rest : List ℕ) (others : List (List ℕ)) (act : Act) → IsHead head first → words rest ≡ others
    → list_all is_act_byte rest ≡ true → act_line roles (first ∷ others) ≡ Ok act → Says roles (head ++ rest) act
says roles head first rest others act is_head cut in_line is =
    let whole : words (head ++ rest) ≡ first ∷ others = is_head.splits rest ∙ ap (λ ws. first ∷ ws) cut in
    record {
      in_line = list_all-append is_act_byte head rest ∙ and_from _ _ is_head.in_line in_line;
      some = omega (arith, is_head.some, length-append head rest);
      said = λ number. said_text (head ++ rest) first others number whole (is_head.no_comment rest);
      is = ap (act_line roles) whole ∙ is;
    }

no_newline : (text : List ℕ) → list_all is_line_byte text ≡ true → All (λ b. (b == 10) ≡ false) text
no_newline text e k d l = not_true _ (and_parts _ _ (AllPass-from_list_all is_line_byte text e k d l)).0

stripped : (text : List ℕ) → list_all is_line_byte text ≡ true → 0 < length text → strip_carriage_return text ≡ text
stripped text e some =
    cond-false (slice_index text (length text - 1) == 13) (take (length text - 1) text) text
    (not_true _ (and_parts _ _ (AllPass-from_list_all is_line_byte text e (length text - 1) 0 (omega (arith, some)))).1)

more_lines : (text : List ℕ) (parts : List (List ℕ)) → 0 < length parts → strip_carriage_return text ≡ text
    → lines_of_parts (text ∷ parts) ≡ text ∷ lines_of_parts parts
more_lines text [] some e = absurd (omega (arith, some))
more_lines text (part ∷ parts) some e = ap (λ t. t ∷ lines_of_parts (part ∷ parts)) e

pub first_line : (text rest : List ℕ) → list_all is_line_byte text ≡ true → 0 < length text
    → lines (text ++ 10 ∷ rest) ≡ text ∷ lines rest
first_line text rest e some =
    ap lines_of_parts (slice_split_at (λ b. b == 10) text 10 rest (no_newline text e) refl)
    ∙ more_lines text (slice_split (λ b. b == 10) rest) (omega (arith, length-slice_split (λ b. b == 10) rest)) (stripped text e some)

only_line : (text : List ℕ) → list_all is_line_byte text ≡ true → 0 < length text → lines text ≡ text ∷ []
only_line text e some =
    ap lines_of_parts (slice_split_none (λ b. b == 10) text (no_newline text e))
    ∙ cond-false (length text == 0) [] (text ∷ []) (ne_eqb (length text) 0 (λ e. absurd (omega (arith, e, some))))

-- the first line says an act, and the lines behind it say these acts
read_first : (roles : List Role) (number : ℕ) (text : List ℕ) (others : List (List ℕ)) (act : Act) (acts : List Act) → Says roles text act
    → values_of (act_line roles) (said_lines (number + 1) others) ≡ Ok acts
    → values_of (act_line roles) (said_lines number (text ∷ others)) ≡ Ok (act ∷ acts)
read_first roles number text others act acts says behind =
    ap (λ o. values_of (act_line roles) (option_to_list o ++ said_lines (number + 1) others)) (says.said number)
    ∙ ap (λ r. then_values number r (values_of (act_line roles) (said_lines (number + 1) others))) says.is
    ∙ ap (then_values number (Ok act)) behind

pub read_more : (roles : List Role) (number : ℕ) (text rest : List ℕ) (act : Act) (acts : List Act) → Says roles text act
    → values_of (act_line roles) (said_lines (number + 1) (lines rest)) ≡ Ok acts
    → values_of (act_line roles) (said_lines number (lines ((text ++ codes "\n") ++ rest))) ≡ Ok (act ∷ acts)
read_more roles number text rest act acts says behind =
    ap (λ (t : List ℕ). values_of (act_line roles) (said_lines number (lines t))) (append_assoc text (codes "\n") rest)
    ∙ ap (λ ls. values_of (act_line roles) (said_lines number ls)) (first_line text rest (act_in_line text says.in_line) says.some)
    ∙ read_first roles number text (lines rest) act acts says behind

pub read_only : (roles : List Role) (text : List ℕ) (act : Act) → Says roles text act
    → values_of (act_line roles) (said_lines 1 (lines text)) ≡ Ok (act ∷ [])
read_only roles text act says =
    ap (λ ls. values_of (act_line roles) (said_lines 1 ls)) (only_line text (act_in_line text says.in_line) says.some)
    ∙ read_first roles 1 text [] act [] says refl
