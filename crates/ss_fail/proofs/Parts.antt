-- Lines, part by part.
use Rattle.std.proofs.Common.{◌≡◌, ℕ, ◌+◌, ◌<◌, ◌≤◌, eqb, ltb, List, [], ◌∷◌, ◌++◌, length, get_or, drop, refl, sym, ap, ◌∙◌, arith, inl, inr}
use Rattle.std.specs.Prelude.{option_to_list}
use Rattle.std.specs.Str.Lines.{lines_of_parts, strip_carriage_return}
use Rattle.std.proofs.lemmas.Bool.{cases_lt, cond-true, cond-false, lt-ltb, le-ltb, ne_eqb}
use Rattle.std.proofs.lemmas.List.{append-nil, append_assoc, drop_all, drop_more}
use Rattle.ss_fail.specs.Lines.{LineWords, said_line, said_lines}
use Rattle.ss_fail.specs.SaidLine.{line_in}

last_part : (number : ℕ) (part : List ℕ) → said_lines number (lines_of_parts (part ∷ [])) ≡ option_to_list (said_line number part) ++ []
last_part number [] = refl
last_part number (x ∷ part) =
    ap (said_lines number) (cond-false (eqb (length (x ∷ part)) 0) [] ((x ∷ part) ∷ []) (ne_eqb (length (x ∷ part)) 0 (λ e. absurd (omega (arith, e)))))

-- the part at a place, and those behind it
pub next_part : (parts : List (List ℕ)) (place number : ℕ) → place < length parts
    → said_lines number (lines_of_parts (drop place parts))
    ≡ option_to_list (said_line number (line_in parts place)) ++ said_lines (number + 1) (lines_of_parts (drop (place + 1) parts))
next_part parts place number lt =
    let part : List ℕ = get_or parts place [] in
    let behind : List (List ℕ) = drop (place + 1) parts in
    let here : drop place parts ≡ part ∷ behind = drop_more parts place [] lt in
    elim (cases_lt (place + 1) (length parts)) [
      | inl more ↦
          let next : behind ≡ get_or parts (place + 1) [] ∷ drop (place + 1 + 1) parts = drop_more parts (place + 1) [] more in
          let line : line_in parts place ≡ strip_carriage_return part = cond-true (ltb (place + 1) (length parts)) (strip_carriage_return part) part (lt-ltb (place + 1) (length parts) more) in
          ap (λ (ps : List (List ℕ)). said_lines number (lines_of_parts ps)) here
          ∙ ap (λ (ps : List (List ℕ)). said_lines number (lines_of_parts (part ∷ ps))) next
          ∙ ap (λ (ps : List (List ℕ)). option_to_list (said_line number (strip_carriage_return part)) ++ said_lines (number + 1) (lines_of_parts ps)) (sym next)
          ∙ ap (λ (l : List ℕ). option_to_list (said_line number l) ++ said_lines (number + 1) (lines_of_parts behind)) (sym line)
      | inr last ↦
          let none : behind ≡ [] = drop_all (place + 1) parts last in
          let line : line_in parts place ≡ part = cond-false (ltb (place + 1) (length parts)) (strip_carriage_return part) part (le-ltb (place + 1) (length parts) last) in
          ap (λ (ps : List (List ℕ)). said_lines number (lines_of_parts ps)) here
          ∙ ap (λ (ps : List (List ℕ)). said_lines number (lines_of_parts (part ∷ ps))) none
          ∙ last_part number part
          ∙ ap (λ (l : List ℕ). option_to_list (said_line number l) ++ []) (sym line)
          ∙ ap (λ (ps : List (List ℕ)). option_to_list (said_line number (line_in parts place)) ++ said_lines (number + 1) (lines_of_parts ps)) (sym none)
    ]

-- the front of all lines and what is left of them
pub goes_on : (parts : List (List ℕ)) (place : ℕ) (front : List LineWords) (all : List LineWords) → place < length parts
    → front ++ said_lines (place + 1) (lines_of_parts (drop place parts)) ≡ all
    → (front ++ option_to_list (said_line (place + 1) (line_in parts place))) ++ said_lines (place + 1 + 1) (lines_of_parts (drop (place + 1) parts)) ≡ all
goes_on parts place front all lt so_far =
    append_assoc front (option_to_list (said_line (place + 1) (line_in parts place))) (said_lines (place + 1 + 1) (lines_of_parts (drop (place + 1) parts)))
    ∙ ap (λ (ls : List LineWords). front ++ ls) (sym (next_part parts place (place + 1) lt)) ∙ so_far

pub at_end : (parts : List (List ℕ)) (place : ℕ) (front all : List LineWords) → length parts ≤ place
    → front ++ said_lines (place + 1) (lines_of_parts (drop place parts)) ≡ all → front ≡ all
at_end parts place front all le so_far =
    sym (append-nil front) ∙ ap (λ (ps : List (List ℕ)). front ++ said_lines (place + 1) (lines_of_parts ps)) (sym (drop_all place parts le)) ∙ so_far
