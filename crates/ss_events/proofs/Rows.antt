-- What one turn of the loop over the rows does to the list, and where it ends.
use Rattle.std.proofs.Common.{◌≡◌, ◌<◌, ◌≤◌, ◌+◌, ℕ, List, [], ◌∷◌, ◌++◌, true, false, refl, sym, ap, arith, append_assoc, ◌∙◌}
use Rattle.std.specs.Prelude.{Option, Result, Ok, Err, nat_lt}
use Rattle.std.specs.Option.{option_to_list}
use Rattle.std.proofs.lemmas.Bool.Decides.{nat_tests}
use Rattle.ss_elem.specs.declared.element.Element.{Element}
use Rattle.ss_events.specs.Events.{elements_from, ending, most_rows}
use Rattle.ss_events.specs.Rows.{◌>>=◌, row_given}
use Rattle.ss_events.specs.declared.fault.EventFault.{EventFault}
use Rattle.ss_events.specs.declared.fault.EventWhy.{EventWhy}
use Rattle.ss_events.specs.declared.fault.EventWhy.TheVariants.{TooManyRows}
use Rattle.ss_events.specs.declared.late.Late.{Late}

-- the elements listed so far, in front of what is left to read
abbrev pub with_front : List Element → Result (List Element) EventFault → Result (List Element) EventFault
with_front front read = read >>= (λ rest. Ok (front ++ rest))

joined : (front given : List Element) (read : Result (List Element) EventFault)
    → with_front front (read >>= (λ rest. Ok (given ++ rest))) ≡ with_front (front ++ given) read
joined front given (Ok rest) = ap Ok (sym (append_assoc front given rest))
joined front given (Err fault) = refl

within : (number : ℕ) → number ≤ most_rows → nat_lt most_rows number ≡ false
within number few = grind (arith, nat_tests)

beyond : (number : ℕ) → most_rows < number → nat_lt most_rows number ≡ true
beyond number many = grind (arith, nat_tests)

-- the list of a file: what is left to read, behind the elements so far
module _ (all : Result (List Element) EventFault) (late : Late) (front : List Element) (left : List (List (List ℕ)))
    (number bound : ℕ)
    (told : with_front front (elements_from late left number bound) ≡ all) where
  pub at-end : left ≡ [] → all ≡ Ok (front ++ ending bound)
  unfolding elements_from
  at-end none = rw none at (sym told)

  pub one-more : (fields : List (List ℕ)) (rows : List (List (List ℕ))) (given : Option Element) (after : ℕ) → left ≡ fields ∷ rows
      → number ≤ most_rows → Ok (given, after) ≡ row_given late number bound fields
      → with_front (front ++ option_to_list given) (elements_from late rows (number + 1) after) ≡ all
  unfolding elements_from
  one-more fields rows given after first few is =
      sym (joined front (option_to_list given) (elements_from late rows (number + 1) after)) ∙ (rw (first, within number few, ← is) at told)

  pub refused : (fields : List (List ℕ)) (rows : List (List (List ℕ))) (why : EventWhy) → left ≡ fields ∷ rows
      → number ≤ most_rows → Err why ≡ row_given late number bound fields
      → all ≡ Err (record { row = number; why = why })
  unfolding elements_from
  refused fields rows why first few is = sym (rw (first, within number few, ← is) at told)

  pub too-many : (fields : List (List ℕ)) (rows : List (List (List ℕ))) → left ≡ fields ∷ rows → most_rows < number
      → all ≡ Err (record { row = number; why = TooManyRows })
  unfolding elements_from
  too-many fields rows first many = sym (rw (first, beyond number many) at told)
