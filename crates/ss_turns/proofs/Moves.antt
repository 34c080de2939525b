-- Values that go into slots and back, from the end.
use Rattle.std.proofs.Common.{◌≡◌, ℕ, zero, suc, List, [], ◌∷◌, ◌++◌, length, get_or, map, replicate, reverse, Option, Some, None, refl, sym, ap, ◌∙◌, append_assoc}
use Rattle.std.specs.List.{filter_map}
use Rattle.std.proofs.lemmas.List.{reverse-append, append-nil}
use Rattle.std.proofs.lemmas.List.Elements.{filter_map-append}

module _ {V : Type 0} where
  abbrev pub values_of : List (Option V) → List V
  values_of slots = filter_map (λ slot. slot) slots

  -- the last slot's value goes behind the values moved back so far, which stand last first
  pub moves_value : (slots slots' : List (Option V)) (values values' : List V) (x : V) (all : List V) → slots ≡ slots' ++ Some x ∷ [] → values' ≡ values ++ x ∷ []
      → values_of slots ++ reverse values ≡ all → values_of slots' ++ reverse values' ≡ all
  moves_value slots slots' values values' x all taken put was =
      let apart : values_of slots ≡ values_of slots' ++ x ∷ [] = ap values_of taken ∙ filter_map-append (λ slot. slot) slots' (Some x ∷ []) in
      let after : reverse values' ≡ x ∷ reverse values = ap reverse put ∙ reverse-append values (x ∷ []) in
      ap (λ ys. values_of slots' ++ ys) after ∙ (sym (append_assoc (values_of slots') (x ∷ []) (reverse values)) ∙ (ap (λ xs. xs ++ reverse values) (sym apart) ∙ was))

  pub passes_empty : (slots slots' : List (Option V)) (values all : List V) → slots ≡ slots' ++ None ∷ [] → values_of slots ++ reverse values ≡ all → values_of slots' ++ reverse values ≡ all
  passes_empty slots slots' values all taken was =
      let apart : values_of slots ≡ values_of slots' = ap values_of taken ∙ (filter_map-append (λ slot. slot) slots' (None ∷ []) ∙ append-nil (values_of slots')) in
      ap (λ xs. xs ++ reverse values) (sym apart) ∙ was

  pub all_back : (values : List V) → values_of (map Some values) ≡ values
  all_back [] = refl
  all_back (x ∷ xs) = ap (λ ys. x ∷ ys) (all_back xs)

pub zeros : (n k : ℕ) → get_or (replicate {A = ℕ} n 0) k 0 ≡ 0
zeros zero k = refl
zeros (suc n) zero = refl
zeros (suc n) (suc k) = zeros n k

pub length-zeros : (n : ℕ) → length (replicate {A = ℕ} n 0) ≡ n
length-zeros zero = refl
length-zeros (suc n) = ap suc (length-zeros n)
