-- What a whole stream is made of.
use Rattle.std.proofs.Common.{◌≡◌, ℕ, zero, suc, ◌+◌, ◌<◌, ◌≤◌, ◌&&◌, nat_lt, nat_le, true, false, List, [], ◌∷◌, length, get_or, Option, Some, None, refl, sym, ap, ◌∙◌, arith, All, if◌then◌else◌, ◌⊎◌, inl, inr, lit<}
use Rattle.std.proofs.lemmas.Bool.Decides.{nat_tests}
use Rattle.std.proofs.lemmas.List.Elements.{All-cons, All-nil}
use Rattle.std.proofs.lemmas.Option.{get_or_from_slice_get, slice_get_within}
use Rattle.std.specs.Prelude.{IsSome, is_some, slice_get}
use Rattle.std.specs.Option.{option_and_then}
use Rattle.ss_elem.specs.Validity.{Whole, bound_from, next_bound, top}
use Rattle.ss_elem.specs.declared.element.Element.{Element}
use Rattle.ss_elem.specs.declared.element.Element.TheVariants.{Row, Cti, End}
use Rattle.ss_vault.specs.Steps.{is_end}

-- what may stand at some bound may stand first
first_row : (b s e : ℕ) → IsSome {T = ℕ} (if nat_lt b top && nat_lt e top && nat_lt s e && nat_le b s then Some b else None)
    → IsSome {T = ℕ} (if nat_lt 0 top && nat_lt e top && nat_lt s e && nat_le 0 s then Some 0 else None)
first_row b s e h = grind (arith, nat_tests)

first_cti : (b t : ℕ) → IsSome {T = ℕ} (if nat_lt b t && nat_lt t top then Some t else None) → IsSome {T = ℕ} (if nat_lt 0 t && nat_lt t top then Some t else None)
first_cti b t h = grind (arith, nat_tests)

may_be_first : (b : ℕ) (x : Element) → IsSome (next_bound b x) → IsSome (next_bound 0 x)
may_be_first b (Row row) h = first_row b row.start row.end h
may_be_first b (Cti time) h = first_cti b time h
may_be_first b End h = refl

-- a bound after a list that begins with x
behind : (after : Option ℕ) (xs : List Element) (t : ℕ) → option_and_then (λ b. bound_from b xs) after ≡ Some t
    → (c : ℕ) × (after ≡ Some c) × (bound_from c xs ≡ Some t)
behind None xs t h = absurd cc
behind (Some c) xs t h = (c, refl, h)

firsts : (xs : List Element) (b t : ℕ) → bound_from b xs ≡ Some t → All (λ x. IsSome (next_bound 0 x)) xs
firsts [] b t h = All-nil (λ x. IsSome (next_bound 0 x))
firsts (x ∷ xs) b t h =
    let some = behind (next_bound b x) xs t h in
    All-cons (λ y. IsSome (next_bound 0 y)) x xs (may_be_first b x (ap (λ (o : Option ℕ). is_some o) some.1)) (firsts xs some.0 t some.2)

pub whole_firsts : (xs : List Element) → Whole xs → All (λ x. IsSome (next_bound 0 x)) xs
whole_firsts xs whole = firsts xs 0 top whole

-- nothing follows the end, and nothing else is the last
none_follow : (x : Element) → next_bound top x ≡ None
none_follow (Row row) = grind (arith, nat_tests)
none_follow (Cti time) = grind (arith, nat_tests)
none_follow End = grind (arith, nat_tests)

below_top : (b c : ℕ) (x : Element) → b < top → next_bound b x ≡ Some c → ((is_end x ≡ false) × (c < top)) ⊎ ((is_end x ≡ true) × (c ≡ top))
below_top b c (Row row) low h = inl (refl, grind (arith, nat_tests))
below_top b c (Cti time) low h = inl (refl, grind (arith, nat_tests))
below_top b c End low h = inr (refl, grind (arith, nat_tests))

none_left : (xs : List Element) → bound_from top xs ≡ Some top → length xs ≡ 0
none_left [] h = refl
none_left (x ∷ xs) h =
    let some = behind (next_bound top x) xs top h in
    absurd (cc (none_follow x, some.1))

some_left : (xs : List Element) (c : ℕ) → c < top → bound_from c xs ≡ Some top → 0 < length xs
some_left [] c low h = let e : c ≡ top = cc in absurd (omega (arith, low, e))
some_left (x ∷ xs) c low h = omega arith

le_yes : (m k : ℕ) → m ≤ k → nat_le m k ≡ true
le_yes m k h = grind (arith, nat_tests)

le_no : (m k : ℕ) → k < m → nat_le m k ≡ false
le_no m k h = grind (arith, nat_tests)

le_shift : (a b c d : ℕ) → c ≡ a + 1 → d ≡ b + 1 → nat_le a b ≡ nat_le c d
le_shift a b c d e f = grind (arith, nat_tests)

last_is_end : (xs : List Element) (b n : ℕ) → b < top → bound_from b xs ≡ Some top → n < length xs
    → is_end (get_or xs n End) ≡ nat_le (length xs) (n + 1)
last_is_end [] b n low h within = absurd (omega (arith, within))
last_is_end (x ∷ xs) b zero low h within =
    let some = behind (next_bound b x) xs top h in
    elim (below_top b some.0 x low some.1) [
      | inl w ↦ w.0 ∙ sym (le_no (length (x ∷ xs)) 1 (omega (arith, some_left xs some.0 w.1 some.2)))
      | inr w ↦ w.0 ∙ sym (le_yes (length (x ∷ xs)) 1 (omega (arith, none_left xs (ap (λ (c : ℕ). bound_from c xs) (sym w.1) ∙ some.2))))
    ]
last_is_end (x ∷ xs) b (suc n) low h within =
    let some = behind (next_bound b x) xs top h in
    elim (below_top b some.0 x low some.1) [
      | inl w ↦ last_is_end xs some.0 n w.1 some.2 (omega (arith, within))
          ∙ le_shift (length xs) (n + 1) (length (x ∷ xs)) (suc n + 1) (omega arith) (omega arith)
      | inr w ↦ absurd (omega (arith, within, none_left xs (ap (λ (c : ℕ). bound_from c xs) (sym w.1) ∙ some.2)))
    ]

pub whole_ends : (xs : List Element) (n : ℕ) (x : Element) → Whole xs → slice_get xs n ≡ Some x
    → is_end x ≡ nat_le (length xs) (n + 1)
whole_ends xs n x whole is_item =
    ap is_end (sym (get_or_from_slice_get xs n x End is_item))
    ∙ last_is_end xs 0 n (lit< tt) whole (slice_get_within xs n x is_item)

pub whole_some : (xs : List Element) → Whole xs → 0 < length xs
whole_some xs whole = some_left xs 0 (lit< tt) whole
