-- What is found of an end and a key, and brought back after a value was put there.
use Rattle.std.proofs.Common.{◌≡◌, ℕ, suc, ◌+◌, ◌<◌, ◌≤◌, ◌==◌, Bool, true, false, cond, ◌&&◌, ℤ, List, [], ◌∷◌, length, Option, Some, None, refl, sym, ap, subst, ◌∙◌, arith, eqb-true, eq-eqb, lt-ltb, nat_lt, ◌⊎◌, inl, inr}
use Rattle.std.specs.Prelude.{IsSome, is_some}
use Rattle.std.specs.List.{AllByRecursion}
use Rattle.std.proofs.lemmas.Bool.{and_parts, and_from, or_right, cases_order}
use Rattle.ss_meaning.specs.Entries.{WindowEntry}
use Rattle.ss_meaning.specs.EntryLists.{AreInOrder, IsBehind, is_before, is_of, single_entry, grown_entry, put_value}
use Rattle.ss_window.specs.Held.{EntryTotal, entry_of}
use Rattle.ss_window.specs.Puts.{found, with_former, restored}
use Rattle.ss_window.proofs.Places.{before_earlier, before_false, of_false, of_true, some_none, true_false}

none_is_some : (let none : Option EntryTotal = None in IsSome none) → ⊥
none_is_some h = cc

abbrev total : WindowEntry → EntryTotal
total e = record { value = e.value; rows = e.rows }

-- an entry before a place isn't the one at it
before_not_of : (w key : ℕ) (e : WindowEntry) → is_before w key e ≡ true → is_of w key e ≡ false
before_not_of w key e h = of_false w key e (λ s k. true_false (sym h ∙ at_place s k))
  where
    at_place : e.end ≡ w → e.key ≡ key → is_before w key e ≡ false
    at_place s k = before_false w key e (λ l. omega (arith, l, s)) (λ t l. omega (arith, l, k))

-- an entry that is neither before a place nor at it stands behind it
past : (w key : ℕ) (e : WindowEntry) → is_before w key e ≡ false → is_of w key e ≡ false → (w < e.end) ⊎ ((w ≡ e.end) × (key < e.key))
past w key e h k = by_end (cases_order w e.end)
  where
    by_key : w ≡ e.end → (key ≡ e.key) ⊎ ((key < e.key) ⊎ (e.key < key)) → (w < e.end) ⊎ ((w ≡ e.end) × (key < e.key))
    by_key s (inl same) = absurd (true_false (sym (of_true w key e (sym s) (sym same)) ∙ k))
    by_key s (inr (inl less)) = inr (s, less)
    by_key s (inr (inr more)) =
        absurd (true_false (sym (or_right (nat_lt e.end w) (e.end == w && nat_lt e.key key) (and_from (e.end == w) (nat_lt e.key key) (eq-eqb e.end w (sym s)) (lt-ltb e.key key more))) ∙ h))

    by_end : (w ≡ e.end) ⊎ ((w < e.end) ⊎ (e.end < w)) → (w < e.end) ⊎ ((w ≡ e.end) × (key < e.key))
    by_end (inl same) = by_key same (cases_order key e.key)
    by_end (inr (inl later)) = inl later
    by_end (inr (inr earlier)) = absurd (true_false (sym (before_earlier w key e earlier) ∙ h))

-- behind an entry that is neither before a place nor at it nothing is at it
behind_place : (w key : ℕ) (e : WindowEntry) (es : List WindowEntry) → is_before w key e ≡ false → is_of w key e ≡ false → AllByRecursion (IsBehind e.end e.key) es → found w key es ≡ None
behind_place w key e [] h k l = refl
behind_place w key e (f ∷ fs) h k l =
    ap (λ b. cond b (Some (total f)) (found w key fs)) (of_false w key f (λ s t. clash s t)) ∙ behind_place w key e fs h k l.1
  where
    clash : f.end ≡ w → f.key ≡ key → ⊥
    clash s t = absurd_order (past w key e h k) (l.0.ends) (l.0.keys)
      where
        absurd_order : (w < e.end) ⊎ ((w ≡ e.end) × (key < e.key)) → e.end ≤ f.end → (e.end ≡ f.end → e.key < f.key) → ⊥
        absurd_order (inl later) ends keys = omega (arith, later, ends, s)
        absurd_order (inr same) ends keys =
            let less = keys (omega (arith, same.0, s)) in omega (arith, less, same.1, t)

-- what was there is brought back

pub undone : (join : ℤ → ℤ → ℤ) (w key : ℕ) (v : ℤ) (es : List WindowEntry) → AreInOrder es → restored w key (found w key es) (put_value join key v w es) ≡ es
undone join w key v [] h = ap (λ b. cond b [] (single_entry w key v ∷ [])) (of_true w key (single_entry w key v) refl refl)
undone join w key v (e ∷ es) h = by_tests (is_before w key e) (is_of w key e) refl refl (undone join w key v es h.1)
  where
    by_tests : (p q : Bool) → is_before w key e ≡ p → is_of w key e ≡ q → restored w key (found w key es) (put_value join key v w es) ≡ es
        → restored w key (cond q (Some (total e)) (found w key es)) (cond p (e ∷ put_value join key v w es) (cond q (grown_entry join v e ∷ es) (single_entry w key v ∷ e ∷ es)))
        ≡ e ∷ es
    by_tests true true s t rest = absurd (true_false (sym t ∙ before_not_of w key e s))
    by_tests true false s t rest =
        ap (λ b. cond b (with_former w key (found w key es) (put_value join key v w es)) (e ∷ restored w key (found w key es) (put_value join key v w es))) t
        ∙ ap (λ (xs : List WindowEntry). e ∷ xs) rest
    by_tests false true s t rest =
        let parts = and_parts (e.end == w) (e.key == key) t in
        ap (λ b. cond b (entry_of w key (total e) ∷ es) (grown_entry join v e ∷ restored w key (Some (total e)) es)) t
        ∙ (ap (λ n. entry_of n key (total e) ∷ es) (sym (eqb-true e.end w parts.0)) ∙ ap (λ n. entry_of e.end n (total e) ∷ es) (sym (eqb-true e.key key parts.1)))
    by_tests false false s t rest =
        ap (λ b. cond b (with_former w key (found w key es) (e ∷ es)) (single_entry w key v ∷ restored w key (found w key es) (e ∷ es))) (of_true w key (single_entry w key v) refl refl)
        ∙ ap (λ (o : Option EntryTotal). with_former w key o (e ∷ es)) (behind_place w key e es s t h.0)

-- a value that was put is found

pub put_found : (join : ℤ → ℤ → ℤ) (w key : ℕ) (v : ℤ) (es : List WindowEntry) → IsSome (found w key (put_value join key v w es))
put_found join w key v [] = subst (λ b. IsSome (cond b (Some (total (single_entry w key v))) None)) (sym (of_true w key (single_entry w key v) refl refl)) refl
put_found join w key v (e ∷ es) = by_tests (is_before w key e) (is_of w key e) refl (put_found join w key v es)
  where
    at : (b : Bool) (t : EntryTotal) (o : Option EntryTotal) → (b ≡ false → IsSome o) → IsSome (cond b (Some t) o)
    at true t o h = refl
    at false t o h = h refl

    by_tests : (p q : Bool) → is_of w key e ≡ q → IsSome (found w key (put_value join key v w es))
        → IsSome (found w key (cond p (e ∷ put_value join key v w es) (cond q (grown_entry join v e ∷ es) (single_entry w key v ∷ e ∷ es))))
    by_tests true q t rest = at (is_of w key e) (total e) (found w key (put_value join key v w es)) (λ k. rest)
    by_tests false true t rest = at (is_of w key e) (total (grown_entry join v e)) (found w key es) (λ k. absurd (true_false (sym t ∙ k)))
    by_tests false false t rest =
        at (is_of w key (single_entry w key v)) (total (single_entry w key v)) (found w key (e ∷ es)) (λ k. absurd (true_false (sym (of_true w key (single_entry w key v) refl refl) ∙ k)))

-- how many entries there are then

pub put_new_length : (join : ℤ → ℤ → ℤ) (w key : ℕ) (v : ℤ) (es : List WindowEntry) → found w key es ≡ None → length (put_value join key v w es) ≡ length es + 1
put_new_length join w key v [] h = refl
put_new_length join w key v (e ∷ es) h = by_tests (is_before w key e) (is_of w key e) h (put_new_length join w key v es)
  where
    by_tests : (p q : Bool) → cond q (Some (total e)) (found w key es) ≡ None → (found w key es ≡ None → length (put_value join key v w es) ≡ length es + 1)
        → length (cond p (e ∷ put_value join key v w es) (cond q (grown_entry join v e ∷ es) (single_entry w key v ∷ e ∷ es))) ≡ suc (length es) + 1
    by_tests p true g rest = absurd (some_none (total e) g)
    by_tests true false g rest = let more = rest g in omega (arith, more)
    by_tests false false g rest = omega arith

pub put_old_length : (join : ℤ → ℤ → ℤ) (w key : ℕ) (v : ℤ) (es : List WindowEntry) → AreInOrder es → IsSome (found w key es) → length (put_value join key v w es) ≡ length es
put_old_length join w key v [] h k = absurd (none_is_some k)
put_old_length join w key v (e ∷ es) h k = by_tests (is_before w key e) (is_of w key e) refl refl k (put_old_length join w key v es h.1)
  where
    by_tests : (p q : Bool) → is_before w key e ≡ p → is_of w key e ≡ q → IsSome (cond q (Some (total e)) (found w key es))
        → (IsSome (found w key es) → length (put_value join key v w es) ≡ length es)
        → length (cond p (e ∷ put_value join key v w es) (cond q (grown_entry join v e ∷ es) (single_entry w key v ∷ e ∷ es))) ≡ suc (length es)
    by_tests true true s t g rest = absurd (true_false (sym t ∙ before_not_of w key e s))
    by_tests true false s t g rest = ap suc (rest g)
    by_tests false true s t g rest = refl
    by_tests false false s t g rest = absurd (none_is_some (subst (λ (o : Option EntryTotal). IsSome o) (behind_place w key e es s t h.0) g))

set_length : (w key : ℕ) (t : EntryTotal) (es : List WindowEntry) → length (restored w key (Some t) es) ≡ length es
set_length w key t [] = refl
set_length w key t (e ∷ es) = by_test (is_of w key e) (set_length w key t es)
  where
    by_test : (b : Bool) → length (restored w key (Some t) es) ≡ length es → length (cond b (entry_of w key t ∷ es) (e ∷ restored w key (Some t) es)) ≡ suc (length es)
    by_test true rest = refl
    by_test false rest = ap suc rest

taken_length : (w key : ℕ) (es : List WindowEntry) → IsSome (found w key es) → length (restored w key None es) + 1 ≡ length es
taken_length w key [] h = absurd (none_is_some h)
taken_length w key (e ∷ es) h = by_test (is_of w key e) h (taken_length w key es)
  where
    by_test : (b : Bool) → IsSome (cond b (Some (total e)) (found w key es)) → (IsSome (found w key es) → length (restored w key None es) + 1 ≡ length es)
        → length (cond b es (e ∷ restored w key None es)) + 1 ≡ suc (length es)
    by_test true g rest = omega arith
    by_test false g rest = let less = rest g in omega (arith, less)

pub kept_length : (w key : ℕ) (had : Option EntryTotal) (es : List WindowEntry) → is_some had ≡ true → length (restored w key had es) ≡ length es
kept_length w key None es h = cc
kept_length w key (Some t) es h = set_length w key t es

pub fewer_length : (w key : ℕ) (had : Option EntryTotal) (es : List WindowEntry) → is_some had ≡ false → IsSome (found w key es) → length (restored w key had es) + 1 ≡ length es
fewer_length w key None es h k = taken_length w key es k
fewer_length w key (Some t) es h k = cc

-- the order stays

all_restored : (P : WindowEntry → Type 0) (w key : ℕ) (had : Option EntryTotal) (es : List WindowEntry)
    → ((e : WindowEntry) (t : EntryTotal) → is_of w key e ≡ true → P e → P (entry_of w key t)) → AllByRecursion P es → AllByRecursion P (restored w key had es)
all_restored P w key had [] f h = tt
all_restored P w key had (e ∷ es) f h = by_test (is_of w key e) refl had (all_restored P w key had es f h.1)
  where
    by_test : (b : Bool) → is_of w key e ≡ b → (o : Option EntryTotal) → AllByRecursion P (restored w key had es)
        → AllByRecursion P (cond b (with_former w key o es) (e ∷ restored w key had es))
    by_test true s None rest = h.1
    by_test true s (Some t) rest = (f e t s h.0, h.1)
    by_test false s o rest = (h.0, rest)

same_place : (w key : ℕ) (e : WindowEntry) → is_of w key e ≡ true → (e.end ≡ w) × (e.key ≡ key)
same_place w key e h = let parts = and_parts (e.end == w) (e.key == key) h in (eqb-true e.end w parts.0, eqb-true e.key key parts.1)

behind_place_of : (end k w key : ℕ) (e : WindowEntry) (t : EntryTotal) → is_of w key e ≡ true → IsBehind end k e → IsBehind end k (entry_of w key t)
behind_place_of end k w key e t h b =
    let same = same_place w key e h in
    record { ends = omega (arith, b.ends, same.0); keys = λ s. let less = b.keys (omega (arith, s, same.0)) in omega (arith, less, same.1) }

behind_former : (w key : ℕ) (e : WindowEntry) (es : List WindowEntry) → is_of w key e ≡ true → AllByRecursion (IsBehind e.end e.key) es → AllByRecursion (IsBehind w key) es
behind_former w key e es h k =
    let same = same_place w key e h in
    subst (λ n. AllByRecursion (IsBehind n key) es) same.0 (subst (λ n. AllByRecursion (IsBehind e.end n) es) same.1 k)

pub restored_order : (w key : ℕ) (had : Option EntryTotal) (es : List WindowEntry) → AreInOrder es → AreInOrder (restored w key had es)
restored_order w key had [] h = tt
restored_order w key had (e ∷ es) h = by_test (is_of w key e) refl had (restored_order w key had es h.1)
  where
    by_test : (b : Bool) → is_of w key e ≡ b → (o : Option EntryTotal) → AreInOrder (restored w key had es)
        → AreInOrder (cond b (with_former w key o es) (e ∷ restored w key had es))
    by_test true s None rest = h.1
    by_test true s (Some t) rest = (behind_former w key e es s h.0, h.1)
    by_test false s o rest =
        (all_restored (IsBehind e.end e.key) w key had es (λ f t k b. behind_place_of e.end e.key w key f t k b) h.0, rest)
