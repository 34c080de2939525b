-- How an entry stands to the place of an end and a key.
use Rattle.std.proofs.Common.{◌≡◌, ℕ, ◌<◌, ◌==◌, nat_lt, Bool, true, false, ◌&&◌, ◌||◌, Some, None, refl, sym, arith, ltb-true, lt-ltb, eqb-true, eq-eqb}
use Rattle.std.specs.declared.cmp.Ordering.{Ordering}
use Rattle.std.specs.declared.cmp.Ordering.TheVariants.{Less, Equal, Greater}
use Rattle.std.specs.Ordering.{nat_cmp, MatchOrdering}
use Rattle.std.proofs.lemmas.Bool.{and_from, or_left, or_right}
use Rattle.std.proofs.lemmas.Cmp.{ranked}
use Rattle.ss_meaning.specs.Entries.{WindowEntry}
use Rattle.ss_meaning.specs.EntryLists.{is_before, is_of}
use Rattle.ss_window.specs.Held.{EntryTotal, entry_of}

pub true_false : true ≡ false → ⊥
true_false h = cc

pub none_some : {X : Type 0} (x : X) → None ≡ Some x → ⊥
none_some x h = cc

pub some_none : {X : Type 0} (x : X) → Some x ≡ None → ⊥
some_none x h = cc

pub before_false : (w key : ℕ) (e : WindowEntry) → (e.end < w → ⊥) → (e.end ≡ w → e.key < key → ⊥) → is_before w key e ≡ false
before_false w key e h k = at_end (nat_lt e.end w) refl
  where
    at_key : (c : Bool) → nat_lt e.key key ≡ c → e.end ≡ w → c ≡ false
    at_key true t s = absurd (k s (ltb-true e.key key t))
    at_key false t s = refl

    at_same : (b : Bool) → (e.end == w) ≡ b → (b && nat_lt e.key key) ≡ false
    at_same true s = at_key (nat_lt e.key key) refl (eqb-true e.end w s)
    at_same false s = refl

    at_end : (a : Bool) → nat_lt e.end w ≡ a → (a || (e.end == w && nat_lt e.key key)) ≡ false
    at_end true t = absurd (h (ltb-true e.end w t))
    at_end false t = at_same (e.end == w) refl

pub of_false : (w key : ℕ) (e : WindowEntry) → (e.end ≡ w → e.key ≡ key → ⊥) → is_of w key e ≡ false
of_false w key e h = at_same (e.end == w) refl
  where
    at_key : (c : Bool) → (e.key == key) ≡ c → e.end ≡ w → c ≡ false
    at_key true t s = absurd (h s (eqb-true e.key key t))
    at_key false t s = refl

    at_same : (b : Bool) → (e.end == w) ≡ b → (b && (e.key == key)) ≡ false
    at_same true s = at_key (e.key == key) refl (eqb-true e.end w s)
    at_same false s = refl

pub of_true : (w key : ℕ) (e : WindowEntry) → e.end ≡ w → e.key ≡ key → is_of w key e ≡ true
of_true w key e h k = and_from (e.end == w) (e.key == key) (eq-eqb e.end w h) (eq-eqb e.key key k)

-- an entry at an earlier end
pub before_earlier : (w key : ℕ) (e : WindowEntry) → e.end < w → is_before w key e ≡ true
before_earlier w key e h = or_left (nat_lt e.end w) (e.end == w && nat_lt e.key key) (lt-ltb e.end w h)

pub of_earlier : (w key : ℕ) (e : WindowEntry) → e.end < w → is_of w key e ≡ false
of_earlier w key e h = of_false w key e (λ s k. omega (arith, h, s))

-- an entry at a later end
pub before_later : (w key : ℕ) (e : WindowEntry) → w < e.end → is_before w key e ≡ false
before_later w key e h = before_false w key e (λ l. omega (arith, h, l)) (λ s k. omega (arith, h, s))

pub of_later : (w key : ℕ) (e : WindowEntry) → w < e.end → is_of w key e ≡ false
of_later w key e h = of_false w key e (λ s k. omega (arith, h, s))

-- what a comparison of keys says of an entry at the end compared to
abbrev pub Stands : ℕ → ℕ → WindowEntry → Ordering → Type 0
Stands w key e c = MatchOrdering c ((is_before w key e ≡ false) × (is_of w key e ≡ false)) ((is_before w key e ≡ false) × (is_of w key e ≡ true)) (is_before w key e ≡ true)

pub stands : (w key k : ℕ) (t : EntryTotal) → Stands w key (entry_of w k t) (nat_cmp key k)
stands w key k t = by_order (nat_cmp key k) (ranked key k (nat_cmp key k) refl)
  where
    by_order : (c : Ordering) → MatchOrdering c (key < k) (key ≡ k) (k < key) → Stands w key (entry_of w k t) c
    by_order Less h = (before_false w key (entry_of w k t) (λ l. omega (arith, l)) (λ s l. omega (arith, l, h)), of_false w key (entry_of w k t) (λ s u. omega (arith, u, h)))
    by_order Equal h = (before_false w key (entry_of w k t) (λ l. omega (arith, l)) (λ s l. omega (arith, l, h)), of_true w key (entry_of w k t) refl (sym h))
    by_order Greater h =
        or_right (nat_lt w w) (w == w && nat_lt k key) (and_from (w == w) (nat_lt k key) (eq-eqb w w refl) (lt-ltb k key h))
