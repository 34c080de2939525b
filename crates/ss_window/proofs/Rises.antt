-- Entries in order are cut at a bound in one place.
use Rattle.std.proofs.Common.{◌≡◌, ℕ, zero, suc, ◌+◌, ◌<◌, Bool, true, false, cond, nat_lt, nat_le, List, [], ◌∷◌, length, take, drop, filter, refl, sym, ap, subst, ◌∙◌, arith, leb-true, leb-false, lt-ltb, le-ltb, ◌≤◌, ◌++◌}
use Rattle.std.proofs.lemmas.Bool.{le-leb, lt-leb}
use Rattle.std.proofs.lemmas.List.Folds.{length-prefix_len}
use Rattle.std.specs.List.{AllByRecursion, prefix_len}
use Rattle.ss_meaning.specs.Entries.{WindowEntry}
use Rattle.ss_meaning.specs.EntryLists.{IsBehind, AreInOrder}
use Rattle.ss_window.specs.Held.{EntryTotal, entry_of, entries_at}
use Rattle.ss_window.specs.States.{begins_reached, reached, left}

one_more : (n : ℕ) → 1 + n ≡ suc n
one_more n = omega arith

-- whether an entry is closed at a bound
abbrev pub is_closed : ℕ → WindowEntry → Bool
is_closed low e = nat_le e.end low

none_closed : (low : ℕ) (es : List WindowEntry) → AllByRecursion (λ (e : WindowEntry). low < e.end) es → (filter (is_closed low) es ≡ []) × (filter (λ e. nat_lt low e.end) es ≡ es)
none_closed low [] h = (refl, refl)
none_closed low (e ∷ es) h =
    let rest = none_closed low es h.1 in (
      ap (λ b. cond b (e ∷ filter (is_closed low) es) (filter (is_closed low) es)) (lt-leb e.end low h.0) ∙ rest.0,
      ap (λ b. cond b (e ∷ filter (λ e. nat_lt low e.end) es) (filter (λ e. nat_lt low e.end) es)) (lt-ltb low e.end h.0) ∙ ap (λ ys. e ∷ ys) rest.1,
    )

later : (low : ℕ) (e : WindowEntry) (es : List WindowEntry) → low < e.end → AllByRecursion (IsBehind e.end e.key) es → AllByRecursion (λ (x : WindowEntry). low < x.end) es
later low e [] h k = tt
later low e (x ∷ xs) h k = (omega (arith, h, k.0.ends), later low e xs h k.1)

pub cut : (low : ℕ) (es : List WindowEntry) → AreInOrder es
    → (take (prefix_len (is_closed low) es) es ≡ filter (is_closed low) es) × (drop (prefix_len (is_closed low) es) es ≡ filter (λ e. nat_lt low e.end) es)
cut low [] h = (refl, refl)
cut low (e ∷ es) h = by_test (nat_le e.end low) refl (cut low es h.1)
  where
    by_test : (b : Bool) → nat_le e.end low ≡ b
        → (take (prefix_len (is_closed low) es) es ≡ filter (is_closed low) es) × (drop (prefix_len (is_closed low) es) es ≡ filter (λ e. nat_lt low e.end) es)
        → (take (cond b (1 + prefix_len (is_closed low) es) 0) (e ∷ es) ≡ cond b (e ∷ filter (is_closed low) es) (filter (is_closed low) es))
        × (drop (cond b (1 + prefix_len (is_closed low) es) 0) (e ∷ es) ≡ filter (λ e. nat_lt low e.end) (e ∷ es))
    by_test true t rest = (
      ap (λ n. take n (e ∷ es)) (one_more (prefix_len (is_closed low) es)) ∙ ap (λ ys. e ∷ ys) rest.0,
      ap (λ n. drop n (e ∷ es)) (one_more (prefix_len (is_closed low) es)) ∙ (rest.1
          ∙ sym (ap (λ b. cond b (e ∷ filter (λ e. nat_lt low e.end) es) (filter (λ e. nat_lt low e.end) es)) (le-ltb low e.end (leb-true e.end low t)))),
    )
    by_test false t rest =
        let above = leb-false e.end low t in
        let none = none_closed low (e ∷ es) (above, later low e es above h.0) in (
          sym (none_closed low es (later low e es above h.0)).0,
          sym none.1,
        )

-- where no end in front is reached, none is
pub none_reached : (low : ℕ) (es : List WindowEntry) → AreInOrder es → begins_reached low es ≡ false → (reached low es ≡ []) × (left low es ≡ es)
none_reached low [] h k = (refl, refl)
none_reached low (e ∷ es) h k = let above = leb-false e.end low k in none_closed low (e ∷ es) (above, later low e es above h.0)

-- an entry in front that is reached is given, and goes
pub first_reached : (low : ℕ) (e : WindowEntry) (es : List WindowEntry) → nat_le e.end low ≡ true → (reached low (e ∷ es) ≡ e ∷ reached low es) × (left low (e ∷ es) ≡ left low es)
first_reached low e es h = (
  ap (λ b. cond b (e ∷ reached low es) (reached low es)) h,
  ap (λ b. cond b (e ∷ left low es) (left low es)) (le-ltb low e.end (leb-true e.end low h)),
)

pub reached_count : (low : ℕ) (es : List WindowEntry) → AreInOrder es → length (reached low es) ≡ prefix_len (is_closed low) es
reached_count low es h = ap length (sym (cut low es h).0) ∙ length-prefix_len (is_closed low) es

in_order-drop : (n : ℕ) (es : List WindowEntry) → AreInOrder es → AreInOrder (drop n es)
in_order-drop zero es h = h
in_order-drop (suc n) [] h = tt
in_order-drop (suc n) (e ∷ es) h = in_order-drop n es h.1

pub left_in_order : (low : ℕ) (es : List WindowEntry) → AreInOrder es → AreInOrder (left low es)
left_in_order low es h = subst AreInOrder (cut low es h).1 (in_order-drop (prefix_len (is_closed low) es) es h)

-- the entries of one end at once

pub pane_reached : (low end : ℕ) (ts : List (ℕ × EntryTotal)) (es : List WindowEntry) → end ≤ low
    → (reached low (entries_at end ts ++ es) ≡ entries_at end ts ++ reached low es) × (left low (entries_at end ts ++ es) ≡ left low es)
pane_reached low end [] es h = (refl, refl)
pane_reached low end (t ∷ ts) es h =
    let first = first_reached low (entry_of end t.0 t.1) (entries_at end ts ++ es) (le-leb end low h) in
    let rest = pane_reached low end ts es h in
    (first.0 ∙ ap (λ (xs : List WindowEntry). entry_of end t.0 t.1 ∷ xs) rest.0, first.1 ∙ rest.1)

pub order_behind : (es fs : List WindowEntry) → AreInOrder (es ++ fs) → AreInOrder fs
order_behind [] fs h = h
order_behind (e ∷ es) fs h = order_behind es fs h.1
