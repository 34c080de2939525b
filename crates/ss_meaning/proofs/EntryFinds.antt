-- Entries in order are known by what is found among them.
use Rattle.std.proofs.Common.{◌≡◌, ℕ, ◌<◌, ◌==◌, ◌⊎◌, Bool, true, false, cond, ◌&&◌, ℤ, List, [], ◌∷◌, Option, Some, None, refl, sym, ap, ◌∙◌, inl, inr, arith, eqb-true, eq-eqb, ne_eqb}
use Rattle.std.proofs.lemmas.Bool.{and_parts, and_from, cases_order, cond-true, cond-false}
use Rattle.std.proofs.lemmas.Option.{same_Some}
use Rattle.std.specs.List.{AllByRecursion}
use Rattle.ss_meaning.specs.Entries.{WindowEntry}
use Rattle.ss_meaning.specs.EntryLists.{IsBehind, AreInOrder, is_of}
use Rattle.ss_meaning.proofs.Each.{each_weaker}

-- what an entry tells of its end and key
abbrev pub told : WindowEntry → ℤ × ℕ
told e = (e.value, e.rows)

-- what is found for an end and a key
abbrev pub found : ℕ → ℕ → List WindowEntry → Option (ℤ × ℕ)
found w key [] = None
found w key (e ∷ es) = cond (is_of w key e) (Some (told e)) (found w key es)

none_some : (x : ℤ × ℕ) → None ≡ Some x → ⊥
none_some x e = cc

is_of_itself : (e : WindowEntry) → is_of e.end e.key e ≡ true
is_of_itself e = and_from (e.end == e.end) (e.key == e.key) (eq-eqb e.end e.end refl) (eq-eqb e.key e.key refl)

pub is_of-behind : (w key : ℕ) (e : WindowEntry) → IsBehind w key e → is_of w key e ≡ false
is_of-behind w key e h = by_test (e.end == w) refl
  where
    by_test : (b : Bool) → (e.end == w) ≡ b → (b && (e.key == key)) ≡ false
    by_test false k = refl
    by_test true k = let less : key < e.key = h.keys (sym (eqb-true e.end w k)) in ne_eqb e.key key (λ s. omega arith)

pub found-behind : (w key : ℕ) (es : List WindowEntry) → AllByRecursion (IsBehind w key) es → found w key es ≡ None
found-behind w key [] h = refl
found-behind w key (e ∷ es) h = cond-false (is_of w key e) (Some (told e)) (found w key es) (is_of-behind w key e h.0) ∙ found-behind w key es h.1

found_first : (e : WindowEntry) (es : List WindowEntry) → found e.end e.key (e ∷ es) ≡ Some (told e)
found_first e es = cond-true (is_of e.end e.key e) (Some (told e)) (found e.end e.key es) (is_of_itself e)

behind_both : (w key : ℕ) (e f : WindowEntry) → IsBehind w key e → IsBehind e.end e.key f → IsBehind w key f
behind_both w key e f h k = record {
  ends = omega (arith, h.ends, k.ends);
  keys = λ s. let t : w ≡ e.end = omega (arith, h.ends, k.ends) in let u : e.end ≡ f.end = omega (arith, t, s) in omega (arith, h.keys t, k.keys u);
}

pub all_behind : (w key : ℕ) (e : WindowEntry) (es : List WindowEntry) → IsBehind w key e → AllByRecursion (IsBehind e.end e.key) es → AllByRecursion (IsBehind w key) es
all_behind w key e es h k = each_weaker (IsBehind e.end e.key) (IsBehind w key) (λ f. behind_both w key e f h) es k

behind_at : (w key v of : ℕ) (e : WindowEntry) → w ≡ v → key ≡ of → IsBehind w key e → IsBehind v of e
behind_at w key v of e s t h = record {
  ends = omega (arith, h.ends, s);
  keys = λ u. let same : w ≡ e.end = omega (arith, s, u) in omega (arith, h.keys same, t);
}

-- which of two entries stands first

abbrev Compared : WindowEntry → WindowEntry → Type 0
Compared e f = ((e.end ≡ f.end) × (e.key ≡ f.key)) ⊎ (IsBehind e.end e.key f ⊎ IsBehind f.end f.key e)

compared : (e f : WindowEntry) → Compared e f
compared e f = by_ends (cases_order e.end f.end) (cases_order e.key f.key)
  where
    by_ends : (e.end ≡ f.end) ⊎ ((e.end < f.end) ⊎ (f.end < e.end)) → (e.key ≡ f.key) ⊎ ((e.key < f.key) ⊎ (f.key < e.key)) → Compared e f
    by_ends (inl s) (inl t) = inl (s, t)
    by_ends (inl s) (inr (inl l)) = inr (inl (record { ends = omega arith; keys = λ u. l }))
    by_ends (inl s) (inr (inr l)) = inr (inr (record { ends = omega arith; keys = λ u. l }))
    by_ends (inr (inl l)) k = inr (inl (record { ends = omega arith; keys = λ u. absurd (omega arith) }))
    by_ends (inr (inr l)) k = inr (inr (record { ends = omega arith; keys = λ u. absurd (omega arith) }))

same_entry : (e f : WindowEntry) → e.end ≡ f.end → e.key ≡ f.key → e.value ≡ f.value → e.rows ≡ f.rows → e ≡ f
same_entry e f s t u v =
    let entry = λ (end key : ℕ) (value : ℤ) (rows : ℕ). let made : WindowEntry = record { end = end; key = key; value = value; rows = rows } in made in
    ap (λ m. entry m e.key e.value e.rows) s ∙ (ap (λ n. entry f.end n e.value e.rows) t
    ∙ (ap (λ x. entry f.end f.key x e.rows) u ∙ ap (λ n. entry f.end f.key f.value n) v))

found_rest : (w key : ℕ) (e f : WindowEntry) (es fs : List WindowEntry) → e.end ≡ f.end → e.key ≡ f.key
    → AllByRecursion (IsBehind e.end e.key) es → AllByRecursion (IsBehind f.end f.key) fs
    → found w key (e ∷ es) ≡ found w key (f ∷ fs) → found w key es ≡ found w key fs
found_rest w key e f es fs s t h k same = by_test (is_of w key e) refl
  where
    by_test : (b : Bool) → is_of w key e ≡ b → found w key es ≡ found w key fs
    by_test true b =
        let parts = and_parts (e.end == w) (e.key == key) b in
        let p = eqb-true e.end w parts.0 in
        let q = eqb-true e.key key parts.1 in
        let left = each_weaker (IsBehind e.end e.key) (IsBehind w key) (λ d. behind_at e.end e.key w key d p q) es h in
        let right = each_weaker (IsBehind f.end f.key) (IsBehind w key) (λ d. behind_at f.end f.key w key d (sym s ∙ p) (sym t ∙ q)) fs k in
        found-behind w key es left ∙ sym (found-behind w key fs right)
    by_test false b =
        let other : is_of w key f ≡ false = ap (λ m. m == w && f.key == key) (sym s) ∙ (ap (λ n. e.end == w && n == key) (sym t) ∙ b) in
        sym (cond-false (is_of w key e) (Some (told e)) (found w key es) b) ∙ (same ∙ cond-false (is_of w key f) (Some (told f)) (found w key fs) other)

-- lists in order in which the same is found everywhere are the same
pub same_entries : (es fs : List WindowEntry) → AreInOrder es → AreInOrder fs → ((w key : ℕ) → found w key es ≡ found w key fs) → es ≡ fs
same_entries [] [] h k same = refl
same_entries [] (f ∷ fs) h k same = absurd (none_some (told f) (same f.end f.key ∙ found_first f fs))
same_entries (e ∷ es) [] h k same = absurd (none_some (told e) (sym (same e.end e.key) ∙ found_first e es))
same_entries (e ∷ es) (f ∷ fs) h k same = by_order (compared e f) (same_entries es fs h.1 k.1)
  where
    by_order : Compared e f → (((w key : ℕ) → found w key es ≡ found w key fs) → es ≡ fs) → e ∷ es ≡ f ∷ fs
    by_order (inr (inl b)) rest =
        absurd (none_some (told e) (sym (found-behind e.end e.key (f ∷ fs) (b, all_behind e.end e.key f fs b k.0)) ∙ (sym (same e.end e.key) ∙ found_first e es)))
    by_order (inr (inr b)) rest =
        absurd (none_some (told f) (sym (found-behind f.end f.key (e ∷ es) (b, all_behind f.end f.key e es b h.0)) ∙ (same f.end f.key ∙ found_first f fs)))
    by_order (inl place) rest =
        let here : is_of e.end e.key f ≡ true = and_from (f.end == e.end) (f.key == e.key) (eq-eqb f.end e.end (sym place.0)) (eq-eqb f.key e.key (sym place.1)) in
        let at_f = cond-true (is_of e.end e.key f) (Some (told f)) (found e.end e.key fs) here in
        let tells : Some (told e) ≡ Some (told f) = sym (found_first e es) ∙ (same e.end e.key ∙ at_f) in
        let same_told = same_Some (told e) (told f) tells in
        let head = same_entry e f place.0 place.1 (ap (λ (h : ℤ × ℕ). h.0) same_told) (ap (λ (h : ℤ × ℕ). h.1) same_told) in
        let tail = rest (λ w key. found_rest w key e f es fs place.0 place.1 h.0 k.0 (same w key)) in
        cc
