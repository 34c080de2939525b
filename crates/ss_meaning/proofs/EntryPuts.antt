-- What is found where a value was put, and that it is put in its place.
use Rattle.std.proofs.Common.{◌≡◌, ℕ, ◌+◌, ◌<◌, ◌==◌, ◌⊎◌, Bool, true, false, cond, ◌&&◌, ◌||◌, nat_lt, ℤ, List, [], ◌∷◌, Option, Some, None, refl, sym, ap, ◌∙◌, inl, inr, arith, ltb-true, ltb-false, eqb-true}
use Rattle.std.proofs.lemmas.Bool.{and_parts, and_cases, or_parts, or_cases, eqb-false, cases_order, cond-true, cond-false}
use Rattle.std.specs.List.{AllByRecursion, list_any}
use Rattle.ss_meaning.specs.Entries.{WindowEntry}
use Rattle.ss_meaning.specs.EntryLists.{IsBehind, AreInOrder, is_before, is_of, single_entry, grown_entry, put_value, put_values}
use Rattle.ss_meaning.specs.EntryLaws.{PutKeepsOrder}
use Rattle.ss_meaning.proofs.Ends.{IsRising}
use Rattle.ss_meaning.proofs.EntryFinds.{told, found, found-behind, all_behind}

-- whether a number is among others
abbrev pub among : ℕ → List ℕ → Bool
among n ns = list_any (λ m. m == n) ns

-- what is told where one more value is joined to what was found
abbrev pub joined : (ℤ → ℤ → ℤ) → ℤ → Option (ℤ × ℕ) → ℤ × ℕ
joined join v None = (v, 1)
joined join v (Some h) = (join h.0 v, h.1 + 1)

before_place : (w key : ℕ) (v : ℤ) (e : WindowEntry) → is_before w key e ≡ true → IsBehind e.end e.key (single_entry w key v)
before_place w key v e h = by_case (or_cases (nat_lt e.end w) (e.end == w && nat_lt e.key key) h)
  where
    by_case : (nat_lt e.end w ≡ true) ⊎ ((e.end == w && nat_lt e.key key) ≡ true) → IsBehind e.end e.key (single_entry w key v)
    by_case (inl l) = let less = ltb-true e.end w l in record { ends = omega (arith, less); keys = λ s. absurd (omega (arith, less)) }
    by_case (inr r) =
        let parts = and_parts (e.end == w) (nat_lt e.key key) r in
        let same = eqb-true e.end w parts.0 in
        let less = ltb-true e.key key parts.1 in
        record { ends = omega (arith, same); keys = λ s. less }

behind_place : (w key : ℕ) (e : WindowEntry) → is_before w key e ≡ false → is_of w key e ≡ false → IsBehind w key e
behind_place w key e h k = record {
  ends = ltb-false e.end w (or_parts (nat_lt e.end w) (e.end == w && nat_lt e.key key) h).0;
  keys = λ s. keys s (and_cases (e.end == w) (nat_lt e.key key) (or_parts (nat_lt e.end w) (e.end == w && nat_lt e.key key) h).1)
      (and_cases (e.end == w) (e.key == key) k) (cases_order key e.key);
}
  where
    keys : w ≡ e.end → ((e.end == w) ≡ false) ⊎ (nat_lt e.key key ≡ false) → ((e.end == w) ≡ false) ⊎ ((e.key == key) ≡ false)
        → (key ≡ e.key) ⊎ ((key < e.key) ⊎ (e.key < key)) → key < e.key
    keys s (inl p) q r = absurd (eqb-false e.end w p (sym s))
    keys s (inr p) (inl q) r = absurd (eqb-false e.end w q (sym s))
    keys s (inr p) (inr q) (inl t) = absurd (eqb-false e.key key q (sym t))
    keys s (inr p) (inr q) (inr (inl l)) = l
    keys s (inr p) (inr q) (inr (inr l)) = absurd (let most = ltb-false e.key key p in omega (arith, most))

not_of_before : (w key : ℕ) (e : WindowEntry) → is_before w key e ≡ true → is_of w key e ≡ false
not_of_before w key e h = by_case (is_of w key e) refl (or_cases (nat_lt e.end w) (e.end == w && nat_lt e.key key) h)
  where
    by_case : (b : Bool) → is_of w key e ≡ b → (nat_lt e.end w ≡ true) ⊎ ((e.end == w && nat_lt e.key key) ≡ true) → b ≡ false
    by_case false k r = refl
    by_case true k (inl l) =
        let same = eqb-true e.end w (and_parts (e.end == w) (e.key == key) k).0 in
        absurd (let less = ltb-true e.end w l in omega (arith, less, same))
    by_case true k (inr r) =
        let same = eqb-true e.key key (and_parts (e.end == w) (e.key == key) k).1 in
        absurd (let less = ltb-true e.key key (and_parts (e.end == w) (nat_lt e.key key) r).1 in omega (arith, less, same))

-- order is kept

each_behind-put : (a b : ℕ) (join : ℤ → ℤ → ℤ) (key : ℕ) (v : ℤ) (w : ℕ) (es : List WindowEntry) → AllByRecursion (IsBehind a b) es
    → IsBehind a b (single_entry w key v) → AllByRecursion (IsBehind a b) (put_value join key v w es)
each_behind-put a b join key v w [] h k = (k, tt)
each_behind-put a b join key v w (e ∷ es) h k = by_tests (is_before w key e) (is_of w key e) (each_behind-put a b join key v w es h.1 k)
  where
    by_tests : (p q : Bool) → AllByRecursion (IsBehind a b) (put_value join key v w es)
        → AllByRecursion (IsBehind a b) (cond p (e ∷ put_value join key v w es) (cond q (grown_entry join v e ∷ es) (single_entry w key v ∷ e ∷ es)))
    by_tests true q rest = (h.0, rest)
    by_tests false true rest = (record { ends = h.0.ends; keys = h.0.keys }, h.1)
    by_tests false false rest = (k, h)

pub put_keeps_order : PutKeepsOrder
put_keeps_order join key v w [] h = (tt, tt)
put_keeps_order join key v w (e ∷ es) h = by_tests (is_before w key e) (is_of w key e) refl refl (put_keeps_order join key v w es h.1)
  where
    by_tests : (p q : Bool) → is_before w key e ≡ p → is_of w key e ≡ q → AreInOrder (put_value join key v w es)
        → AreInOrder (cond p (e ∷ put_value join key v w es) (cond q (grown_entry join v e ∷ es) (single_entry w key v ∷ e ∷ es)))
    by_tests true q pp qq rest = (each_behind-put e.end e.key join key v w es h.0 (before_place w key v e pp), rest)
    by_tests false true pp qq rest = h
    by_tests false false pp qq rest = let b = behind_place w key e pp qq in ((b, all_behind w key e es b h.0), h)

pub puts_keep_order : (join : ℤ → ℤ → ℤ) (key : ℕ) (v : ℤ) (ws : List ℕ) (es : List WindowEntry) → AreInOrder es → AreInOrder (put_values join key v ws es)
puts_keep_order join key v [] es h = h
puts_keep_order join key v (w ∷ ws) es h = puts_keep_order join key v ws (put_value join key v w es) (put_keeps_order join key v w es h)

-- what is found

found-put : (at of : ℕ) (join : ℤ → ℤ → ℤ) (key : ℕ) (v : ℤ) (w : ℕ) (es : List WindowEntry) → AreInOrder es
    → found at of (put_value join key v w es) ≡ cond (w == at && key == of) (Some (joined join v (found w key es))) (found at of es)
found-put at of join key v w [] h = refl
found-put at of join key v w (e ∷ es) h =
    by_tests (w == at && key == of) (is_before w key e) (is_of w key e) refl refl refl (found-put at of join key v w es h.1)
  where
    -- an entry at the place is found at the place alone
    at_place : (b : Bool) → (w == at && key == of) ≡ b → is_of w key e ≡ true → is_of at of e ≡ b
    at_place b t q =
        let parts = and_parts (e.end == w) (e.key == key) q in
        ap (λ m. m == at && e.key == of) (eqb-true e.end w parts.0) ∙ (ap (λ n. w == at && n == of) (eqb-true e.key key parts.1) ∙ t)

    off_place : (w == at && key == of) ≡ true → is_of w key e ≡ false → is_of at of e ≡ false
    off_place t q =
        let parts = and_parts (w == at) (key == of) t in
        ap (λ m. e.end == m && e.key == of) (sym (eqb-true w at parts.0)) ∙ (ap (λ n. e.end == w && e.key == n) (sym (eqb-true key of parts.1)) ∙ q)

    by_tests : (t p q : Bool) → (w == at && key == of) ≡ t → is_before w key e ≡ p → is_of w key e ≡ q
        → found at of (put_value join key v w es) ≡ cond t (Some (joined join v (found w key es))) (found at of es)
        → found at of (cond p (e ∷ put_value join key v w es) (cond q (grown_entry join v e ∷ es) (single_entry w key v ∷ e ∷ es)))
        ≡ cond t (Some (joined join v (found w key (e ∷ es)))) (found at of (e ∷ es))
    by_tests true true q tt' pp qq rest =
        let miss = not_of_before w key e pp in
        cond-false (is_of at of e) (Some (told e)) (found at of (put_value join key v w es)) (off_place tt' miss)
        ∙ (rest ∙ ap (λ o. Some (joined join v o)) (sym (cond-false (is_of w key e) (Some (told e)) (found w key es) miss)))
    by_tests false true q tt' pp qq rest = ap (λ o. cond (is_of at of e) (Some (told e)) o) rest
    by_tests true false true tt' pp qq rest =
        cond-true (is_of at of e) (Some (told (grown_entry join v e))) (found at of es) (at_place true tt' qq)
        ∙ ap (λ o. Some (joined join v o)) (sym (cond-true (is_of w key e) (Some (told e)) (found w key es) qq))
    by_tests false false true tt' pp qq rest =
        let miss = at_place false tt' qq in
        cond-false (is_of at of e) (Some (told (grown_entry join v e))) (found at of es) miss
        ∙ sym (cond-false (is_of at of e) (Some (told e)) (found at of es) miss)
    by_tests true false false tt' pp qq rest =
        let b = behind_place w key e pp qq in
        let none : found w key (e ∷ es) ≡ None = found-behind w key (e ∷ es) (b, all_behind w key e es b h.0) in
        cond-true (w == at && key == of) (Some (told (single_entry w key v))) (found at of (e ∷ es)) tt' ∙ ap (λ o. Some (joined join v o)) (sym none)
    by_tests false false false tt' pp qq rest =
        cond-false (w == at && key == of) (Some (told (single_entry w key v))) (found at of (e ∷ es)) tt'

pub among-above : (n : ℕ) (ns : List ℕ) → AllByRecursion (λ m. n < m) ns → among n ns ≡ false
among-above n [] h = refl
among-above n (m ∷ ms) h = by_test (m == n) refl (among-above n ms h.1)
  where
    by_test : (b : Bool) → (m == n) ≡ b → among n ms ≡ false → (b || among n ms) ≡ false
    by_test true e rest = absurd (let same = eqb-true m n e in omega (arith, same, h.0))
    by_test false e rest = rest

and_false : (b : Bool) → (b && false) ≡ false
and_false true = refl
and_false false = refl

pub found-puts : (at of : ℕ) (join : ℤ → ℤ → ℤ) (key : ℕ) (v : ℤ) (ws : List ℕ) (es : List WindowEntry) → IsRising ws → AreInOrder es
    → found at of (put_values join key v ws es) ≡ cond (among at ws && key == of) (Some (joined join v (found at of es))) (found at of es)
found-puts at of join key v [] es h k = refl
found-puts at of join key v (w ∷ ws) es h k =
    by_tests (w == at) (key == of) refl refl (found-put at of join key v w es k)
    (found-puts at of join key v ws (put_value join key v w es) h.1 (put_keeps_order join key v w es k))
  where
    by_tests : (p q : Bool) → (w == at) ≡ p → (key == of) ≡ q
        → found at of (put_value join key v w es) ≡ cond (p && q) (Some (joined join v (found w key es))) (found at of es)
        → found at of (put_values join key v ws (put_value join key v w es))
        ≡ cond (among at ws && q) (Some (joined join v (found at of (put_value join key v w es)))) (found at of (put_value join key v w es))
        → found at of (put_values join key v ws (put_value join key v w es))
        ≡ cond ((p || among at ws) && q) (Some (joined join v (found at of es))) (found at of es)
    by_tests true true pp qq one rest =
        let none : among at ws ≡ false = ap (λ m. among m ws) (sym (eqb-true w at pp)) ∙ among-above w ws h.0 in
        let place : found w key es ≡ found at of es = ap (λ m. found m key es) (eqb-true w at pp) ∙ ap (λ n. found at n es) (eqb-true key of qq) in
        rest ∙ (cond-false (among at ws && true) (Some (joined join v (found at of (put_value join key v w es)))) (found at of (put_value join key v w es)) (ap (λ b. b && true) none)
        ∙ (one ∙ ap (λ o. Some (joined join v o)) place))
    by_tests true false pp qq one rest =
        rest ∙ (cond-false (among at ws && false) (Some (joined join v (found at of (put_value join key v w es)))) (found at of (put_value join key v w es)) (and_false (among at ws)) ∙ one)
    by_tests false q pp qq one rest =
        rest ∙ ap (λ o. cond (among at ws && q) (Some (joined join v o)) o) one
