-- Ends and entries above a bound, and those of them that a higher bound reaches.
use Rattle.std.proofs.Common.{◌≡◌, ℕ, ◌<◌, ◌≤◌, ◌==◌, Bool, true, false, cond, ◌&&◌, nat_lt, nat_le, List, [], ◌∷◌, ◌++◌, map, filter, refl, sym, ap, ◌∙◌, arith, ltb-true, lt-ltb, eqb-true}
use Rattle.std.proofs.lemmas.List.{map-append}
use Rattle.std.proofs.lemmas.List.Elements.{filter-append}
use Rattle.std.specs.List.{AllByRecursion, flat_map}
use Rattle.ss_elem.specs.declared.element.Event.{Event}
use Rattle.ss_meaning.specs.Window.{Window, ends_of, put_once, rising, window_ends, window_keys, window_row}
use Rattle.ss_meaning.specs.Entries.{WindowEntry, window_entry, ends_above}
use Rattle.ss_meaning.specs.EntryLists.{row_of_entry}
use Rattle.ss_meaning.specs.EntryLaws.{EntriesAfterRise, RowsAreOfEntries}
use Rattle.ss_meaning.proofs.Each.{each_weaker, each-filter}
use Rattle.ss_meaning.proofs.Ends.{IsRising, rising-rising}

-- tests and filters

false_true : false ≡ true → ⊥
false_true e = cc

and_false : (b : Bool) → (b && false) ≡ false
and_false true = refl
and_false false = refl

pub filter-kept : {A : Type 0} (test : A → Bool) (x : A) (xs : List A) → test x ≡ true → filter test (x ∷ xs) ≡ x ∷ filter test xs
filter-kept test x xs h = ap (λ b. cond b (x ∷ filter test xs) (filter test xs)) h

pub filter-dropped : {A : Type 0} (test : A → Bool) (x : A) (xs : List A) → test x ≡ false → filter test (x ∷ xs) ≡ filter test xs
filter-dropped test x xs h = ap (λ b. cond b (x ∷ filter test xs) (filter test xs)) h

pub filter_alike : {A : Type 0} (p q : A → Bool) (xs : List A) → ((x : A) → p x ≡ q x) → filter p xs ≡ filter q xs
filter_alike p q [] same = refl
filter_alike p q (x ∷ xs) same =
    ap (λ b. cond b (x ∷ filter p xs) (filter p xs)) (same x) ∙ ap (λ ys. cond (q x) (x ∷ ys) ys) (filter_alike p q xs same)

pub filter-filter : {A : Type 0} (p q : A → Bool) (xs : List A) → filter p (filter q xs) ≡ filter (λ x. q x && p x) xs
filter-filter p q [] = refl
filter-filter p q (x ∷ xs) = by_test (q x) (filter-filter p q xs)
  where
    by_test : (b : Bool) → filter p (filter q xs) ≡ filter (λ y. q y && p y) xs
        → filter p (cond b (x ∷ filter q xs) (filter q xs)) ≡ cond (b && p x) (x ∷ filter (λ y. q y && p y) xs) (filter (λ y. q y && p y) xs)
    by_test true rest = ap (λ ys. cond (p x) (x ∷ ys) ys) rest
    by_test false rest = rest

-- numbers in rising order

pub put_once-below : (n : ℕ) (ns : List ℕ) → AllByRecursion (λ m. n < m) ns → put_once n ns ≡ n ∷ ns
put_once-below n [] h = refl
put_once-below n (m ∷ ms) h = ap (λ b. cond b (n ∷ m ∷ ms) (cond (n == m) (m ∷ ms) (m ∷ put_once n ms))) (lt-ltb n m h.0)

filter-put_once : (test : ℕ → Bool) (n : ℕ) (ns : List ℕ) → IsRising ns
    → filter test (put_once n ns) ≡ cond (test n) (put_once n (filter test ns)) (filter test ns)
filter-put_once test n [] h = refl
filter-put_once test n (m ∷ ms) h = by_tests (nat_lt n m) (n == m) (test m) (test n) refl refl refl refl (filter-put_once test n ms h.1)
  where
    by_tests : (p q s t : Bool) → nat_lt n m ≡ p → (n == m) ≡ q → test m ≡ s → test n ≡ t
        → filter test (put_once n ms) ≡ cond t (put_once n (filter test ms)) (filter test ms)
        → filter test (cond p (n ∷ m ∷ ms) (cond q (m ∷ ms) (m ∷ put_once n ms)))
        ≡ cond t (put_once n (cond s (m ∷ filter test ms) (filter test ms))) (cond s (m ∷ filter test ms) (filter test ms))
    by_tests true q s true pp qq ss tt' rest =
        let less = ltb-true n m pp in
        let all : AllByRecursion (λ l. n < l) (m ∷ ms) = (less, each_weaker (λ l. m < l) (λ l. n < l) (λ l a. omega (arith, a, less)) ms h.0) in
        filter-kept test n (m ∷ ms) tt'
        ∙ (sym (put_once-below n (filter test (m ∷ ms)) (each-filter (λ l. n < l) test (m ∷ ms) all))
        ∙ ap (λ b. put_once n (cond b (m ∷ filter test ms) (filter test ms))) ss)
    by_tests true q s false pp qq ss tt' rest =
        filter-dropped test n (m ∷ ms) tt' ∙ ap (λ b. cond b (m ∷ filter test ms) (filter test ms)) ss
    by_tests false true true true pp qq ss tt' rest =
        filter-kept test m ms ss
        ∙ sym (ap (λ b. cond b (n ∷ m ∷ filter test ms) (cond (n == m) (m ∷ filter test ms) (m ∷ put_once n (filter test ms)))) pp
        ∙ ap (λ b. cond b (m ∷ filter test ms) (m ∷ put_once n (filter test ms))) qq)
    by_tests false true false true pp qq ss tt' rest =
        absurd (false_true (sym ss ∙ (ap test (sym (eqb-true n m qq)) ∙ tt')))
    by_tests false true s false pp qq ss tt' rest = ap (λ b. cond b (m ∷ filter test ms) (filter test ms)) ss
    by_tests false false true true pp qq ss tt' rest =
        filter-kept test m (put_once n ms) ss
        ∙ (ap (λ ys. m ∷ ys) rest
        ∙ sym (ap (λ b. cond b (n ∷ m ∷ filter test ms) (cond (n == m) (m ∷ filter test ms) (m ∷ put_once n (filter test ms)))) pp
        ∙ ap (λ b. cond b (m ∷ filter test ms) (m ∷ put_once n (filter test ms))) qq))
    by_tests false false true false pp qq ss tt' rest = filter-kept test m (put_once n ms) ss ∙ ap (λ ys. m ∷ ys) rest
    by_tests false false false t pp qq ss tt' rest = filter-dropped test m (put_once n ms) ss ∙ rest

pub filter-rising : (test : ℕ → Bool) (ns : List ℕ) → filter test (rising ns) ≡ rising (filter test ns)
filter-rising test [] = refl
filter-rising test (n ∷ ns) = filter-put_once test n (rising ns) (rising-rising ns) ∙ by_test (test n) (filter-rising test ns)
  where
    by_test : (b : Bool) → filter test (rising ns) ≡ rising (filter test ns)
        → cond b (put_once n (filter test (rising ns))) (filter test (rising ns)) ≡ rising (cond b (n ∷ filter test ns) (filter test ns))
    by_test true rest = ap (put_once n) rest
    by_test false rest = rest

ends_up_to : (window : Window) (seen : List Event) (before after : ℕ)
    → filter (λ w. nat_le w after) (ends_above window seen before) ≡ window_ends window seen before after
ends_up_to window seen before after =
    let ends = flat_map (ends_of window) seen in
    filter-rising (λ w. nat_le w after) (filter (nat_lt before) ends) ∙ ap rising (filter-filter (λ w. nat_le w after) (nat_lt before) ends)

both_above : (before after w : ℕ) → before ≤ after → (nat_lt before w && nat_lt after w) ≡ nat_lt after w
both_above before after w h = by_test (nat_lt after w) refl
  where
    by_test : (b : Bool) → nat_lt after w ≡ b → (nat_lt before w && b) ≡ b
    by_test true e = ap (λ b. b && true) (lt-ltb before w (let less = ltb-true after w e in omega (arith, less)))
    by_test false e = and_false (nat_lt before w)

ends_past : (window : Window) (seen : List Event) (before after : ℕ) → before ≤ after
    → filter (nat_lt after) (ends_above window seen before) ≡ ends_above window seen after
ends_past window seen before after h =
    let ends = flat_map (ends_of window) seen in
    filter-rising (nat_lt after) (filter (nat_lt before) ends)
    ∙ ap rising (filter-filter (nat_lt after) (nat_lt before) ends ∙ filter_alike (λ w. nat_lt before w && nat_lt after w) (nat_lt after) ends (λ w. both_above before after w h))

-- entries by their ends

abbrev pub entries_at : Window → List Event → List ℕ → List WindowEntry
entries_at window seen ws = flat_map (λ w. map (window_entry window seen w) (window_keys window seen w)) ws

filter-one_end : (test : ℕ → Bool) (window : Window) (seen : List Event) (w : ℕ) (keys : List ℕ)
    → filter (λ (e : WindowEntry). test e.end) (map (window_entry window seen w) keys) ≡ cond (test w) (map (window_entry window seen w) keys) []
filter-one_end test window seen w [] = by_test (test w)
  where
    by_test : (b : Bool) → [] ≡ cond b (map (window_entry window seen w) []) []
    by_test true = refl
    by_test false = refl
filter-one_end test window seen w (key ∷ keys) = by_test (test w) (filter-one_end test window seen w keys)
  where
    by_test : (b : Bool) → filter (λ (e : WindowEntry). test e.end) (map (window_entry window seen w) keys) ≡ cond b (map (window_entry window seen w) keys) []
        → cond b (window_entry window seen w key ∷ filter (λ (e : WindowEntry). test e.end) (map (window_entry window seen w) keys))
        (filter (λ (e : WindowEntry). test e.end) (map (window_entry window seen w) keys))
        ≡ cond b (window_entry window seen w key ∷ map (window_entry window seen w) keys) []
    by_test true rest = ap (λ es. window_entry window seen w key ∷ es) rest
    by_test false rest = rest

filter-entries_at : (test : ℕ → Bool) (window : Window) (seen : List Event) (ws : List ℕ)
    → filter (λ (e : WindowEntry). test e.end) (entries_at window seen ws) ≡ entries_at window seen (filter test ws)
filter-entries_at test window seen [] = refl
filter-entries_at test window seen (w ∷ ws) =
    let here = map (window_entry window seen w) (window_keys window seen w) in
    filter-append (λ (e : WindowEntry). test e.end) here (entries_at window seen ws)
    ∙ (ap (λ es. es ++ filter (λ (e : WindowEntry). test e.end) (entries_at window seen ws)) (filter-one_end test window seen w (window_keys window seen w))
    ∙ by_test (test w) (filter-entries_at test window seen ws))
  where
    by_test : (b : Bool) → filter (λ (e : WindowEntry). test e.end) (entries_at window seen ws) ≡ entries_at window seen (filter test ws)
        → cond b (map (window_entry window seen w) (window_keys window seen w)) [] ++ filter (λ (e : WindowEntry). test e.end) (entries_at window seen ws)
        ≡ entries_at window seen (cond b (w ∷ filter test ws) (filter test ws))
    by_test true rest = ap (λ es. map (window_entry window seen w) (window_keys window seen w) ++ es) rest
    by_test false rest = rest

rows_of_one_end : (window : Window) (seen : List Event) (w : ℕ) (keys : List ℕ)
    → map (row_of_entry window.hop) (map (window_entry window seen w) keys) ≡ map (window_row window seen w) keys
rows_of_one_end window seen w [] = refl
rows_of_one_end window seen w (key ∷ keys) = ap (λ rows. window_row window seen w key ∷ rows) (rows_of_one_end window seen w keys)

rows_of_entries : (window : Window) (seen : List Event) (ws : List ℕ)
    → map (row_of_entry window.hop) (entries_at window seen ws) ≡ flat_map (λ w. map (window_row window seen w) (window_keys window seen w)) ws
rows_of_entries window seen [] = refl
rows_of_entries window seen (w ∷ ws) =
    map-append (row_of_entry window.hop) (map (window_entry window seen w) (window_keys window seen w)) (entries_at window seen ws)
    ∙ (ap (λ rows. rows ++ map (row_of_entry window.hop) (entries_at window seen ws)) (rows_of_one_end window seen w (window_keys window seen w))
    ∙ ap (λ rows. map (window_row window seen w) (window_keys window seen w) ++ rows) (rows_of_entries window seen ws))

pub rows_are_of_entries : RowsAreOfEntries
rows_are_of_entries window seen before after =
    sym (ap (map (row_of_entry window.hop)) (filter-entries_at (λ w. nat_le w after) window seen (ends_above window seen before)
    ∙ ap (entries_at window seen) (ends_up_to window seen before after)) ∙ rows_of_entries window seen (window_ends window seen before after))

pub entries_after_rise : EntriesAfterRise
entries_after_rise window seen before after h =
    sym (filter-entries_at (nat_lt after) window seen (ends_above window seen before) ∙ ap (entries_at window seen) (ends_past window seen before after h))
