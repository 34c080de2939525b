-- The ends that a window gives are those that have a row, and its keys those of the rows.
use Rattle.std.proofs.Common.{◌≡◌, ℕ, zero, suc, ◌+◌, ◌-◌, ◌*◌, ◌/◌, ◌%◌, ◌<◌, ◌≤◌, ◌==◌, ◌⊎◌, Bool, true, false, cond, ◌&&◌, nat_lt, nat_le, List, [], ◌∷◌, ◌++◌, length, get_or, map, filter, Contains, refl, sym, ap, ◌∙◌, subst, inl, inr, ⊎_elim, arith, ltb-true, ltb-false, leb-true, eqb-true, lt-ltb, le-leb, mul-le-mul_left, mul_comm, mod-lt}
use Rattle.std.proofs.lemmas.Bool.{and_parts, and_from, eqb-false, cases_eq, cases_lt}
use Rattle.std.proofs.lemmas.List.Elements.{All-from_recursion}
use Rattle.std.proofs.lemmas.List.Kept.{AllPairs-cons}
use Rattle.std.proofs.lemmas.Nat.{le-div}
use Rattle.std.specs.List.{AllByRecursion, AllPairs, flat_map}
use Rattle.ss_elem.specs.declared.element.Event.{Event}
use Rattle.ss_meaning.specs.Window.{Window, belongs, multiples, ends_of, put_once, rising, window_ends, window_keys}
use Rattle.ss_meaning.specs.Laws.{IsEnd, WindowEndsHaveRows, WindowKeysHaveRows}
use Rattle.ss_meaning.proofs.Each.{each_weaker}
use Rattle.ss_meaning.proofs.GivenRows.{each-put_once}
use Rattle.ss_meaning.proofs.Rows.{multiple-le}

-- being in a list, by recursion

abbrev pub In : {A : Type 0} → List A → A → Type 0
In [] x = ⊥
In (y ∷ ys) x = (y ≡ x) ⊎ In ys x

in_at : {A : Type 0} (xs : List A) (k : ℕ) (x : A) → k < length xs → get_or xs k x ≡ x → In xs x
in_at [] k x h e = absurd (omega arith)
in_at (y ∷ ys) zero x h e = inl e
in_at (y ∷ ys) (suc k) x h e = inr (in_at ys k x (omega arith) e)

pub in_from : {A : Type 0} (xs : List A) (x : A) → Contains xs x → In xs x
in_from xs x h = in_at xs h.0 x h.1 h.2

pub contains_from : {A : Type 0} (xs : List A) (x : A) → In xs x → Contains xs x
contains_from [] x h = absurd h
contains_from (y ∷ ys) x (inl e) = (0, omega arith, e)
contains_from (y ∷ ys) x (inr h) = let rest = contains_from ys x h in (suc rest.0, omega (arith, rest.1), rest.2)

in-left : {A : Type 0} (xs ys : List A) (x : A) → In xs x → In (xs ++ ys) x
in-left [] ys x h = absurd h
in-left (z ∷ xs) ys x (inl e) = inl e
in-left (z ∷ xs) ys x (inr h) = inr (in-left xs ys x h)

in-right : {A : Type 0} (xs ys : List A) (x : A) → In ys x → In (xs ++ ys) x
in-right [] ys x h = h
in-right (z ∷ xs) ys x h = inr (in-right xs ys x h)

in-either : {A : Type 0} (xs ys : List A) (x : A) → In (xs ++ ys) x → In xs x ⊎ In ys x
in-either [] ys x h = inr h
in-either (z ∷ xs) ys x (inl e) = inl (inl e)
in-either (z ∷ xs) ys x (inr h) = ⊎_elim (λ l. inl (inr l)) (λ r. inr r) (in-either xs ys x h)

pub from_filter : {A : Type 0} (test : A → Bool) (xs : List A) (x : A) → In (filter test xs) x → In xs x × (test x ≡ true)
from_filter test [] x h = absurd h
from_filter test (y ∷ ys) x h = by_test (test y) refl h (from_filter test ys x)
  where
    by_test : (b : Bool) → test y ≡ b → In (cond b (y ∷ filter test ys) (filter test ys)) x → (In (filter test ys) x → In ys x × (test x ≡ true)) → ((y ≡ x) ⊎ In ys x) × (test x ≡ true)
    by_test true e (inl same) f = (inl same, subst (λ w. test w ≡ true) same e)
    by_test true e (inr k) f = (inr (f k).0, (f k).1)
    by_test false e k f = (inr (f k).0, (f k).1)

pub in_filter : {A : Type 0} (test : A → Bool) (xs : List A) (x : A) → In xs x → test x ≡ true → In (filter test xs) x
in_filter test [] x h e = absurd h
in_filter test (y ∷ ys) x (inl same) e = subst (λ b. In (cond b (y ∷ filter test ys) (filter test ys)) x) (sym (ap test same ∙ e)) (inl same)
in_filter test (y ∷ ys) x (inr h) e = by_test (test y) (in_filter test ys x h e)
  where
    by_test : (b : Bool) → In (filter test ys) x → In (cond b (y ∷ filter test ys) (filter test ys)) x
    by_test true k = inr k
    by_test false k = k

pub from_map : {A B : Type 0} (f : A → B) (xs : List A) (y : B) → In (map f xs) y → (x : A) × In xs x × (f x ≡ y)
from_map f [] y h = absurd h
from_map f (x ∷ xs) y (inl e) = (x, inl refl, e)
from_map f (x ∷ xs) y (inr h) = let rest = from_map f xs y h in (rest.0, inr rest.1, rest.2)

pub in_map : {A B : Type 0} (f : A → B) (xs : List A) (x : A) (y : B) → In xs x → f x ≡ y → In (map f xs) y
in_map f [] x y h e = absurd h
in_map f (z ∷ xs) x y (inl same) e = inl (ap f same ∙ e)
in_map f (z ∷ xs) x y (inr h) e = inr (in_map f xs x y h e)

pub from_flat_map : {A B : Type 0} (f : A → List B) (xs : List A) (y : B) → In (flat_map f xs) y → (x : A) × In xs x × In (f x) y
from_flat_map f [] y h = absurd h
from_flat_map f (x ∷ xs) y h =
    ⊎_elim (λ l. (x, inl refl, l)) (λ r. let rest = from_flat_map f xs y r in (rest.0, inr rest.1, rest.2)) (in-either (f x) (flat_map f xs) y h)

pub in_flat_map : {A B : Type 0} (f : A → List B) (xs : List A) (x : A) (y : B) → In xs x → In (f x) y → In (flat_map f xs) y
in_flat_map f [] x y h k = absurd h
in_flat_map f (z ∷ xs) x y (inl same) k = in-left (f z) (flat_map f xs) y (subst (λ w. In (f w) y) (sym same) k)
in_flat_map f (z ∷ xs) x y (inr h) k = in-right (f z) (flat_map f xs) y (in_flat_map f xs x y h k)

-- numbers in rising order, each once

abbrev pub IsRising : List ℕ → Type 0
IsRising [] = Unit {0}
IsRising (n ∷ ns) = AllByRecursion (λ m. n < m) ns × IsRising ns

put_once-rising : (n : ℕ) (ms : List ℕ) → IsRising ms → IsRising (put_once n ms)
put_once-rising n [] h = (tt, tt)
put_once-rising n (m ∷ ms) h = by_tests (nat_lt n m) (n == m) refl refl (put_once-rising n ms h.1)
  where
    by_tests : (b c : Bool) → nat_lt n m ≡ b → (n == m) ≡ c → IsRising (put_once n ms) → IsRising (cond b (n ∷ m ∷ ms) (cond c (m ∷ ms) (m ∷ put_once n ms)))
    by_tests true c e k rest = let less = ltb-true n m e in ((less, each_weaker (λ l. m < l) (λ l. n < l) (λ l a. omega arith) ms h.0), h)
    by_tests false true e k rest = h
    by_tests false false e k rest =
        let least = ltb-false n m e in
        let apart = eqb-false n m k in
        (each-put_once (λ l. m < l) n ms (omega arith) h.0, rest)

pub rising-rising : (ns : List ℕ) → IsRising (rising ns)
rising-rising [] = tt
rising-rising (n ∷ ns) = put_once-rising n (rising ns) (rising-rising ns)

all_pairs : (ns : List ℕ) → IsRising ns → AllPairs (λ m n. m < n) ns
all_pairs [] h = λ i j d l k. absurd (omega arith)
all_pairs (n ∷ ns) h = AllPairs-cons (λ m n. m < n) n ns (All-from_recursion (λ m. n < m) ns h.0) (all_pairs ns h.1)

from_put_once : (n : ℕ) (ms : List ℕ) (x : ℕ) → In (put_once n ms) x → (n ≡ x) ⊎ In ms x
from_put_once n [] x (inl e) = inl e
from_put_once n [] x (inr h) = absurd h
from_put_once n (m ∷ ms) x h = by_tests (nat_lt n m) (n == m) h (from_put_once n ms x)
  where
    by_tests : (b c : Bool) → In (cond b (n ∷ m ∷ ms) (cond c (m ∷ ms) (m ∷ put_once n ms))) x → (In (put_once n ms) x → (n ≡ x) ⊎ In ms x) → (n ≡ x) ⊎ ((m ≡ x) ⊎ In ms x)
    by_tests true c k f = k
    by_tests false true k f = inr k
    by_tests false false (inl e) f = inr (inl e)
    by_tests false false (inr k) f = ⊎_elim (λ e. inl e) (λ r. inr (inr r)) (f k)

in_put_once : (n : ℕ) (ms : List ℕ) (x : ℕ) → (n ≡ x) ⊎ In ms x → In (put_once n ms) x
in_put_once n [] x h = h
in_put_once n (m ∷ ms) x h = by_tests (nat_lt n m) (n == m) refl h (in_put_once n ms x)
  where
    by_tests : (b c : Bool) → (n == m) ≡ c → (n ≡ x) ⊎ ((m ≡ x) ⊎ In ms x) → ((n ≡ x) ⊎ In ms x → In (put_once n ms) x) → In (cond b (n ∷ m ∷ ms) (cond c (m ∷ ms) (m ∷ put_once n ms))) x
    by_tests true c e k f = k
    by_tests false true e (inl same) f = inl (sym (eqb-true n m e) ∙ same)
    by_tests false true e (inr k) f = k
    by_tests false false e (inl same) f = inr (f (inl same))
    by_tests false false e (inr (inl same)) f = inl same
    by_tests false false e (inr (inr k)) f = inr (f (inr k))

pub from_rising : (ns : List ℕ) (x : ℕ) → In (rising ns) x → In ns x
from_rising [] x h = h
from_rising (n ∷ ns) x h = ⊎_elim (λ e. inl e) (λ r. inr (from_rising ns x r)) (from_put_once n (rising ns) x h)

pub in_rising : (ns : List ℕ) (x : ℕ) → In ns x → In (rising ns) x
in_rising [] x h = h
in_rising (n ∷ ns) x (inl e) = in_put_once n (rising ns) x (inl e)
in_rising (n ∷ ns) x (inr h) = in_put_once n (rising ns) x (inr (in_rising ns x h))

-- the multiples of hop to which a row belongs

from_multiples : (hop number count w : ℕ) → In (multiples hop number count) w → (m : ℕ) × (number ≤ m) × (m < number + count) × (w ≡ hop * m)
from_multiples hop number zero w h = absurd h
from_multiples hop number (suc count) w (inl e) = (number, omega arith, omega arith, sym e)
from_multiples hop number (suc count) w (inr h) =
    let rest = from_multiples hop (number + 1) count w h in
    (rest.0, omega (arith, rest.1), omega (arith, rest.2), rest.3)

in_multiples : (hop number count m : ℕ) → number ≤ m → m < number + count → In (multiples hop number count) (hop * m)
in_multiples hop number zero m h k = absurd (omega arith)
in_multiples hop number (suc count) m h k = ⊎_elim first (later (in_multiples hop (number + 1) count m)) (cases_eq number m)
  where
    first : number ≡ m → (hop * number ≡ hop * m) ⊎ In (multiples hop (number + 1) count) (hop * m)
    first e = inl (ap (λ n. hop * n) e)

    later : (number + 1 ≤ m → m < number + 1 + count → In (multiples hop (number + 1) count) (hop * m)) → (number ≡ m → ⊥) → (hop * number ≡ hop * m) ⊎ In (multiples hop (number + 1) count) (hop * m)
    later f apart = inr (f (omega arith) (omega arith))

above_quotient : (hop low m : ℕ) → 1 ≤ hop → low / hop + 1 ≤ m → low < hop * m
above_quotient hop low m h k =
    let up : hop * (low / hop + 1) ≤ hop * m = mul-le-mul_left hop k in
    let rest : low % hop < hop = mod-lt low (omega arith) in
    let whole : hop * (low / hop) + low % hop ≡ low = omega arith in
    omega arith

quotient_below : (hop low m : ℕ) → 1 ≤ hop → low < hop * m → low / hop < m
quotient_below hop low m h k = ⊎_elim (λ l. l) (λ r. absurd (let up = multiple-le hop m low r h in omega arith)) (cases_lt (low / hop) m)

belongs_parts : (window : Window) (w : ℕ) (row : Event) → belongs window w row ≡ true → (row.start < w) × (w ≤ row.start + window.size)
belongs_parts window w row h =
    let parts = and_parts (nat_lt row.start w) (nat_le w (row.start + window.size)) h in
    (ltb-true row.start w parts.0, leb-true w (row.start + window.size) parts.1)

belongs_from : (window : Window) (w : ℕ) (row : Event) → row.start < w → w ≤ row.start + window.size → belongs window w row ≡ true
belongs_from window w row h k = and_from (nat_lt row.start w) (nat_le w (row.start + window.size)) (lt-ltb row.start w h) (le-leb w (row.start + window.size) k)

pub from_ends_of : (window : Window) (row : Event) (w : ℕ) → 1 ≤ window.hop → In (ends_of window row) w → ((n : ℕ) × (w ≡ window.hop * n)) × (belongs window w row ≡ true)
from_ends_of window row w h k =
    let hop = window.hop in
    let to = (row.start + window.size) / hop in
    let found = from_multiples hop (row.start / hop + 1) (to - row.start / hop) w k in
    let m = found.0 in
    let low : row.start < hop * m = above_quotient hop row.start m h found.1 in
    let high : hop * m ≤ row.start + window.size = multiple-le hop m (row.start + window.size) (omega (arith, found.1, found.2)) h in
    ((m, found.3), belongs_from window w row (omega (arith, found.3)) (omega (arith, found.3)))

pub in_ends_of : (window : Window) (row : Event) (n : ℕ) → 1 ≤ window.hop → belongs window (window.hop * n) row ≡ true → In (ends_of window row) (window.hop * n)
in_ends_of window row n h k =
    let hop = window.hop in
    let parts = belongs_parts window (hop * n) row k in
    let low : row.start / hop < n = quotient_below hop row.start n h parts.0 in
    let same = mul_comm n hop in
    let high : n ≤ (row.start + window.size) / hop = le-div n (row.start + window.size) hop h (omega (arith, parts.1)) in
    in_multiples hop (row.start / hop + 1) ((row.start + window.size) / hop - row.start / hop) n (omega arith) (omega arith)

-- the two laws

from_ends : (window : Window) (seen : List Event) (before after w : ℕ) → 1 ≤ window.hop → In (window_ends window seen before after) w → IsEnd window seen before after w
from_ends window seen before after w h k =
    let test : ℕ → Bool = λ v. nat_lt before v && nat_le v after in
    let candidates = flat_map (ends_of window) seen in
    let kept = from_filter test candidates w (from_rising (filter test candidates) w k) in
    let range = and_parts (nat_lt before w) (nat_le w after) kept.1 in
    let found = from_flat_map (ends_of window) seen w kept.0 in
    let row = found.0 in
    let end = from_ends_of window row w h found.2 in
    (ltb-true before w range.0, leb-true w after range.1, end.0, (row, contains_from seen row found.1, end.1))

in_ends : (window : Window) (seen : List Event) (before after w : ℕ) → 1 ≤ window.hop → IsEnd window seen before after w → In (window_ends window seen before after) w
in_ends window seen before after w h k =
    let test : ℕ → Bool = λ v. nat_lt before v && nat_le v after in
    let candidates = flat_map (ends_of window) seen in
    let n = k.2.0 in
    let row = k.3.0 in
    let here : In (ends_of window row) w =
    subst (In (ends_of window row)) (sym k.2.1) (in_ends_of window row n h (subst (λ v. belongs window v row ≡ true) k.2.1 k.3.2)) in
    in_rising (filter test candidates) w
    (in_filter test candidates w (in_flat_map (ends_of window) seen row w (in_from seen row k.3.1) here)
    (and_from (nat_lt before w) (nat_le w after) (lt-ltb before w k.0) (le-leb w after k.1)))

pub window_ends_have_rows : WindowEndsHaveRows
window_ends_have_rows window seen before after h = (
  all_pairs (window_ends window seen before after) (rising-rising (filter (λ w. nat_lt before w && nat_le w after) (flat_map (ends_of window) seen))),
  λ w. (
    λ k. from_ends window seen before after w h (in_from (window_ends window seen before after) w k),
    λ k. contains_from (window_ends window seen before after) w (in_ends window seen before after w h k),
  ),
)

pub window_keys_have_rows : WindowKeysHaveRows
window_keys_have_rows window seen w =
    let mine = filter (belongs window w) seen in
    let key_of : Event → ℕ = λ row. row.key in (
      all_pairs (window_keys window seen w) (rising-rising (map key_of mine)),
      λ key. (
        λ k.
            let found = from_map key_of mine key (from_rising (map key_of mine) key (in_from (window_keys window seen w) key k)) in
            let kept = from_filter (belongs window w) seen found.0 found.1 in
            (found.0, contains_from seen found.0 kept.0, kept.1, found.2),
        λ k. contains_from (window_keys window seen w) key
            (in_rising (map key_of mine) key (in_map key_of mine k.0 key (in_filter (belongs window w) seen k.0 (in_from seen k.0 k.1) k.2) k.3)),
      ),
    )
