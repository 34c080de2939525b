-- Rows that may be given, and what holds of each of rising numbers.
use Rattle.std.proofs.Common.{◌≡◌, ℕ, ◌<◌, ◌≤◌, ◌==◌, Bool, true, false, cond, ◌&&◌, nat_lt, nat_le, List, [], ◌∷◌, filter, ltb-true}
use Rattle.std.proofs.lemmas.Bool.{and_parts}
use Rattle.std.specs.List.{AllByRecursion}
use Rattle.ss_elem.specs.declared.element.Event.{Event}
use Rattle.ss_meaning.specs.Window.{put_once, rising}
use Rattle.ss_meaning.proofs.Each.{each_weaker, each_passes}

-- a row that may be given where Low was so much
abbrev pub IsGiven : ℕ → ℕ → Event → Type 0
IsGiven low limit row = (low ≤ row.start) × (row.start < row.end) × (row.end < limit)

pub each-put_once : (P : ℕ → Type 0) (n : ℕ) (ms : List ℕ) → P n → AllByRecursion P ms → AllByRecursion P (put_once n ms)
each-put_once P n [] h k = (h, tt)
each-put_once P n (m ∷ ms) h k = by_tests (nat_lt n m) (n == m) (each-put_once P n ms h k.1)
  where
    by_tests : (b c : Bool) → AllByRecursion P (put_once n ms) → AllByRecursion P (cond b (n ∷ m ∷ ms) (cond c (m ∷ ms) (m ∷ put_once n ms)))
    by_tests true c rest = (h, k)
    by_tests false true rest = k
    by_tests false false rest = (k.0, rest)

pub each-rising : (P : ℕ → Type 0) (ns : List ℕ) → AllByRecursion P ns → AllByRecursion P (rising ns)
each-rising P [] h = tt
each-rising P (n ∷ ns) h = each-put_once P n (rising ns) h.0 (each-rising P ns h.1)

-- the numbers above one and up to another, in rising order
pub rising_above : (q q' : ℕ) (ns : List ℕ) (P : ℕ → Type 0) → AllByRecursion P ns → AllByRecursion (λ n. (q < n) × P n) (rising (filter (λ n. nat_lt q n && nat_le n q') ns))
rising_above q q' ns P h =
    let Q : ℕ → Type 0 = λ n. (q < n) × P n in
    let test : ℕ → Bool = λ n. nat_lt q n && nat_le n q' in
    each-rising Q (filter test ns)
    (each_weaker (λ n. P n × (test n ≡ true)) Q (λ n pair. (ltb-true q n (and_parts (nat_lt q n) (nat_le n q') pair.1).0, pair.0)) (filter test ns)
    (each_passes P test ns h))
