-- The sessions of some keys are made of the rows of these keys alone.
use Rattle.std.proofs.Common.{◌≡◌, ℕ, ◌≤◌, Bool, true, false, cond, nat_le, ℤ, List, [], ◌∷◌, map, filter, refl, sym, ap, ◌∙◌, inl, inr, arith, leb-true, leb-false}
use Rattle.std.proofs.lemmas.Bool.{cond-true, cond-false, le-leb}
use Rattle.std.specs.List.{AllByRecursion}
use Rattle.ss_elem.specs.declared.element.Event.{Event}
use Rattle.ss_meaning.specs.ByTime.{put_by_time, by_time}
use Rattle.ss_meaning.specs.Session.{SessionWindow, SessionEntry, sessions, closing, closed, session_row}
use Rattle.ss_meaning.specs.SessionRows.{closes_between}
use Rattle.ss_meaning.specs.SessionLists.{IsApart, AreApart, single_session, joined_sessions, put_session}
use Rattle.ss_meaning.specs.SessionLaws.{JoinsBy}
use Rattle.ss_meaning.specs.SessionKeys.{rows_of_keys, sessions_of_keys, OpenSessionsGoByKeys, SessionRowsGoByKeys}
use Rattle.ss_meaning.proofs.Each.{each-filter, each_weaker}
use Rattle.ss_meaning.proofs.SessionPuts.{IsForward, Stand, stand, put_behind, put_before, put_touching, put_first, joined_forward, each_apart}
use Rattle.ss_meaning.proofs.SessionSteps.{puts, forward-puts, apart-puts, singles, singles_forward}
use Rattle.ss_meaning.proofs.SessionKeys.{sessions_are_puts, stays_open}
use Rattle.ss_meaning.proofs.SessionsClosed.{closed_are_by_time}

-- some of a list

filter-map : {A B : Type 0} (f : A → B) (test : B → Bool) (xs : List A) → filter test (map f xs) ≡ map f (filter (λ x. test (f x)) xs)
filter-map f test [] = refl
filter-map {A} {B} f test (x ∷ xs) = by_test (test (f x)) (filter-map f test xs)
  where
    by_test : (b : Bool) → filter test (map f xs) ≡ map f (filter (λ y. test (f y)) xs)
        → cond b (f x ∷ filter test (map f xs)) (filter test (map f xs)) ≡ map f (cond b (x ∷ filter (λ y. test (f y)) xs) (filter (λ y. test (f y)) xs))
    by_test true rest = ap (λ (ys : List B). f x ∷ ys) rest
    by_test false rest = rest

filter-swapped : {A : Type 0} (p q : A → Bool) (xs : List A) → filter p (filter q xs) ≡ filter q (filter p xs)
filter-swapped p q [] = refl
filter-swapped {A} p q (x ∷ xs) = by_tests (p x) (q x) refl refl (filter-swapped p q xs)
  where
    by_tests : (b c : Bool) → p x ≡ b → q x ≡ c → filter p (filter q xs) ≡ filter q (filter p xs)
        → filter p (cond c (x ∷ filter q xs) (filter q xs)) ≡ filter q (cond b (x ∷ filter p xs) (filter p xs))
    by_tests true true s t rest =
        cond-true (p x) (x ∷ filter p (filter q xs)) (filter p (filter q xs)) s
        ∙ (ap (λ (ys : List A). x ∷ ys) rest ∙ sym (cond-true (q x) (x ∷ filter q (filter p xs)) (filter q (filter p xs)) t))
    by_tests true false s t rest = rest ∙ sym (cond-false (q x) (x ∷ filter q (filter p xs)) (filter q (filter p xs)) t)
    by_tests false true s t rest = cond-false (p x) (x ∷ filter p (filter q xs)) (filter p (filter q xs)) s ∙ rest
    by_tests false false s t rest = rest

-- some of what is in the order of times

module _ {A : Type 0} (of : A → ℕ) where
  abbrev IsByTime : List A → Type 0
  IsByTime [] = Unit {0}
  IsByTime (x ∷ xs) = AllByRecursion (λ (y : A). of x ≤ of y) xs × IsByTime xs

  each-put_by_time : (P : A → Type 0) (x : A) (ys : List A) → P x → AllByRecursion P ys → AllByRecursion P (put_by_time of x ys)
  each-put_by_time P x [] a h = (a, tt)
  each-put_by_time P x (y ∷ ys) a h = by_test (nat_le (of x) (of y)) (each-put_by_time P x ys a h.1)
    where
      by_test : (b : Bool) → AllByRecursion P (put_by_time of x ys) → AllByRecursion P (cond b (x ∷ y ∷ ys) (y ∷ put_by_time of x ys))
      by_test true rest = (a, h)
      by_test false rest = (h.0, rest)

  sorted-put_by_time : (x : A) (ys : List A) → IsByTime ys → IsByTime (put_by_time of x ys)
  sorted-put_by_time x [] h = (tt, tt)
  sorted-put_by_time x (y ∷ ys) h = by_test (nat_le (of x) (of y)) refl (sorted-put_by_time x ys h.1)
    where
      by_test : (b : Bool) → nat_le (of x) (of y) ≡ b → IsByTime (put_by_time of x ys) → IsByTime (cond b (x ∷ y ∷ ys) (y ∷ put_by_time of x ys))
      by_test true t rest =
          let le = leb-true (of x) (of y) t in
          ((le, each_weaker (λ (r : A). of y ≤ of r) (λ (r : A). of x ≤ of r) (λ r k. omega (arith, k, le)) ys h.0), h)
      by_test false t rest =
          let less = leb-false (of x) (of y) t in
          (each-put_by_time (λ (r : A). of y ≤ of r) x ys (omega (arith, less)) h.0, rest)

  sorted-by_time : (xs : List A) → IsByTime (by_time of xs)
  sorted-by_time [] = tt
  sorted-by_time (x ∷ xs) = sorted-put_by_time x (by_time of xs) (sorted-by_time xs)

  put_least : (x : A) (ys : List A) → AllByRecursion (λ (y : A). of x ≤ of y) ys → put_by_time of x ys ≡ x ∷ ys
  put_least x [] h = refl
  put_least x (y ∷ ys) h = cond-true (nat_le (of x) (of y)) (x ∷ y ∷ ys) (y ∷ put_by_time of x ys) (le-leb (of x) (of y) h.0)

  filter-put_by_time : (keep : A → Bool) (x : A) (ys : List A) → IsByTime ys
      → filter keep (put_by_time of x ys) ≡ cond (keep x) (put_by_time of x (filter keep ys)) (filter keep ys)
  filter-put_by_time keep x [] h = refl
  filter-put_by_time keep x (y ∷ ys) h = by_tests (nat_le (of x) (of y)) (keep x) (keep y) refl refl refl (filter-put_by_time keep x ys h.1)
    where
      kept : List A
      kept = filter keep ys

      by_tests : (a b c : Bool) → nat_le (of x) (of y) ≡ a → keep x ≡ b → keep y ≡ c → filter keep (put_by_time of x ys) ≡ cond b (put_by_time of x (filter keep ys)) (filter keep ys)
          → filter keep (cond a (x ∷ y ∷ ys) (y ∷ put_by_time of x ys))
          ≡ cond b (put_by_time of x (cond c (y ∷ filter keep ys) (filter keep ys))) (cond c (y ∷ filter keep ys) (filter keep ys))
      by_tests true true c s t u rest =
          let le = leb-true (of x) (of y) s in
          cond-true (keep x) (x ∷ filter keep (y ∷ ys)) (filter keep (y ∷ ys)) t
          ∙ sym (ap (λ d. put_by_time of x (cond d (y ∷ kept) kept)) (sym u)
          ∙ put_least x (filter keep (y ∷ ys)) (each-filter (λ (r : A). of x ≤ of r) keep (y ∷ ys)
          (le, each_weaker (λ (r : A). of y ≤ of r) (λ (r : A). of x ≤ of r) (λ r k. omega (arith, k, le)) ys h.0)))
      by_tests true false c s t u rest =
          cond-false (keep x) (x ∷ filter keep (y ∷ ys)) (filter keep (y ∷ ys)) t ∙ ap (λ d. cond d (y ∷ kept) kept) u
      by_tests false true true s t u rest =
          cond-true (keep y) (y ∷ filter keep (put_by_time of x ys)) (filter keep (put_by_time of x ys)) u
          ∙ (ap (λ (l : List A). y ∷ l) rest ∙ sym (cond-false (nat_le (of x) (of y)) (x ∷ y ∷ kept) (y ∷ put_by_time of x kept) s))
      by_tests false false true s t u rest =
          cond-true (keep y) (y ∷ filter keep (put_by_time of x ys)) (filter keep (put_by_time of x ys)) u ∙ ap (λ (l : List A). y ∷ l) rest
      by_tests false b false s t u rest =
          cond-false (keep y) (y ∷ filter keep (put_by_time of x ys)) (filter keep (put_by_time of x ys)) u ∙ rest

  filter-by_time : (keep : A → Bool) (xs : List A) → filter keep (by_time of xs) ≡ by_time of (filter keep xs)
  filter-by_time keep [] = refl
  filter-by_time keep (x ∷ xs) =
      filter-put_by_time keep x (by_time of xs) (sorted-by_time xs) ∙ by_test (keep x) (filter-by_time keep xs)
    where
      by_test : (b : Bool) → filter keep (by_time of xs) ≡ by_time of (filter keep xs)
          → cond b (put_by_time of x (filter keep (by_time of xs))) (filter keep (by_time of xs)) ≡ by_time of (cond b (x ∷ filter keep xs) (filter keep xs))
      by_test true rest = ap (put_by_time of x) rest
      by_test false rest = rest

-- a put among sessions, of which those of some keys stay

true_false : true ≡ false → ⊥
true_false e = cc

abbrev has_key : (ℕ → Bool) → SessionEntry → Bool
has_key test s = test s.key

filter-put : (test : ℕ → Bool) (gap : ℕ) (join : ℤ → ℤ → ℤ) (s : SessionEntry) (es : List SessionEntry) → 1 ≤ gap → IsForward s → AllByRecursion IsForward es → AreApart gap es
    → filter (has_key test) (put_session gap join s es) ≡ cond (test s.key) (put_session gap join s (filter (has_key test) es)) (filter (has_key test) es)
filter-put test gap join s [] some a f h = refl
filter-put test gap join s (e ∷ es) some a f h =
    by_stand (stand gap e s) (test e.key) (test s.key) refl refl (filter-put test gap join s es some a f.1 h.1)
    (filter-put test gap join (joined_sessions join e s) es some (joined_forward join e s f.0 a) f.1 h.1)
  where
    by_stand : Stand gap e s → (b c : Bool) → test e.key ≡ b → test s.key ≡ c
        → filter (has_key test) (put_session gap join s es) ≡ cond c (put_session gap join s (filter (has_key test) es)) (filter (has_key test) es)
        → filter (has_key test) (put_session gap join (joined_sessions join e s) es) ≡ cond b (put_session gap join (joined_sessions join e s) (filter (has_key test) es)) (filter (has_key test) es)
        → filter (has_key test) (put_session gap join s (e ∷ es))
        ≡ cond c (put_session gap join s (cond b (e ∷ filter (has_key test) es) (filter (has_key test) es))) (cond b (e ∷ filter (has_key test) es) (filter (has_key test) es))
    by_stand (inl p) true true t u x y =
        ap (filter (has_key test)) (put_behind gap join s e es p)
        ∙ (cond-true (test e.key) (e ∷ filter (has_key test) (put_session gap join s es)) (filter (has_key test) (put_session gap join s es)) t
        ∙ (ap (λ (l : List SessionEntry). e ∷ l) x ∙ sym (put_behind gap join s e (filter (has_key test) es) p)))
    by_stand (inl p) true false t u x y =
        ap (filter (has_key test)) (put_behind gap join s e es p)
        ∙ (cond-true (test e.key) (e ∷ filter (has_key test) (put_session gap join s es)) (filter (has_key test) (put_session gap join s es)) t
        ∙ ap (λ (l : List SessionEntry). e ∷ l) x)
    by_stand (inl p) false c t u x y =
        ap (filter (has_key test)) (put_behind gap join s e es p)
        ∙ (cond-false (test e.key) (e ∷ filter (has_key test) (put_session gap join s es)) (filter (has_key test) (put_session gap join s es)) t ∙ x)
    by_stand (inr (inl p)) b true t u x y =
        ap (filter (has_key test)) (put_before gap join s e es some a f.0 p)
        ∙ (cond-true (test s.key) (s ∷ filter (has_key test) (e ∷ es)) (filter (has_key test) (e ∷ es)) u
        ∙ sym (ap (λ d. put_session gap join s (cond d (e ∷ filter (has_key test) es) (filter (has_key test) es))) (sym t)
        ∙ put_first gap join s (filter (has_key test) (e ∷ es)) some a (each-filter IsForward (has_key test) (e ∷ es) f)
        (each-filter (IsApart gap s) (has_key test) (e ∷ es) (p, each_apart gap s e es f.0 p h.0))))
    by_stand (inr (inl p)) b false t u x y =
        ap (filter (has_key test)) (put_before gap join s e es some a f.0 p)
        ∙ (cond-false (test s.key) (s ∷ filter (has_key test) (e ∷ es)) (filter (has_key test) (e ∷ es)) u
        ∙ ap (λ d. cond d (e ∷ filter (has_key test) es) (filter (has_key test) es)) t)
    by_stand (inr (inr p)) true true t u x y =
        ap (filter (has_key test)) (put_touching gap join s e es p) ∙ (y ∙ sym (put_touching gap join s e (filter (has_key test) es) p))
    by_stand (inr (inr p)) false false t u x y = ap (filter (has_key test)) (put_touching gap join s e es p) ∙ y
    by_stand (inr (inr p)) true false t u x y = absurd (true_false (sym t ∙ (ap test p.keys ∙ u)))
    by_stand (inr (inr p)) false true t u x y = absurd (true_false (sym u ∙ (ap test (sym p.keys) ∙ t)))

filter-puts : (test : ℕ → Bool) (gap : ℕ) (join : ℤ → ℤ → ℤ) (ss : List SessionEntry) → 1 ≤ gap → AllByRecursion IsForward ss
    → filter (has_key test) (puts gap join ss) ≡ puts gap join (filter (has_key test) ss)
filter-puts test gap join [] some f = refl
filter-puts test gap join (s ∷ ss) some f =
    filter-put test gap join s (puts gap join ss) some f.0 (forward-puts gap join ss f.1) (apart-puts gap join ss some f.1)
    ∙ by_test (test s.key) (filter-puts test gap join ss some f.1)
  where
    by_test : (b : Bool) → filter (has_key test) (puts gap join ss) ≡ puts gap join (filter (has_key test) ss)
        → cond b (put_session gap join s (filter (has_key test) (puts gap join ss))) (filter (has_key test) (puts gap join ss))
        ≡ puts gap join (cond b (s ∷ filter (has_key test) ss) (filter (has_key test) ss))
    by_test true rest = ap (put_session gap join s) rest
    by_test false rest = rest

sessions_of_some : (window : SessionWindow) (join : ℤ → ℤ → ℤ) (test : ℕ → Bool) (rows : List Event) → JoinsBy join window.aggregate → 1 ≤ window.gap
    → sessions window (rows_of_keys test rows) ≡ sessions_of_keys test (sessions window rows)
sessions_of_some window join test rows j some =
    sessions_are_puts window join (rows_of_keys test rows) j some
    ∙ (ap (puts window.gap join) (sym (filter-map (single_session window) (has_key test) rows))
    ∙ (sym (filter-puts test window.gap join (singles window rows) some (singles_forward window rows))
    ∙ ap (sessions_of_keys test) (sym (sessions_are_puts window join rows j some))))

pub open_sessions_go_by_keys : OpenSessionsGoByKeys
open_sessions_go_by_keys window join j some test seen bound =
    ap (filter (stays_open window.gap bound)) (sessions_of_some window join test seen j some)
    ∙ filter-swapped (stays_open window.gap bound) (has_key test) (sessions window seen)

pub session_rows_go_by_keys : SessionRowsGoByKeys
session_rows_go_by_keys window join j some test seen before after =
    let gap = window.gap in
    let all = sessions window seen in
    let between = closes_between gap before after in
    ap (λ (es : List SessionEntry). map (session_row gap) (closed gap es before after)) (sessions_of_some window join test seen j some)
    ∙ (ap (map (session_row gap)) (closed_are_by_time gap (sessions_of_keys test all) before after
    ∙ (ap (by_time (closing gap)) (filter-swapped between (has_key test) all)
    ∙ (sym (filter-by_time (closing gap) (has_key test) (filter between all))
    ∙ ap (sessions_of_keys test) (sym (closed_are_by_time gap all before after)))))
    ∙ sym (filter-map (session_row gap) (λ (row : Event). test row.key) (closed gap all before after)))
