-- The sessions of all keys are those of the rows alone, put in their places; one more row is put among the open ones.
use Rattle.std.proofs.Common.{◌≡◌, ℕ, ◌+◌, ◌<◌, ◌≤◌, ◌==◌, ◌⊎◌, Bool, true, false, cond, ◌||◌, nat_lt, ℤ, List, [], ◌∷◌, ◌++◌, map, filter, refl, sym, ap, ◌∙◌, inl, inr, arith, ltb-true, ltb-false, lt-ltb, eqb-true, eq-eqb}
use Rattle.std.proofs.lemmas.Bool.{eqb-false, cases_order, cond-true, cond-false}
use Rattle.std.proofs.lemmas.List.{map-append, append-nil}
use Rattle.std.specs.List.{AllByRecursion, flat_map}
use Rattle.ss_elem.specs.declared.element.Event.{Event}
use Rattle.ss_meaning.specs.Window.{put_once, rising}
use Rattle.ss_meaning.specs.Session.{SessionWindow, SessionEntry, runs_of, session_entry, sessions, closing}
use Rattle.ss_meaning.specs.SessionLists.{IsApart, AreApart, single_session, joined_sessions, put_session}
use Rattle.ss_meaning.specs.SessionLaws.{JoinsBy, SessionsAfterRow}
use Rattle.ss_meaning.proofs.Each.{each-append, each-filter, each-map, each_weaker, each_given, each-flat_map}
use Rattle.ss_meaning.proofs.Ends.{IsRising, rising-rising}
use Rattle.ss_meaning.proofs.EntryPuts.{among, among-above}
use Rattle.ss_meaning.proofs.EntryLooks.{among-rising}
use Rattle.ss_meaning.proofs.SessionPuts.{JoinsFreely, IsForward, Stand, stand, put_behind, put_before, put_touching, put_first, joined_forward}
use Rattle.ss_meaning.proofs.SessionSteps.{free, puts, each-puts, forward-puts, apart-puts, singles, singles_forward, puts_push, of_key, each_of_key, runs_are_puts}

pub flat_map_alike : {A B : Type 0} (f g : A → List B) (xs : List A) → AllByRecursion (λ x. f x ≡ g x) xs → flat_map f xs ≡ flat_map g xs
flat_map_alike f g [] h = refl
flat_map_alike f g (x ∷ xs) h = ap (λ ys. ys ++ flat_map f xs) h.0 ∙ ap (λ ys. g x ++ ys) (flat_map_alike f g xs h.1)

-- a put among lists in a row

less_is_apart : (gap : ℕ) (s t : SessionEntry) → s.key < t.key → IsApart gap s t
less_is_apart gap s t h = record { keys = omega (arith, h); times = λ k. absurd (omega (arith, h, k)) }

put_skip : (gap : ℕ) (join : ℤ → ℤ → ℤ) (s : SessionEntry) (es fs : List SessionEntry) → AllByRecursion (λ (e : SessionEntry). e.key < s.key) es
    → put_session gap join s (es ++ fs) ≡ es ++ put_session gap join s fs
put_skip gap join s [] fs h = refl
put_skip gap join s (e ∷ es) fs h =
    put_behind gap join s e (es ++ fs) (less_is_apart gap e s h.0) ∙ ap (λ (l : List SessionEntry). e ∷ l) (put_skip gap join s es fs h.1)

put_append : (gap : ℕ) (join : ℤ → ℤ → ℤ) (s : SessionEntry) (es fs : List SessionEntry) → 1 ≤ gap → IsForward s → AllByRecursion IsForward es → AllByRecursion IsForward fs
    → AllByRecursion (λ (f : SessionEntry). s.key < f.key) fs → put_session gap join s (es ++ fs) ≡ put_session gap join s es ++ fs
put_append gap join s [] fs some a f g h =
    put_first gap join s fs some a g (each_weaker (λ (x : SessionEntry). s.key < x.key) (IsApart gap s) (λ x k. less_is_apart gap s x k) fs h)
put_append gap join s (e ∷ es) fs some a f g h =
    by_stand (stand gap e s) (put_append gap join s es fs some a f.1 g h)
    (λ k. put_append gap join (joined_sessions join e s) es fs some (joined_forward join e s f.0 a) f.1 g k)
  where
    by_stand : Stand gap e s → put_session gap join s (es ++ fs) ≡ put_session gap join s es ++ fs
        → (AllByRecursion (λ (x : SessionEntry). e.key < x.key) fs → put_session gap join (joined_sessions join e s) (es ++ fs) ≡ put_session gap join (joined_sessions join e s) es ++ fs)
        → put_session gap join s (e ∷ es ++ fs) ≡ put_session gap join s (e ∷ es) ++ fs
    by_stand (inl p) x y =
        put_behind gap join s e (es ++ fs) p ∙ (ap (λ (l : List SessionEntry). e ∷ l) x ∙ sym (ap (λ (l : List SessionEntry). l ++ fs) (put_behind gap join s e es p)))
    by_stand (inr (inl p)) x y =
        put_before gap join s e (es ++ fs) some a f.0 p ∙ sym (ap (λ (l : List SessionEntry). l ++ fs) (put_before gap join s e es some a f.0 p))
    by_stand (inr (inr p)) x y =
        put_touching gap join s e (es ++ fs) p
        ∙ (y (each_weaker (λ (x : SessionEntry). s.key < x.key) (λ (x : SessionEntry). e.key < x.key) (λ x k. omega (arith, k, p.keys)) fs h)
        ∙ sym (ap (λ (l : List SessionEntry). l ++ fs) (put_touching gap join s e es p)))

-- lists of sessions, one for each key, of which that of one key changes

pub record Changes (gap : ℕ) (join : ℤ → ℤ → ℤ) (s : SessionEntry) (old new : ℕ → List SessionEntry) : Type 0 where
  pub keys : (k : ℕ) → AllByRecursion (λ (e : SessionEntry). e.key ≡ k) (old k)
  pub forward : (k : ℕ) → AllByRecursion IsForward (old k)
  pub here : new s.key ≡ put_session gap join s (old s.key)
  pub elsewhere : (k : ℕ) → (s.key == k) ≡ false → new k ≡ old k

above_all : (s : SessionEntry) (old : ℕ → List SessionEntry) (ks : List ℕ) → ((k : ℕ) → AllByRecursion (λ (e : SessionEntry). e.key ≡ k) (old k))
    → AllByRecursion (λ k. s.key < k) ks → AllByRecursion (λ (e : SessionEntry). s.key < e.key) (flat_map old ks)
above_all s old ks keys h =
    each-flat_map (λ k. s.key < k) (λ (e : SessionEntry). s.key < e.key) old
    (λ k m. each_weaker (λ (e : SessionEntry). e.key ≡ k) (λ (e : SessionEntry). s.key < e.key) (λ e same. omega (arith, same, m)) (old k) (keys k)) ks h

same_above : (gap : ℕ) (join : ℤ → ℤ → ℤ) (s : SessionEntry) (old new : ℕ → List SessionEntry) (ks : List ℕ) → Changes gap join s old new
    → AllByRecursion (λ k. s.key < k) ks → flat_map new ks ≡ flat_map old ks
same_above gap join s old new ks c h =
    flat_map_alike new old ks (each_weaker (λ k. s.key < k) (λ k. new k ≡ old k) (λ k m. c.elsewhere k (not_same k m)) ks h)
  where
    not_same : (k : ℕ) → s.key < k → (s.key == k) ≡ false
    not_same k m = by_test (s.key == k) refl
      where
        by_test : (b : Bool) → (s.key == k) ≡ b → b ≡ false
        by_test false e = refl
        by_test true e = absurd (let same = eqb-true s.key k e in omega (arith, same, m))

put_in_key : (gap : ℕ) (join : ℤ → ℤ → ℤ) (s : SessionEntry) (old new : ℕ → List SessionEntry) (ks : List ℕ) → 1 ≤ gap → IsForward s → Changes gap join s old new
    → (among s.key ks ≡ false → old s.key ≡ []) → IsRising ks → flat_map new (put_once s.key ks) ≡ put_session gap join s (flat_map old ks)
put_in_key gap join s old new [] some a c none up =
    append-nil (new s.key) ∙ (c.here ∙ ap (put_session gap join s) (none refl))
put_in_key gap join s old new (m ∷ ms) some a c none up =
    by_tests (nat_lt s.key m) (s.key == m) refl refl (λ n. put_in_key gap join s old new ms some a c n up.1)
  where
    forward : AllByRecursion IsForward (flat_map old ms)
    forward = each-flat_map (λ k. Unit {0}) IsForward old (λ k u. c.forward k) ms (each_given (λ k. Unit {0}) (λ k. tt) ms)

    by_tests : (p q : Bool) → nat_lt s.key m ≡ p → (s.key == m) ≡ q
        → ((among s.key ms ≡ false → old s.key ≡ []) → flat_map new (put_once s.key ms) ≡ put_session gap join s (flat_map old ms))
        → flat_map new (cond p (s.key ∷ m ∷ ms) (cond q (m ∷ ms) (m ∷ put_once s.key ms))) ≡ put_session gap join s (flat_map old (m ∷ ms))
    by_tests true q pp qq rest =
        let less = ltb-true s.key m pp in
        let all : AllByRecursion (λ k. s.key < k) (m ∷ ms) = (less, each_weaker (λ k. m < k) (λ k. s.key < k) (λ k h. omega (arith, h, less)) ms up.0) in
        let first : new s.key ≡ s ∷ [] = c.here ∙ ap (put_session gap join s) (none (among-above s.key (m ∷ ms) all)) in
        ap (λ (l : List SessionEntry). l ++ flat_map new (m ∷ ms)) first
        ∙ (ap (λ (l : List SessionEntry). s ∷ l) (same_above gap join s old new (m ∷ ms) c all)
        ∙ sym (put_first gap join s (flat_map old (m ∷ ms)) some a (each-append IsForward (old m) (flat_map old ms) (c.forward m) forward)
        (each_weaker (λ (e : SessionEntry). s.key < e.key) (IsApart gap s) (λ e k. less_is_apart gap s e k) (flat_map old (m ∷ ms)) (above_all s old (m ∷ ms) c.keys all))))
    by_tests false true pp qq rest =
        let same = eqb-true s.key m qq in
        let all : AllByRecursion (λ k. s.key < k) ms = each_weaker (λ k. m < k) (λ k. s.key < k) (λ k h. omega (arith, h, same)) ms up.0 in
        ap (λ (l : List SessionEntry). l ++ flat_map new ms) (ap new (sym same) ∙ (c.here ∙ ap (λ k. put_session gap join s (old k)) same))
        ∙ (ap (λ (l : List SessionEntry). put_session gap join s (old m) ++ l) (same_above gap join s old new ms c all)
        ∙ sym (put_append gap join s (old m) (flat_map old ms) some a (c.forward m) forward (above_all s old ms c.keys all)))
    by_tests false false pp qq rest =
        let most = ltb-false s.key m pp in
        let less : m < s.key = by_order (cases_order s.key m) in
        ap (λ (l : List SessionEntry). l ++ flat_map new (put_once s.key ms)) (c.elsewhere m qq)
        ∙ (ap (λ (l : List SessionEntry). old m ++ l) (rest (λ n. none (ap (λ b. b || among s.key ms) (flip qq) ∙ n)))
        ∙ sym (put_skip gap join s (old m) (flat_map old ms)
        (each_weaker (λ (e : SessionEntry). e.key ≡ m) (λ (e : SessionEntry). e.key < s.key) (λ e h. omega (arith, h, less)) (old m) (c.keys m))))
      where
        flip : (s.key == m) ≡ false → (m == s.key) ≡ false
        flip e = by_test (m == s.key) refl
          where
            by_test : (b : Bool) → (m == s.key) ≡ b → b ≡ false
            by_test false f = refl
            by_test true f = absurd (eqb-false s.key m e (sym (eqb-true m s.key f)))

        by_order : (s.key ≡ m) ⊎ ((s.key < m) ⊎ (m < s.key)) → m < s.key
        by_order (inl e) = absurd (eqb-false s.key m qq e)
        by_order (inr (inl l)) = absurd (let most = ltb-false s.key m pp in omega (arith, most, l))
        by_order (inr (inr l)) = l

-- the sessions of all keys

pub none_at : {A : Type 0} (f : A → ℕ) (n : ℕ) (xs : List A) → among n (map f xs) ≡ false → filter (λ x. f x == n) xs ≡ []
none_at f n [] h = refl
none_at f n (x ∷ xs) h = by_test (f x == n) h (none_at f n xs)
  where
    true_false : true ≡ false → ⊥
    true_false e = cc

    by_test : (b : Bool) → (b || among n (map f xs)) ≡ false → (among n (map f xs) ≡ false → filter (λ x. f x == n) xs ≡ [])
        → cond b (x ∷ filter (λ x. f x == n) xs) (filter (λ x. f x == n) xs) ≡ []
    by_test true k rest = absurd (true_false k)
    by_test false k rest = rest k

by_keys : (window : SessionWindow) (join : ℤ → ℤ → ℤ) (rows : List Event) → JoinsFreely join → 1 ≤ window.gap
    → flat_map (of_key window join rows) (rising (map (λ (row : Event). row.key) rows)) ≡ puts window.gap join (singles window rows)
by_keys window join [] j some = refl
by_keys window join (r ∷ rs) j some =
    let keys = map (λ (row : Event). row.key) rs in
    put_in_key window.gap join (single_session window r) (of_key window join rs) (of_key window join (r ∷ rs)) (rising keys) some (record { times = omega arith })
    (record {
      keys = λ k. each-puts (λ (e : SessionEntry). e.key ≡ k) window.gap join (singles window (filter (λ (row : Event). row.key == k) rs)) (λ a b m x y. x)
          (each-map (λ (e : SessionEntry). e.key ≡ k) (single_session window) (filter (λ (row : Event). row.key == k) rs) (each_of_key k rs));
      forward = λ k. forward-puts window.gap join (singles window (filter (λ (row : Event). row.key == k) rs)) (singles_forward window (filter (λ (row : Event). row.key == k) rs));
      here = ap (λ b. puts window.gap join (singles window (cond b (r ∷ filter (λ (row : Event). row.key == r.key) rs) (filter (λ (row : Event). row.key == r.key) rs)))) (eq-eqb r.key r.key refl);
      elsewhere = λ k e. ap (λ b. puts window.gap join (singles window (cond b (r ∷ filter (λ (row : Event). row.key == k) rs) (filter (λ (row : Event). row.key == k) rs)))) e;
    })
    (λ n. ap (λ mine. puts window.gap join (singles window mine)) (none_at (λ (row : Event). row.key) r.key rs (sym (among-rising r.key keys) ∙ n)))
    (rising-rising keys)
    ∙ ap (put_session window.gap join (single_session window r)) (by_keys window join rs j some)

pub sessions_are_puts : (window : SessionWindow) (join : ℤ → ℤ → ℤ) (rows : List Event) → JoinsBy join window.aggregate → 1 ≤ window.gap
    → sessions window rows ≡ puts window.gap join (singles window rows)
sessions_are_puts window join rows j some =
    let keys = rising (map (λ (row : Event). row.key) rows) in
    flat_map_alike (λ key. map (session_entry window key) (runs_of window.gap rows key)) (of_key window join rows) keys
    (each_given (λ key. map (session_entry window key) (runs_of window.gap rows key) ≡ of_key window join rows key) (λ key. runs_are_puts window join rows key j some) keys)
    ∙ by_keys window join rows (free join window.aggregate j) some

-- a put among the sessions that close above a bound

-- a session that has closed ends gap or more before the start of another one of its key
pub record IsPast (gap bound : ℕ) (s e : SessionEntry) : Type 0 where
  pub times : e.key ≡ s.key → e.last + gap ≤ bound → e.last + gap ≤ s.first

abbrev pub stays_open : ℕ → ℕ → SessionEntry → Bool
stays_open gap bound s = nat_lt bound (closing gap s)

filter-put : (gap : ℕ) (join : ℤ → ℤ → ℤ) (bound : ℕ) (s : SessionEntry) (es : List SessionEntry) → 1 ≤ gap → IsForward s → bound < s.last + gap
    → AllByRecursion (IsPast gap bound s) es → AllByRecursion IsForward es → AreApart gap es
    → filter (stays_open gap bound) (put_session gap join s es) ≡ put_session gap join s (filter (stays_open gap bound) es)
filter-put gap join bound s [] some a opened past f h = cond-true (stays_open gap bound s) (s ∷ []) [] (lt-ltb bound (closing gap s) opened)
filter-put gap join bound s (e ∷ es) some a opened past f h =
    by_stand (stand gap e s) (stays_open gap bound e) refl (filter-put gap join bound s es some a opened past.1 f.1 h.1)
    (λ m p. filter-put gap join bound (joined_sessions join e s) es some (joined_forward join e s f.0 a) m p f.1 h.1)
  where
    by_stand : Stand gap e s → (b : Bool) → stays_open gap bound e ≡ b
        → filter (stays_open gap bound) (put_session gap join s es) ≡ put_session gap join s (filter (stays_open gap bound) es)
        → (bound < (joined_sessions join e s).last + gap → AllByRecursion (IsPast gap bound (joined_sessions join e s)) es
        → filter (stays_open gap bound) (put_session gap join (joined_sessions join e s) es) ≡ put_session gap join (joined_sessions join e s) (filter (stays_open gap bound) es))
        → filter (stays_open gap bound) (put_session gap join s (e ∷ es)) ≡ put_session gap join s (cond b (e ∷ filter (stays_open gap bound) es) (filter (stays_open gap bound) es))
    by_stand (inl p) true t x y =
        ap (filter (stays_open gap bound)) (put_behind gap join s e es p)
        ∙ (cond-true (stays_open gap bound e) (e ∷ filter (stays_open gap bound) (put_session gap join s es)) (filter (stays_open gap bound) (put_session gap join s es)) t
        ∙ (ap (λ (l : List SessionEntry). e ∷ l) x ∙ sym (put_behind gap join s e (filter (stays_open gap bound) es) p)))
    by_stand (inl p) false t x y =
        ap (filter (stays_open gap bound)) (put_behind gap join s e es p)
        ∙ (cond-false (stays_open gap bound e) (e ∷ filter (stays_open gap bound) (put_session gap join s es)) (filter (stays_open gap bound) (put_session gap join s es)) t ∙ x)
    by_stand (inr (inl p)) b t x y =
        ap (filter (stays_open gap bound)) (put_before gap join s e es some a f.0 p)
        ∙ (cond-true (stays_open gap bound s) (s ∷ filter (stays_open gap bound) (e ∷ es)) (filter (stays_open gap bound) (e ∷ es)) (lt-ltb bound (closing gap s) opened)
        ∙ sym (ap (λ c. put_session gap join s (cond c (e ∷ filter (stays_open gap bound) es) (filter (stays_open gap bound) es))) (sym t)
        ∙ put_first gap join s (filter (stays_open gap bound) (e ∷ es)) some a (each-filter IsForward (stays_open gap bound) (e ∷ es) f)
        (each-filter (IsApart gap s) (stays_open gap bound) (e ∷ es) (p, each_weaker (IsApart gap e) (IsApart gap s) (λ u k. behind u k) es h.0))))
      where
        behind : (u : SessionEntry) → IsApart gap e u → IsApart gap s u
        behind u k = record {
          keys = omega (arith, p.keys, k.keys);
          times = λ m.
              let k1 : s.key ≡ e.key = omega (arith, p.keys, k.keys, m) in
              let k2 : e.key ≡ u.key = omega (arith, p.keys, k.keys, m) in
              omega (arith, f.0.times, p.times k1, k.times k2);
        }
    by_stand (inr (inr p)) true t x y =
        let less = ltb-true bound (closing gap e) t in
        ap (filter (stays_open gap bound)) (put_touching gap join s e es p)
        ∙ (y (omega (arith, opened)) (each_weaker (λ (u : SessionEntry). IsForward u × IsApart gap e u) (IsPast gap bound (joined_sessions join e s))
        (λ u k. record { times = λ m n. absurd (let forward = k.0.times in let later = k.1.times (sym m) in omega (arith, less, n, forward, later)) }) es (both es f.1 h.0))
        ∙ sym (put_touching gap join s e (filter (stays_open gap bound) es) p))
      where
        both : (us : List SessionEntry) → AllByRecursion IsForward us → AllByRecursion (IsApart gap e) us → AllByRecursion (λ (u : SessionEntry). IsForward u × IsApart gap e u) us
        both [] c d = tt
        both (u ∷ us) c d = ((c.0, d.0), both us c.1 d.1)
    by_stand (inr (inr p)) false t x y =
        let most = ltb-false bound (closing gap e) t in
        absurd (let over = past.0.times p.keys most in omega (arith, over, p.right))

pub sessions_after_row : SessionsAfterRow
sessions_after_row window join j some seen row bound starts =
    let gap = window.gap in
    let all = singles window seen in
    let old = puts gap join all in
    let forward = singles_forward window seen in
    ap (filter (stays_open gap bound)) (sessions_are_puts window join (seen ++ row ∷ []) j some
    ∙ (ap (puts gap join) (map-append (single_session window) seen (row ∷ []))
    ∙ puts_push gap join all (single_session window row) some (free join window.aggregate j) forward (record { times = omega arith })))
    ∙ (filter-put gap join bound (single_session window row) old some (record { times = omega arith }) (omega (arith, starts, some))
    (each_given (IsPast gap bound (single_session window row)) (λ e. record { times = λ k m. omega (arith, m, starts) }) old)
    (forward-puts gap join all forward) (apart-puts gap join all some forward)
    ∙ ap (λ es. put_session gap join (single_session window row) (filter (stays_open gap bound) es)) (sym (sessions_are_puts window join seen j some)))
