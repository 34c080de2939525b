-- Sessions that close as the bound rises, and what holds of those that are open.
use Rattle.std.proofs.Common.{◌≡◌, ℕ, ◌+◌, ◌<◌, ◌≤◌, ◌==◌, Bool, true, false, cond, ◌&&◌, nat_lt, nat_le, ℤ, List, [], ◌∷◌, length, map, filter, All, refl, sym, ap, subst, ◌∙◌, inl, inr, arith, ltb-true, ltb-false, lt-ltb, le-ltb, eqb-true}
use Rattle.std.proofs.lemmas.Bool.{and_parts, cond-false}
use Rattle.std.proofs.lemmas.Int.{ints}
use Rattle.std.proofs.lemmas.List.Elements.{All-from_recursion, recursion_from_All}
use Rattle.std.specs.Int.{int_min, int_max}
use Rattle.std.specs.List.{AllByRecursion, fold, flat_map}
use Rattle.ss_elem.specs.declared.element.Event.{Event}
use Rattle.ss_meaning.specs.Window.{rising}
use Rattle.ss_meaning.specs.Session.{SessionWindow, SessionEntry, sessions, closing, session_row, closings}
use Rattle.ss_meaning.specs.SessionLists.{IsApart, AreApart, single_session, joined_sessions, put_session}
use Rattle.ss_meaning.specs.SessionLaws.{AggregatesJoin, SessionsAfterRise, RowsAreOfSessions, IsSession, SessionsAreApart, PutKeepsApart}
use Rattle.ss_meaning.proofs.Each.{each-filter, each-map, each_weaker, each_given, each_passes}
use Rattle.ss_meaning.proofs.GivenRows.{each-put_once}
use Rattle.ss_meaning.proofs.SessionPuts.{IsForward, Stand, stand, put_behind, put_before, put_touching, apart-put, each-put}
use Rattle.ss_meaning.proofs.SessionSteps.{puts, each-puts, forward-puts, apart-puts, singles, singles_forward}
use Rattle.ss_meaning.proofs.SessionKeys.{flat_map_alike, sessions_are_puts, stays_open}

-- a rise

pub sessions_after_rise : SessionsAfterRise
sessions_after_rise window seen before after h = twice (sessions window seen)
  where
    twice : (es : List SessionEntry) → filter (stays_open window.gap after) es ≡ filter (stays_open window.gap after) (filter (stays_open window.gap before) es)
    twice [] = refl
    twice (e ∷ es) = by_test (stays_open window.gap before e) refl (twice es)
      where
        by_test : (b : Bool) → stays_open window.gap before e ≡ b → filter (stays_open window.gap after) es ≡ filter (stays_open window.gap after) (filter (stays_open window.gap before) es)
            → filter (stays_open window.gap after) (e ∷ es) ≡ filter (stays_open window.gap after) (cond b (e ∷ filter (stays_open window.gap before) es) (filter (stays_open window.gap before) es))
        by_test true t rest = ap (λ (l : List SessionEntry). cond (stays_open window.gap after e) (e ∷ l) l) rest
        by_test false t rest =
            let most = ltb-false before (closing window.gap e) t in
            cond-false (stays_open window.gap after e) (e ∷ filter (stays_open window.gap after) es) (filter (stays_open window.gap after) es) (le-ltb after (closing window.gap e) (omega (arith, most, h))) ∙ rest

-- the numbers in rising order are those that there are

pub each-rising : (P : ℕ → Type 0) (ns : List ℕ) → AllByRecursion P ns → AllByRecursion P (rising ns)
each-rising P [] h = tt
each-rising P (n ∷ ns) h = each-put_once P n (rising ns) h.0 (each-rising P ns h.1)

abbrev between : ℕ → ℕ → ℕ → Bool
between before after time = nat_lt before time && nat_le time after

each_closing : (gap : ℕ) (es : List SessionEntry) (before after : ℕ) → AllByRecursion (λ t. between before after t ≡ true) (closings gap es before after)
each_closing gap es before after =
    each-rising (λ t. between before after t ≡ true) (filter (between before after) (map (closing gap) es))
    (each_weaker (λ (t : ℕ). Unit {0} × (between before after t ≡ true)) (λ t. between before after t ≡ true) (λ t h. h.1) (filter (between before after) (map (closing gap) es))
    (each_passes (λ (t : ℕ). Unit {0}) (between before after) (map (closing gap) es) (each_given (λ (t : ℕ). Unit {0}) (λ t. tt) (map (closing gap) es))))

-- those that close above a bound are among those that are open at it

same_closings : (gap : ℕ) (es : List SessionEntry) (before after : ℕ)
    → filter (between before after) (map (closing gap) es) ≡ filter (between 0 after) (map (closing gap) (filter (stays_open gap before) es))
same_closings gap [] before after = refl
same_closings gap (e ∷ es) before after = by_test (stays_open gap before e) refl (same_closings gap es before after)
  where
    by_test : (b : Bool) → stays_open gap before e ≡ b
        → filter (between before after) (map (closing gap) es) ≡ filter (between 0 after) (map (closing gap) (filter (stays_open gap before) es))
        → cond (nat_lt before (closing gap e) && nat_le (closing gap e) after) (closing gap e ∷ filter (between before after) (map (closing gap) es)) (filter (between before after) (map (closing gap) es))
        ≡ filter (between 0 after) (map (closing gap) (cond b (e ∷ filter (stays_open gap before) es) (filter (stays_open gap before) es)))
    by_test true t rest =
        let less = ltb-true before (closing gap e) t in
        ap (λ b. cond (b && nat_le (closing gap e) after) (closing gap e ∷ filter (between before after) (map (closing gap) es)) (filter (between before after) (map (closing gap) es)))
        (t ∙ sym (lt-ltb 0 (closing gap e) (omega (arith, less))))
        ∙ ap (λ (l : List ℕ). cond (between 0 after (closing gap e)) (closing gap e ∷ l) l) rest
    by_test false t rest =
        ap (λ b. cond (b && nat_le (closing gap e) after) (closing gap e ∷ filter (between before after) (map (closing gap) es)) (filter (between before after) (map (closing gap) es))) t ∙ rest

same_at : (gap : ℕ) (es : List SessionEntry) (before time : ℕ) → before < time
    → filter (λ (s : SessionEntry). closing gap s == time) es ≡ filter (λ (s : SessionEntry). closing gap s == time) (filter (stays_open gap before) es)
same_at gap [] before time h = refl
same_at gap (e ∷ es) before time h = by_tests (stays_open gap before e) (closing gap e == time) refl refl (same_at gap es before time h)
  where
    by_tests : (b c : Bool) → stays_open gap before e ≡ b → (closing gap e == time) ≡ c
        → filter (λ (s : SessionEntry). closing gap s == time) es ≡ filter (λ (s : SessionEntry). closing gap s == time) (filter (stays_open gap before) es)
        → cond c (e ∷ filter (λ (s : SessionEntry). closing gap s == time) es) (filter (λ (s : SessionEntry). closing gap s == time) es)
        ≡ filter (λ (s : SessionEntry). closing gap s == time) (cond b (e ∷ filter (stays_open gap before) es) (filter (stays_open gap before) es))
    by_tests true c t u rest =
        ap (λ (l : List SessionEntry). cond c (e ∷ l) l) rest
        ∙ sym (ap (λ b. cond b (e ∷ filter (λ (s : SessionEntry). closing gap s == time) (filter (stays_open gap before) es)) (filter (λ (s : SessionEntry). closing gap s == time) (filter (stays_open gap before) es))) u)
    by_tests false false t u rest = rest
    by_tests false true t u rest =
        absurd (let most = ltb-false before (closing gap e) t in let same = eqb-true (closing gap e) time u in omega (arith, most, same, h))

pub rows_are_of_sessions : RowsAreOfSessions
rows_are_of_sessions window seen before after =
    let gap = window.gap in
    let all = sessions window seen in
    let opened = filter (stays_open gap before) all in
    ap (map (session_row gap))
    (flat_map_alike (λ time. filter (λ (s : SessionEntry). closing gap s == time) all) (λ time. filter (λ (s : SessionEntry). closing gap s == time) opened) (closings gap all before after)
    (each_weaker (λ t. between before after t ≡ true) (λ time. filter (λ (s : SessionEntry). closing gap s == time) all ≡ filter (λ (s : SessionEntry). closing gap s == time) opened)
    (λ time h. same_at gap all before time (ltb-true before time (and_parts (nat_lt before time) (nat_le time after) h).0))
    (closings gap all before after) (each_closing gap all before after))
    ∙ ap (λ ns. flat_map (λ time. filter (λ (s : SessionEntry). closing gap s == time) opened) (rising ns)) (same_closings gap all before after))

-- what holds of the open ones

apart-filter : (gap : ℕ) (test : SessionEntry → Bool) (es : List SessionEntry) → AreApart gap es → AreApart gap (filter test es)
apart-filter gap test [] h = tt
apart-filter gap test (e ∷ es) h = by_test (test e) (apart-filter gap test es h.1)
  where
    by_test : (b : Bool) → AreApart gap (filter test es) → AreApart gap (cond b (e ∷ filter test es) (filter test es))
    by_test true rest = (each-filter (IsApart gap e) test es h.0, rest)
    by_test false rest = rest

-- how many rows sessions count together
abbrev counted : List SessionEntry → ℕ
counted [] = 0
counted (e ∷ es) = e.rows + counted es

counted-put : (gap : ℕ) (join : ℤ → ℤ → ℤ) (s : SessionEntry) (es : List SessionEntry) → 1 ≤ gap → IsForward s → AllByRecursion IsForward es
    → counted (put_session gap join s es) ≡ s.rows + counted es
counted-put gap join s [] some a f = refl
counted-put gap join s (e ∷ es) some a f =
    by_stand (stand gap e s) (counted-put gap join s es some a f.1) (counted-put gap join (joined_sessions join e s) es some (record { times = omega (arith, a.times, f.0.times) }) f.1)
  where
    by_stand : Stand gap e s → counted (put_session gap join s es) ≡ s.rows + counted es → counted (put_session gap join (joined_sessions join e s) es) ≡ (e.rows + s.rows) + counted es
        → counted (put_session gap join s (e ∷ es)) ≡ s.rows + (e.rows + counted es)
    by_stand (inl p) x y = ap counted (put_behind gap join s e es p) ∙ omega (arith, x)
    by_stand (inr (inl p)) x y = ap counted (put_before gap join s e es some a f.0 p)
    by_stand (inr (inr p)) x y = ap counted (put_touching gap join s e es p) ∙ omega (arith, y)

counted-puts : (window : SessionWindow) (join : ℤ → ℤ → ℤ) (rows : List Event) → 1 ≤ window.gap → counted (puts window.gap join (singles window rows)) ≡ length rows
counted-puts window join [] some = refl
counted-puts window join (r ∷ rs) some =
    counted-put window.gap join (single_session window r) (puts window.gap join (singles window rs)) some (record { times = omega arith })
    (forward-puts window.gap join (singles window rs) (singles_forward window rs))
    ∙ (let rest = counted-puts window join rs some in omega (arith, rest))

each_few : (n : ℕ) (es : List SessionEntry) → counted es ≤ n → AllByRecursion (λ (e : SessionEntry). e.rows ≤ n) es
each_few n [] h = tt
each_few n (e ∷ es) h = (omega (arith, h), each_few n es (omega (arith, h)))

all_sessions : (seen : List Event) (es : List SessionEntry) → AllByRecursion IsForward es → AllByRecursion (λ (e : SessionEntry). 0 < e.rows) es
    → AllByRecursion (λ (e : SessionEntry). e.rows ≤ length seen) es → AllByRecursion (IsSession seen) es
all_sessions seen [] f g h = tt
all_sessions seen (e ∷ es) f g h = (record { times = f.0.times; counts = g.0; few = h.0 }, all_sessions seen es f.1 g.1 h.1)

pub sessions_are_apart : SessionsAreApart
sessions_are_apart window join j some seen bound =
    let gap = window.gap in
    let made = puts gap join (singles window seen) in
    let forward = forward-puts gap join (singles window seen) (singles_forward window seen) in
    let counts : AllByRecursion (λ (e : SessionEntry). 0 < e.rows) (puts gap join (singles window seen)) =
    each-puts (λ (e : SessionEntry). 0 < e.rows) gap join (singles window seen) (λ a b k m n. omega (arith, m))
    (each-map (λ (e : SessionEntry). 0 < e.rows) (single_session window) seen (each_given (λ (r : Event). 0 < (single_session window r).rows) (λ r. omega arith) seen)) in
    let few : AllByRecursion (λ (e : SessionEntry). e.rows ≤ length seen) (puts gap join (singles window seen)) =
    each_few (length seen) (puts gap join (singles window seen)) (let n = counted-puts window join seen some in omega (arith, n)) in
    let same = sessions_are_puts window join seen j some in
    subst (λ (es : List SessionEntry). AreApart window.gap (filter (stays_open window.gap bound) es)
    × All (IsSession seen) (filter (stays_open window.gap bound) es) × All (λ (s : SessionEntry). bound < closing window.gap s) (filter (stays_open window.gap bound) es)) (sym same) (
      apart-filter gap (stays_open gap bound) (puts gap join (singles window seen)) (apart-puts gap join (singles window seen) some (singles_forward window seen)),
      All-from_recursion (IsSession seen) (filter (stays_open window.gap bound) (puts gap join (singles window seen))) (each-filter (IsSession seen) (stays_open gap bound) (puts gap join (singles window seen)) (all_sessions seen (puts gap join (singles window seen)) forward counts few)),
      All-from_recursion (λ (s : SessionEntry). bound < closing window.gap s) (filter (stays_open window.gap bound) (puts gap join (singles window seen)))
          (each_weaker (λ (s : SessionEntry). Unit {0} × (stays_open window.gap bound s ≡ true)) (λ (s : SessionEntry). bound < closing window.gap s) (λ s h. ltb-true bound (closing window.gap s) h.1)
          (filter (stays_open window.gap bound) (puts gap join (singles window seen)))
          (each_passes (λ (s : SessionEntry). Unit {0}) (stays_open gap bound) (puts gap join (singles window seen)) (each_given (λ (s : SessionEntry). Unit {0}) (λ s. tt) (puts gap join (singles window seen))))),
    )

pub put_keeps_apart : PutKeepsApart
put_keeps_apart gap join s es some a f h =
    let times : AllByRecursion (λ (e : SessionEntry). e.first ≤ e.last) es = recursion_from_All (λ (e : SessionEntry). e.first ≤ e.last) es f in (
      apart-put gap join s es some (record { times = a })
          (each_weaker (λ (e : SessionEntry). e.first ≤ e.last) IsForward (λ e k. record { times = k }) es times) h,
      All-from_recursion (λ (e : SessionEntry). e.first ≤ e.last) (put_session gap join s es)
          (each-put (λ (e : SessionEntry). e.first ≤ e.last) gap join s es (λ x y k m n. omega (arith, m, n)) a times),
    )

-- the aggregates

fold-first : (f : ℤ → ℤ → ℤ) → ((v w : ℤ) → f v w ≡ f w v) → ((v w x : ℤ) → f (f v w) x ≡ f v (f w x)) → (v w : ℤ) (vs : List ℤ) → fold f (f v w) vs ≡ f (fold f w vs) v
fold-first f c a v w [] = c v w
fold-first f c a v w (x ∷ xs) = ap (λ y. fold f y xs) (a v w x) ∙ fold-first f c a v (f w x) xs

min_swapped : (v w : ℤ) → int_min v w ≡ int_min w v
min_swapped v w = grind (arith, ints)

min_regrouped : (v w x : ℤ) → int_min (int_min v w) x ≡ int_min v (int_min w x)
min_regrouped v w x = grind (arith, ints)

max_swapped : (v w : ℤ) → int_max v w ≡ int_max w v
max_swapped v w = grind (arith, ints)

max_regrouped : (v w x : ℤ) → int_max (int_max v w) x ≡ int_max v (int_max w x)
max_regrouped v w x = grind (arith, ints)

pub aggregates_join : AggregatesJoin
aggregates_join = (
  record {
    one = λ v. omega (arith, ints);
    more = λ v w vs. omega (arith, ints);
    swapped = λ v w. omega (arith, ints);
    regrouped = λ v w x. omega (arith, ints);
  },
  record { one = λ v. refl; more = λ v w vs. fold-first int_min min_swapped min_regrouped v w vs; swapped = min_swapped; regrouped = min_regrouped },
  record { one = λ v. refl; more = λ v w vs. fold-first int_max max_swapped max_regrouped v w vs; swapped = max_swapped; regrouped = max_regrouped },
)
