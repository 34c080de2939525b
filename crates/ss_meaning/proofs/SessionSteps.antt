-- The sessions of rows are those of the rows alone, put in their places.
use Rattle.std.proofs.Common.{◌≡◌, ℕ, ◌+◌, ◌<◌, ◌≤◌, ◌==◌, Bool, true, false, cond, nat_lt, nat_le, ℤ, List, [], ◌∷◌, ◌++◌, length, map, filter, refl, sym, ap, subst, ◌∙◌, arith, ltb-true, ltb-false, leb-true, leb-false, eqb-true}
use Rattle.std.specs.List.{AllByRecursion}
use Rattle.ss_elem.specs.declared.element.Event.{Event}
use Rattle.ss_meaning.specs.Session.{SessionWindow, SessionEntry, put_by_start, by_start, first_start, last_start, before_runs, cut, runs_of, session_entry}
use Rattle.ss_meaning.specs.SessionLists.{IsApart, AreApart, single_session, joined_sessions, put_session}
use Rattle.ss_meaning.specs.SessionLaws.{JoinsBy}
use Rattle.ss_meaning.proofs.Each.{each-map, each_weaker, each_given, each_passes}
use Rattle.ss_meaning.proofs.SessionRows.{each-put_by_start}
use Rattle.ss_meaning.proofs.SessionPuts.{JoinsFreely, Touches, IsForward, put_before, put_touching, put_first, put_swapped, apart-put, each-put, same_session, joined_forward}

pub free : (join : ℤ → ℤ → ℤ) (aggregate : List ℤ → ℤ) → JoinsBy join aggregate → JoinsFreely join
free join aggregate j = record { swapped = j.swapped; regrouped = j.regrouped }

-- all of these, the first put last
abbrev pub puts : ℕ → (ℤ → ℤ → ℤ) → List SessionEntry → List SessionEntry
puts gap join [] = []
puts gap join (s ∷ ss) = put_session gap join s (puts gap join ss)

pub each-puts : (P : SessionEntry → Type 0) (gap : ℕ) (join : ℤ → ℤ → ℤ) (ss : List SessionEntry)
    → ((a b : SessionEntry) → a.key ≡ b.key → P a → P b → P (joined_sessions join a b)) → AllByRecursion P ss → AllByRecursion P (puts gap join ss)
each-puts P gap join [] f h = tt
each-puts P gap join (s ∷ ss) f h = each-put P gap join s (puts gap join ss) f h.0 (each-puts P gap join ss f h.1)

pub forward-puts : (gap : ℕ) (join : ℤ → ℤ → ℤ) (ss : List SessionEntry) → AllByRecursion IsForward ss → AllByRecursion IsForward (puts gap join ss)
forward-puts gap join ss h = each-puts IsForward gap join ss (λ x y k m n. joined_forward join x y m n) h

pub apart-puts : (gap : ℕ) (join : ℤ → ℤ → ℤ) (ss : List SessionEntry) → 1 ≤ gap → AllByRecursion IsForward ss → AreApart gap (puts gap join ss)
apart-puts gap join [] some h = tt
apart-puts gap join (s ∷ ss) some h = apart-put gap join s (puts gap join ss) some h.0 (forward-puts gap join ss h.1) (apart-puts gap join ss some h.1)

abbrev pub singles : SessionWindow → List Event → List SessionEntry
singles window rows = map (single_session window) rows

pub singles_forward : (window : SessionWindow) (rows : List Event) → AllByRecursion IsForward (singles window rows)
singles_forward window rows =
    each-map IsForward (single_session window) rows (each_given (λ (row : Event). IsForward (single_session window row)) (λ row. record { times = omega arith }) rows)

-- the last may be put last
pub puts_push : (gap : ℕ) (join : ℤ → ℤ → ℤ) (ss : List SessionEntry) (s : SessionEntry) → 1 ≤ gap → JoinsFreely join → AllByRecursion IsForward ss → IsForward s
    → puts gap join (ss ++ s ∷ []) ≡ put_session gap join s (puts gap join ss)
puts_push gap join [] s some j f a = refl
puts_push gap join (t ∷ ts) s some j f a =
    ap (put_session gap join t) (puts_push gap join ts s some j f.1 a)
    ∙ put_swapped gap join t s (puts gap join ts) some j f.0 a (forward-puts gap join ts f.1) (apart-puts gap join ts some f.1)

-- rows in the order of their starts

abbrev pub IsByStart : List Event → Type 0
IsByStart [] = Unit {0}
IsByStart (row ∷ rows) = AllByRecursion (λ (r : Event). row.start ≤ r.start) rows × IsByStart rows

sorted-put_by_start : (row : Event) (rs : List Event) → IsByStart rs → IsByStart (put_by_start row rs)
sorted-put_by_start row [] h = (tt, tt)
sorted-put_by_start row (r ∷ rs) h = by_test (nat_le row.start r.start) refl (sorted-put_by_start row rs h.1)
  where
    by_test : (b : Bool) → nat_le row.start r.start ≡ b → IsByStart (put_by_start row rs) → IsByStart (cond b (row ∷ r ∷ rs) (r ∷ put_by_start row rs))
    by_test true e rest =
        let le = leb-true row.start r.start e in
        ((le, each_weaker (λ (x : Event). r.start ≤ x.start) (λ (x : Event). row.start ≤ x.start) (λ x k. omega (arith, k, le)) rs h.0), h)
    by_test false e rest =
        let less = leb-false row.start r.start e in
        (each-put_by_start (λ (x : Event). r.start ≤ x.start) row rs (omega (arith, less)) h.0, rest)

pub sorted-by_start : (rs : List Event) → IsByStart (by_start rs)
sorted-by_start [] = tt
sorted-by_start (r ∷ rs) = sorted-put_by_start r (by_start rs) (sorted-by_start rs)

puts-put_by_start : (window : SessionWindow) (join : ℤ → ℤ → ℤ) (row : Event) (rs : List Event) → 1 ≤ window.gap → JoinsFreely join
    → puts window.gap join (singles window (put_by_start row rs)) ≡ put_session window.gap join (single_session window row) (puts window.gap join (singles window rs))
puts-put_by_start window join row [] some j = refl
puts-put_by_start window join row (r ∷ rs) some j = by_test (nat_le row.start r.start) (puts-put_by_start window join row rs some j)
  where
    by_test : (b : Bool) → puts window.gap join (singles window (put_by_start row rs)) ≡ put_session window.gap join (single_session window row) (puts window.gap join (singles window rs))
        → puts window.gap join (singles window (cond b (row ∷ r ∷ rs) (r ∷ put_by_start row rs)))
        ≡ put_session window.gap join (single_session window row) (put_session window.gap join (single_session window r) (puts window.gap join (singles window rs)))
    by_test true rest = refl
    by_test false rest =
        ap (put_session window.gap join (single_session window r)) rest
        ∙ put_swapped window.gap join (single_session window r) (single_session window row) (puts window.gap join (singles window rs)) some j
        (record { times = omega arith }) (record { times = omega arith }) (forward-puts window.gap join (singles window rs) (singles_forward window rs))
        (apart-puts window.gap join (singles window rs) some (singles_forward window rs))

puts-by_start : (window : SessionWindow) (join : ℤ → ℤ → ℤ) (rs : List Event) → 1 ≤ window.gap → JoinsFreely join
    → puts window.gap join (singles window (by_start rs)) ≡ puts window.gap join (singles window rs)
puts-by_start window join [] some j = refl
puts-by_start window join (r ∷ rs) some j =
    puts-put_by_start window join r (by_start rs) some j ∙ ap (put_session window.gap join (single_session window r)) (puts-by_start window join rs some j)

-- runs

runs_full : (gap : ℕ) (row : Event) (runs : List (List Event)) → AllByRecursion (λ run. 0 < length run) runs → AllByRecursion (λ run. 0 < length run) (before_runs gap row runs)
runs_full gap row [] h = (omega arith, tt)
runs_full gap row (run ∷ runs) h = by_test (nat_lt (first_start run) (row.start + gap))
  where
    by_test : (b : Bool) → AllByRecursion (λ r. 0 < length r) (cond b ((row ∷ run) ∷ runs) ((row ∷ []) ∷ run ∷ runs))
    by_test true = (omega arith, h.1)
    by_test false = (omega arith, h)

cut_full : (gap : ℕ) (rs : List Event) → AllByRecursion (λ run. 0 < length run) (cut gap rs)
cut_full gap [] = tt
cut_full gap (r ∷ rs) = runs_full gap r (cut gap rs) (cut_full gap rs)

-- a session with a row in front
with_row : (window : SessionWindow) (join : ℤ → ℤ → ℤ) (key : ℕ) (row : Event) (run : List Event) → JoinsBy join window.aggregate → row.key ≡ key → 0 < length run
    → row.start ≤ first_start run → first_start run ≤ last_start run
    → session_entry window key (row ∷ run) ≡ joined_sessions join (session_entry window key run) (single_session window row)
with_row window join key row [] j k h m n = absurd (omega arith)
with_row window join key row (x ∷ xs) j k h m n =
    same_session (session_entry window key (row ∷ x ∷ xs)) (joined_sessions join (session_entry window key (x ∷ xs)) (single_session window row)) refl
    (omega (arith, m)) (omega (arith, m, n)) (j.more (window.field row) (window.field x) (map window.field xs)) (omega arith)

alone : (window : SessionWindow) (join : ℤ → ℤ → ℤ) (key : ℕ) (row : Event) → JoinsBy join window.aggregate → row.key ≡ key
    → session_entry window key (row ∷ []) ≡ single_session window row
alone window join key row j k = same_session (session_entry window key (row ∷ [])) (single_session window row) (sym k) refl refl (j.one (window.field row)) refl

before_is_put : (window : SessionWindow) (join : ℤ → ℤ → ℤ) (key : ℕ) (row : Event) (runs : List (List Event)) → JoinsBy join window.aggregate → 1 ≤ window.gap → row.key ≡ key
    → AllByRecursion (λ run. 0 < length run) runs → AllByRecursion IsForward (map (session_entry window key) runs) → AreApart window.gap (map (session_entry window key) runs)
    → AllByRecursion (λ (e : SessionEntry). row.start ≤ e.first) (map (session_entry window key) runs)
    → map (session_entry window key) (before_runs window.gap row runs) ≡ put_session window.gap join (single_session window row) (map (session_entry window key) runs)
before_is_put window join key row [] j some k full f h later = ap (λ (s : SessionEntry). s ∷ []) (alone window join key row j k)
before_is_put window join key row (run ∷ runs) j some k full f h later =
    by_test (nat_lt (first_start run) (row.start + window.gap)) refl
  where
    s : SessionEntry
    s = single_session window row

    e : SessionEntry
    e = session_entry window key run

    es : List SessionEntry
    es = map (session_entry window key) runs

    by_test : (b : Bool) → nat_lt (first_start run) (row.start + window.gap) ≡ b
        → map (session_entry window key) (cond b ((row ∷ run) ∷ runs) ((row ∷ []) ∷ run ∷ runs))
        ≡ put_session window.gap join (single_session window row) (session_entry window key run ∷ map (session_entry window key) runs)
    by_test true t =
        let near = ltb-true (first_start run) (row.start + window.gap) t in
        let forward = f.0.times in
        let first = later.0 in
        let touches : Touches window.gap (session_entry window key run) (single_session window row) = record { keys = sym k; right = omega (arith, forward, first, some); left = near } in
        let behind : AllByRecursion (IsApart window.gap (joined_sessions join (session_entry window key run) (single_session window row))) (map (session_entry window key) runs) =
        each_weaker (IsApart window.gap (session_entry window key run)) (IsApart window.gap (joined_sessions join (session_entry window key run) (single_session window row)))
        (λ x a. record { keys = a.keys; times = λ m. let n = a.times m in omega (arith, n, forward, first) }) (map (session_entry window key) runs) h.0 in
        ap (λ (x : SessionEntry). x ∷ map (session_entry window key) runs) (with_row window join key row run j k full.0 first forward)
        ∙ sym (put_touching window.gap join (single_session window row) (session_entry window key run) (map (session_entry window key) runs) touches
        ∙ put_first window.gap join (joined_sessions join (session_entry window key run) (single_session window row)) (map (session_entry window key) runs) some
        (joined_forward join (session_entry window key run) (single_session window row) f.0 (record { times = omega arith })) f.1 behind)
    by_test false t =
        let far = ltb-false (first_start run) (row.start + window.gap) t in
        ap (λ (x : SessionEntry). x ∷ session_entry window key run ∷ map (session_entry window key) runs) (alone window join key row j k)
        ∙ sym (put_before window.gap join (single_session window row) (session_entry window key run) (map (session_entry window key) runs) some (record { times = omega arith }) f.0
        (record { keys = omega (arith, k); times = λ m. far }))

cut_is_puts : (window : SessionWindow) (join : ℤ → ℤ → ℤ) (key : ℕ) (rs : List Event) → JoinsBy join window.aggregate → 1 ≤ window.gap
    → AllByRecursion (λ (r : Event). r.key ≡ key) rs → IsByStart rs
    → map (session_entry window key) (cut window.gap rs) ≡ puts window.gap join (singles window rs)
cut_is_puts window join key [] j some k h = refl
cut_is_puts window join key (r ∷ rs) j some k h =
    let rest = cut_is_puts window join key rs j some k.1 h.1 in
    let old : List SessionEntry = puts window.gap join (singles window rs) in
    let forward = forward-puts window.gap join (singles window rs) (singles_forward window rs) in
    let later : AllByRecursion (λ (e : SessionEntry). r.start ≤ e.first) (puts window.gap join (singles window rs)) =
    each-puts (λ (e : SessionEntry). r.start ≤ e.first) window.gap join (singles window rs) (λ a b m x y. omega (arith, x, y))
    (each-map (λ (e : SessionEntry). r.start ≤ e.first) (single_session window) rs h.0) in
    before_is_put window join key r (cut window.gap rs) j some k.0 (cut_full window.gap rs) (subst (AllByRecursion IsForward) (sym rest) forward)
    (subst (AreApart window.gap) (sym rest) (apart-puts window.gap join (singles window rs) some (singles_forward window rs)))
    (subst (AllByRecursion (λ (e : SessionEntry). r.start ≤ e.first)) (sym rest) later)
    ∙ ap (put_session window.gap join (single_session window r)) rest

-- the sessions of a key

abbrev pub of_key : SessionWindow → (ℤ → ℤ → ℤ) → List Event → ℕ → List SessionEntry
of_key window join rows key = puts window.gap join (singles window (filter (λ (row : Event). row.key == key) rows))

pub each_of_key : (key : ℕ) (rows : List Event) → AllByRecursion (λ (r : Event). r.key ≡ key) (filter (λ (row : Event). row.key == key) rows)
each_of_key key rows =
    each_weaker (λ (r : Event). Unit {0} × ((r.key == key) ≡ true)) (λ (r : Event). r.key ≡ key) (λ r h. eqb-true r.key key h.1) (filter (λ (row : Event). row.key == key) rows)
    (each_passes (λ (r : Event). Unit {0}) (λ (row : Event). row.key == key) rows (each_given (λ (r : Event). Unit {0}) (λ r. tt) rows))

each-by_start : (P : Event → Type 0) (rs : List Event) → AllByRecursion P rs → AllByRecursion P (by_start rs)
each-by_start P [] h = tt
each-by_start P (r ∷ rs) h = each-put_by_start P r (by_start rs) h.0 (each-by_start P rs h.1)

pub runs_are_puts : (window : SessionWindow) (join : ℤ → ℤ → ℤ) (rows : List Event) (key : ℕ) → JoinsBy join window.aggregate → 1 ≤ window.gap
    → map (session_entry window key) (runs_of window.gap rows key) ≡ of_key window join rows key
runs_are_puts window join rows key j some =
    let mine = filter (λ (row : Event). row.key == key) rows in
    cut_is_puts window join key (by_start mine) j some (each-by_start (λ (r : Event). r.key ≡ key) mine (each_of_key key rows)) (sorted-by_start mine)
    ∙ puts-by_start window join mine some (free join window.aggregate j)
