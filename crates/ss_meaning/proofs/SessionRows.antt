-- The rows that a session window gives.
use Rattle.std.proofs.Common.{◌≡◌, ℕ, ◌+◌, ◌<◌, ◌≤◌, ◌==◌, Bool, true, false, cond, nat_lt, nat_le, List, [], ◌∷◌, map, filter, arith, eqb-true}
use Rattle.std.specs.List.{AllByRecursion}
use Rattle.ss_elem.specs.declared.element.Event.{Event}
use Rattle.ss_meaning.specs.Window.{rising}
use Rattle.ss_meaning.specs.Session.{SessionWindow, SessionEntry, put_by_start, by_start, first_start, last_start, before_runs, cut, runs_of, session_entry, sessions, closing, session_row, closings, closed, session_rows}
use Rattle.ss_meaning.proofs.Each.{each-map, each-filter, each-flat_map, each_weaker, each_given, each_passes}
use Rattle.ss_meaning.proofs.GivenRows.{IsGiven, rising_above}

pub each-put_by_start : (P : Event → Type 0) (row : Event) (rs : List Event) → P row → AllByRecursion P rs → AllByRecursion P (put_by_start row rs)
each-put_by_start P row [] h k = (h, tt)
each-put_by_start P row (r ∷ rs) h k = by_test (nat_le row.start r.start) (each-put_by_start P row rs h k.1)
  where
    by_test : (b : Bool) → AllByRecursion P (put_by_start row rs) → AllByRecursion P (cond b (row ∷ r ∷ rs) (r ∷ put_by_start row rs))
    by_test true rest = (h, k)
    by_test false rest = (k.0, rest)

pub each-by_start : (P : Event → Type 0) (rs : List Event) → AllByRecursion P rs → AllByRecursion P (by_start rs)
each-by_start P [] h = tt
each-by_start P (row ∷ rs) h = each-put_by_start P row (by_start rs) h.0 (each-by_start P rs h.1)

last-cons : (time : ℕ) (row : Event) (run : List Event) → row.start < time → last_start run < time → last_start (row ∷ run) < time
last-cons time row [] h k = h
last-cons time row (next ∷ run) h k = k

runs_early : (gap time : ℕ) (row : Event) (runs : List (List Event)) → row.start < time → AllByRecursion (λ run. last_start run < time) runs
    → AllByRecursion (λ run. last_start run < time) (before_runs gap row runs)
runs_early gap time row [] h k = (h, tt)
runs_early gap time row (run ∷ runs) h k = by_test (nat_lt (first_start run) (row.start + gap))
  where
    by_test : (b : Bool) → AllByRecursion (λ r. last_start r < time) (cond b ((row ∷ run) ∷ runs) ((row ∷ []) ∷ run ∷ runs))
    by_test true = (last-cons time row run h k.0, k.1)
    by_test false = (h, k)

cut_early : (gap time : ℕ) (rs : List Event) → AllByRecursion (λ (row : Event). row.start < time) rs → AllByRecursion (λ run. last_start run < time) (cut gap rs)
cut_early gap time [] h = tt
cut_early gap time (row ∷ rs) h = runs_early gap time row (cut gap rs) h.0 (cut_early gap time rs h.1)

-- no session goes on past the rows
pub sessions_early : (window : SessionWindow) (seen : List Event) (time : ℕ) → AllByRecursion (λ (row : Event). row.start < time) seen
    → AllByRecursion (λ (s : SessionEntry). s.last < time) (sessions window seen)
sessions_early window seen time early =
    let keys = rising (map (λ (row : Event). row.key) seen) in
    each-flat_map (λ (key : ℕ). Unit {0}) (λ (s : SessionEntry). s.last < time) (λ key. map (session_entry window key) (runs_of window.gap seen key))
    (λ key u. each-map (λ (s : SessionEntry). s.last < time) (session_entry window key) (runs_of window.gap seen key)
    (cut_early window.gap time (by_start (filter (λ (row : Event). row.key == key) seen))
    (each-by_start (λ (row : Event). row.start < time) (filter (λ (row : Event). row.key == key) seen) (each-filter (λ (row : Event). row.start < time) (λ (row : Event). row.key == key) seen early))))
    keys (each_given (λ (key : ℕ). Unit {0}) (λ key. tt) keys)

pub session_given : (window : SessionWindow) (seen : List Event) (q q' time limit : ℕ) → time + (window.gap + 1) ≤ limit
    → AllByRecursion (λ (row : Event). row.start < time) seen → AllByRecursion (IsGiven q limit) (session_rows window seen q q')
session_given window seen q q' time limit h early =
    let gap = window.gap in
    let all = sessions window seen in
    let P : SessionEntry → Type 0 = λ s. IsGiven q limit (session_row gap s) in
    each-map (IsGiven q limit) (session_row gap) (closed gap all q q')
    (each-flat_map (λ (at : ℕ). (q < at) × Unit {0}) P (λ at. filter (λ (s : SessionEntry). closing gap s == at) all)
    (λ at above. each_weaker (λ (s : SessionEntry). (s.last < time) × ((closing gap s == at) ≡ true)) P
    (λ s pair. let same : closing gap s ≡ at = eqb-true (closing gap s) at pair.1 in (omega (arith, above.0), omega arith, omega (arith, pair.0)))
    (filter (λ (s : SessionEntry). closing gap s == at) all)
    (each_passes (λ (s : SessionEntry). s.last < time) (λ (s : SessionEntry). closing gap s == at) all (sessions_early window seen time early)))
    (closings gap all q q') (rising_above q q' (map (closing gap) all) (λ n. Unit {0}) (each_given (λ (n : ℕ). Unit {0}) (λ n. tt) (map (closing gap) all))))
