-- Of which rows a session is.
use Rattle.std.proofs.Common.{◌≡◌, ℕ, suc, ◌+◌, ◌≤◌, ◌==◌, Bool, true, false, cond, nat_lt, nat_le, List, [], ◌∷◌, length, map, filter, refl, arith, eqb-true}
use Rattle.std.proofs.lemmas.List.Elements.{All-contains_itself, All-from_recursion, recursion_from_All}
use Rattle.std.specs.List.{AllByRecursion, Contains}
use Rattle.ss_elem.specs.declared.element.Event.{Event}
use Rattle.ss_meaning.specs.Window.{rising}
use Rattle.ss_meaning.specs.Session.{SessionWindow, put_by_start, by_start, first_start, last_start, before_runs, cut, runs_of, session_entry, sessions}
use Rattle.ss_meaning.specs.SessionRows.{IsOfRows, SessionsAreOfRows}
use Rattle.ss_meaning.proofs.Each.{each-map, each-flat_map, each_weaker, each_given, each_passes}
use Rattle.ss_meaning.proofs.SessionRows.{each-by_start}

-- a run of rows of which each has a property begins and ends with one of them
record IsRun (P : Event → Type 0) (run : List Event) : Type 0 where
  begins : (row : Event) × P row × (row.start ≡ first_start run)
  ends : (row : Event) × P row × (row.start ≡ last_start run)

longer_run : (P : Event → Type 0) (row : Event) (run : List Event) → P row → IsRun P run → IsRun P (row ∷ run)
longer_run P row [] h k = record { begins = (row, h, refl); ends = (row, h, refl) }
longer_run P row (next ∷ run) h k = record { begins = (row, h, refl); ends = k.ends }

more_runs : (P : Event → Type 0) (gap : ℕ) (row : Event) (runs : List (List Event)) → P row → AllByRecursion (IsRun P) runs → AllByRecursion (IsRun P) (before_runs gap row runs)
more_runs P gap row [] h k = (record { begins = (row, h, refl); ends = (row, h, refl) }, tt)
more_runs P gap row (run ∷ runs) h k = by_test (nat_lt (first_start run) (row.start + gap))
  where
    by_test : (b : Bool) → AllByRecursion (IsRun P) (cond b ((row ∷ run) ∷ runs) ((row ∷ []) ∷ run ∷ runs))
    by_test true = (longer_run P row run h k.0, k.1)
    by_test false = (record { begins = (row, h, refl); ends = (row, h, refl) }, k)

runs_are : (P : Event → Type 0) (gap : ℕ) (rows : List Event) → AllByRecursion P rows → AllByRecursion (IsRun P) (cut gap rows)
runs_are P gap [] h = tt
runs_are P gap (row ∷ rows) h = more_runs P gap row (cut gap rows) h.0 (runs_are P gap rows h.1)

-- and it is no longer than all rows

runs_longer : (gap most : ℕ) (row : Event) (runs : List (List Event)) → AllByRecursion (λ run. length run ≤ most) runs → AllByRecursion (λ run. length run ≤ suc most) (before_runs gap row runs)
runs_longer gap most row [] h = (omega arith, tt)
runs_longer gap most row (run ∷ runs) h = by_test (nat_lt (first_start run) (row.start + gap))
  where
    rest : AllByRecursion (λ r. length r ≤ suc most) runs
    rest = each_weaker (λ r. length r ≤ most) (λ r. length r ≤ suc most) (λ r short. omega arith) runs h.1

    by_test : (b : Bool) → AllByRecursion (λ r. length r ≤ suc most) (cond b ((row ∷ run) ∷ runs) ((row ∷ []) ∷ run ∷ runs))
    by_test true = (omega (arith, h.0), rest)
    by_test false = (omega arith, (omega (arith, h.0), rest))

runs_short : (gap : ℕ) (rows : List Event) → AllByRecursion (λ run. length run ≤ length rows) (cut gap rows)
runs_short gap [] = tt
runs_short gap (row ∷ rows) = runs_longer gap (length rows) row (cut gap rows) (runs_short gap rows)

length-put_by_start : (row : Event) (rows : List Event) → length (put_by_start row rows) ≡ suc (length rows)
length-put_by_start row [] = refl
length-put_by_start row (r ∷ rs) = by_test (nat_le row.start r.start) (length-put_by_start row rs)
  where
    by_test : (b : Bool) → length (put_by_start row rs) ≡ suc (length rs) → length (cond b (row ∷ r ∷ rs) (r ∷ put_by_start row rs)) ≡ suc (suc (length rs))
    by_test true rest = refl
    by_test false rest = omega (arith, rest)

length-by_start : (rows : List Event) → length (by_start rows) ≡ length rows
length-by_start [] = refl
length-by_start (row ∷ rows) = omega (arith, length-put_by_start row (by_start rows), length-by_start rows)

filter_short : (test : Event → Bool) (rows : List Event) → length (filter test rows) ≤ length rows
filter_short test [] = omega arith
filter_short test (row ∷ rows) = by_test (test row) (filter_short test rows)
  where
    by_test : (b : Bool) → length (filter test rows) ≤ length rows → length (cond b (row ∷ filter test rows) (filter test rows)) ≤ suc (length rows)
    by_test true rest = omega (arith, rest)
    by_test false rest = omega (arith, rest)

both : {A : Type 0} (P Q : A → Type 0) (xs : List A) → AllByRecursion P xs → AllByRecursion Q xs → AllByRecursion (λ x. P x × Q x) xs
both P Q [] h k = tt
both P Q (x ∷ xs) h k = ((h.0, k.0), both P Q xs h.1 k.1)

-- the sessions of a key

key_sessions : (window : SessionWindow) (rows : List Event) (key : ℕ) → AllByRecursion (IsOfRows rows) (map (session_entry window key) (runs_of window.gap rows key))
key_sessions window rows key =
    let of_key = λ (row : Event). row.key == key in
    let P : Event → Type 0 = λ row. Contains rows row × (of_key row ≡ true) in
    let members = filter of_key rows in
    let each : AllByRecursion P members = each_passes (Contains rows) of_key rows (recursion_from_All (Contains rows) rows (All-contains_itself rows)) in
    let runs = cut window.gap (by_start members) in
    each-map (IsOfRows rows) (session_entry window key) runs
    (each_weaker (λ run. IsRun P run × (length run ≤ length (by_start members))) (λ run. IsOfRows rows (session_entry window key run))
    (λ run is. record {
      begins = (is.0.begins.0, is.0.begins.1.0, eqb-true is.0.begins.0.key key is.0.begins.1.1, is.0.begins.2);
      ends = (is.0.ends.0, is.0.ends.1.0, is.0.ends.2);
      few = omega (arith, is.1, length-by_start members, filter_short of_key rows);
    })
    runs (both (IsRun P) (λ run. length run ≤ length (by_start members)) runs (runs_are P window.gap (by_start members) (each-by_start P members each)) (runs_short window.gap (by_start members))))

pub sessions_are_of_rows : SessionsAreOfRows
sessions_are_of_rows window rows =
    let keys = rising (map (λ (row : Event). row.key) rows) in
    All-from_recursion (IsOfRows rows) (sessions window rows)
    (each-flat_map (λ (key : ℕ). Unit {0}) (IsOfRows rows) (λ key. map (session_entry window key) (runs_of window.gap rows key))
    (λ key u. key_sessions window rows key) keys (each_given (λ (key : ℕ). Unit {0}) (λ key. tt) keys))
