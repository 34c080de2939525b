-- Which records a depot holds, and the number of the next one.
use Rattle.std.proofs.Common.{◌≡◌, ℕ, zero, suc, ◌+◌, ◌-◌, ◌<◌, ◌≤◌, List, [], ◌∷◌, length, None, IsSome, sym, subst, arith}
use Rattle.std.specs.Prelude.{slice_get}
use Rattle.std.proofs.lemmas.Bool.{cond-false, le-ltb}
use Rattle.std.proofs.lemmas.List.{length-append, length-drop}
use Rattle.ss_outside.specs.Depot.{Contents, cut_to, next_number, record_at, with_record}

some_at : (xs : List (List ℕ)) (k : ℕ) → k < length xs → IsSome (slice_get xs k)
some_at [] k lt = absurd (omega (arith, lt))
some_at (x ∷ xs) zero lt = search
some_at (x ∷ xs) (suc k) lt = some_at xs k (omega (arith, lt))

pub is_held : (h : Contents) (v n : ℕ) → h.first v ≤ n → n < next_number h v → IsSome (record_at h v n)
is_held h v n le lt =
    subst IsSome
    (sym (cond-false _ None (slice_get (h.records v) (n - h.first v)) (le-ltb n (h.first v) le)))
    (some_at (h.records v) (n - h.first v) (omega (arith, le, lt)))

pub next-append : (h : Contents) (bytes : List ℕ) → next_number (with_record 0 bytes h) 0 ≡ next_number h 0 + 1
next-append h bytes = omega (arith, length-append (h.records 0) (bytes ∷ []))

pub next-cut : (h : Contents) (m : ℕ) → h.first 0 ≤ m → m ≤ next_number h 0 → next_number (cut_to 0 m h) 0 ≡ next_number h 0
next-cut h m le within = omega (arith, le, within, length-drop (m - h.first 0) (h.records 0))
