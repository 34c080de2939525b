-- What a depot in memory holds at first, and what its fetches and loads answer.
use Rattle.std.proofs.Common.{◌≡◌, ℕ, suc, zero, ◌-◌, ◌≤◌, ◌⊎◌, ◌≢◌, inl, inr, Bool, true, false, List, [], ◌∷◌, length, take, drop}
use Rattle.std.proofs.Common.{Option, Some, None, Result, Ok, Err, IfSome, IsSome, OnOk, OnErr, is_ok, ◌&&◌, refl, ap, sym, subst, ◌∙◌, arith, if◌then◌else◌}
use Rattle.std.proofs.Common.{replicate, slice_index, length-drop}
use Rattle.std.proofs.lemmas.List.{take-append-drop}
use Rattle.ss_outside.specs.Depot.{Contents, DepotTold, Gives, IsGivenFor, IsProperPrefix}
use Rattle.ss_outside.specs.Faults.{next_count}
use Rattle.ss_outside.specs.DepotCalls.{MakesCall, counted_if, damages_next, depot_failed, given_next}
use Rattle.ss_outside.specs.declared.depot.DepotFault.{DepotFault}
use Rattle.ss_outside.specs.declared.depot.DepotFault.TheVariants.{Failed, Memory}
use Rattle.ss_outside.specs.declared.depot_calls.DepotCall.{DepotCall}
use Rattle.ss_outside.specs.declared.depot_calls.DepotCalls.{DepotCalls}

-- each place of a list of zeros, and each past it
pub slice_index-zeros : (n v : ℕ) → slice_index (replicate n 0) v ≡ 0
slice_index-zeros zero v = refl
slice_index-zeros (suc n) zero = refl
slice_index-zeros (suc n) (suc v) = slice_index-zeros n v

-- ---- short answers

abbrev without_last : List ℕ → List ℕ
without_last held = take (length held - 1) held

abbrev last_of : List ℕ → List ℕ
last_of held = drop (length held - 1) held

last_is_there : (x : ℕ) (xs : List ℕ) → last_of (x ∷ xs) ≢ []
last_is_there x xs none =
    let empty : length (last_of (x ∷ xs)) ≡ 0 = ap (λ (l : List ℕ). length l) none in
    absurd (omega (arith, length-drop (length (x ∷ xs) - 1) (x ∷ xs)))

-- a list without its last element is a proper prefix of it, unless it is empty
pub without_last-shorter : (held : List ℕ) → (without_last held ≡ held) ⊎ IsProperPrefix (without_last held) held
without_last-shorter [] = inl refl
without_last-shorter (x ∷ xs) = inr (last_of (x ∷ xs), last_is_there x xs, take-append-drop (length (x ∷ xs) - 1) (x ∷ xs))

-- the bytes that are held, or short ones, are given for those that are held
given_for : (old new : DepotTold) (is_short : Bool) (held bytes given : List ℕ) → bytes ≡ held →
    given ≡ (if is_short then without_last bytes else bytes) → new.shorts ≡ counted_if is_short old.shorts →
    IsGivenFor old new held given
given_for old new false held bytes given same is shorts = inl (is ∙ same)
given_for old new true held bytes given same is shorts =
    let short : given ≡ without_last held = is ∙ ap without_last same in
    elim (without_last-shorter held) [
      | inl whole ↦ inl (short ∙ whole)
      | inr part ↦ inr (subst (λ x. IsProperPrefix x held) (sym short) part, omega arith)
    ]

abbrev pub told : Contents → DepotCalls → DepotTold
told contents calls = record { contents = contents; faults = calls.faults; shorts = calls.shorts }

-- a fetch or a load that finds the bytes that are held
pub gives_as_listed : (contents : Contents) (old new : DepotCalls) (which : DepotCall) (place : Option (List ℕ))
    (bytes before after : List ℕ) (result : Result (Unit {0}) DepotFault) →
    IsSome place → IfSome place (λ held. bytes ≡ held) →
    MakesCall old new which (depot_failed result) (is_ok result && damages_next old which) →
    old.faults ≤ new.faults → old.shorts ≤ new.shorts →
    OnOk result (after ≡ given_next old which bytes) → OnErr result (after ≡ before) →
    Gives (told contents old) (told contents new) place before after result
gives_as_listed contents old new which None bytes before after result there same calls faults shorts given kept = absurd (cc)
gives_as_listed contents old new which (Some held) bytes before after (Ok u) there same calls faults shorts given kept = (
  given_for (told contents old) (told contents new) (damages_next old which) held bytes after same given calls.shorts,
  record { contents = refl; faults = faults; shorts = shorts },
)
gives_as_listed contents old new which (Some held) bytes before after (Err Failed) there same calls faults shorts given kept =
    let rose : next_count old.faults ≤ new.faults = omega (arith, calls.faults) in
    (kept, (record { contents = refl; faults = faults; shorts = calls.shorts }, rose))
gives_as_listed contents old new which (Some held) bytes before after (Err Memory) there same calls faults shorts given kept =
    (kept, record { contents = refl; faults = faults; shorts = calls.shorts })
