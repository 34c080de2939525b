-- Where a merge stands.
use Rattle.std.specs.Prelude.{◌≡◌, ℕ, ◌+◌, ◌^◌, ◌<◌, ◌≤◌, List, ◌∷◌, [], ◌++◌, length, take, All}
use Rattle.std.specs.Prelude.{Option, option_map, slice_get, slice_index, slice_set, IsSome, IsSomeAnd}
use Rattle.ss_elem.specs.Validity.{top, next_bound, Whole}
use Rattle.ss_elem.specs.declared.element.Element.{Element}
use Rattle.ss_meaning.specs.Bound.{bound_after}
use Rattle.ss_meaning.specs.Inputs.{bounds, counts, next_input}
use Rattle.ss_meaning.specs.Low.{low}
use Rattle.ss_meaning.specs.Merge.{Arrival, merge}

-- the bound of each input, and how many elements of it were accepted
pub record MergerState : Type 0 where
  pub bounds : List ℕ
  pub positions : List ℕ

-- the state of so many inputs, whose bounds and positions are the first of these
abbrev pub first_inputs : ℕ → List ℕ → List ℕ → MergerState
first_inputs width bounds positions = record { bounds = take width bounds; positions = take width positions }

-- one bound and one position for each of 1 to 8 inputs, no bound above that of an end
pub record IsMergerState (state : MergerState) : Type 0 where
  pub some : 1 ≤ length state.bounds
  pub few : length state.bounds ≤ 8
  pub positions : length state.positions ≡ length state.bounds
  pub bounds : All (λ b. b ≤ top) state.bounds

-- where the merge of so many inputs stands after p
abbrev pub merger_after : ℕ → List Arrival → MergerState
merger_after width p = record { bounds = bounds width p; positions = counts width p }

-- the state is where the merge of its inputs stands after p
abbrev pub StandsAfter : MergerState → List Arrival → Type 0
StandsAfter state p = state ≡ merger_after (length state.bounds) p

-- x, as it arrives from this input
abbrev pub arriving : ℕ → Element → Arrival
arriving input x = record { input = input; element = x }

-- wherever in a merge of whole inputs this is where it stands, the input is that of the next element, and none where
-- there is no next
abbrev pub IsOfNext : MergerState → Option ℕ → Type 0
IsOfNext state input =
    (inputs : List (List Element)) (p rest : List Arrival) → All Whole inputs → length inputs ≡ length state.bounds
    → merge inputs ≡ p ++ rest → StandsAfter state p → input ≡ option_map (λ x. x.input) (slice_get rest 0)

-- the next element of the merge may be x: its input is not at its end, x may follow there, and a count more can be kept
abbrev pub MayBeNext : MergerState → Element → Type 0
MayBeNext state x =
    IsSomeAnd (next_input state.bounds) (λ input.
    IsSome (next_bound (slice_index state.bounds input) x) × (slice_index state.positions input < 2 ^ 63))

-- the state after x of this input
abbrev pub accepted : MergerState → ℕ → Element → MergerState
accepted state input x =
    record {
      bounds = slice_set state.bounds input (bound_after (slice_index state.bounds input) x);
      positions = slice_set state.positions input (slice_index state.positions input + 1);
    }

-- wherever the old state is where a merge stands, the new one is where it stands after x of this input
abbrev pub StandsAfterNext : MergerState → MergerState → ℕ → Element → Type 0
StandsAfterNext old new input x = (p : List Arrival) → StandsAfter old p → StandsAfter new (p ++ arriving input x ∷ [])

-- wherever the state is where a merge stands, this is Low there
abbrev pub IsLow : MergerState → ℕ → Type 0
IsLow state bound = (p : List Arrival) → StandsAfter state p → bound ≡ low (length state.bounds) p
