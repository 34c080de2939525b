-- From which snapshot a vertex is recovered.
use Rattle.std.specs.Prelude.{ℕ, ◌<◌, ◌≤◌, List, length, slice_get}
use Rattle.std.specs.Option.{option_map_or}
use Rattle.ss_water.specs.declared.snap_row.SnapRow.{SnapRow}

-- how many elements the snapshot at this place has given, 0 where there is none
abbrev pub out_at : List SnapRow → ℕ → ℕ
out_at rows k = option_map_or (λ row. row.out) (slice_get rows k) 0

-- how many elements had been accepted by the snapshot at this place, 0 where there is none
abbrev pub n_at : List SnapRow → ℕ → ℕ
n_at rows k = option_map_or (λ row. row.n) (slice_get rows k) 0

-- each snapshot had accepted more elements than those before it
abbrev pub RisesInN : List SnapRow → Type 0
RisesInN rows = (j k : ℕ) → j < k → k < length rows → n_at rows j < n_at rows k

-- some snapshot has given at most so many elements
abbrev pub HasStart : List SnapRow → ℕ → Type 0
HasStart rows dur = (k : ℕ) × (k < length rows) × (out_at rows k ≤ dur)

-- no snapshot that has given at most so many elements had accepted more than the one at this place
abbrev pub IsGreatestStart : List SnapRow → ℕ → ℕ → Type 0
IsGreatestStart rows dur place = (k : ℕ) → k < length rows → out_at rows k ≤ dur → n_at rows k ≤ n_at rows place
