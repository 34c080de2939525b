-- What holds of images.
use Rattle.std.specs.Prelude.{◌≡◌, ℕ, ◌+◌, ◌^◌, ◌<◌, ◌≤◌, true, List, length, All, Ok}
use Rattle.ss_elem.specs.Key.{IsKeyNumber}
use Rattle.ss_elem.specs.Rows.{IsKeptRow}
use Rattle.ss_elem.specs.declared.element.Event.{Event}
use Rattle.ss_expr.specs.Operators.{HasWholeHops}
use Rattle.ss_expr.specs.declared.stream_operator.Agg.{Agg}
use Rattle.ss_meaning.specs.Bound.{rows}
use Rattle.ss_meaning.specs.Entries.{WindowEntry}
use Rattle.ss_meaning.specs.EntryLists.{AreInOrder}
use Rattle.ss_meaning.specs.Low.{low}
use Rattle.ss_meaning.specs.Merge.{Arrival, from_input}
use Rattle.ss_image.specs.Images.{window_image}
use Rattle.ss_window.specs.ImageTests.{is_entry, image_read}
use Rattle.ss_window.specs.States.{State, StandsAfter}

-- an entry may stand in an image: it passes the tests of its own numbers, and its key is one
pub record MayStand (hop : ℕ) (agg : Agg) (low : ℕ) (e : WindowEntry) : Type 0 where
  pub passes : is_entry hop agg low e ≡ true
  pub is_key : IsKeyNumber e.key

-- entries that may stand in an image are read from their image
abbrev pub EntriesAreReadAgain : Type 0
EntriesAreReadAgain =
    (hop : ℕ) (agg : Agg) (low : ℕ) (es : List WindowEntry)
    → length es < 2 ^ 32 → AreInOrder es → All (MayStand hop agg low) es
    → image_read hop agg low (window_image es) ≡ Ok es

-- a row of the program's type whose windows all end below 2^63
pub record IsKept (size : ℕ) (row : Event) : Type 0 where
  pub ends : row.start + size < 2 ^ 63
  pub is_kept : IsKeptRow row

-- what a window remembers after any p whose windows end below 2^63 is read from its image
abbrev pub StatesAreReadAgain : Type 0
StatesAreReadAgain =
    (state : State) (p : List Arrival) → HasWholeHops state.settings.size state.settings.hop → StandsAfter state p
    → All (IsKept state.settings.size) (rows (from_input 0 p)) → length p ≤ 2 ^ 62 → length state.entries < 2 ^ 32
    → image_read state.settings.hop state.settings.agg (low 1 p) (window_image state.entries) ≡ Ok state.entries
