-- What holds of images.
use Rattle.std.specs.Prelude.{◌≡◌, ◌+◌, ◌^◌, ◌<◌, ◌≤◌, length, All, Ok, List}
use Rattle.ss_elem.specs.Rows.{IsKeptRow}
use Rattle.ss_elem.specs.declared.element.Event.{Event}
use Rattle.ss_expr.specs.Operators.{HasGap}
use Rattle.ss_meaning.specs.Bound.{rows}
use Rattle.ss_meaning.specs.Low.{low}
use Rattle.ss_meaning.specs.Merge.{Arrival, from_input}
use Rattle.ss_image.specs.Images.{session_image}
use Rattle.ss_session.specs.ImageTests.{image_read}
use Rattle.ss_session.specs.States.{State, StandsAfter}

-- a row of the program's type that starts so early that its session may stand in an image
pub record IsKept (row : Event) : Type 0 where
  pub early : row.start < 2 ^ 62 + 2 ^ 60
  pub is_kept : IsKeptRow row

-- what a session window remembers after any p is read from its image, where the rows start so early
abbrev pub StatesAreReadAgain : Type 0
StatesAreReadAgain =
    (state : State) (p : List Arrival) → HasGap state.settings.gap → StandsAfter state p
    → All IsKept (rows (from_input 0 p)) → length p ≤ 2 ^ 62 → length state.entries < 2 ^ 32
    → image_read state.settings.gap state.settings.agg (low 1 p) (session_image state.entries) ≡ Ok state.entries
