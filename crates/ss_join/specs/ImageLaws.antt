-- What holds of images.
use Rattle.std.specs.Prelude.{◌≡◌, ℕ, ◌+◌, ◌^◌, ◌<◌, true, List, ◌++◌, length, slice_index, All, Some, Ok}
use Rattle.std.specs.List.{list_all}
use Rattle.ss_elem.specs.Rows.{IsKeptRow, has_two_values}
use Rattle.ss_elem.specs.Validity.{next_bound}
use Rattle.ss_elem.specs.declared.element.Event.{Event}
use Rattle.ss_elem.specs.declared.element.Element.TheVariants.{Row}
use Rattle.ss_meaning.specs.Merge.{Arrival}
use Rattle.ss_meaning.specs.Emit.{Kind, Join}
use Rattle.ss_image.specs.declared.row_form.RowForm.TheVariants.{Narrow}
use Rattle.ss_image.specs.Images.{image_in, join_image}
use Rattle.ss_image.specs.Numbers.{AreBytes}
use Rattle.ss_join.specs.ImageTests.{is_open_span, image_read}
use Rattle.ss_join.specs.States.{Sides, StandsAs, AreBoundsAfter}

-- a row may stand in an image where the other input has this bound: it passes the tests of its span
pub record MayStand (bound : ℕ) (row : Event) : Type 0 where
  pub passes : is_open_span bound row.start row.end ≡ true
  pub is_kept : IsKeptRow row

-- rows that may stand in an image are read from their image
abbrev pub SidesAreReadAgain : Type 0
SidesAreReadAgain =
    (bounds : List ℕ) (sides : Sides) → length sides.left + length sides.right < 2 ^ 32
    → All (MayStand (slice_index bounds 1)) sides.left → All (MayStand (slice_index bounds 0)) sides.right
    → image_read bounds (join_image sides.left sides.right) ≡ Ok sides

-- the images of before there were four values are narrow, and are read as they were: as the rows that they said, with 0
-- for the values that there weren't
abbrev pub NarrowImagesAreRead : Type 0
NarrowImagesAreRead =
    (bounds : List ℕ) (sides : Sides) → length sides.left + length sides.right < 2 ^ 32
    → All (MayStand (slice_index bounds 1)) sides.left → All (MayStand (slice_index bounds 0)) sides.right
    → list_all has_two_values (sides.left ++ sides.right) ≡ true
    → image_read bounds (image_in Narrow sides.left sides.right) ≡ Ok sides

-- a row of the program's type that may follow in a stream somewhere
pub record IsTaken (row : Event) : Type 0 where
  pub follows : (bound : ℕ) × (next_bound bound (Row row) ≡ Some bound)
  pub is_kept : IsKeptRow row

-- what an operator of this kind remembers after any p is read from its image, where its rows may follow in streams
abbrev pub StatesAreReadAgainAs : Kind → Type 0
StatesAreReadAgainAs kind =
    (sides : Sides) (p : List Arrival) (bounds : List ℕ) → StandsAs kind sides p → AreBoundsAfter p bounds
    → All IsTaken sides.left → All IsTaken sides.right → length sides.left + length sides.right < 2 ^ 32
    → image_read bounds (join_image sides.left sides.right) ≡ Ok sides

-- so it is of a join
abbrev pub StatesAreReadAgain : Type 0
StatesAreReadAgain = StatesAreReadAgainAs Join

-- the times of a row are below 2^63
pub record HasEarlyTimes (row : Event) : Type 0 where
  pub start : row.start < 2 ^ 63
  pub end : row.end < 2 ^ 63

-- so are those of the left rows that an image says
abbrev pub ImagesHaveEarlyRows : Type 0
ImagesHaveEarlyRows =
    (bounds bytes : List ℕ) (sides : Sides) → image_read bounds bytes ≡ Ok sides → All HasEarlyTimes sides.left

-- bytes that say sides are their image, so no sides have two images
abbrev pub ImagesHaveOneSpelling : Type 0
ImagesHaveOneSpelling =
    (bounds bytes : List ℕ) (sides : Sides) → AreBytes bytes → image_read bounds bytes ≡ Ok sides
    → bytes ≡ join_image sides.left sides.right
