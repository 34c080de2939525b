-- What bytes say as the image of a join, and which tests they have to pass.
use Rattle.std.specs.Prelude.{ℕ, zero, suc, ◌+◌, ◌*◌, ◌==◌, nat_lt, Bool, true, not, ◌&&◌, ℤ, pos}
use Rattle.std.specs.Prelude.{if◌then◌else◌, List, [], ◌∷◌, length, slice_index, take, drop}
use Rattle.std.specs.Prelude.{Option, Some, None, Result, Ok, Err}
use Rattle.std.specs.Int.{w64, cast_signed}
use Rattle.std.specs.Option.{option_and_then, option_map_or}
use Rattle.ss_elem.specs.Validity.{top}
use Rattle.ss_elem.specs.declared.element.Event.{Event}
use Rattle.ss_image.specs.declared.row_form.RowForm.{RowForm}
use Rattle.ss_image.specs.declared.row_form.RowForm.TheVariants.{Narrow, Wide}
use Rattle.ss_image.specs.Images.{row_len}
use Rattle.ss_image.specs.Numbers.{number_at, key_in}
use Rattle.ss_join.specs.States.{Sides}

-- the value whose two's complement begins at a place
abbrev pub value_at : ℕ → List ℕ → ℤ
value_at place bytes = cast_signed w64 (number_at 8 place bytes)

-- the third or the fourth value that a row says at a place: 0 where its form has none
abbrev pub wide_value : RowForm → ℕ → List ℕ → ℤ
wide_value Narrow place bytes = pos 0
wide_value Wide place bytes = value_at place bytes

-- the row with this key that the first bytes say in a form
abbrev pub row_in : RowForm → ℕ → List ℕ → Event
row_in form key bytes = record {
  start = number_at 8 0 bytes;
  end = number_at 8 8 bytes;
  key = key;
  a = value_at 32 bytes;
  b = value_at 40 bytes;
  c = wide_value form 48 bytes;
  d = wide_value form 56 bytes;
}

-- a row with this span may be remembered where the other input has this bound
abbrev pub is_open_span : ℕ → ℕ → ℕ → Bool
is_open_span bound start end = nat_lt start end && nat_lt end top && nat_lt bound end

-- the row that the first bytes say in a form, where it passes each test
unfoldable pub row_read : RowForm → ℕ → List ℕ → Option Event
row_read form bound bytes =
    option_and_then
    (λ key. let row = row_in form key bytes in if is_open_span bound row.start row.end then Some row else None)
    (key_in (take 16 (drop 16 bytes)))

-- a row in front of the others, where they are read
abbrev pub with_first : Event → Result (List Event) ℕ → Result (List Event) ℕ
with_first row (Ok rows) = Ok (row ∷ rows)
with_first row (Err at) = Err at

-- so many rows in a form, of which the first begins these bytes and stands at that place, or the place of the first at
-- fault
unfoldable pub rows_read : RowForm → ℕ → ℕ → ℕ → List ℕ → Result (List Event) ℕ
rows_read form bound zero at bytes = Ok []
rows_read form bound (suc count) at bytes =
    option_map_or
    (λ row. with_first row (rows_read form bound count (at + row_len form) (drop (row_len form) bytes)))
    (row_read form bound bytes) (Err at)

-- both sides, or the place of the first fault of the left one, or else of the right one
abbrev pub both_sides : Result (List Event) ℕ → Result (List Event) ℕ → Result Sides ℕ
both_sides (Ok left) (Ok right) = Ok (record { left = left; right = right })
both_sides (Ok left) (Err at) = Err at
both_sides (Err at) right = Err at

-- how many left and right rows there are, as the bytes say in front
abbrev pub left_count : List ℕ → ℕ
left_count bytes = number_at 4 0 bytes

abbrev pub right_count : List ℕ → ℕ
right_count bytes = number_at 4 4 bytes

abbrev pub row_count : List ℕ → ℕ
row_count bytes = left_count bytes + right_count bytes

-- where the right rows begin, behind the counts and the left rows
abbrev pub right_place : RowForm → List ℕ → ℕ
right_place form bytes = 8 + row_len form * left_count bytes

-- there are as many bytes as the counts in front say
abbrev pub has_whole_rows : RowForm → List ℕ → Bool
has_whole_rows form bytes = length bytes == 8 + row_len form * row_count bytes

-- the third and the fourth value are 0 in each of so many rows of 64 bytes
unfoldable pub say_two_values : ℕ → List ℕ → Bool
say_two_values zero bytes = true
say_two_values (suc count) bytes =
    (number_at 8 48 bytes == 0 && number_at 8 56 bytes == 0) && say_two_values count (drop 64 bytes)

-- the form in which the rows stand, where the length fits one: no image is wide without need
abbrev pub form_in : List ℕ → Option RowForm
form_in bytes =
    if has_whole_rows Narrow bytes then Some Narrow
    else if has_whole_rows Wide bytes && not (say_two_values (row_count bytes) (drop 8 bytes)) then Some Wide
    else None

-- the sides that the bytes say in a form, or the place of the first row at fault
abbrev pub sides_read : List ℕ → List ℕ → RowForm → Result Sides ℕ
sides_read bounds bytes form =
    both_sides (rows_read form (slice_index bounds 1) (left_count bytes) 8 (drop 8 bytes))
    (rows_read form (slice_index bounds 0) (right_count bytes) (right_place form bytes)
    (drop (right_place form bytes) bytes))

-- the sides that the bytes say as an image where the inputs have these bounds, or the place of the first fault: the
-- length and the form are tested first
abbrev pub image_read : List ℕ → List ℕ → Result Sides ℕ
image_read bounds bytes = option_map_or (sides_read bounds bytes) (form_in bytes) (Err 0)
