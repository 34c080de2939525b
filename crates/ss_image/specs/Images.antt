-- The image of an operator: the bytes of what it remembers.
use Rattle.std.specs.Prelude.{ℕ, if◌then◌else◌, List, [], ◌++◌, length}
use Rattle.std.specs.Int.{w64, w128, cast_unsigned}
use Rattle.std.specs.List.{flat_map, list_all}
use Rattle.ss_elem.specs.Rows.{has_two_values}
use Rattle.ss_elem.specs.declared.element.Event.{Event}
use Rattle.ss_meaning.specs.Entries.{WindowEntry, Entries, NoEntries, WindowEntries, JoinRows, SessionEntries}
use Rattle.ss_meaning.specs.Session.{SessionEntry}
use Rattle.ss_image.specs.declared.row_form.RowForm.{RowForm}
use Rattle.ss_image.specs.declared.row_form.RowForm.TheVariants.{Narrow, Wide}
use Rattle.ss_image.specs.Numbers.{number_bytes, key_bytes}

-- an entry of a window in 48 bytes: its end, its key, its value as two's complement of 128 bits, and how many rows it
-- counts
unfoldable pub entry_bytes : WindowEntry → List ℕ
entry_bytes e =
    number_bytes 8 e.end ++ key_bytes e.key ++ number_bytes 16 (cast_unsigned w128 e.value) ++ number_bytes 8 e.rows

-- how many entries there are, and then each of them
unfoldable pub window_image : List WindowEntry → List ℕ
window_image entries = number_bytes 4 (length entries) ++ flat_map entry_bytes entries

-- a session in 56 bytes: its key, its least and its greatest start, its value as two's complement of 128 bits, and how
-- many rows it has
unfoldable pub session_bytes : SessionEntry → List ℕ
session_bytes s =
    key_bytes s.key ++ number_bytes 8 s.first ++ number_bytes 8 s.last
    ++ number_bytes 16 (cast_unsigned w128 s.value) ++ number_bytes 8 s.rows

-- how many sessions there are, and then each of them
unfoldable pub session_image : List SessionEntry → List ℕ
session_image entries = number_bytes 4 (length entries) ++ flat_map session_bytes entries

-- a row in 48 bytes: its start, its end, its key, and its first two values as two's complement of 64 bits
unfoldable pub narrow_bytes : Event → List ℕ
narrow_bytes row =
    number_bytes 8 row.start ++ number_bytes 8 row.end ++ key_bytes row.key
    ++ number_bytes 8 (cast_unsigned w64 row.a) ++ number_bytes 8 (cast_unsigned w64 row.b)

-- a row in 64 bytes: the other two values stand behind those
unfoldable pub wide_bytes : Event → List ℕ
wide_bytes row =
    narrow_bytes row ++ number_bytes 8 (cast_unsigned w64 row.c) ++ number_bytes 8 (cast_unsigned w64 row.d)

-- a row in a form
abbrev pub row_bytes : RowForm → Event → List ℕ
row_bytes Narrow row = narrow_bytes row
row_bytes Wide row = wide_bytes row

-- how many bytes it has
abbrev pub row_len : RowForm → ℕ
row_len Narrow = 48
row_len Wide = 64

-- the form of rows that stand in one image: the narrow one where it says all of each
abbrev pub form_of : List Event → RowForm
form_of rows = if list_all has_two_values rows then Narrow else Wide

-- how many left and how many right rows there are, and then each left and each right row in a form
abbrev pub image_in : RowForm → List Event → List Event → List ℕ
image_in form left right =
    number_bytes 4 (length left) ++ number_bytes 4 (length right)
    ++ flat_map (row_bytes form) left ++ flat_map (row_bytes form) right

-- the same in the form that the rows have together
unfoldable pub join_image : List Event → List Event → List ℕ
join_image left right = image_in (form_of (left ++ right)) left right

-- the bytes of what an operator remembers; of nothing there are none
abbrev pub image_of : Entries → List ℕ
image_of NoEntries = []
image_of (WindowEntries entries) = window_image entries
image_of (JoinRows left right) = join_image left right
image_of (SessionEntries entries) = session_image entries
