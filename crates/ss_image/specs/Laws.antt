-- How long images are.
use Rattle.std.specs.Prelude.{◌≡◌, ◌+◌, ◌*◌, ◌≤◌, List, ◌++◌, length}
use Rattle.ss_elem.specs.declared.element.Event.{Event}
use Rattle.ss_meaning.specs.Entries.{WindowEntry}
use Rattle.ss_meaning.specs.Session.{SessionEntry}
use Rattle.ss_image.specs.Images.{window_image, session_image, join_image, form_of, row_len}

-- 48 bytes for each entry of a window, behind one count
abbrev pub WindowImagesHaveLengths : Type 0
WindowImagesHaveLengths = (entries : List WindowEntry) → length (window_image entries) ≡ 4 + 48 * length entries

-- 56 for each session, behind one
abbrev pub SessionImagesHaveLengths : Type 0
SessionImagesHaveLengths = (entries : List SessionEntry) → length (session_image entries) ≡ 4 + 56 * length entries

-- and for each row of a join as many as its form has, behind two
abbrev pub JoinImagesHaveLengths : Type 0
JoinImagesHaveLengths =
    (left right : List Event)
    → length (join_image left right) ≡ 8 + row_len (form_of (left ++ right)) * (length left + length right)

-- those are at most 64
abbrev pub JoinImagesAreShort : Type 0
JoinImagesAreShort =
    (left right : List Event) → length (join_image left right) ≤ 8 + 64 * (length left + length right)
