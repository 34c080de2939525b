-- Worked examples of images, each written out by hand.
use Rattle.std.specs.Prelude.{◌≡◌, ℕ, pos, neg_ℤ, List, [], ◌∷◌, ◌++◌, length, take, replicate, Ok, Err}
use Rattle.ss_elem.specs.declared.element.Event.{Event}
use Rattle.ss_meaning.specs.Entries.{rows_ending_above}
use Rattle.ss_meaning.specs.EntryExamples.{kept}
use Rattle.ss_meaning.specs.Examples.{k}
use Rattle.ss_image.specs.Images.{narrow_bytes, join_image}
use Rattle.ss_join.specs.ImageTests.{image_read}
use Rattle.ss_join.specs.States.{Sides}

-- so many zeros
abbrev pub zeros : ℕ → List ℕ
zeros n = replicate n 0

-- a join that remembers one left row
abbrev pub one_left_row : Sides
one_left_row = record { left = kept 1 10 k 1 ∷ []; right = [] }

-- its image: the counts 1 and 0, the start 1, the end 10, the key k, and the values 1 and 0
abbrev pub one_left_image : List ℕ
one_left_image =
    (zeros 3 ++ 1 ∷ []) ++ zeros 4 ++ (zeros 7 ++ 1 ∷ []) ++ (zeros 7 ++ 10 ∷ []) ++ (0x6b ∷ zeros 15)
    ++ (zeros 7 ++ 1 ∷ []) ++ zeros 8

abbrev pub OneRowSpelled : Type 0
OneRowSpelled = join_image one_left_row.left one_left_row.right ≡ one_left_image

abbrev pub FiftySixBytes : Type 0
FiftySixBytes = length one_left_image ≡ 56

-- a negative value is two's complement of 64 bits
abbrev pub NegativeSpelled : Type 0
NegativeSpelled =
    narrow_bytes (record { start = 1; end = 10; key = k; a = neg_ℤ (pos 3); b = pos 0; c = pos 0; d = pos 0 })
    ≡ (zeros 7 ++ 1 ∷ []) ++ (zeros 7 ++ 10 ∷ []) ++ (0x6b ∷ zeros 15) ++ (replicate 7 0xff ++ 0xfd ∷ []) ++ zeros 8

-- the row is read from its image
abbrev pub OneRowRead : Type 0
OneRowRead = image_read (0 ∷ 9 ∷ []) one_left_image ≡ Ok one_left_row

-- without its last byte it is none
abbrev pub OneByteFewer : Type 0
OneByteFewer = image_read (0 ∷ 9 ∷ []) (take 55 one_left_image) ≡ Err 0

-- where the right bound has reached its end, the row is at fault
abbrev pub EndedRow : Type 0
EndedRow = image_read (0 ∷ 10 ∷ []) one_left_image ≡ Err 8

-- a row of four values
abbrev pub row_with_seven : Event
row_with_seven = record { start = 1; end = 10; key = k; a = pos 1; b = pos 0; c = pos 7; d = neg_ℤ (pos 1) }

-- an image with it is wide: 64 bytes for it, and as many for a row of two values, behind which stand zeros
abbrev pub both_rows : Sides
both_rows = record { left = kept 1 20 k 1 ∷ row_with_seven ∷ []; right = [] }

abbrev pub wide_image : List ℕ
wide_image =
    (zeros 3 ++ 2 ∷ []) ++ zeros 4
    ++ ((zeros 7 ++ 1 ∷ []) ++ (zeros 7 ++ 20 ∷ []) ++ (0x6b ∷ zeros 15) ++ (zeros 7 ++ 1 ∷ []) ++ zeros 8 ++ zeros 16)
    ++ ((zeros 7 ++ 1 ∷ []) ++ (zeros 7 ++ 10 ∷ []) ++ (0x6b ∷ zeros 15) ++ (zeros 7 ++ 1 ∷ []) ++ zeros 8
    ++ (zeros 7 ++ 7 ∷ []) ++ replicate 8 0xff)

abbrev pub WideRowsSpelled : Type 0
WideRowsSpelled = join_image both_rows.left both_rows.right ≡ wide_image

abbrev pub WideRowsRead : Type 0
WideRowsRead = (length wide_image ≡ 136) × (image_read (0 ∷ 9 ∷ []) wide_image ≡ Ok both_rows)

-- one row in 64 bytes, whose third and fourth value are 0, is no image: its image is the narrow one
abbrev pub WideWithoutNeed : Type 0
WideWithoutNeed = image_read (0 ∷ 9 ∷ []) (one_left_image ++ zeros 16) ≡ Err 0

-- nor are bytes that fit neither form
abbrev pub NeitherForm : Type 0
NeitherForm = image_read (0 ∷ 9 ∷ []) (one_left_image ++ zeros 8) ≡ Err 0

-- where nothing is remembered there are the counts alone
abbrev pub NoRowsRead : Type 0
NoRowsRead = (join_image [] [] ≡ zeros 8) × (image_read (0 ∷ 9 ∷ []) (zeros 8) ≡ Ok (record { left = []; right = [] }))

-- where the right bound has reached the end of the second row, that one is at fault, behind a row of 64 bytes
abbrev pub WideRowEnded : Type 0
WideRowEnded = image_read (0 ∷ 10 ∷ []) wide_image ≡ Err 72

-- and what is remembered then has a narrow image again
abbrev pub NarrowAgain : Type 0
NarrowAgain =
    join_image (rows_ending_above 10 both_rows.left) []
    ≡ (zeros 3 ++ 1 ∷ []) ++ zeros 4
    ++ (zeros 7 ++ 1 ∷ []) ++ (zeros 7 ++ 20 ∷ []) ++ (0x6b ∷ zeros 15) ++ (zeros 7 ++ 1 ∷ []) ++ zeros 8
