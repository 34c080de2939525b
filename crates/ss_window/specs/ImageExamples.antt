-- Worked examples of images, each written out by hand.
use Rattle.std.specs.Prelude.{◌≡◌, ℕ, pos, neg_ℤ, List, [], ◌∷◌, ◌++◌, length, take, replicate, Ok, Err}
use Rattle.ss_expr.specs.declared.stream_operator.Agg.TheVariants.{Sum}
use Rattle.ss_meaning.specs.EntryExamples.{summed}
use Rattle.ss_meaning.specs.Examples.{k}
use Rattle.ss_image.specs.Images.{entry_bytes, window_image}
use Rattle.ss_window.specs.ImageTests.{image_read}

-- so many zeros
abbrev pub zeros : ℕ → List ℕ
zeros n = replicate n 0

-- what stands behind the end of an entry of key k, sum 3 and one row
abbrev pub one_row_of_three : List ℕ
one_row_of_three = 0x6b ∷ zeros 15 ++ (zeros 15 ++ 3 ∷ []) ++ (zeros 7 ++ 1 ∷ [])

-- the image of two entries: windows of size 20 and hop 10 that sum, after a row that starts at 5 with the value 3
abbrev pub two_entries : List ℕ
two_entries =
    (zeros 3 ++ 2 ∷ []) ++ (zeros 7 ++ 10 ∷ []) ++ one_row_of_three ++ (zeros 7 ++ 20 ∷ []) ++ one_row_of_three

abbrev pub TwoEntriesSpelled : Type 0
TwoEntriesSpelled = window_image (summed 10 k 3 1 ∷ summed 20 k 3 1 ∷ []) ≡ two_entries

abbrev pub HundredBytes : Type 0
HundredBytes = length two_entries ≡ 100

-- a negative value is two's complement of 128 bits
abbrev pub NegativeSpelled : Type 0
NegativeSpelled =
    entry_bytes (record { end = 10; key = k; value = neg_ℤ (pos 3); rows = 2 })
    ≡ (zeros 7 ++ 10 ∷ []) ++ (0x6b ∷ zeros 15) ++ (replicate 15 0xff ++ 0xfd ∷ []) ++ (zeros 7 ++ 2 ∷ [])

-- the entries are read from their image
abbrev pub TwoEntriesRead : Type 0
TwoEntriesRead = image_read 10 Sum 0 two_entries ≡ Ok (summed 10 k 3 1 ∷ summed 20 k 3 1 ∷ [])

-- without its last byte it is none
abbrev pub OneByteFewer : Type 0
OneByteFewer = image_read 10 Sum 0 (take 99 two_entries) ≡ Err 0

-- where Low has reached the end of the first entry, that one is at fault
abbrev pub FirstClosed : Type 0
FirstClosed = image_read 10 Sum 10 two_entries ≡ Err 4
