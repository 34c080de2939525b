-- Worked examples of images of session windows, each written out by hand.
use Rattle.std.specs.Prelude.{◌≡◌, ℕ, pos, neg_ℤ, List, [], ◌∷◌, ◌++◌, take, replicate, Ok, Err}
use Rattle.ss_expr.specs.declared.stream_operator.Agg.TheVariants.{Sum}
use Rattle.ss_image.specs.Images.{session_bytes, session_image}
use Rattle.ss_meaning.specs.Examples.{k}
use Rattle.ss_meaning.specs.SessionExamples.{spanning}
use Rattle.ss_session.specs.ImageTests.{image_read}

-- so many zeros
abbrev pub zeros : ℕ → List ℕ
zeros n = replicate n 0

-- the bytes of a session of key k
abbrev pub of_key_k : ℕ → ℕ → ℕ → ℕ → List ℕ
of_key_k first last sum count =
    0x6b ∷ zeros 15 ++ (zeros 7 ++ first ∷ []) ++ (zeros 7 ++ last ∷ []) ++ (zeros 15 ++ sum ∷ []) ++ (zeros 7 ++ count ∷ [])

-- the image of two sessions of a key: from 1 to 8 with the sum 3 of two rows, and from 30 to 30 with the sum 5 of one
abbrev pub two_sessions : List ℕ
two_sessions = (zeros 3 ++ 2 ∷ []) ++ of_key_k 1 8 3 2 ++ of_key_k 30 30 5 1

abbrev pub TwoSessionsSpelled : Type 0
TwoSessionsSpelled = session_image (spanning k 1 8 3 2 ∷ spanning k 30 30 5 1 ∷ []) ≡ two_sessions

-- a negative value is two's complement of 128 bits
abbrev pub NegativeSpelled : Type 0
NegativeSpelled =
    session_bytes (record { key = k; first = 1; last = 8; value = neg_ℤ (pos 3); rows = 2 })
    ≡ 0x6b ∷ zeros 15 ++ (zeros 7 ++ 1 ∷ []) ++ (zeros 7 ++ 8 ∷ []) ++ (replicate 15 0xff ++ 0xfd ∷ []) ++ (zeros 7 ++ 2 ∷ [])

-- they are read from their image where Low is below both closings
abbrev pub TwoSessionsRead : Type 0
TwoSessionsRead = image_read 10 Sum 17 two_sessions ≡ Ok (spanning k 1 8 3 2 ∷ spanning k 30 30 5 1 ∷ [])

-- without its last byte it is no image
abbrev pub OneByteFewer : Type 0
OneByteFewer = image_read 10 Sum 0 (take 115 two_sessions) ≡ Err 0

-- where Low has reached the first closing, that session is at fault
abbrev pub FirstClosed : Type 0
FirstClosed = image_read 10 Sum 18 two_sessions ≡ Err 4

-- where the gap is longer than what parts them, the second one is
abbrev pub NotApart : Type 0
NotApart = image_read 23 Sum 0 two_sessions ≡ Err 60
