-- What the words of the contracts give at values that can be read off.
use Rattle.std.proofs.Common.{◌≡◌, ◌-◌, ◌^◌, [], ◌∷◌, Some, None, refl}
use Rattle.ss_outside.specs.Faults.{next_count}
use Rattle.ss_outside.specs.MemOutputs.{kept_in}
use Rattle.ss_outside.specs.Depot.{Contents, cut_to, next_number, no_contents, record_at, with_frame, with_record, without_frames_below}

-- a count rises by one
count-rises : next_count 6 ≡ 7
count-rises = refl

-- and stays at its end
count-stays : next_count (2 ^ 64 - 1) ≡ 2 ^ 64 - 1
count-stays = refl

-- of two entries for one call the first counts
first-entry-counts : kept_in ((3, 9) ∷ (2, 1) ∷ (2, 5) ∷ []) 2 ≡ Some 1
first-entry-counts = refl

-- a call without an entry doesn't fail
no-entry : kept_in ((3, 9) ∷ []) 2 ≡ None
no-entry = refl

-- ---- what a depot holds

-- records 0 and 1 of vertex 3, of one byte each
abbrev two_records : Contents
two_records = with_record 3 (9 ∷ []) (with_record 3 (7 ∷ []) no_contents)

second-record : record_at two_records 3 1 ≡ Some (9 ∷ [])
second-record = refl

-- another vertex has none of them
other-vertex : next_number two_records 4 ≡ 0
other-vertex = refl

-- a cut drops the records below its number, and the others keep theirs
cut-drops : record_at (cut_to 3 1 two_records) 3 0 ≡ None
cut-drops = refl

cut-keeps : record_at (cut_to 3 1 two_records) 3 1 ≡ Some (9 ∷ [])
cut-keeps = refl

-- a cut past the last record: the next one has the number of the cut
cut-past-the-last : next_number (cut_to 3 9 two_records) 3 ≡ 9
cut-past-the-last = refl

-- frames 7 and 8 of vertex 3
abbrev two_frames : Contents
two_frames = with_frame 3 8 (9 ∷ []) (with_frame 3 7 (7 ∷ []) no_contents)

-- a drop below 8 leaves frame 8
drop-drops : (without_frames_below 3 8 two_frames).frames 3 7 ≡ None
drop-drops = refl

drop-keeps : (without_frames_below 3 8 two_frames).frames 3 8 ≡ Some (9 ∷ [])
drop-keeps = refl
