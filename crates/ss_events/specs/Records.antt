-- The records of an event file, as the crate `csv` reads them, and those that a reader has left.
use Rattle.std.specs.Prelude.{◌≡◌, ◌+◌, Bool, true, false, ℕ, List, [], length, Option, Some, None, IsSome}
use Rattle.std.specs.Borrow.{Bor}
use Rattle.csv.specs.Machine.{ends_at_end}
use Rattle.csv.specs.Reading.{Ready, default_config, is_flexible, reader_config, reader_state, reader_trim, records}
use Rattle.csv.specs.Reading.{records_from, source_of, strip_bom}
use Rattle.csv.specs.declared.parser.State.{State}
use Rattle.csv.specs.declared.reader.Reader.{Reader}
use Rattle.csv.specs.declared.reader.Trim.TheVariants as trim

-- the records of a file, each a list of fields
abbrev pub records_of : List ℕ → List (List (List ℕ))
records_of bytes = records default_config (strip_bom bytes)

-- the bytes that a reader of a slice has left
abbrev pub source : Reader (Bor (List ℕ)) → Option (List ℕ)
source reader = source_of (λ slice. Some slice.now) reader

-- the records that follow a state of the reader
abbrev pub records_after : Option (List ℕ) → State → List (List (List ℕ))
records_after None state = []
records_after (Some bytes) state = records_from default_config (length bytes + 1) state bytes

-- the records that are left, none where the reader is at its end
abbrev pub records_left : Bool → Option (List ℕ) → State → List (List (List ℕ))
records_left true bytes state = records_after bytes state
records_left false bytes state = []

-- a reader that stands between two records, and takes each record as it is
pub record IsReading (reader : Reader (Bor (List ℕ))) : Type 0 where
  pub config : reader_config reader ≡ default_config
  pub trim : reader_trim reader ≡ trim.None
  pub ready : Ready reader
  pub flexible : is_flexible reader ≡ true
  pub known : IsSome (source reader)
  pub between : ends_at_end (reader_state reader) ≡ false
