-- Worked examples of session windows, each written out by hand.
use Rattle.std.specs.Prelude.{◌≡◌, ℕ, ◌+◌, pos, ◌+ℤ◌, [], ◌∷◌}
use Rattle.ss_elem.specs.declared.element.Element.{Element}
use Rattle.ss_elem.specs.declared.element.Element.TheVariants.{Row, Cti, End}
use Rattle.ss_meaning.specs.Emit.{Kind, Session, output}
use Rattle.ss_meaning.specs.Entries.{SessionEntries, entries_after}
use Rattle.ss_meaning.specs.Examples.{k, p, row, from}
use Rattle.ss_meaning.specs.Session.{SessionEntry}
use Rattle.ss_meaning.specs.SessionLists.{put_session}
use Rattle.ss_meaning.specs.Window.{total}

-- sessions that end where no row starts for 10, and sum a
abbrev pub sums_of_sessions : Kind
sums_of_sessions = Session (record { gap = 10; aggregate = total; field = λ r. r.a })

-- what a session gives: its closing, its key, its sum, its count, and its least and its greatest start
abbrev pub told : ℕ → ℕ → ℕ → ℕ → ℕ → ℕ → Element
told close key sum count first last = Row (record {
  start = close;
  end = close + 1;
  key = key;
  a = pos sum;
  b = pos count;
  c = pos first;
  d = pos last;
})

abbrev pub spanning : ℕ → ℕ → ℕ → ℕ → ℕ → SessionEntry
spanning key first last sum count = record { key = key; first = first; last = last; value = pos sum; rows = count }

-- two sessions of a key: the first is given where the bound has come 10 past its last start, the second at the end
abbrev pub TwoSessions : Type 0
TwoSessions =
    output sums_of_sessions 1
    (from 0 (row 1 2 k 1 0) ∷ from 0 (row 8 9 k 2 0) ∷ from 0 (row 30 31 k 5 0) ∷ from 0 (Cti 20) ∷ from 0 End ∷ [])
    ≡ told 18 k 3 2 1 8 ∷ Cti 20 ∷ told 40 k 5 1 30 30 ∷ End ∷ []

-- a row between two sessions makes one of both
abbrev pub RowBetweenTwoSessions : Type 0
RowBetweenTwoSessions =
    output sums_of_sessions 1
    (from 0 (row 1 2 k 1 0) ∷ from 0 (row 15 16 k 2 0) ∷ from 0 (row 8 9 k 4 0) ∷ from 0 End ∷ [])
    ≡ told 25 k 7 3 1 15 ∷ End ∷ []

-- what is remembered stands by key and then by time, and a session that has closed is gone
abbrev pub SessionsInOrder : Type 0
SessionsInOrder =
    entries_after sums_of_sessions 1
    (from 0 (row 1 2 p 1 0) ∷ from 0 (row 30 31 p 2 0) ∷ from 0 (row 15 16 p 4 0) ∷ from 0 (row 14 15 k 3 0)
    ∷ from 0 (Cti 11) ∷ [])
    ≡ SessionEntries (spanning k 14 14 3 1 ∷ spanning p 15 15 4 1 ∷ spanning p 30 30 2 1 ∷ [])

-- a gap of 10 parts two sessions, one of 9 doesn't
abbrev pub GapParts : Type 0
GapParts =
    entries_after sums_of_sessions 1
    (from 0 (row 1 2 k 1 0) ∷ from 0 (row 11 12 k 2 0) ∷ from 0 (row 20 21 k 4 0) ∷ [])
    ≡ SessionEntries (spanning k 1 1 1 1 ∷ spanning k 11 20 6 2 ∷ [])

-- a session put between two that it touches makes one of all three
abbrev pub PutBetweenTwo : Type 0
PutBetweenTwo =
    put_session 10 ◌+ℤ◌ (spanning k 8 8 4 1) (spanning k 1 1 1 1 ∷ spanning k 15 15 2 1 ∷ spanning p 9 9 6 1 ∷ [])
    ≡ spanning k 1 15 7 3 ∷ spanning p 9 9 6 1 ∷ []
