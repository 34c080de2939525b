-- What is found of an end and a key among entries, and what brings it back.
use Rattle.std.specs.Prelude.{ℕ, if◌then◌else◌, List, [], ◌∷◌, Option, Some, None}
use Rattle.ss_meaning.specs.Entries.{WindowEntry}
use Rattle.ss_meaning.specs.EntryLists.{is_of}
use Rattle.ss_window.specs.Held.{EntryTotal, entry_of}

-- what there is of an end and a key
abbrev pub found : ℕ → ℕ → List WindowEntry → Option EntryTotal
found w key [] = None
found w key (e ∷ es) = if is_of w key e then Some (record { value = e.value; rows = e.rows }) else found w key es

-- entries behind what was there of an end and a key, where there was something
abbrev pub with_former : ℕ → ℕ → Option EntryTotal → List WindowEntry → List WindowEntry
with_former w key None es = es
with_former w key (Some total) es = entry_of w key total ∷ es

-- the entries with what was there in place of the entry of an end and a key
abbrev pub restored : ℕ → ℕ → Option EntryTotal → List WindowEntry → List WindowEntry
restored w key had [] = []
restored w key had (e ∷ es) = if is_of w key e then with_former w key had es else e ∷ restored w key had es
