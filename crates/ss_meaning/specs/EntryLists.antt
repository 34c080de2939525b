-- The entries of a window in their order, and what one more row makes of them.
use Rattle.std.specs.Prelude.{◌≡◌, ℕ, ◌+◌, ◌<◌, ◌≤◌, ◌==◌, nat_lt, Bool, ◌&&◌, ◌||◌, if◌then◌else◌, ℤ, pos, List, []}
use Rattle.std.specs.Prelude.{◌∷◌}
use Rattle.std.specs.List.{AllByRecursion}
use Rattle.ss_elem.specs.declared.element.Event.{Event}
use Rattle.ss_meaning.specs.Window.{clamped}
use Rattle.ss_meaning.specs.Entries.{WindowEntry}

-- an entry stands behind the place of an end and a key: it has a later end, or the same one and a greater key
pub record IsBehind (end key : ℕ) (e : WindowEntry) : Type 0 where
  pub ends : end ≤ e.end
  pub keys : end ≡ e.end → key < e.key

-- the entries stand in rising order of ends and then of keys, and no two are of one end and one key
abbrev pub AreInOrder : List WindowEntry → Type 0
AreInOrder [] = Unit {0}
AreInOrder (e ∷ es) = AllByRecursion (IsBehind e.end e.key) es × AreInOrder es

-- whether an entry stands before the place of an end and a key
abbrev pub is_before : ℕ → ℕ → WindowEntry → Bool
is_before w key e = nat_lt e.end w || (e.end == w && nat_lt e.key key)

-- whether an entry is the one of an end and a key
abbrev pub is_of : ℕ → ℕ → WindowEntry → Bool
is_of w key e = e.end == w && e.key == key

-- the entry of a single row with this value
abbrev pub single_entry : ℕ → ℕ → ℤ → WindowEntry
single_entry w key value = record { end = w; key = key; value = value; rows = 1 }

-- an entry with one more row, whose value is joined to what there is
abbrev pub grown_entry : (ℤ → ℤ → ℤ) → ℤ → WindowEntry → WindowEntry
grown_entry join value e = record { end = e.end; key = e.key; value = join e.value value; rows = e.rows + 1 }

-- the entries with one more row at an end: joined to the entry of its key, or as a new entry in its place
abbrev pub put_value : (ℤ → ℤ → ℤ) → ℕ → ℤ → ℕ → List WindowEntry → List WindowEntry
put_value join key value w [] = single_entry w key value ∷ []
put_value join key value w (e ∷ es) =
    if is_before w key e then e ∷ put_value join key value w es
    else (if is_of w key e then grown_entry join value e ∷ es else single_entry w key value ∷ e ∷ es)

-- the same at each of some ends
abbrev pub put_values : (ℤ → ℤ → ℤ) → ℕ → ℤ → List ℕ → List WindowEntry → List WindowEntry
put_values join key value [] es = es
put_values join key value (w ∷ ws) es = put_values join key value ws (put_value join key value w es)

-- the row that an entry becomes once Low has reached its end
abbrev pub row_of_entry : ℕ → WindowEntry → Event
row_of_entry hop e = record {
  start = e.end;
  end = e.end + hop;
  key = e.key;
  a = clamped e.value;
  b = pos e.rows;
  c = pos 0;
  d = pos 0;
}
