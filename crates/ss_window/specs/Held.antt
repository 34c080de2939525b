-- What the program holds of the ends and keys of a window.
use Rattle.std.specs.Prelude.{◌≡◌, ℕ, ◌+◌, ◌-◌, ◌*◌, ◌^◌, ◌<◌, nat_lt, ℤ, pos, neg_ℤ, ◌+ℤ◌, ◌≤ℤ◌}
use Rattle.std.specs.Prelude.{List, length, map, filter, Option, Some, None}
use Rattle.std.specs.Int.{int_min, int_max}
use Rattle.std.specs.List.{AllByRecursion, flat_map}
use Rattle.std.specs.BTreeMap.{BTreeMap}
use Rattle.ss_expr.specs.declared.stream_operator.Agg.{Agg}
use Rattle.ss_expr.specs.declared.stream_operator.Agg.TheVariants.{Sum, Least, Greatest}
use Rattle.ss_meaning.specs.Entries.{WindowEntry}
use Rattle.ss_meaning.specs.EntryLists.{AreInOrder}
use Rattle.ss_meaning.specs.Window.{multiples}

-- the aggregate of the values of one end and one key, and how many rows had one
pub record EntryTotal : Type 0 where
  pub value : ℤ
  pub rows : ℕ

-- so many rows can't sum up to what doesn't fit 128 bits
pub record IsHeld (total : EntryTotal) : Type 0 where
  pub few : total.rows < 2 ^ 63
  pub least : neg_ℤ (pos (total.rows * 2 ^ 63)) ≤ℤ total.value
  pub most : total.value ≤ℤ pos (total.rows * 2 ^ 63)

-- how one more value joins the aggregate of those before
abbrev pub join_of : Agg → ℤ → ℤ → ℤ
join_of Sum = ◌+ℤ◌
join_of Least = int_min
join_of Greatest = int_max

-- a total with one more value, where there was one or not
abbrev pub grown_total : (ℤ → ℤ → ℤ) → ℤ → Option EntryTotal → EntryTotal
grown_total join value None = record { value = value; rows = 1 }
grown_total join value (Some total) = record { value = join total.value value; rows = total.rows + 1 }

-- the entry of an end and a key with this total
abbrev pub entry_of : ℕ → ℕ → EntryTotal → WindowEntry
entry_of end key total = record { end = end; key = key; value = total.value; rows = total.rows }

-- the entries that totals at one end are, each at its key
abbrev pub entries_at : ℕ → List (ℕ × EntryTotal) → List WindowEntry
entries_at end totals = map (λ t. entry_of end t.0 t.1) totals

-- the entries that panes at their ends are
abbrev pub entries_in : List (ℕ × BTreeMap ℕ EntryTotal) → List WindowEntry
entries_in panes = flat_map (λ p. entries_at p.0 p.1.entries) panes

-- a pane has a total
abbrev pub HasTotal : ℕ × BTreeMap ℕ EntryTotal → Type 0
HasTotal pane = 0 < length pane.1.entries

-- no pane is empty, their entries stand in order, and so many are held
pub record AreHeld (panes : List (ℕ × BTreeMap ℕ EntryTotal)) (held : ℕ) : Type 0 where
  pub full : AllByRecursion HasTotal panes
  pub order : AreInOrder (entries_in panes)
  pub counted : held ≡ length (entries_in panes)
  pub few : held < 2 ^ 63

-- the multiples of hop above a bound, from the one with a number up to and without the one with another
abbrev pub ends_left : ℕ → ℕ → ℕ → ℕ → List ℕ
ends_left hop from to bound = filter (nat_lt bound) (multiples hop from (to - from))
