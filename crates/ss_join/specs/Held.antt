-- What the program holds of the rows of one input.
use Rattle.std.specs.Prelude.{◌≡◌, ℕ, zero, suc, ◌<◌, ◌≤◌, ◌==◌, nat_le, nat_eq, Bool, true, false, not}
use Rattle.std.specs.Prelude.{List, [], ◌∷◌, ◌++◌, length, map, filter, Option, Some, None}
use Rattle.std.specs.List.{AllByRecursion}
use Rattle.std.specs.Ordering.{nat_cmp, ordering_then}
use Rattle.std.specs.declared.cmp.Ordering.{Ordering}
use Rattle.std.specs.BTreeMap.{BTreeMap, get, IsOrdered}
use Rattle.std.specs.BTreeSet.{BTreeSet, contains}
use Rattle.std.specs.BTreeSet as set
use Rattle.std.specs.Set.{is_member}
use Rattle.ss_elem.specs.declared.element.Event.{Event}
use Rattle.ss_meaning.specs.Join.{matches}

-- the order in which rows are held: that of their keys, and at one key that of their arrival
abbrev pub place_cmp : ℕ × ℕ → ℕ × ℕ → Ordering
place_cmp x y = ordering_then (nat_cmp x.0 y.0) (nat_cmp x.1 y.1)

-- the order in which they end: that of their ends, and at one end that of their arrival
abbrev pub end_cmp : ℕ × ℕ × ℕ → ℕ × ℕ × ℕ → Ordering
end_cmp x y = ordering_then (ordering_then (nat_cmp x.0 y.0) (nat_cmp x.1 y.1)) (nat_cmp x.2 y.2)

-- rows at their keys and arrivals, with the numbers of their arrivals alone
abbrev pub numbered : List ((ℕ × ℕ) × Event) → List (ℕ × Event)
numbered rows = map (λ r. (r.0.1, r.1)) rows

-- the rows with a number
abbrev pub with_number : ℕ → List (ℕ × Event) → List Event
with_number number rows = map (λ r. r.1) (filter (λ r. r.0 == number) rows)

-- the rows with one of so many numbers from one on, in the order of their numbers
unfoldable pub in_order : ℕ → ℕ → List (ℕ × Event) → List Event
in_order from zero rows = []
in_order from (suc count) rows = with_number from rows ++ in_order (suc from) count rows

-- the rows that are held with numbers below `next`, in the order of their arrival
abbrev pub rows_held : ℕ → BTreeMap (ℕ × ℕ) Event → List Event
rows_held next rows = in_order 0 next (numbered rows.entries)

-- a row stands at its key, with a number below `next`
pub record IsPlaced (next : ℕ) (row : (ℕ × ℕ) × Event) : Type 0 where
  pub key : row.1.key ≡ row.0.0
  pub below : row.0.1 < next

-- there is a row, and it has this end
abbrev pub ends_at : ℕ → Option Event → Bool
ends_at end None = false
ends_at end (Some row) = row.end == end

-- the rows stand in order at their places, no two have one number, and the ends are just those of the rows
pub record AreHeld (rows : BTreeMap (ℕ × ℕ) Event) (ends : BTreeSet (ℕ × ℕ × ℕ)) (next : ℕ) : Type 0 where
  pub placed : AllByRecursion (IsPlaced next) rows.entries
  pub once : (number : ℕ) → length (with_number number (numbered rows.entries)) ≤ 1
  pub indexed : (end number key : ℕ)
      → contains end_cmp ends (end, number, key) ≡ ends_at end (get place_cmp rows (key, number))
  pub ordered : IsOrdered place_cmp rows
  pub ends_ordered : set.IsOrdered end_cmp ends

-- the first end is up to a bound
abbrev pub first_reached : ℕ → List (ℕ × ℕ × ℕ) → Bool
first_reached bound [] = false
first_reached bound (e ∷ es) = nat_le e.0 bound

-- a key differs from the one before it, where there is one
abbrev pub is_new : Option ℕ → ℕ → Bool
is_new None key = true
is_new (Some before) key = not (before == key)

-- the keys that others don't have
abbrev pub keys_apart : List ℕ → List ℕ → List ℕ
keys_apart others keys = filter (λ key. not (is_member nat_eq others key)) keys

-- the rows that have a row's key and a time in common with it, at their places
abbrev pub matched : Event → List ((ℕ × ℕ) × Event) → List ((ℕ × ℕ) × Event)
matched row rows = filter (λ r. matches r.1 row) rows

-- the number and the end of the first of these rows
abbrev pub first_place : List ((ℕ × ℕ) × Event) → Option (ℕ × ℕ)
first_place [] = None
first_place (r ∷ rs) = let place : ℕ × ℕ = (r.0.1, r.1.end) in Some place
