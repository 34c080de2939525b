-- What a temporal join gives.
use Rattle.std.specs.Prelude.{ℕ, min, max, ◌==◌, nat_lt, Bool, ◌&&◌, if◌then◌else◌, List, map, filter}
use Rattle.ss_elem.specs.declared.element.Event.{Event}

-- whether two rows have one key and spans with a time in common
abbrev pub matches : Event → Event → Bool
matches x y = x.key == y.key && nat_lt x.start y.end && nat_lt y.start x.end

-- two matching rows as one: the time that they have in common, the left a and the right a as its a and b, and the left
-- c and the right c as its c and d
abbrev pub joined : Event → Event → Event
joined left right = record {
  start = max left.start right.start;
  end = min left.end right.end;
  key = left.key;
  a = left.a;
  b = right.a;
  c = left.c;
  d = right.c;
}

-- a row of this input and one of the other as one: input 0 is the left one
abbrev pub joined_from : ℕ → Event → Event → Event
joined_from input x y = if input == 0 then joined x y else joined y x

-- what a row of this input gives with the other input's earlier rows, in the order in which they came
abbrev pub join_rows : ℕ → Event → List Event → List Event
join_rows input x earlier = map (joined_from input x) (filter (matches x) earlier)
