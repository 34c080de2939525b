-- What a join by absence gives.
use Rattle.std.specs.Prelude.{ℕ, ◌+◌, ◌==◌, nat_lt, nat_le, Bool, ◌&&◌, not, if◌then◌else◌, pos, List, [], ◌∷◌, ◌++◌}
use Rattle.std.specs.Prelude.{map, filter, flat_map}
use Rattle.std.specs.List.{list_any}
use Rattle.ss_elem.specs.declared.element.Event.{Event}
use Rattle.ss_meaning.specs.Bound.{bound, row_of, rows}
use Rattle.ss_meaning.specs.Merge.{Arrival, from_input}
use Rattle.ss_meaning.specs.Window.{rising}
use Rattle.ss_meaning.specs.Join.{matches}

-- no right row has the row's key and a time in common with it
abbrev pub is_alone : List Event → Event → Bool
is_alone rights row = not (list_any (matches row) rights)

-- the left rows that are alone among these right ones, in their order
abbrev pub alone : List Event → List Event → List Event
alone rights lefts = filter (is_alone rights) lefts

-- the row of a left row that no right row can overlap any more: it tells where the left row ended, and its values and
-- its start
abbrev pub absent_row : Event → Event
absent_row row = record {
  start = row.end;
  end = row.end + 1;
  key = row.key;
  a = row.a;
  b = row.b;
  c = pos row.start;
  d = pos 0;
}

-- the ends of rows above one bound and up to another, in rising order
abbrev pub ends_between : List Event → ℕ → ℕ → List ℕ
ends_between rows before after =
    rising (filter (λ time. nat_lt before time && nat_le time after) (map (λ row. row.end) rows))

-- the rows that end above one bound and up to another, in the order in which they end and then in theirs
abbrev pub ending_between : List Event → ℕ → ℕ → List Event
ending_between rows before after =
    flat_map (λ time. filter (λ row. row.end == time) rows) (ends_between rows before after)

-- the left rows that are given at x, where p arrived before: a left row that is alone and ended by the right bound, and
-- where x raises the right bound, those alone that it reaches
abbrev pub left_alone : List Arrival → Arrival → List Event
left_alone p x =
    let rights = rows (from_input 1 p) in
    let reached = bound (from_input 1 p) in
    if x.input == 0 then filter (λ row. nat_le row.end reached && is_alone rights row) (row_of x.element)
    else ending_between (alone rights (rows (from_input 0 p))) reached (bound (from_input 1 (p ++ x ∷ [])))
