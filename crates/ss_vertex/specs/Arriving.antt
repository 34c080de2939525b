-- What arrives at a vertex, one element after another, and what the vertex gives at each.
use Rattle.std.specs.Prelude.{ℕ, zero, suc, nat_lt, if◌then◌else◌, List, [], length, take, get_or, Option, Some, None}
use Rattle.std.specs.Prelude.{option_map, slice_get}
use Rattle.std.specs.Option.{option_to_list, option_map_or}
use Rattle.ss_elem.specs.declared.element.Element.{Element}
use Rattle.ss_meaning.specs.Emit.{emit}
use Rattle.ss_meaning.specs.Meaning.{Vertex, Source, Inner, Sink, vertex, meaning, merged}
use Rattle.ss_meaning.specs.Positions.{pos}

-- the input and the number, in the stream of that input, of the element that arrives behind the first n at a vertex of
-- this form; a source takes the elements of its list as those of an input 0
abbrev pub wanted_by : Vertex → List Vertex → ℕ → ℕ → Option (ℕ × ℕ)
wanted_by (Source list) job v n = if nat_lt n (length list) then Some (0, n) else None
wanted_by (Inner kind inputs) job v n = option_map (λ x. (x.input, pos job v n x.input)) (slice_get (merged job v) n)
wanted_by (Sink input) job v n = None

-- the same at vertex v: None where nothing more arrives
abbrev pub wanted : List Vertex → ℕ → ℕ → Option (ℕ × ℕ)
wanted job v n = wanted_by (vertex job v) job v n

-- the stream that a vertex of this form takes as its input i
abbrev pub taken_by : Vertex → List Vertex → ℕ → List Element
taken_by (Source list) job i = list
taken_by (Inner kind inputs) job i = meaning job (get_or inputs i 0)
taken_by (Sink input) job i = meaning job input

-- the same at vertex v
abbrev pub taken : List Vertex → ℕ → ℕ → List Element
taken job v i = taken_by (vertex job v) job i

-- what a vertex of this form gives at the element that arrives behind the first n; a source gives the element itself
abbrev pub given_by : Vertex → List Vertex → ℕ → ℕ → List Element
given_by (Source list) job v n = option_to_list (slice_get list n)
given_by (Inner kind inputs) job v n =
    option_map_or (emit kind (length inputs) (take n (merged job v))) (slice_get (merged job v) n) []
given_by (Sink input) job v n = []

-- the same at vertex v
abbrev pub given_at : List Vertex → ℕ → ℕ → List Element
given_at job v n = given_by (vertex job v) job v n

-- what vertex v gives at the last of its first n elements; at none nothing
abbrev pub last_given : List Vertex → ℕ → ℕ → List Element
last_given job v zero = []
last_given job v (suc n) = given_at job v n
