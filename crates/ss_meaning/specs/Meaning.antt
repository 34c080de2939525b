-- The stream of each vertex of a job, as it is where nothing fails.
use Rattle.std.specs.Prelude.{ℕ, List, [], ◌∷◌, ◌++◌, length, get_or, map}
use Rattle.ss_elem.specs.declared.element.Element.{Element}
use Rattle.ss_meaning.specs.Merge.{Arrival, merge}
use Rattle.ss_meaning.specs.Emit.{Kind, output}

-- a vertex of a job: a source with its list, an operator with the vertices that it reads, or a sink with the one
pub data Vertex : Type 0 where
  Source : List Element → Vertex
  Inner : Kind → List ℕ → Vertex
  Sink : ℕ → Vertex

-- the vertices that a vertex reads, by their numbers; one that stands twice is two inputs
abbrev pub reads : Vertex → List ℕ
reads (Source list) = []
reads (Inner kind inputs) = inputs
reads (Sink input) = input ∷ []

-- the stream of a vertex, from the streams of its inputs; a sink takes the one that it reads
abbrev pub stream : Vertex → List (List Element) → List Element
stream (Source list) inputs = list
stream (Inner kind names) inputs = output kind (length names) (merge inputs)
stream (Sink name) inputs = get_or inputs 0 []

-- of streams in the order of their vertices, those with these numbers
abbrev pub streams_at : List (List Element) → List ℕ → List (List Element)
streams_at streams numbers = map (λ v. get_or streams v []) numbers

-- the streams of all vertices: those of the vertices before, and then vertex by vertex
abbrev pub streams_after : List (List Element) → List Vertex → List (List Element)
streams_after before [] = before
streams_after before (v ∷ vs) = streams_after (before ++ stream v (streams_at before (reads v)) ∷ []) vs

-- the meaning of a job: the stream of vertex number v, where the vertices stand in the order of their declaration
abbrev pub meaning : List Vertex → ℕ → List Element
meaning job v = get_or (streams_after [] job) v []

-- vertex number v of a job
abbrev pub vertex : List Vertex → ℕ → Vertex
vertex job v = get_or job v (Source [])

-- what arrives at a vertex, in its order
abbrev pub merged : List Vertex → ℕ → List Arrival
merged job v = merge (map (meaning job) (reads (vertex job v)))
