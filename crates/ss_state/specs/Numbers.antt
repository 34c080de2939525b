-- A job as a table of numbers.
use Rattle.std.specs.Prelude.{◌≡◌, ℕ, ◌+◌, ◌<◌, ◌==◌, Bool, true, false, not, if◌then◌else◌, List, [], ◌∷◌, length}
use Rattle.std.specs.Prelude.{get_or, take, filter}
use Rattle.std.specs.Prelude.{take, filter}
use Rattle.std.specs.List.{range_with_len}
use Rattle.ss_water.specs.declared.node.Kind.{Kind}
use Rattle.ss_water.specs.declared.node.Kind.TheVariants.{Source, Inner, Sink}
use Rattle.ss_water.specs.Graph.{is_sink}

-- what a vertex takes and gives, and how it is recovered; of a sink its inputs alone, and otherwise no elements and no
-- replicas
pub record VertexNumbers : Type 0 where
  pub kind : Kind
  -- the vertices that it reads, by their numbers
  pub inputs : List ℕ
  -- of each element that arrives at an operator, in order, its input; of a source a 0 for each element of its list
  pub arrivals : List ℕ
  -- of each of these, how many elements are given at it; of a source 1 each
  pub given : List ℕ
  -- of an operator, how many entries it holds after the first 0, 1, 2 and so on of them
  pub held : List ℕ
  -- a snapshot is due this many elements after the last
  pub every : ℕ
  -- whether a snapshot is due only where the operator holds nothing
  pub replay : Bool
  pub replicas : ℕ

-- a job: its vertices in the order of their declaration, and its limits
pub record JobNumbers : Type 0 where
  pub vertices : List VertexNumbers
  -- a replica that would make more elements than this of its stream can't go on
  pub max_elements : ℕ
  -- at most so many elements are stored between two passes
  pub collect_every : ℕ

abbrev pub is_inner : Kind → Bool
is_inner Source = false
is_inner Inner = true
is_inner Sink = false

-- what stands where there is no vertex
abbrev pub no_vertex : VertexNumbers
no_vertex = record {
  kind = Sink;
  inputs = [];
  arrivals = [];
  given = [];
  held = [];
  every = 1;
  replay = false;
  replicas = 0;
}

-- vertex number v of a job
abbrev pub vertex : JobNumbers → ℕ → VertexNumbers
vertex job v = get_or job.vertices v no_vertex

-- the numbers of all vertices
abbrev pub vertices : JobNumbers → List ℕ
vertices job = range_with_len 0 (length job.vertices)

-- the vertices that give a stream, all but the sinks
abbrev pub streams : JobNumbers → List ℕ
streams job = filter (λ v. not (is_sink (vertex job v).kind)) (vertices job)

-- v is a vertex that gives a stream
abbrev pub IsStream : JobNumbers → ℕ → Type 0
IsStream job v = (v < length job.vertices) × (is_sink (vertex job v).kind ≡ false)

-- v is an operator
abbrev pub IsOperator : JobNumbers → ℕ → Type 0
IsOperator job v = (v < length job.vertices) × (is_inner (vertex job v).kind ≡ true)

-- k is a sink
abbrev pub IsSink : JobNumbers → ℕ → Type 0
IsSink job k = (k < length job.vertices) × ((vertex job k).kind ≡ Sink)

-- the vertex that input i reads
abbrev pub input : VertexNumbers → ℕ → ℕ
input x i = get_or x.inputs i 0

-- how many of these numbers are i
abbrev pub count_of : ℕ → List ℕ → ℕ
count_of i [] = 0
count_of i (n ∷ ns) = if n == i then count_of i ns + 1 else count_of i ns

-- the sum of numbers
abbrev pub sum_of : List ℕ → ℕ
sum_of [] = 0
sum_of (n ∷ ns) = n + sum_of ns

-- how many elements the vertex accepts in all
abbrev pub mlen : VertexNumbers → ℕ
mlen x = length x.arrivals

-- how many of the first n that arrive come from input i
unfoldable pub pos : VertexNumbers → ℕ → ℕ → ℕ
pos x n i = count_of i (take n x.arrivals)

-- how many elements it has given after the first n
unfoldable pub out : VertexNumbers → ℕ → ℕ
out x n = sum_of (take n x.given)

-- how many elements its stream has
unfoldable pub size : VertexNumbers → ℕ
size x = sum_of x.given

-- the input of the element that arrives behind the first n
unfoldable pub wanted_input : VertexNumbers → ℕ → ℕ
wanted_input x n = get_or x.arrivals n 0

-- the number of that element in the stream of its input
abbrev pub wanted_number : VertexNumbers → ℕ → ℕ
wanted_number x n = pos x n (wanted_input x n)
