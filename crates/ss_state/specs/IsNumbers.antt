-- What the laws ask of a job's numbers.
use Rattle.std.specs.Prelude.{◌≡◌, ℕ, ◌+◌, ◌<◌, ◌≤◌, true, false, [], length}
use Rattle.ss_water.specs.declared.node.Kind.TheVariants as kind
use Rattle.ss_water.specs.Graph.{is_sink}
use Rattle.ss_state.specs.Numbers.{VertexNumbers, JobNumbers, IsStream, is_inner, vertex, input, mlen, pos, out, size}
use Rattle.ss_state.specs.Numbers.{wanted_input}

-- x may stand as vertex v
pub record IsVertex (job : JobNumbers) (v : ℕ) (x : VertexNumbers) : Type 0 where
  -- it reads vertices before it, and these give streams
  pub earlier : (i : ℕ) → i < length x.inputs → input x i < v
  pub streams : (i : ℕ) → i < length x.inputs → is_sink (vertex job (input x i)).kind ≡ false
  -- something, perhaps nothing, is given at each element that arrives
  pub given : length x.given ≡ length x.arrivals
  pub every : 0 < x.every
  pub replicas : is_sink x.kind ≡ false → 0 < x.replicas
  -- what arrives at an operator comes from its inputs, and in the end all of each
  pub arrivals : is_inner x.kind ≡ true → (n : ℕ) → n < mlen x → wanted_input x n < length x.inputs
  pub whole : is_inner x.kind ≡ true → (i : ℕ) → i < length x.inputs → pos x (mlen x) i ≡ size (vertex job (input x i))
  pub held : is_inner x.kind ≡ true → length x.held ≡ mlen x + 1
  -- any other vertex gives each element on
  pub plain : is_inner x.kind ≡ false → (n : ℕ) → n ≤ mlen x → out x n ≡ n
  -- a source reads nothing, and its list isn't longer than a stream may be
  pub source : x.kind ≡ kind.Source → length x.inputs ≡ 0
  pub listed : x.kind ≡ kind.Source → size x ≤ job.max_elements
  -- a sink reads one stream, and has no elements and no replicas of its own
  pub sink : x.kind ≡ kind.Sink → length x.inputs ≡ 1
  pub gives_none : x.kind ≡ kind.Sink → x.given ≡ []
  pub runs_none : x.kind ≡ kind.Sink → x.replicas ≡ 0

-- input i of vertex w is stream u
pub record Reads (job : JobNumbers) (u w i : ℕ) : Type 0 where
  pub is_vertex : w < length job.vertices
  pub is_input : i < length (vertex job w).inputs
  pub is_stream : input (vertex job w) i ≡ u

-- each vertex may stand where it does, each stream is read, and a whole batch may be stored between two passes
pub record IsNumbers (job : JobNumbers) : Type 0 where
  pub each : (v : ℕ) → v < length job.vertices → IsVertex job v (vertex job v)
  pub read : (u : ℕ) → IsStream job u → (w i : ℕ) × Reads job u w i
  pub collects : 64 ≤ job.collect_every
