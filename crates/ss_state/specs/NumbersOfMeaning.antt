-- The numbers of a job, from its meaning.
use Rattle.std.specs.Prelude.{◌≡◌, ℕ, ◌<◌, ◌≤◌, Bool, true, false, List, [], ◌∷◌, ◌++◌, length, get_or, take, map}
use Rattle.std.specs.List.{range_with_len}
use Rattle.ss_elem.specs.declared.element.Element.{Element}
use Rattle.ss_water.specs.declared.node.Kind.TheVariants as kind
use Rattle.ss_water.specs.declared.node.Kind.{Kind}
use Rattle.ss_water.specs.Graph.{is_sink}
use Rattle.ss_meaning.specs.Merge.{Arrival}
use Rattle.ss_meaning.specs.Emit as operator
use Rattle.ss_meaning.specs.Emit.{emit}
use Rattle.ss_meaning.specs.Entries.{held}
use Rattle.ss_meaning.specs.Meaning.{Vertex, Source, Inner, Sink, reads, meaning, merged}
use Rattle.ss_meaning.specs.Meaning as meant
use Rattle.ss_meaning.specs.Positions as position
use Rattle.ss_meaning.specs.Jobs.{IsJob}
use Rattle.ss_state.specs.Numbers.{VertexNumbers, JobNumbers, is_inner, mlen, pos, out, size}

-- how a vertex is recovered: when a snapshot of it is due, and how many replicas it has
pub record Policy : Type 0 where
  pub every : ℕ
  pub replay : Bool
  pub replicas : ℕ

-- what a job allows
pub record Limits : Type 0 where
  pub max_elements : ℕ
  pub collect_every : ℕ

-- how many elements a rule gives at each of these, where p arrived before them
abbrev pub given_counts : (List Arrival → Arrival → List Element) → List Arrival → List Arrival → List ℕ
given_counts give p [] = []
given_counts give p (x ∷ xs) = length (give p x) ∷ given_counts give (p ++ x ∷ []) xs

-- how many entries are held after p, and then after each of these
abbrev pub held_counts : (List Arrival → ℕ) → List Arrival → List Arrival → List ℕ
held_counts hold p [] = hold p ∷ []
held_counts hold p (x ∷ xs) = hold p ∷ held_counts hold (p ++ x ∷ []) xs

-- a source with this list
abbrev pub source_numbers : List Element → Policy → VertexNumbers
source_numbers list policy = record {
  kind = kind.Source;
  inputs = [];
  arrivals = map (λ x. 0) list;
  given = map (λ x. 1) list;
  held = [];
  every = policy.every;
  replay = policy.replay;
  replicas = policy.replicas;
}

-- an operator that reads these vertices, and at which this arrives
abbrev pub operator_numbers : operator.Kind → List ℕ → List Arrival → Policy → VertexNumbers
operator_numbers form inputs arriving policy = record {
  kind = kind.Inner;
  inputs = inputs;
  arrivals = map (λ x. x.input) arriving;
  given = given_counts (emit form (length inputs)) [] arriving;
  held = held_counts (held form (length inputs)) [] arriving;
  every = policy.every;
  replay = policy.replay;
  replicas = policy.replicas;
}

-- a sink that reads this vertex
abbrev pub sink_numbers : ℕ → Policy → VertexNumbers
sink_numbers input policy = record {
  kind = kind.Sink;
  inputs = input ∷ [];
  arrivals = [];
  given = [];
  held = [];
  every = policy.every;
  replay = policy.replay;
  replicas = 0;
}

-- the numbers of vertex v of a job, which has this form
abbrev pub vertex_numbers : Vertex → List Vertex → ℕ → Policy → VertexNumbers
vertex_numbers (Source list) job v policy = source_numbers list policy
vertex_numbers (Inner form inputs) job v policy = operator_numbers form inputs (merged job v) policy
vertex_numbers (Sink input) job v policy = sink_numbers input policy

-- the policy of vertex v
abbrev pub policy_at : List Policy → ℕ → Policy
policy_at policies v = get_or policies v (record { every = 64; replay = false; replicas = 1 })

-- the numbers of vertex v, with its policy
abbrev pub numbers_at : List Vertex → List Policy → ℕ → VertexNumbers
numbers_at job policies v = vertex_numbers (meant.vertex job v) job v (policy_at policies v)

-- the numbers of a job with these policies of its vertices, in their order
unfoldable pub job_numbers : List Vertex → List Policy → Limits → JobNumbers
job_numbers job policies limits = record {
  vertices = map (numbers_at job policies) (range_with_len 0 (length job));
  max_elements = limits.max_elements;
  collect_every = limits.collect_every;
}

-- what a vertex of this form is
abbrev pub kind_of : Vertex → Kind
kind_of (Source list) = kind.Source
kind_of (Inner form inputs) = kind.Inner
kind_of (Sink input) = kind.Sink

-- after the first n elements that arrive, an operator holds what its meaning says
abbrev pub HoldsAsMeant : Vertex → List Vertex → ℕ → VertexNumbers → Type 0
HoldsAsMeant (Source list) job v x = Unit {0}
HoldsAsMeant (Inner form inputs) job v x =
    (n : ℕ) → n ≤ mlen x → get_or x.held n 0 ≡ held form (length inputs) (take n (merged job v))
HoldsAsMeant (Sink input) job v x = Unit {0}

-- the numbers of vertex v are those of its meaning
pub record IsMeant (job : List Vertex) (v : ℕ) (x : VertexNumbers) : Type 0 where
  pub kind : x.kind ≡ kind_of (meant.vertex job v)
  pub inputs : x.inputs ≡ reads (meant.vertex job v)
  pub arrivals : is_inner x.kind ≡ true → x.arrivals ≡ map (λ a. a.input) (merged job v)
  pub mlen : is_sink x.kind ≡ false → mlen x ≡ position.mlen job v
  pub size : is_sink x.kind ≡ false → size x ≡ length (meaning job v)
  pub out : is_sink x.kind ≡ false → (n : ℕ) → n ≤ length x.arrivals → out x n ≡ position.out job v n
  pub pos : is_inner x.kind ≡ true → (n i : ℕ) → pos x n i ≡ position.pos job v n i
  pub held : HoldsAsMeant (meant.vertex job v) job v x

-- vertex u gives a stream
abbrev pub GivesStream : List Vertex → ℕ → Type 0
GivesStream job u = (u < length job) × (is_sink (kind_of (meant.vertex job u)) ≡ false)

-- input i of vertex w is u
pub record IsInput (job : List Vertex) (u w i : ℕ) : Type 0 where
  pub vertex : w < length job
  pub within : i < length (reads (meant.vertex job w))
  pub is : get_or (reads (meant.vertex job w)) i 0 ≡ u

-- a job that can be run with these policies and limits
pub record IsRunnable (job : List Vertex) (policies : List Policy) (limits : Limits) : Type 0 where
  pub means : IsJob job
  -- what is read is a stream, and each stream is read
  pub streams : (u w i : ℕ) → IsInput job u w i → GivesStream job u
  pub read : (u : ℕ) → GivesStream job u → (w i : ℕ) × IsInput job u w i
  pub listed : (v : ℕ) (list : List Element) → v < length job → meant.vertex job v ≡ Source list
      → length list ≤ limits.max_elements
  pub every : (v : ℕ) → v < length job → 0 < (policy_at policies v).every
  pub replicas : (v : ℕ) → v < length job → 0 < (policy_at policies v).replicas
  pub collects : 64 ≤ limits.collect_every
