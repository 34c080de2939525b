-- Which streams a vertex is computed from.
use Rattle.std.specs.Prelude.{◌≡◌, ℕ, zero, suc, ◌<◌, Bool, ◌||◌, ◌==◌, List, length, slice_index}
use Rattle.std.specs.List.{list_any}
use Rattle.ss_meaning.specs.Meaning.{Vertex, reads, vertex}
use Rattle.ss_water.specs.declared.node.Node.{Node}

-- vertex v is u, or leads to it in at most so many steps from a vertex to one that it reads
abbrev pub leads_to : ℕ → List Vertex → ℕ → ℕ → Bool
leads_to zero job v u = v == u
leads_to (suc steps) job v u = v == u || list_any (λ w. leads_to steps job w u) (reads (vertex job v))

-- vertex v is computed from the stream of u: it is u, or reads a vertex that is
abbrev pub depends_on : List Vertex → ℕ → ℕ → Bool
depends_on job v u = leads_to (length job) job v u

-- u is an input of a node
abbrev pub IsInput : Node → ℕ → Type 0
IsInput node u = (i : ℕ) × (i < node.width) × (slice_index node.inputs i ≡ u)
