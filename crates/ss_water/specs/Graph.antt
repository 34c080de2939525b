-- Which nodes make a graph.
use Rattle.std.specs.Prelude.{Some, ◌≡◌, ℕ, ◌<◌, ◌≤◌, Bool, true, false, not, ◌==◌, List, [], ◌∷◌, length, map, take}
use Rattle.std.specs.Prelude.{replicate, refl, slice_get, slice_index}
use Rattle.std.specs.List.{list_any}
use Rattle.std.specs.Option.{option_map_or}
use Rattle.ss_water.specs.declared.node.Kind.{Kind}
use Rattle.ss_water.specs.declared.node.Kind.TheVariants.{Source, Inner, Sink}
use Rattle.ss_water.specs.declared.node.Node.{Node}

abbrev pub is_sink : Kind → Bool
is_sink Source = false
is_sink Inner = false
is_sink Sink = true

-- the numbers of the nodes that a node reads
abbrev pub inputs_of : Node → List ℕ
inputs_of node = take node.width node.inputs

-- a node has this number and gives a stream, as each but a sink does
abbrev pub is_stream : List Node → ℕ → Bool
is_stream nodes v = option_map_or (λ node. not (is_sink node.kind)) (slice_get nodes v) false

abbrev pub reads : Node → ℕ → Bool
reads node v = list_any (λ u. u == v) (inputs_of node)

-- some node reads the node of this number
abbrev pub is_read : List Node → ℕ → Bool
is_read nodes v = list_any (λ node. reads node v) nodes

-- a node of this number has at most 8 inputs, a source none, and each names an earlier node that gives a stream
pub record IsLinkedAt (nodes : List Node) (v : ℕ) (node : Node) : Type 0 where
  pub width : node.width ≤ 8
  pub source : node.kind ≡ Source → node.width ≡ 0
  pub earlier : (i : ℕ) → i < node.width → slice_index node.inputs i < v
  pub stream : (i : ℕ) → i < node.width → is_stream nodes (slice_index node.inputs i) ≡ true

-- at most 32 nodes, each linked as one of its place may be, and each stream read
pub record IsGraph (nodes : List Node) : Type 0 where
  pub count : length nodes ≤ 32
  pub linked : (v : ℕ) (node : Node) → slice_get nodes v ≡ Some node → IsLinkedAt nodes v node
  pub read : (v : ℕ) → is_stream nodes v ≡ true → is_read nodes v ≡ true

-- a source, an inner node that reads it twice, and a sink that reads the inner node
abbrev pub three_nodes : List Node
three_nodes =
    record { kind = Source; inputs = replicate 8 0; width = 0 }
    ∷ record { kind = Inner; inputs = replicate 8 0; width = 2 }
    ∷ record { kind = Sink; inputs = 1 ∷ replicate 7 0; width = 1 }
    ∷ []

pub streams-of-three : map (λ v. is_stream three_nodes v) (0 ∷ 1 ∷ 2 ∷ 3 ∷ []) ≡ true ∷ true ∷ false ∷ false ∷ []
streams-of-three = refl

pub read-of-three : map (λ v. is_read three_nodes v) (0 ∷ 1 ∷ 2 ∷ 3 ∷ []) ≡ true ∷ true ∷ false ∷ false ∷ []
read-of-three = refl
