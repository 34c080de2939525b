-- Some of the streams of a plan.
use Rattle.std.specs.Prelude.{◌≡◌, ℕ, ◌<◌, ◌^◌, Bool, true, false, List, [], length, map, get_or, All}
use Rattle.ss_elem.specs.Validity.{Whole}
use Rattle.ss_elem.specs.declared.element.Element.{Element}
use Rattle.ss_expr.specs.Operators.{operator_of}
use Rattle.ss_expr.specs.declared.stream_operator.Spec.{Spec}
use Rattle.ss_meaning.specs.Emit.{output}
use Rattle.ss_meaning.specs.Jobs.{IsBefore}
use Rattle.ss_meaning.specs.Meaning.{Vertex, reads, vertex, meaning, streams_at}
use Rattle.ss_meaning.specs.Merge.{merge}
use Rattle.ss_plan.specs.Plan.{PlanText, inputs_read, vertices_of}
use Rattle.ss_water.specs.declared.node.Node.{Node}

-- whether the stream of vertex v is wanted
abbrev pub is_wanted : List Bool → ℕ → Bool
is_wanted wanted v = get_or wanted v false

-- every vertex is
abbrev pub every : ℕ → Bool
every v = true

-- what a wanted stream is computed from is wanted too
abbrev pub IsClosed : List Vertex → List Bool → Type 0
IsClosed job wanted = (v : ℕ) → is_wanted wanted v ≡ true → All (λ w. is_wanted wanted w ≡ true) (reads (vertex job v))

-- of the first so many vertices these are the streams that are wanted
pub record AreStreams (job : List Vertex) (wanted : List Bool) (n : ℕ) (streams : List (List Element)) : Type 0 where
  pub many : length streams ≡ n
  pub each : (v : ℕ) → v < n → is_wanted wanted v ≡ true → get_or streams v [] ≡ meaning job v

-- of all vertices of a plan these are
abbrev pub AreWanted : PlanText → List Bool → List (List Element) → Type 0
AreWanted plan wanted streams = AreStreams (vertices_of plan) wanted (length wanted) streams

-- the streams of what a node reads, in the order of its inputs
abbrev pub streams_read : List (List Element) → Node → List (List Element)
streams_read streams node = streams_at streams (inputs_read node)

-- what an operator at a node gives over the merge of these
abbrev pub operated : Spec → Node → List (List Element) → List Element
operated spec node streams = output (operator_of spec) (length (inputs_read node)) (merge (streams_read streams node))

-- the streams hold what vertex v reads
abbrev pub HoldInputs : List Vertex → ℕ → List (List Element) → Type 0
HoldInputs job v streams = All (λ w. get_or streams w [] ≡ meaning job w) (reads (vertex job v))

-- streams may arrive at an operator: they are whole, and their times below 2^63
pub record MayArrive (lists : List (List Element)) : Type 0 where
  pub whole : All Whole lists
  pub times : All (All (IsBefore (2 ^ 63))) lists
