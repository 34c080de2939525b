-- A job with what its sources give, and what it means.
use Rattle.std.specs.Prelude.{◌≡◌, ℕ, Bool, true, false, List, [], ◌∷◌, Vec, length, take, drop, map, count_by}
use Rattle.std.specs.Prelude.{get_or, slice_index, All}
use Rattle.std.specs.List.{range_with_len}
use Rattle.std.specs.declared.alloc.Global.{Global}
use Rattle.ss_elem.specs.Validity.{Whole}
use Rattle.ss_elem.specs.declared.element.Element.{Element}
use Rattle.ss_events.specs.Events.{AllSourceTimes}
use Rattle.ss_expr.specs.Operators.{operator_of}
use Rattle.ss_job.specs.JobText.{VertexText, source, inner, sink, JobText}
use Rattle.ss_meaning.specs.Meaning.{Vertex, Source, Inner, Sink, streams_after}
use Rattle.ss_water.specs.declared.node.Node.{Node}

-- a job, and the lists of its sources, in the order of the sources
pub record PlanText : Type 0 where
  pub job : JobText
  pub lists : List (List Element)

-- the lists of elements that vectors hold
abbrev pub lists_of : List (Vec Element Global) → List (List Element)
lists_of lists = map (λ list. list.items) lists

-- the plan of a job whose sources give the lists that these vectors hold
abbrev pub plan_of : JobText → List (Vec Element Global) → PlanText
plan_of job lists = record { job = job; lists = lists_of lists }

-- the numbers of the vertices that a node reads, in the order of its inputs
abbrev pub inputs_read : Node → List ℕ
inputs_read node = map (λ i. slice_index node.inputs i) (range_with_len 0 node.width)

-- a vertex of a job as its meaning has it, where this would be its list if it is a source
abbrev pub vertex_at : Node → VertexText → List Element → Vertex
vertex_at node (source file late) list = Source list
vertex_at node (inner spec policy) list = Inner (operator_of spec) (inputs_read node)
vertex_at node (sink file) list = Sink (slice_index node.inputs 0)

-- the lists that are left for the vertices behind this one: a source takes one
abbrev pub lists_behind : VertexText → List (List Element) → List (List Element)
lists_behind (source file late) lists = drop 1 lists
lists_behind (inner spec policy) lists = lists
lists_behind (sink file) lists = lists

-- the vertices of a job as its meaning has them, where these are the lists of their sources
abbrev pub vertices_with : List Node → List VertexText → List (List Element) → List Vertex
vertices_with [] texts lists = []
vertices_with (node ∷ nodes) [] lists = []
vertices_with (node ∷ nodes) (text ∷ texts) lists =
    vertex_at node text (get_or lists 0 []) ∷ vertices_with nodes texts (lists_behind text lists)

-- the vertices that a plan means: what the laws of meaning speak of
abbrev pub vertices_of : PlanText → List Vertex
vertices_of plan = vertices_with plan.job.graph plan.job.vertices plan.lists

-- the streams of all vertices: `meaning (vertices_of plan) v` is the one under number v
abbrev pub streams_of : PlanText → List (List Element)
streams_of plan = streams_after [] (vertices_of plan)

abbrev pub is_source : VertexText → Bool
is_source (source file late) = true
is_source (inner spec policy) = false
is_source (sink file) = false

-- how many of the vertices before this one are sources
abbrev pub sources_before : JobText → ℕ → ℕ
sources_before job v = count_by is_source (take v job.vertices)

-- the list of vertex v, where it is a source
abbrev pub source_list : PlanText → ℕ → List Element
source_list plan v = get_or plan.lists (sources_before plan.job v) []

-- lists may be those of a job's sources: one for each, whole, with the times that event files may have
pub record AreSourceLists (job : JobText) (lists : List (List Element)) : Type 0 where
  pub count : length lists ≡ count_by is_source job.vertices
  pub whole : All Whole lists
  pub times : All AllSourceTimes lists
