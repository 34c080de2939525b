-- A plain reader of a document: it looks at one thing after the other and stops at the first that is wrong.
use Rattle.std.specs.Prelude.{ℕ, ◌+◌, ◌&&◌, not, List, [], ◌∷◌, Option, Some, None, option_and_then, nat_lt, Result}
use Rattle.std.specs.Prelude.{Ok, Err, if◌then◌else◌, ⊤}
use Rattle.std.specs.List.{list_any}
use Rattle.toml.specs.Data.{Data, Items, no_items, item, Members, as_array, as_table, get_member}
use Rattle.ss_fail.specs.declared.role.Role.{Role}
use Rattle.ss_job.specs.Document.{has_only}
use Rattle.ss_job.specs.Faults.{fault_of_document, fault_of_vertex, are_tables, item_count}
use Rattle.ss_job.specs.Fields.{◌>>=◌, ◌>>◌, refuse, required, needed, optional, optional_number}
use Rattle.ss_job.specs.Format.{key_of, document_keys, keys_of, limit_fields, most_vertices}
use Rattle.ss_job.specs.JobText.{VertexText, JobText}
use Rattle.ss_job.specs.Vertices.{DraftText, empty_draft, draft_after}
use Rattle.ss_job.specs.declared.fault.JobFault.{JobFault}
use Rattle.ss_job.specs.declared.fault.JobWhy.{JobWhy}
use Rattle.ss_job.specs.declared.fault.JobWhy.TheVariants.{WrongKind, UnknownField, Unread, NoSink, TooManyVertices}
use Rattle.ss_job.specs.declared.field_name.FieldName.TheVariants.{Job, Vertex, MaxElements, CollectEvery}
use Rattle.ss_job.specs.declared.limits.Limits.{Limits}
use Rattle.ss_water.specs.Graph.{is_sink, is_stream, is_read}
use Rattle.ss_water.specs.declared.node.Node.{Node}

-- where a fault is: of no single vertex, or of one
abbrev pub faulty : {A : Type 0} → (JobWhy → JobFault) → Result A JobWhy → Result A JobFault
faulty place (Ok x) = Ok x
faulty place (Err why) = Err (place why)

-- ---- limits

-- the limits where the job says none
abbrev pub default_limits : Limits
default_limits = record { max_elements = 131072; collect_every = 256 }

unfoldable pub limits_from : Members → Result Limits JobWhy
limits_from limits = do
  refuse (not (has_only (keys_of limit_fields) limits)) UnknownField
  max_elements ← optional_number MaxElements 131072 1 131072 limits
  collect_every ← optional_number CollectEvery 256 64 131072 limits
  Ok (record { max_elements = max_elements; collect_every = collect_every })

abbrev pub limits_or : Option Members → Result Limits JobWhy
limits_or None = Ok default_limits
limits_or (Some limits) = limits_from limits

unfoldable pub limits_of : Members → Result Limits JobWhy
limits_of document = do
  limits ← optional as_table Job (get_member (key_of Job) document)
  limits_or limits

-- ---- the array of the vertices

abbrev pub if_tables : Items → Option Items
if_tables items = if are_tables items then Some items else None

abbrev pub as_tables : Data → Option Items
as_tables value = option_and_then if_tables (as_array value)

unfoldable pub items_of : Members → Result Items JobWhy
items_of document = do
  items ← needed as_tables Vertex (get_member (key_of Vertex) document)
  refuse (nat_lt most_vertices (item_count items)) TooManyVertices
  Ok items

-- an item of the array: vertex number v
unfoldable pub draft_at : ℕ → DraftText → Data → Result DraftText JobFault
draft_at v draft value = do
  table ← faulty fault_of_document (required (as_table value) (WrongKind Vertex))
  faulty (fault_of_vertex v) (draft_after draft table)

-- the items one by one, the first of them vertex number v
unfoldable pub drafts_after : ℕ → DraftText → Items → Result DraftText JobFault
drafts_after v draft no_items = Ok draft
drafts_after v draft (item value rest) = do
  next ← draft_at v draft value
  drafts_after (v + 1) next rest

-- ---- the graph

-- each stream from number v on is read
unfoldable pub read_streams : List Node → ℕ → List Node → Result ⊤ JobFault
read_streams nodes v [] = Ok tt
read_streams nodes v (node ∷ rest) = do
  refuse (is_stream nodes v && not (is_read nodes v)) (fault_of_vertex v Unread)
  read_streams nodes (v + 1) rest

unfoldable pub sound_graph : DraftText → Result ⊤ JobFault
sound_graph draft = do
  refuse (not (list_any (λ role. is_sink role.kind) draft.roles)) (fault_of_document NoSink)
  read_streams draft.nodes 0 draft.nodes

-- ---- the document

abbrev pub job_of_parts : List Node → List Role → List VertexText → Limits → JobText
job_of_parts nodes roles vertices limits =
    record {
      graph = nodes;
      roles = roles;
      vertices = vertices;
      max_elements = limits.max_elements;
      collect_every = limits.collect_every;
    }

-- the job of these vertices with these limits
abbrev pub job_with : DraftText → Limits → JobText
job_with draft limits = job_of_parts draft.nodes draft.roles draft.vertices limits

-- the limits and the array of the vertices
unfoldable pub parts_of : Members → Result (Limits × Items) JobWhy
parts_of document = do
  refuse (not (has_only document_keys document)) UnknownField
  limits ← limits_of document
  items ← items_of document
  Ok (limits, items)

unfoldable pub read_document : Members → Result JobText JobFault
read_document document = do
  parts ← faulty fault_of_document (parts_of document)
  draft ← drafts_after 0 empty_draft parts.1
  sound_graph draft
  Ok (job_with draft parts.0)
