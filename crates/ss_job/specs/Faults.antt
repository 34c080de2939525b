-- All that is wrong with a document, in the order in which it is looked at. The first of it is the document's fault.
use Rattle.std.specs.Prelude.{ℕ, ◌+◌, Bool, true, not, ◌&&◌, List, [], ◌∷◌, ◌++◌, length, map, flat_map, nat_lt}
use Rattle.std.specs.Prelude.{is_some, Option, Some, None, Result, Ok, Err}
use Rattle.std.specs.List.{list_any}
use Rattle.std.specs.Option.{option_map_or}
use Rattle.toml.specs.Data.{Data, Items, no_items, item, Members, get_member, as_str, as_integer, as_array, as_table}
use Rattle.ss_job.specs.Format.{key_of, name_field, op_field, fields_of, limit_fields, document_keys, keys_of}
use Rattle.ss_job.specs.Format.{vertex_keys, most_vertices}
use Rattle.ss_job.specs.JobIn.{tables_in, op_in, nodes_in, job_in}
use Rattle.ss_job.specs.JobText.{JobText}
use Rattle.ss_job.specs.Lookup.{op_named}
use Rattle.ss_job.specs.Wrong.{fault_if, name_faults, number_faults, value_faults, field_faults, unknown_faults}
use Rattle.ss_job.specs.Wrong.{is_sink}
use Rattle.ss_job.specs.declared.fault.JobFault.{JobFault}
use Rattle.ss_job.specs.declared.fault.JobWhy.{JobWhy}
use Rattle.ss_job.specs.declared.fault.JobWhy.TheVariants.{MissingField, WrongKind, BadOp, Unread, NoSink}
use Rattle.ss_job.specs.declared.fault.JobWhy.TheVariants.{TooManyVertices}
use Rattle.ss_job.specs.declared.field_name.FieldName.{FieldName}
use Rattle.ss_job.specs.declared.field_name.FieldName.TheVariants.{Job, Vertex}
use Rattle.ss_job.specs.declared.op.Op.{Op}
use Rattle.ss_water.specs.Graph.{is_stream, is_read}
use Rattle.ss_water.specs.declared.node.Node.{Node}

-- ---- a vertex

abbrev pub op_faults : List ℕ → List JobWhy
op_faults word = fault_if (not (is_some (op_named word))) BadOp

-- its name and its op
abbrev pub called_faults : List Members → Members → List JobWhy
called_faults earlier table =
    field_faults (λ value. option_map_or (name_faults earlier) (as_str value) []) table name_field
    ++ field_faults (λ value. option_map_or op_faults (as_str value) []) table op_field

-- the rest of the table, where the op is one: fields that it doesn't have, and then the fields that it has
abbrev pub rest_faults : List Members → Members → Option Op → List JobWhy
rest_faults earlier table None = []
rest_faults earlier table (Some op) =
    unknown_faults (vertex_keys op) table
    ++ flat_map (λ field. field_faults (value_faults field.name op earlier table) table field) (fields_of op)

-- all that is wrong with the table of a vertex; `earlier` are the tables of those before it
abbrev pub vertex_faults : List Members → Members → List JobWhy
vertex_faults earlier table = called_faults earlier table ++ rest_faults earlier table (op_in table)

-- ---- the document

abbrev pub fault_of_document : JobWhy → JobFault
fault_of_document why = record { vertex = None; why = why }

abbrev pub fault_of_vertex : ℕ → JobWhy → JobFault
fault_of_vertex v why = record { vertex = Some v; why = why }

abbrev pub limit_value_faults : FieldName → Members → Data → List JobWhy
limit_value_faults field limits value = option_map_or (number_faults field limits) (as_integer value) []

-- the table of limits
abbrev pub limit_faults : Members → List JobWhy
limit_faults limits =
    unknown_faults (keys_of limit_fields) limits
    ++ flat_map (λ field. field_faults (limit_value_faults field.name limits) limits field) limit_fields

abbrev pub limits_faults : Option Data → List JobWhy
limits_faults None = []
limits_faults (Some value) = option_map_or limit_faults (as_table value) (WrongKind Job ∷ [])

-- each item is a table
abbrev pub are_tables : Items → Bool
are_tables no_items = true
are_tables (item value rest) = is_some (as_table value) && are_tables rest

abbrev pub item_count : Items → ℕ
item_count no_items = 0
item_count (item value rest) = item_count rest + 1

-- the array of the vertices
abbrev pub items_faults : Items → List JobWhy
items_faults items =
    fault_if (not (are_tables items)) (WrongKind Vertex)
    ++ fault_if (nat_lt most_vertices (item_count items)) TooManyVertices

abbrev pub array_faults : Option Data → List JobWhy
array_faults None = MissingField Vertex ∷ []
array_faults (Some value) = option_map_or items_faults (as_array value) (WrongKind Vertex ∷ [])

-- the vertices one by one, where `earlier` stand before them
abbrev pub vertices_faults : List Members → List Members → List JobFault
vertices_faults earlier [] = []
vertices_faults earlier (table ∷ tables) =
    map (fault_of_vertex (length earlier)) (vertex_faults earlier table)
    ++ vertices_faults (earlier ++ table ∷ []) tables

-- the streams from number v on that nothing reads
abbrev pub unread_faults : List Node → ℕ → List Node → List JobFault
unread_faults nodes v [] = []
unread_faults nodes v (node ∷ rest) =
    map (fault_of_vertex v) (fault_if (is_stream nodes v && not (is_read nodes v)) Unread)
    ++ unread_faults nodes (v + 1) rest

-- the graph that the vertices make
abbrev pub graph_faults : List Members → List JobFault
graph_faults tables =
    map fault_of_document (fault_if (not (list_any is_sink tables)) NoSink)
    ++ unread_faults (nodes_in tables) 0 (nodes_in tables)

-- all that is wrong with a document, in the order in which it is looked at
abbrev pub faults : Members → List JobFault
faults document =
    map fault_of_document (
    unknown_faults document_keys document
    ++ limits_faults (get_member (key_of Job) document)
    ++ array_faults (get_member (key_of Vertex) document)
    )
    ++ vertices_faults [] (tables_in document)
    ++ graph_faults (tables_in document)

-- a value, unless something is wrong: then the first of it
abbrev pub first_fault_or : {A F : Type 0} → List F → A → Result A F
first_fault_or [] value = Ok value
first_fault_or (fault ∷ others) value = Err fault

-- the job that a document says, or its first fault
abbrev pub job_of : Members → Result JobText JobFault
job_of document = first_fault_or (faults document) (job_in document)
