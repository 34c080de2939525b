-- The format of a job file as a table: which fields there are, in the order in which they are looked at, and what
-- each holds.
use Rattle.std.specs.Prelude.{ℕ, Bool, true, false, ◌&&◌, List, [], ◌∷◌, map, codes, is_some}
use Rattle.toml.specs.Data.{Data, Items, no_items, item, as_str, as_integer, array}
use Rattle.ss_job.specs.declared.field_name.FieldName.{FieldName}
use Rattle.ss_job.specs.declared.field_name.FieldName.TheVariants.{Job, Vertex, MaxElements, CollectEvery, Name, Op}
use Rattle.ss_job.specs.declared.field_name.FieldName.TheVariants.{Inputs, File, Late, Where, A, B, C, D, Size, Hop, Gap}
use Rattle.ss_job.specs.declared.field_name.FieldName.TheVariants.{Agg, Of, Recover, Every, Replicas}
use Rattle.ss_job.specs.declared.op.Op.{Op as Operator}
use Rattle.ss_job.specs.declared.op.Op.TheVariants.{Source, Select, Union, Window, Join, Session, Except, Sink}

-- the key under which a field stands
abbrev pub key_of : FieldName → List ℕ
key_of Job = codes "job"
key_of Vertex = codes "vertex"
key_of MaxElements = codes "max_elements"
key_of CollectEvery = codes "collect_every"
key_of Name = codes "name"
key_of Op = codes "op"
key_of Inputs = codes "inputs"
key_of File = codes "file"
key_of Late = codes "late"
key_of Where = codes "where"
key_of A = codes "a"
key_of B = codes "b"
key_of C = codes "c"
key_of D = codes "d"
key_of Size = codes "size"
key_of Hop = codes "hop"
key_of Gap = codes "gap"
key_of Agg = codes "agg"
key_of Of = codes "of"
key_of Recover = codes "recover"
key_of Every = codes "every"
key_of Replicas = codes "replicas"

-- what a value has to be: a text, a whole number, or an array of texts
pub data Shape : Type 0 where
  text : Shape
  number : Shape
  texts : Shape

-- each item is a text
abbrev pub are_texts : Items → Bool
are_texts no_items = true
are_texts (item value rest) = is_some (as_str value) && are_texts rest

abbrev pub is_array_of_texts : Data → Bool
is_array_of_texts (array items) = are_texts items
is_array_of_texts _ = false

abbrev pub has_shape : Shape → Data → Bool
has_shape text value = is_some (as_str value)
has_shape number value = is_some (as_integer value)
has_shape texts value = is_array_of_texts value

-- a line of the table
pub record Field : Type 0 where
  pub name : FieldName
  pub shape : Shape
  pub required : Bool

abbrev pub has : FieldName → Shape → Field
has name shape = record { name = name; shape = shape; required = true }

abbrev pub may_have : FieldName → Shape → Field
may_have name shape = record { name = name; shape = shape; required = false }

-- the fields of the document itself, and of its table of limits
abbrev pub document_keys : List (List ℕ)
document_keys = key_of Job ∷ key_of Vertex ∷ []

abbrev pub limit_fields : List Field
limit_fields = may_have MaxElements number ∷ may_have CollectEvery number ∷ []

-- the two fields that tell which other fields a vertex has
abbrev pub name_field : Field
name_field = has Name text

abbrev pub op_field : Field
op_field = has Op text

-- what each vertex but a source and a sink may have
abbrev pub inner_fields : List Field
inner_fields = may_have Recover text ∷ may_have Every number ∷ may_have Replicas number ∷ []

-- the other fields of a vertex
abbrev pub fields_of : Operator → List Field
fields_of Source = has File text ∷ may_have Late text ∷ may_have Replicas number ∷ []
fields_of Select =
    has Inputs texts ∷ may_have Where text ∷ may_have A text ∷ may_have B text ∷ may_have C text ∷ may_have D text
    ∷ inner_fields
fields_of Union = has Inputs texts ∷ inner_fields
fields_of Window = has Inputs texts ∷ has Hop number ∷ has Size number ∷ has Agg text ∷ may_have Of text ∷ inner_fields
fields_of Join = has Inputs texts ∷ inner_fields
fields_of Session = has Inputs texts ∷ has Gap number ∷ has Agg text ∷ may_have Of text ∷ inner_fields
fields_of Except = has Inputs texts ∷ inner_fields
fields_of Sink = has Inputs texts ∷ has File text ∷ []

-- the keys of these fields
abbrev pub keys_of : List Field → List (List ℕ)
keys_of fields = map (λ field. key_of field.name) fields

-- the keys that a vertex may have
abbrev pub vertex_keys : Operator → List (List ℕ)
vertex_keys op = key_of Name ∷ key_of Op ∷ keys_of (fields_of op)

-- the fewest and the most inputs of a vertex
abbrev pub fewest_inputs : Operator → ℕ
fewest_inputs Source = 0
fewest_inputs Select = 1
fewest_inputs Union = 2
fewest_inputs Window = 1
fewest_inputs Join = 2
fewest_inputs Session = 1
fewest_inputs Except = 2
fewest_inputs Sink = 1

abbrev pub most_inputs : Operator → ℕ
most_inputs Source = 0
most_inputs Select = 1
most_inputs Union = 8
most_inputs Window = 1
most_inputs Join = 2
most_inputs Session = 1
most_inputs Except = 2
most_inputs Sink = 1

-- the most vertices of a job
abbrev pub most_vertices : ℕ
most_vertices = 32
