-- A plain reader of the vertices: one after the other, each by those before it.
use Rattle.std.specs.Prelude.{ℕ, ◌-◌, ◌^◌, Bool, false, not, List, [], ◌∷◌, ◌++◌, length, replicate, Result, Ok, Err}
use Rattle.std.specs.Prelude.{bytes_eq, codes, if◌then◌else◌}
use Rattle.std.specs.List.{list_any, position}
use Rattle.toml.specs.Data.{Data, Items, no_items, item, Members, as_str}
use Rattle.ss_expr.specs.declared.stream_operator.Spec.{Spec}
use Rattle.ss_expr.specs.declared.stream_operator.Spec.TheVariants as spec
use Rattle.ss_fail.specs.declared.role.Role.{Role}
use Rattle.ss_job.specs.Document.{has_only}
use Rattle.ss_job.specs.Faults.{item_count}
use Rattle.ss_job.specs.Fields.{◌>>=◌, ◌>>◌, refuse, required, needed_text, needed_texts, needed_number}
use Rattle.ss_job.specs.Fields.{optional_number, size_of, late_of, value_of, replay_of, agg_of, test_of}
use Rattle.ss_job.specs.Fields.{row_number_of}
use Rattle.ss_job.specs.Format.{vertex_keys}
use Rattle.ss_job.specs.JobIn.{kind_of}
use Rattle.ss_job.specs.JobText.{VertexText, source, inner, sink}
use Rattle.ss_job.specs.Lookup.{op_named}
use Rattle.ss_job.specs.LegalNames.{is_vertex_name, is_file_name}
use Rattle.ss_job.specs.Wrong.{is_among, has_input_count}
use Rattle.ss_job.specs.declared.fault.JobWhy.{JobWhy}
use Rattle.ss_job.specs.declared.fault.JobWhy.TheVariants.{WrongKind, UnknownField, BadName, RepeatedName}
use Rattle.ss_job.specs.declared.fault.JobWhy.TheVariants.{RepeatedFile, BadOp, LaterInput, SinkAsInput}
use Rattle.ss_job.specs.declared.fault.JobWhy.TheVariants.{WrongInputCount}
use Rattle.ss_job.specs.declared.field_name.FieldName.TheVariants.{Name, Op as OpField, Inputs, File, A, B, C, D, Hop}
use Rattle.ss_job.specs.declared.field_name.FieldName.TheVariants.{Gap, Every, Replicas}
use Rattle.ss_job.specs.declared.op.Op.{Op}
use Rattle.ss_job.specs.declared.op.Op.TheVariants as op
use Rattle.ss_job.specs.declared.policy.Policy.{Policy}
use Rattle.ss_water.specs.Graph.{is_stream}
use Rattle.ss_water.specs.declared.node.Node.{Node}

-- what the vertices before one have made of the job
pub record DraftText : Type 0 where
  pub names : List (List ℕ)
  pub roles : List Role
  pub nodes : List Node
  pub vertices : List VertexText

-- nothing is read yet
abbrev pub empty_draft : DraftText
empty_draft = record { names = []; roles = []; nodes = []; vertices = [] }

-- what the fields of a vertex say besides its name and its op
pub record EntryText : Type 0 where
  pub inputs : List ℕ
  pub replicas : ℕ
  pub vertex : VertexText

-- ---- name and op

unfoldable pub name_of : List (List ℕ) → Members → Result (List ℕ) JobWhy
name_of names table = do
  name ← needed_text Name table
  refuse (not (is_vertex_name name)) BadName
  refuse (is_among name names) RepeatedName
  Ok name

unfoldable pub op_of : Members → Result Op JobWhy
op_of table = do
  word ← needed_text OpField table
  required (op_named word) BadOp

-- ---- inputs

abbrev pub if_stream : List Node → ℕ → Result ℕ JobWhy
if_stream nodes v = if is_stream nodes v then Ok v else Err SinkAsInput

-- the number of the input with this name
unfoldable pub input_of : DraftText → List ℕ → Result ℕ JobWhy
input_of draft name = do
  v ← required (position (λ other. bytes_eq name other) draft.names) LaterInput
  if_stream draft.nodes v

-- an item of the array of inputs
unfoldable pub input_at : DraftText → Data → Result ℕ JobWhy
input_at draft value = do
  name ← required (as_str value) (WrongKind Inputs)
  input_of draft name

unfoldable pub numbers_of : DraftText → Items → Result (List ℕ) JobWhy
numbers_of draft no_items = Ok []
numbers_of draft (item value rest) = do
  v ← input_at draft value
  others ← numbers_of draft rest
  Ok (v ∷ others)

unfoldable pub inputs_of : DraftText → Op → Members → Result (List ℕ) JobWhy
inputs_of draft op table = do
  items ← needed_texts Inputs table
  refuse (not (has_input_count op (item_count items))) WrongInputCount
  numbers_of draft items

-- ---- files

unfoldable pub source_file_of : Members → Result (List ℕ) JobWhy
source_file_of table = do
  file ← needed_text File table
  refuse (not (is_file_name file)) BadName
  refuse (bytes_eq file (codes "-")) BadName
  Ok file

-- a sink writes to this file
abbrev pub writes_to : List ℕ → VertexText → Bool
writes_to file (source other late) = false
writes_to file (inner s policy) = false
writes_to file (sink other) = bytes_eq file other

unfoldable pub sink_file_of : List VertexText → Members → Result (List ℕ) JobWhy
sink_file_of vertices table = do
  file ← needed_text File table
  refuse (not (is_file_name file)) BadName
  refuse (list_any (writes_to file) vertices) RepeatedFile
  Ok file

-- ---- what a vertex does

unfoldable pub policy_of : Members → Result Policy JobWhy
policy_of table = do
  replay ← replay_of table
  every ← optional_number Every 64 1 131072 table
  replicas ← optional_number Replicas 1 1 4 table
  Ok (record { replay = replay; every = every; replicas = replicas })

unfoldable pub select_of : Members → Result Spec JobWhy
select_of table = do
  test ← test_of table
  a ← row_number_of A (codes "a") table
  b ← row_number_of B (codes "b") table
  c ← row_number_of C (codes "c") table
  d ← row_number_of D (codes "d") table
  Ok (spec.Select test a b c d)

unfoldable pub window_of : Members → Result Spec JobWhy
window_of table = do
  hop ← needed_number Hop 1 (2 ^ 40) table
  size ← size_of hop table
  agg ← agg_of table
  value ← value_of table
  Ok (spec.Window size hop agg value)

unfoldable pub session_of : Members → Result Spec JobWhy
session_of table = do
  gap ← needed_number Gap 1 (2 ^ 40) table
  agg ← agg_of table
  value ← value_of table
  Ok (spec.Session gap agg value)

-- an operator with these inputs that computes this
unfoldable pub operator_of : List ℕ → Spec → Members → Result EntryText JobWhy
operator_of inputs s table = do
  policy ← policy_of table
  Ok (record { inputs = inputs; replicas = policy.replicas; vertex = inner s policy })

unfoldable pub source_of : Members → Result EntryText JobWhy
source_of table = do
  file ← source_file_of table
  late ← late_of table
  replicas ← optional_number Replicas 1 1 4 table
  Ok (record { inputs = []; replicas = replicas; vertex = source file late })

unfoldable pub select_entry : DraftText → Members → Result EntryText JobWhy
select_entry draft table = do
  inputs ← inputs_of draft op.Select table
  s ← select_of table
  operator_of inputs s table

unfoldable pub window_entry : DraftText → Members → Result EntryText JobWhy
window_entry draft table = do
  inputs ← inputs_of draft op.Window table
  s ← window_of table
  operator_of inputs s table

unfoldable pub session_entry : DraftText → Members → Result EntryText JobWhy
session_entry draft table = do
  inputs ← inputs_of draft op.Session table
  s ← session_of table
  operator_of inputs s table

-- an operator of which the op says all
unfoldable pub plain_entry : DraftText → Op → Spec → Members → Result EntryText JobWhy
plain_entry draft op s table = do
  inputs ← inputs_of draft op table
  operator_of inputs s table

unfoldable pub sink_of : DraftText → Members → Result EntryText JobWhy
sink_of draft table = do
  inputs ← inputs_of draft op.Sink table
  file ← sink_file_of draft.vertices table
  Ok (record { inputs = inputs; replicas = 1; vertex = sink file })

abbrev pub entry_of : DraftText → Op → Members → Result EntryText JobWhy
entry_of draft op.Source table = source_of table
entry_of draft op.Select table = select_entry draft table
entry_of draft op.Union table = plain_entry draft op.Union spec.Union table
entry_of draft op.Window table = window_entry draft table
entry_of draft op.Join table = plain_entry draft op.Join spec.Join table
entry_of draft op.Session table = session_entry draft table
entry_of draft op.Except table = plain_entry draft op.Except spec.Except table
entry_of draft op.Sink table = sink_of draft table

-- ---- a vertex more

-- the numbers of the inputs, and behind them zeros up to eight
abbrev pub padded : List ℕ → List ℕ
padded inputs = inputs ++ replicate (8 - length inputs) 0

abbrev pub role_with : List ℕ → Op → EntryText → Role
role_with name op entry = record { name = name; kind = kind_of op; replicas = entry.replicas }

abbrev pub node_with : Op → EntryText → Node
node_with op entry = record { kind = kind_of op; inputs = padded entry.inputs; width = length entry.inputs }

-- a draft with a vertex more
abbrev pub with_vertex : DraftText → List ℕ → Op → EntryText → DraftText
with_vertex draft name op entry =
    record {
      names = draft.names ++ name ∷ [];
      roles = draft.roles ++ role_with name op entry ∷ [];
      nodes = draft.nodes ++ node_with op entry ∷ [];
      vertices = draft.vertices ++ entry.vertex ∷ [];
    }

-- a draft with the vertex of this table
unfoldable pub draft_after : DraftText → Members → Result DraftText JobWhy
draft_after draft table = do
  name ← name_of draft.names table
  op ← op_of table
  refuse (not (has_only (vertex_keys op) table)) UnknownField
  entry ← entry_of draft op table
  Ok (with_vertex draft name op entry)
