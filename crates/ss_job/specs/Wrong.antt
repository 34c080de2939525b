-- What can be wrong with the value of a field.
use Rattle.std.specs.Prelude.{ℕ, ◌*◌, ◌%◌, ◌^◌, ◌==◌, ℤ, pos, negsuc, Bool, false, not, ◌&&◌, List, [], ◌∷◌, ◌++◌}
use Rattle.std.specs.Prelude.{length, map, flat_map, filter, nat_le, is_none, Option, Some, None, Result, Ok, Err}
use Rattle.std.specs.Prelude.{bytes_eq, codes, slice_get, if◌then◌else◌}
use Rattle.std.specs.List.{list_any, position}
use Rattle.std.specs.Option.{option_map_or}
use Rattle.toml.specs.Data.{Data, Members, get_member, integer, string, array}
use Rattle.ss_expr.specs.Kinds.{kind_fault}
use Rattle.ss_expr.specs.Reading.{expression_of}
use Rattle.ss_expr.specs.Tree.{Tree}
use Rattle.ss_expr.specs.declared.fault.ExprFault.{ExprFault}
use Rattle.ss_expr.specs.declared.kind.ValueKind.{ValueKind}
use Rattle.ss_expr.specs.declared.kind.ValueKind.TheVariants.{Truth, Num}
use Rattle.ss_job.specs.Document.{has_only}
use Rattle.ss_job.specs.Format.{Field, key_of, has_shape, fewest_inputs, most_inputs}
use Rattle.ss_job.specs.Lookup.{text_in, number_in, texts_of, late_named, agg_named, value_named, replay_named}
use Rattle.ss_job.specs.LegalNames.{is_vertex_name, is_file_name}
use Rattle.ss_job.specs.declared.fault.JobWhy.{JobWhy}
use Rattle.ss_job.specs.declared.fault.JobWhy.TheVariants.{MissingField, WrongKind, UnknownField, BadName}
use Rattle.ss_job.specs.declared.fault.JobWhy.TheVariants.{RepeatedName, RepeatedFile, BadWord, LaterInput}
use Rattle.ss_job.specs.declared.fault.JobWhy.TheVariants.{SinkAsInput, WrongInputCount, BadRange, BadExpr}
use Rattle.ss_job.specs.declared.field_name.FieldName.{FieldName}
use Rattle.ss_job.specs.declared.field_name.FieldName.TheVariants.{MaxElements, CollectEvery, Name, Op, File, Late}
use Rattle.ss_job.specs.declared.field_name.FieldName.TheVariants.{Where, A, B, C, D, Size, Hop, Gap, Agg, Of, Recover}
use Rattle.ss_job.specs.declared.field_name.FieldName.TheVariants.{Every, Replicas}
use Rattle.ss_job.specs.declared.op.Op.{Op as Operator}
use Rattle.ss_job.specs.declared.op.Op.TheVariants.{Sink}

-- one thing is wrong where the test holds, else nothing
abbrev pub fault_if : Bool → JobWhy → List JobWhy
fault_if test why = if test then why ∷ [] else []

-- one text is among others
abbrev pub is_among : List ℕ → List (List ℕ) → Bool
is_among text others = list_any (λ other. bytes_eq text other) others

-- the number is one from `least` to `most`
abbrev pub is_within : ℕ → ℕ → ℤ → Bool
is_within least most (pos n) = nat_le least n && nat_le n most
is_within least most (negsuc n) = false

abbrev pub out_of_range : FieldName → ℕ → ℕ → ℤ → JobWhy
out_of_range name least most got = BadRange name got (pos least) (pos most)

abbrev pub range_faults : FieldName → ℕ → ℕ → ℤ → List JobWhy
range_faults name least most got = fault_if (not (is_within least most got)) (out_of_range name least most got)

-- the number is a multiple of another that is not 0
abbrev pub is_multiple : ℕ → ℤ → Bool
is_multiple of (pos n) = n % of == 0
is_multiple of (negsuc n) = false

-- a size is one to 64 hops, and whole hops
abbrev pub size_faults : ℕ → ℤ → List JobWhy
size_faults hop got =
    fault_if (not (is_within hop (64 * hop) got && is_multiple hop got)) (out_of_range Size hop (64 * hop) got)

abbrev pub word_faults : {A : Type 0} → (List ℕ → Option A) → FieldName → List ℕ → List JobWhy
word_faults named name word = fault_if (is_none (named word)) (BadWord name)

-- an expression that doesn't parse, or isn't of the kind that is wanted
abbrev pub kind_faults : FieldName → Option ℕ → List JobWhy
kind_faults field None = []
kind_faults field (Some at) = BadExpr field at ∷ []

abbrev pub tree_faults : FieldName → ValueKind → Result Tree ExprFault → List JobWhy
tree_faults name kind (Err fault) = BadExpr name fault.at ∷ []
tree_faults name kind (Ok e) = kind_faults name (kind_fault e kind)

abbrev pub expression_faults : FieldName → ValueKind → List ℕ → List JobWhy
expression_faults name kind text = tree_faults name kind (expression_of text)

-- ---- what the vertices before one say; `earlier` are their tables

abbrev pub names_in : List Members → List (List ℕ)
names_in earlier = map (λ table. option_map_or (λ name. name) (text_in Name table) []) earlier

abbrev pub is_sink : Members → Bool
is_sink table = option_map_or (λ word. bytes_eq word (codes "sink")) (text_in Op table) false

-- the files of the sinks
abbrev pub sink_files : List Members → List (List ℕ)
sink_files earlier = map (λ table. option_map_or (λ file. file) (text_in File table) []) (filter is_sink earlier)

-- the number of the vertex of that name
abbrev pub number_of : List Members → List ℕ → Option ℕ
number_of earlier name = position (λ other. bytes_eq name other) (names_in earlier)

-- ---- values that are texts

abbrev pub name_faults : List Members → List ℕ → List JobWhy
name_faults earlier name =
    fault_if (not (is_vertex_name name)) BadName ++ fault_if (is_among name (names_in earlier)) RepeatedName

abbrev pub source_file_faults : List ℕ → List JobWhy
source_file_faults file = fault_if (not (is_file_name file)) BadName ++ fault_if (bytes_eq file (codes "-")) BadName

abbrev pub sink_file_faults : List Members → List ℕ → List JobWhy
sink_file_faults earlier file =
    fault_if (not (is_file_name file)) BadName ++ fault_if (is_among file (sink_files earlier)) RepeatedFile

abbrev pub file_faults : Operator → List Members → List ℕ → List JobWhy
file_faults Sink earlier file = sink_file_faults earlier file
file_faults _ earlier file = source_file_faults file

-- ---- inputs

-- an input names an earlier vertex, which is no sink
abbrev pub is_sink_at : List Members → ℕ → Bool
is_sink_at earlier v = option_map_or is_sink (slice_get earlier v) false

abbrev pub input_faults : List Members → List ℕ → List JobWhy
input_faults earlier name =
    option_map_or (λ v. fault_if (is_sink_at earlier v) SinkAsInput) (number_of earlier name) (LaterInput ∷ [])

abbrev pub has_input_count : Operator → ℕ → Bool
has_input_count op count = nat_le (fewest_inputs op) count && nat_le count (most_inputs op)

abbrev pub inputs_faults : Operator → List Members → List (List ℕ) → List JobWhy
inputs_faults op earlier names =
    fault_if (not (has_input_count op (length names))) WrongInputCount ++ flat_map (input_faults earlier) names

-- ---- a value of the right kind, by its field

-- what is wrong with the text of a field of a vertex
abbrev pub text_faults : FieldName → Operator → List Members → List ℕ → List JobWhy
text_faults File op earlier word = file_faults op earlier word
text_faults Late op earlier word = word_faults late_named Late word
text_faults Where op earlier word = expression_faults Where Truth word
text_faults A op earlier word = expression_faults A Num word
text_faults B op earlier word = expression_faults B Num word
text_faults C op earlier word = expression_faults C Num word
text_faults D op earlier word = expression_faults D Num word
text_faults Agg op earlier word = word_faults agg_named Agg word
text_faults Of op earlier word = word_faults value_named Of word
text_faults Recover op earlier word = word_faults replay_named Recover word
text_faults _ op earlier word = []

-- what is wrong with the number of a field; `table` has the hop of a size
abbrev pub number_faults : FieldName → Members → ℤ → List JobWhy
number_faults MaxElements table got = range_faults MaxElements 1 131072 got
number_faults CollectEvery table got = range_faults CollectEvery 64 131072 got
number_faults Hop table got = range_faults Hop 1 (2 ^ 40) got
number_faults Gap table got = range_faults Gap 1 (2 ^ 40) got
number_faults Size table got = size_faults (number_in Hop 0 table) got
number_faults Every table got = range_faults Every 1 131072 got
number_faults Replicas table got = range_faults Replicas 1 4 got
number_faults _ table got = []

-- what is wrong with a value of the right kind
abbrev pub value_faults : FieldName → Operator → List Members → Members → Data → List JobWhy
value_faults field op earlier table (string word) = text_faults field op earlier word
value_faults field op earlier table (integer got) = number_faults field table got
value_faults field op earlier table (array items) = inputs_faults op earlier (texts_of items)
value_faults field op earlier table _ = []

-- ---- a field of a table

-- a field that is missing, that holds another kind of value, or whose value is at fault as `wrong` says
abbrev pub said_faults : (Data → List JobWhy) → Field → Option Data → List JobWhy
said_faults wrong field None = fault_if field.required (MissingField field.name)
said_faults wrong field (Some value) = if has_shape field.shape value then wrong value else WrongKind field.name ∷ []

abbrev pub field_faults : (Data → List JobWhy) → Members → Field → List JobWhy
field_faults wrong table field = said_faults wrong field (get_member (key_of field.name) table)

abbrev pub unknown_faults : List (List ℕ) → Members → List JobWhy
unknown_faults keys table = fault_if (not (has_only keys table)) UnknownField
