-- Each vertex is read as what the format says of it.
use Rattle.std.proofs.Common.{◌≡◌, ℕ, ◌<◌, Bool, true, false, not, List, [], ◌∷◌, ◌++◌, cond, length, map, Result, Ok, Err, Option, Some, None, refl, sym, ap, ◌∙◌, inl, inr, append_assoc, bytes_eq, arith}
use Rattle.std.proofs.lemmas.Bool.{cases_Bool, false≢true}
use Rattle.std.proofs.lemmas.Grind.{flat_map-append}
use Rattle.std.proofs.lemmas.List.{length-map}
use Rattle.std.proofs.lemmas.List.Quantifiers.{position-Some}
use Rattle.std.specs.Prelude.{codes, is_some, unwrap_or, option_and_then, flat_map}
use Rattle.std.specs.List.{list_any}
use Rattle.std.specs.Option.{option_map_or}
use Rattle.toml.specs.Data.{Data, string, integer, float, boolean, datetime, array, table, Items, no_items, item, Members, get_member, as_str, as_array}
use Rattle.ss_expr.specs.declared.stream_operator.Spec.{Spec}
use Rattle.ss_expr.specs.declared.stream_operator.Spec.TheVariants as spec
use Rattle.ss_job.specs.Document.{has_only}
use Rattle.ss_job.specs.Faults.{first_fault_or, item_count, rest_faults, vertex_faults}
use Rattle.ss_job.specs.Fields.{◌>>=◌, ◌>>◌, refuse, required, needed, as_texts, needed_text, needed_texts}
use Rattle.ss_job.specs.Format.{Field, key_of, has, may_have, text, number, texts, are_texts, name_field, op_field, inner_fields, fields_of, vertex_keys}
use Rattle.ss_job.specs.JobIn.{op_in, op_or_source, policy_in, select_in, window_in, session_in, file_in, vertex_with, inputs_in, nodes_in}
use Rattle.ss_job.specs.JobText.{inner}
use Rattle.ss_job.specs.Lookup.{op_named, text_in, number_in, texts_of}
use Rattle.ss_job.specs.LegalNames.{is_vertex_name, is_file_name}
use Rattle.ss_job.specs.Vertices.{EntryText, name_of, op_of, if_stream, input_of, input_at, numbers_of, inputs_of, source_file_of, sink_file_of, writes_to, policy_of, select_of, window_of, session_of, operator_of, source_of, select_entry, window_entry, session_entry, plain_entry, sink_of, entry_of, with_vertex, draft_after}
use Rattle.ss_job.specs.Wrong.{fault_if, name_faults, names_in, is_among, sink_files, input_faults, inputs_faults, is_sink_at, number_of, has_input_count, said_faults, field_faults, value_faults}
use Rattle.ss_job.specs.declared.fault.JobWhy.{JobWhy}
use Rattle.ss_job.specs.declared.fault.JobWhy.TheVariants.{BadName, RepeatedName, RepeatedFile, BadOp, UnknownField, LaterInput, SinkAsInput, WrongInputCount}
use Rattle.ss_job.specs.declared.field_name.FieldName.TheVariants.{Name, Op as OpField, Inputs, File, A, B, C, D, Where, Size, Hop, Gap, Agg, Of, Replicas}
use Rattle.ss_job.specs.declared.op.Op.{Op}
use Rattle.ss_job.specs.declared.op.Op.TheVariants as op
use Rattle.ss_job.proofs.Absent.{get_member-absent}
use Rattle.ss_job.proofs.Earlier.{draft_in, draft_in-push, streams_within, written-files}
use Rattle.ss_job.proofs.FieldReadings.{needed_text_reads, hop_reads, gap_reads, size_reads, every_reads, replicas_reads, late_reads, value_reads, replay_reads, agg_reads, test_reads, a_reads, b_reads, c_reads, d_reads}
use Rattle.ss_job.proofs.Readings.{Reads, then, done, refused, made}

-- ---- name and op

abbrev pub name_wrong : List Members → Data → List JobWhy
name_wrong earlier value = option_map_or (name_faults earlier) (as_str value) []

pub name_reads : (earlier : List Members) (t : Members) → Reads (name_of (names_in earlier) t) (field_faults (name_wrong earlier) t name_field) (unwrap_or (text_in Name t) [])
unfolding name_of needed_text
name_reads earlier t = needed_text_reads Name (name_wrong earlier) _ (λ word. unwrap_or word []) tested (get_member (key_of Name) t)
  where
    tested : (word : List ℕ) → Reads (refuse (not (is_vertex_name word)) BadName >> (refuse (is_among word (names_in earlier)) RepeatedName >> Ok word)) (name_faults earlier word) word
    tested word = then _ (refused (not (is_vertex_name word)) BadName) (λ _. made (λ _. word) (refused (is_among word (names_in earlier)) RepeatedName))

abbrev pub op_wrong : Data → List JobWhy
op_wrong value = option_map_or (λ word. fault_if (not (is_some (op_named word))) BadOp) (as_str value) []

pub op_reads : (t : Members) → Reads (op_of t) (field_faults op_wrong t op_field) (op_or_source t)
unfolding op_of needed_text
op_reads t = needed_text_reads OpField op_wrong _ (λ word. unwrap_or (option_and_then op_named word) op.Source) (λ word. named (op_named word)) (get_member (key_of OpField) t)
  where
    named : (o : Option Op) → Reads (required o BadOp) (fault_if (not (is_some o)) BadOp) (unwrap_or o op.Source)
    named None = record { is = refl }
    named (Some o) = record { is = refl }

-- where nothing is wrong with the op there is one
pub op_in-sound : (t : Members) → field_faults op_wrong t op_field ≡ [] → op_in t ≡ Some (op_or_source t)
op_in-sound t sound = by_value (get_member (key_of OpField) t) sound
  where
    by_op : (o : Option Op) → fault_if (not (is_some o)) BadOp ≡ [] → o ≡ Some (unwrap_or o op.Source)
    by_op None sound = absurd (cc)
    by_op (Some o) sound = refl

    by_value : (o : Option Data) → said_faults op_wrong op_field o ≡ [] → option_and_then op_named (option_and_then as_str o) ≡ Some (unwrap_or (option_and_then op_named (option_and_then as_str o)) op.Source)
    by_value None sound = absurd (cc)
    by_value (Some (string word)) sound = by_op (op_named word) sound
    by_value (Some (integer n)) sound = absurd (cc)
    by_value (Some (float n)) sound = absurd (cc)
    by_value (Some (boolean n)) sound = absurd (cc)
    by_value (Some (datetime n)) sound = absurd (cc)
    by_value (Some (array n)) sound = absurd (cc)
    by_value (Some (table n)) sound = absurd (cc)

-- ---- inputs

module _ (earlier : List Members) where
  stream_reads : (v : ℕ) → v < length earlier → Reads (if_stream (nodes_in earlier) v) (fault_if (is_sink_at earlier v) SinkAsInput) v
  stream_reads v within = rw (streams_within [] earlier v within) (by_test (is_sink_at earlier v))
    where
      by_test : (sink : Bool) → Reads (cond (not sink) (Ok v) (Err SinkAsInput)) (fault_if sink SinkAsInput) v
      by_test true = record { is = refl }
      by_test false = record { is = refl }

  pub input_reads : (name : List ℕ) → Reads (input_of (draft_in earlier) name) (input_faults earlier name) (unwrap_or (number_of earlier name) 0)
  unfolding input_of
  input_reads name = by_number (number_of earlier name) refl
    where
      by_number : (o : Option ℕ) → number_of earlier name ≡ o → Reads (required o LaterInput >>= if_stream (nodes_in earlier)) (option_map_or (λ v. fault_if (is_sink_at earlier v) SinkAsInput) o (LaterInput ∷ [])) (unwrap_or o 0)
      by_number None e = record { is = refl }
      by_number (Some v) e =
          let within : v < length (names_in earlier) = (position-Some (λ other. bytes_eq name other) (names_in earlier) v [] e).0 in
          stream_reads v (omega (arith, length-map earlier (λ (t : Members). option_map_or (λ name. name) (text_in Name t) []), within))

  abbrev numbers_in : Items → List ℕ
  numbers_in items = map (λ name. unwrap_or (number_of earlier name) 0) (texts_of items)

  pub numbers_reads : (items : Items) → are_texts items ≡ true → Reads (numbers_of (draft_in earlier) items) (flat_map (input_faults earlier) (texts_of items)) (numbers_in items)
  unfolding numbers_of input_at
  numbers_reads no_items all = record { is = refl }
  numbers_reads (item (string name) rest) all = then _ (input_reads name) (λ _. made (λ others. unwrap_or (number_of earlier name) 0 ∷ others) (numbers_reads rest all))
  numbers_reads (item (integer n) rest) all = absurd (false≢true all)
  numbers_reads (item (float n) rest) all = absurd (false≢true all)
  numbers_reads (item (boolean n) rest) all = absurd (false≢true all)
  numbers_reads (item (datetime n) rest) all = absurd (false≢true all)
  numbers_reads (item (array n) rest) all = absurd (false≢true all)
  numbers_reads (item (table n) rest) all = absurd (false≢true all)

needed_texts_reads : {B : Type 0} (wrong : Data → List JobWhy) (k : Items → Result B JobWhy) (says : Option Items → B) → ((items : Items) → are_texts items ≡ true → Reads (k items) (wrong (array items)) (says (Some items)))
    → (o : Option Data) → Reads (needed as_texts Inputs o >>= k) (said_faults wrong (has Inputs texts) o) (says (option_and_then as_array o))
needed_texts_reads wrong k says reads None = record { is = refl }
needed_texts_reads wrong k says reads (Some (string n)) = record { is = refl }
needed_texts_reads wrong k says reads (Some (integer n)) = record { is = refl }
needed_texts_reads wrong k says reads (Some (float n)) = record { is = refl }
needed_texts_reads wrong k says reads (Some (boolean n)) = record { is = refl }
needed_texts_reads wrong k says reads (Some (datetime n)) = record { is = refl }
needed_texts_reads wrong k says reads (Some (table n)) = record { is = refl }
needed_texts_reads wrong k says reads (Some (array items)) =
    elim (cases_Bool (are_texts items)) [
      | inl all ↦ rw all (reads items all)
      | inr some ↦ rw some (record { is = refl })
    ]

item_count-texts : (items : Items) → item_count items ≡ length (texts_of items)
item_count-texts no_items = refl
item_count-texts (item value rest) = omega (arith, item_count-texts rest)

pub inputs_reads : (o : Op) (earlier : List Members) (t : Members) → Reads (inputs_of (draft_in earlier) o t) (field_faults (value_faults Inputs o earlier t) t (has Inputs texts)) (inputs_in earlier t)
unfolding inputs_of needed_texts
inputs_reads o earlier t =
    needed_texts_reads (value_faults Inputs o earlier t) _ (λ items. map (λ name. unwrap_or (number_of earlier name) 0) (option_map_or texts_of items [])) tested (get_member (key_of Inputs) t)
  where
    tested : (items : Items) → are_texts items ≡ true → Reads (refuse (not (has_input_count o (item_count items))) WrongInputCount >> numbers_of (draft_in earlier) items) (inputs_faults o earlier (texts_of items)) (numbers_in earlier items)
    tested items all = rw (item_count-texts items) (then _ (refused (not (has_input_count o (length (texts_of items)))) WrongInputCount) (λ _. numbers_reads earlier items all))

-- ---- files

pub source_file_reads : (earlier : List Members) (t : Members) → Reads (source_file_of t) (field_faults (value_faults File op.Source earlier t) t (has File text)) (file_in t)
unfolding source_file_of needed_text
source_file_reads earlier t = needed_text_reads File (value_faults File op.Source earlier t) _ (λ word. unwrap_or word []) tested (get_member (key_of File) t)
  where
    tested : (file : List ℕ) → Reads (refuse (not (is_file_name file)) BadName >> (refuse (bytes_eq file (codes "-")) BadName >> Ok file)) (fault_if (not (is_file_name file)) BadName ++ fault_if (bytes_eq file (codes "-")) BadName) file
    tested file = then _ (refused (not (is_file_name file)) BadName) (λ _. made (λ _. file) (refused (bytes_eq file (codes "-")) BadName))

pub sink_file_reads : (earlier : List Members) (t : Members) → Reads (sink_file_of (draft_in earlier).vertices t) (field_faults (value_faults File op.Sink earlier t) t (has File text)) (file_in t)
unfolding sink_file_of needed_text
sink_file_reads earlier t = needed_text_reads File (value_faults File op.Sink earlier t) _ (λ word. unwrap_or word []) tested (get_member (key_of File) t)
  where
    tested : (file : List ℕ) → Reads (refuse (not (is_file_name file)) BadName >> (refuse (list_any (writes_to file) (draft_in earlier).vertices) RepeatedFile >> Ok file)) (fault_if (not (is_file_name file)) BadName ++ fault_if (is_among file (sink_files earlier)) RepeatedFile) file
    tested file = rw (written-files file earlier) (then _ (refused (not (is_file_name file)) BadName) (λ _. made (λ _. file) (refused (is_among file (sink_files earlier)) RepeatedFile)))

-- ---- what the op says

-- what is wrong with some fields of a vertex with this op
abbrev pub wrong_in : Op → List Members → Members → List Field → List JobWhy
wrong_in o earlier t fields = flat_map (λ field. field_faults (value_faults field.name o earlier t) t field) fields

pub policy_reads : (o : Op) (earlier : List Members) (t : Members) → Reads (policy_of t) (wrong_in o earlier t inner_fields) (policy_in t)
unfolding policy_of
policy_reads o earlier t =
    then _ (replay_reads o earlier t) (λ _.
    then _ (every_reads o earlier t) (λ _.
    then _ (replicas_reads o earlier t) (λ _. done (policy_in t))))

-- a vertex that nothing is wrong with, besides its name and its op
abbrev pub entry_in : List Members → Op → Members → EntryText
entry_in earlier o t = record { inputs = inputs_in earlier t; replicas = number_in Replicas 1 t; vertex = vertex_with o t }

pub operator_reads : (o : Op) (earlier : List Members) (t : Members) (inputs : List ℕ) (s : Spec)
    → Reads (operator_of inputs s t) (wrong_in o earlier t inner_fields) (record { inputs = inputs; replicas = number_in Replicas 1 t; vertex = inner s (policy_in t) })
unfolding operator_of
operator_reads o earlier t inputs s = made (λ policy. record { inputs = inputs; replicas = policy.replicas; vertex = inner s policy }) (policy_reads o earlier t)

pub source_reads : (earlier : List Members) (t : Members) → has_only (vertex_keys op.Source) t ≡ true → Reads (source_of t) (wrong_in op.Source earlier t (fields_of op.Source)) (entry_in earlier op.Source t)
unfolding source_of
source_reads earlier t only =
    rw (get_member-absent (key_of Inputs) (vertex_keys op.Source) t only refl)
    (then _ (source_file_reads earlier t) (λ _.
    then _ (late_reads op.Source earlier t) (λ _.
    then _ (replicas_reads op.Source earlier t) (λ _. done _))))

-- what is wrong with two groups of fields, one after the other
two_groups : {A : Type 0} {r : Result A JobWhy} {v : A} (o : Op) (earlier : List Members) (t : Members) (first second : List Field) → Reads r (wrong_in o earlier t first ++ wrong_in o earlier t second) v → Reads r (wrong_in o earlier t (first ++ second)) v
two_groups {r} {v} o earlier t first second reads =
    record { is = reads.is ∙ ap (λ wrong. first_fault_or wrong v) (sym (flat_map-append (λ (field : Field). field_faults (value_faults field.name o earlier t) t field) first second)) }

abbrev select_fields : List Field
select_fields = may_have Where text ∷ may_have A text ∷ may_have B text ∷ may_have C text ∷ may_have D text ∷ []

select_reads : (earlier : List Members) (t : Members) → Reads (select_of t) (wrong_in op.Select earlier t select_fields) (select_in t)
unfolding select_of
select_reads earlier t =
    then _ (test_reads op.Select earlier t) (λ _.
    then _ (a_reads op.Select earlier t) (λ _.
    then _ (b_reads op.Select earlier t) (λ _.
    then _ (c_reads op.Select earlier t) (λ _.
    then _ (d_reads op.Select earlier t) (λ _. done (select_in t))))))

abbrev window_fields : List Field
window_fields = has Hop number ∷ has Size number ∷ has Agg text ∷ may_have Of text ∷ []

window_reads : (earlier : List Members) (t : Members) → Reads (window_of t) (wrong_in op.Window earlier t window_fields) (window_in t)
unfolding window_of
window_reads earlier t =
    then _ (hop_reads op.Window earlier t) (λ _.
    then _ (size_reads op.Window earlier t) (λ _.
    then _ (agg_reads op.Window earlier t) (λ _.
    then _ (value_reads op.Window earlier t) (λ _. done (window_in t)))))

abbrev session_fields : List Field
session_fields = has Gap number ∷ has Agg text ∷ may_have Of text ∷ []

session_reads : (earlier : List Members) (t : Members) → Reads (session_of t) (wrong_in op.Session earlier t session_fields) (session_in t)
unfolding session_of
session_reads earlier t =
    then _ (gap_reads op.Session earlier t) (λ _.
    then _ (agg_reads op.Session earlier t) (λ _.
    then _ (value_reads op.Session earlier t) (λ _. done (session_in t))))

pub select_entry_reads : (earlier : List Members) (t : Members) → Reads (select_entry (draft_in earlier) t) (wrong_in op.Select earlier t (fields_of op.Select)) (entry_in earlier op.Select t)
unfolding select_entry
select_entry_reads earlier t =
    then _ (inputs_reads op.Select earlier t) (λ _.
    two_groups op.Select earlier t select_fields inner_fields (then _ (select_reads earlier t) (λ _. operator_reads op.Select earlier t (inputs_in earlier t) (select_in t))))

pub window_entry_reads : (earlier : List Members) (t : Members) → Reads (window_entry (draft_in earlier) t) (wrong_in op.Window earlier t (fields_of op.Window)) (entry_in earlier op.Window t)
unfolding window_entry
window_entry_reads earlier t =
    then _ (inputs_reads op.Window earlier t) (λ _.
    two_groups op.Window earlier t window_fields inner_fields (then _ (window_reads earlier t) (λ _. operator_reads op.Window earlier t (inputs_in earlier t) (window_in t))))

pub session_entry_reads : (earlier : List Members) (t : Members) → Reads (session_entry (draft_in earlier) t) (wrong_in op.Session earlier t (fields_of op.Session)) (entry_in earlier op.Session t)
unfolding session_entry
session_entry_reads earlier t =
    then _ (inputs_reads op.Session earlier t) (λ _.
    two_groups op.Session earlier t session_fields inner_fields (then _ (session_reads earlier t) (λ _. operator_reads op.Session earlier t (inputs_in earlier t) (session_in t))))

pub plain_entry_reads : (o : Op) (s : Spec) (earlier : List Members) (t : Members) → Reads (plain_entry (draft_in earlier) o s t) (wrong_in o earlier t (has Inputs texts ∷ inner_fields)) (record { inputs = inputs_in earlier t; replicas = number_in Replicas 1 t; vertex = inner s (policy_in t) })
unfolding plain_entry
plain_entry_reads o s earlier t = then _ (inputs_reads o earlier t) (λ _. operator_reads o earlier t (inputs_in earlier t) s)

pub sink_reads : (earlier : List Members) (t : Members) → has_only (vertex_keys op.Sink) t ≡ true → Reads (sink_of (draft_in earlier) t) (wrong_in op.Sink earlier t (fields_of op.Sink)) (entry_in earlier op.Sink t)
unfolding sink_of
sink_reads earlier t only =
    let one : number_in Replicas 1 t ≡ 1 = rw (get_member-absent (key_of Replicas) (vertex_keys op.Sink) t only refl) in
    rw one
    (then _ (inputs_reads op.Sink earlier t) (λ _.
    then _ (sink_file_reads earlier t) (λ _. done _)))

pub entry_reads : (o : Op) (earlier : List Members) (t : Members) → has_only (vertex_keys o) t ≡ true → Reads (entry_of (draft_in earlier) o t) (wrong_in o earlier t (fields_of o)) (entry_in earlier o t)
entry_reads op.Source earlier t only = source_reads earlier t only
entry_reads op.Select earlier t only = select_entry_reads earlier t
entry_reads op.Union earlier t only = plain_entry_reads op.Union spec.Union earlier t
entry_reads op.Window earlier t only = window_entry_reads earlier t
entry_reads op.Join earlier t only = plain_entry_reads op.Join spec.Join earlier t
entry_reads op.Session earlier t only = session_entry_reads earlier t
entry_reads op.Except earlier t only = plain_entry_reads op.Except spec.Except earlier t
entry_reads op.Sink earlier t only = sink_reads earlier t only

-- ---- a vertex

pub none_wrong : (test : Bool) (why : JobWhy) → fault_if (not test) why ≡ [] → test ≡ true
none_wrong true why sound = refl
none_wrong false why sound = absurd (cc)

pub none_refused : (test : Bool) (why : JobWhy) → fault_if test why ≡ [] → test ≡ false
none_refused true why sound = absurd (cc)
none_refused false why sound = refl

pub vertex_reads : (earlier : List Members) (t : Members) → Reads (draft_after (draft_in earlier) t) (vertex_faults earlier t) (draft_in (earlier ++ t ∷ []))
unfolding draft_after
vertex_reads earlier t =
    rw (draft_in-push earlier t, append_assoc (field_faults (name_wrong earlier) t name_field) (field_faults op_wrong t op_field) (rest_faults earlier t (op_in t)))
    (then _ (name_reads earlier t) (λ _.
    then _ (op_reads t) (λ sound.
    rw (op_in-sound t sound) (rest_reads (op_or_source t)))))
  where
    rest_reads : (o : Op) → Reads (refuse (not (has_only (vertex_keys o) t)) UnknownField >> (entry_of (draft_in earlier) o t >>= (λ entry. Ok (with_vertex (draft_in earlier) (unwrap_or (text_in Name t) []) o entry)))) (rest_faults earlier t (Some o)) (with_vertex (draft_in earlier) (unwrap_or (text_in Name t) []) o (entry_in earlier o t))
    rest_reads o = then _ (refused (not (has_only (vertex_keys o) t)) UnknownField) (λ sound. made (with_vertex (draft_in earlier) (unwrap_or (text_in Name t) []) o) (entry_reads o earlier t (none_wrong (has_only (vertex_keys o) t) UnknownField sound)))
