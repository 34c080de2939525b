-- What a document with which nothing is wrong says is a sound job.
use Rattle.std.proofs.Common.{◌≡◌, ℕ, ◌^◌, ◌≤◌, true, not, zero, suc, List, [], ◌∷◌, ◌++◌, length, map, Option, Some, None, IfSome, Ok, refl, sym, ◌∙◌, arith}
use Rattle.std.proofs.lemmas.Bool.{and_parts, leb-true, ltb-false, false≢true}
use Rattle.std.proofs.lemmas.List.{length-map}
use Rattle.std.proofs.lemmas.Option.{slice_get-map}
use Rattle.std.specs.Prelude.{nat_le, codes, unwrap_or, option_map, option_and_then, slice_get}
use Rattle.std.specs.List.{list_any}
use Rattle.toml.specs.Data.{Data, string, integer, float, boolean, datetime, array, table, Items, Members, no_members, get_member, as_table}
use Rattle.ss_expr.specs.Kinds.{HasKind}
use Rattle.ss_expr.specs.declared.kind.ValueKind.TheVariants.{Truth, Num}
use Rattle.ss_fail.specs.declared.role.Role.{Role}
use Rattle.ss_job.specs.Document.{has_only}
use Rattle.ss_job.specs.Faults.{fault_of_vertex, fault_of_document, item_count, vertex_faults, limit_value_faults, limit_faults, limits_faults, array_faults, vertices_faults, unread_faults, graph_faults, faults, job_of}
use Rattle.ss_job.specs.Format.{key_of, has, may_have, text, number, fields_of, vertex_keys, document_keys, keys_of, limit_fields, fewest_inputs, most_inputs}
use Rattle.ss_job.specs.JobIn.{op_or_source, policy_in, select_in, window_in, session_in, vertex_in, vertex_with, role_in, node_in, nodes_after, nodes_in, inputs_in, tables_in, limits_in, job_in}
use Rattle.ss_job.specs.JobText.{VertexText, JobText, op_of_vertex}
use Rattle.ss_job.specs.Lookup.{number_in, texts_in, tree_of_text}
use Rattle.ss_job.specs.Reading.{faulty, parts_of, drafts_after, sound_graph, job_with, read_document}
use Rattle.ss_job.specs.Vertices.{DraftText, empty_draft}
use Rattle.ss_job.specs.declared.limits.Limits.{Limits}
use Rattle.ss_job.specs.Sound.{IsFrom, IsPolicy, IsWindow, IsSpec, IsVertexText, HasReplicas, IsVertex, IsJob}
use Rattle.ss_job.specs.Wrong.{fault_if, is_sink, number_of, has_input_count, field_faults, unknown_faults, value_faults}
use Rattle.ss_job.specs.declared.fault.JobWhy.TheVariants.{NoSink}
use Rattle.ss_job.specs.declared.field_name.FieldName.TheVariants.{Job, Vertex, MaxElements, CollectEvery, Inputs, Where, A, B, C, D, Size, Hop, Gap, Every, Replicas}
use Rattle.ss_job.specs.declared.op.Op.{Op}
use Rattle.ss_job.specs.declared.op.Op.TheVariants as op
use Rattle.ss_water.specs.declared.node.Node.{Node}
use Rattle.ss_job.proofs.Absent.{get_member-absent}
use Rattle.ss_job.proofs.DocumentReadings.{items_in, items_in-sound, tables_in-items, nothing_in, nothing_mapped, sinks-roles, read_document-job_of}
use Rattle.ss_job.proofs.Graphs.{length-nodes_after, length-tables_of, sound_graph-IsGraph, sound_reading}
use Rattle.ss_job.proofs.SoundFields.{wrong_at, range_sound, size_from, needed_number_sound, optional_number_sound, optional_text_sound, expression_sound, default_a_kind, default_b_kind, default_c_kind, default_d_kind}
use Rattle.ss_job.proofs.SoundInputs.{sound_vertex, sound_inputs}
use Rattle.ss_job.proofs.SoundNames.{sound_name, sound_source_file, sound_sink_file, names_distinct, files_distinct}
use Rattle.ss_job.proofs.VertexReadings.{wrong_in, none_wrong}

-- ---- the fields of a vertex

module _ (o : Op) (earlier : List Members) (t : Members) (sound : wrong_in o earlier t (fields_of o) ≡ []) where
  every_sound : (k : ℕ) → slice_get (fields_of o) k ≡ Some (may_have Every number) → IsFrom 1 131072 (number_in Every 64 t)
  every_sound k here =
      optional_number_sound (IsFrom 1 131072) Every (value_faults Every o earlier t) (range_sound Every 1 131072) (get_member (key_of Every) t) 64 (record { least_of = omega arith; most_of = omega arith }) (wrong_at o earlier t (fields_of o) k (may_have Every number) here sound)

  replicas_sound : (k : ℕ) → slice_get (fields_of o) k ≡ Some (may_have Replicas number) → IsFrom 1 4 (number_in Replicas 1 t)
  replicas_sound k here =
      optional_number_sound (IsFrom 1 4) Replicas (value_faults Replicas o earlier t) (range_sound Replicas 1 4) (get_member (key_of Replicas) t) 1 (record { least_of = omega arith; most_of = omega arith }) (wrong_at o earlier t (fields_of o) k (may_have Replicas number) here sound)

  policy_sound : (e r : ℕ) → slice_get (fields_of o) e ≡ Some (may_have Every number) → slice_get (fields_of o) r ≡ Some (may_have Replicas number) → IsPolicy (policy_in t)
  policy_sound e r every replicas = record { every = every_sound e every; replicas = replicas_sound r replicas }

select_sound : (earlier : List Members) (t : Members) → wrong_in op.Select earlier t (fields_of op.Select) ≡ [] → IsSpec (select_in t)
select_sound earlier t sound = (
  optional_text_sound (λ words. IfSome (option_map tree_of_text words) (λ e. HasKind e Truth)) Where (value_faults Where op.Select earlier t) (λ words none. expression_sound Where Truth words none) tt (get_member (key_of Where) t) (wrong_at op.Select earlier t (fields_of op.Select) 1 (may_have Where text) refl sound),
  optional_text_sound (λ words. HasKind (tree_of_text (unwrap_or words (codes "a"))) Num) A (value_faults A op.Select earlier t) (λ words none. expression_sound A Num words none) default_a_kind (get_member (key_of A) t) (wrong_at op.Select earlier t (fields_of op.Select) 2 (may_have A text) refl sound),
  optional_text_sound (λ words. HasKind (tree_of_text (unwrap_or words (codes "b"))) Num) B (value_faults B op.Select earlier t) (λ words none. expression_sound B Num words none) default_b_kind (get_member (key_of B) t) (wrong_at op.Select earlier t (fields_of op.Select) 3 (may_have B text) refl sound),
  optional_text_sound (λ words. HasKind (tree_of_text (unwrap_or words (codes "c"))) Num) C (value_faults C op.Select earlier t) (λ words none. expression_sound C Num words none) default_c_kind (get_member (key_of C) t) (wrong_at op.Select earlier t (fields_of op.Select) 4 (may_have C text) refl sound),
  optional_text_sound (λ words. HasKind (tree_of_text (unwrap_or words (codes "d"))) Num) D (value_faults D op.Select earlier t) (λ words none. expression_sound D Num words none) default_d_kind (get_member (key_of D) t) (wrong_at op.Select earlier t (fields_of op.Select) 5 (may_have D text) refl sound),
)

window_sound : (earlier : List Members) (t : Members) → wrong_in op.Window earlier t (fields_of op.Window) ≡ [] → IsSpec (window_in t)
window_sound earlier t sound =
    let hop = needed_number_sound (IsFrom 1 (2 ^ 40)) Hop (value_faults Hop op.Window earlier t) (range_sound Hop 1 (2 ^ 40)) (get_member (key_of Hop) t) 0 (wrong_at op.Window earlier t (fields_of op.Window) 1 (has Hop number) refl sound) in
    needed_number_sound (λ size. IsWindow size (number_in Hop 0 t)) Size (value_faults Size op.Window earlier t) (λ got none. size_from (number_in Hop 0 t) got hop none) (get_member (key_of Size) t) 0 (wrong_at op.Window earlier t (fields_of op.Window) 2 (has Size number) refl sound)

session_sound : (earlier : List Members) (t : Members) → wrong_in op.Session earlier t (fields_of op.Session) ≡ [] → IsSpec (session_in t)
session_sound earlier t sound =
    needed_number_sound (IsFrom 1 (2 ^ 40)) Gap (value_faults Gap op.Session earlier t) (range_sound Gap 1 (2 ^ 40)) (get_member (key_of Gap) t) 0 (wrong_at op.Session earlier t (fields_of op.Session) 1 (has Gap number) refl sound)

vertex_text_sound : (o : Op) (earlier : List Members) (t : Members) → wrong_in o earlier t (fields_of o) ≡ [] → IsVertexText (vertex_with o t)
vertex_text_sound op.Source earlier t sound = sound_source_file earlier t sound
vertex_text_sound op.Select earlier t sound = (select_sound earlier t sound, policy_sound op.Select earlier t sound 7 8 refl refl)
vertex_text_sound op.Union earlier t sound = (tt, policy_sound op.Union earlier t sound 2 3 refl refl)
vertex_text_sound op.Window earlier t sound = (window_sound earlier t sound, policy_sound op.Window earlier t sound 6 7 refl refl)
vertex_text_sound op.Join earlier t sound = (tt, policy_sound op.Join earlier t sound 2 3 refl refl)
vertex_text_sound op.Session earlier t sound = (session_sound earlier t sound, policy_sound op.Session earlier t sound 5 6 refl refl)
vertex_text_sound op.Except earlier t sound = (tt, policy_sound op.Except earlier t sound 2 3 refl refl)
vertex_text_sound op.Sink earlier t sound = (sound_sink_file earlier t sound).legal

role_replicas : (o : Op) (earlier : List Members) (t : Members) → has_only (vertex_keys o) t ≡ true → wrong_in o earlier t (fields_of o) ≡ [] → IsFrom 1 4 (number_in Replicas 1 t)
role_replicas op.Source earlier t only sound = replicas_sound op.Source earlier t sound 2 refl
role_replicas op.Select earlier t only sound = replicas_sound op.Select earlier t sound 8 refl
role_replicas op.Union earlier t only sound = replicas_sound op.Union earlier t sound 3 refl
role_replicas op.Window earlier t only sound = replicas_sound op.Window earlier t sound 7 refl
role_replicas op.Join earlier t only sound = replicas_sound op.Join earlier t sound 3 refl
role_replicas op.Session earlier t only sound = replicas_sound op.Session earlier t sound 6 refl
role_replicas op.Except earlier t only sound = replicas_sound op.Except earlier t sound 3 refl
role_replicas op.Sink earlier t only sound = rw (get_member-absent (key_of Replicas) (vertex_keys op.Sink) t only refl) (record { least_of = omega arith; most_of = omega arith })

own_replicas : (o : Op) (earlier : List Members) (t : Members) → has_only (vertex_keys o) t ≡ true → wrong_in o earlier t (fields_of o) ≡ [] → HasReplicas (vertex_with o t) (number_in Replicas 1 t)
own_replicas op.Source earlier t only sound = replicas_sound op.Source earlier t sound 2 refl
own_replicas op.Select earlier t only sound = refl
own_replicas op.Union earlier t only sound = refl
own_replicas op.Window earlier t only sound = refl
own_replicas op.Join earlier t only sound = refl
own_replicas op.Session earlier t only sound = refl
own_replicas op.Except earlier t only sound = refl
own_replicas op.Sink earlier t only sound = rw (get_member-absent (key_of Replicas) (vertex_keys op.Sink) t only refl) refl

-- ---- a vertex

op_of-vertex_with : (o : Op) (t : Members) → op_of_vertex (vertex_with o t) ≡ o
op_of-vertex_with op.Source t = refl
op_of-vertex_with op.Select t = refl
op_of-vertex_with op.Union t = refl
op_of-vertex_with op.Window t = refl
op_of-vertex_with op.Join t = refl
op_of-vertex_with op.Session t = refl
op_of-vertex_with op.Except t = refl
op_of-vertex_with op.Sink t = refl

count_from : (o : Op) (count : ℕ) → has_input_count o count ≡ true → IsFrom (fewest_inputs o) (most_inputs o) count
count_from o count takes =
    let (low, high) = and_parts (nat_le (fewest_inputs o) count) (nat_le count (most_inputs o)) takes in
    record { least_of = leb-true (fewest_inputs o) count low; most_of = leb-true count (most_inputs o) high }

vertex_is : (earlier : List Members) (t : Members) → vertex_faults earlier t ≡ [] → IsVertex (role_in t) (node_in earlier t) (vertex_in t)
vertex_is earlier t sound =
    let vertex = sound_vertex earlier t sound in
    let inputs = sound_inputs earlier t vertex in
    let width : length (texts_in Inputs t) ≡ length (inputs_in earlier t) = sym (length-map (texts_in Inputs t) (λ name. unwrap_or (number_of earlier name) 0)) in
    let takes : has_input_count (op_or_source t) (length (inputs_in earlier t)) ≡ true = rw width at inputs.count in
    let same = op_of-vertex_with (op_or_source t) t in
    record {
      name = (sound_name earlier t sound).legal;
      role_kind = rw same;
      node_kind = rw same;
      inputs = rw same (count_from (op_or_source t) (length (inputs_in earlier t)) takes);
      replicas = role_replicas (op_or_source t) earlier t vertex.only vertex.fields;
      own_replicas = own_replicas (op_or_source t) earlier t vertex.only vertex.fields;
      sound = vertex_text_sound (op_or_source t) earlier t vertex.fields;
    }

-- ---- each vertex

-- the table of a vertex with which nothing is wrong, and its node
record IsTableAt (node : Option Node) (t : Members) : Type 0 where
  earlier : List Members
  node_of : node ≡ Some (node_in earlier t)
  sound : vertex_faults earlier t ≡ []

table_at : (before tables : List Members) (v : ℕ) (t : Members) → vertices_faults before tables ≡ [] → slice_get tables v ≡ Some t → IsTableAt (slice_get (nodes_after before tables) v) t
table_at before [] v t sound here = absurd (cc)
table_at before (first ∷ tables) zero t sound here =
    let same : first ≡ t = cc in
    let none = (nothing_in (map (fault_of_vertex (length before)) (vertex_faults before first)) (vertices_faults (before ++ first ∷ []) tables) sound).0 in
    rw (← same) (record { earlier = before; node_of = refl; sound = nothing_mapped (fault_of_vertex (length before)) (vertex_faults before first) none })
table_at before (first ∷ tables) (suc v) t sound here =
    table_at (before ++ first ∷ []) tables v t (nothing_in (map (fault_of_vertex (length before)) (vertex_faults before first)) (vertices_faults (before ++ first ∷ []) tables) sound).1 here

each_vertex : (tables : List Members) → vertices_faults [] tables ≡ [] → (v : ℕ) (role : Role) (node : Node) (vertex : VertexText) → slice_get (map role_in tables) v ≡ Some role → slice_get (nodes_in tables) v ≡ Some node → slice_get (map vertex_in tables) v ≡ Some vertex → IsVertex role node vertex
each_vertex tables sound v role node vertex role_at node_at vertex_at =
    by_table (slice_get tables v) refl (sym (slice_get-map role_in tables v) ∙ role_at) (sym (slice_get-map vertex_in tables v) ∙ vertex_at)
  where
    by_table : (o : Option Members) → slice_get tables v ≡ o → option_map role_in o ≡ Some role → option_map vertex_in o ≡ Some vertex → IsVertex role node vertex
    by_table None here a b = absurd (cc)
    by_table (Some t) here a b =
        let found = table_at [] tables v t sound here in
        let same_role : role ≡ role_in t = cc in
        let same_vertex : vertex ≡ vertex_in t = cc in
        let same_node : node ≡ node_in found.earlier t = let e = found.node_of in cc in
        rw (same_role, same_vertex, same_node) (vertex_is found.earlier t found.sound)

-- ---- limits

abbrev limits_are : Members → Type 0
limits_are limits = IsFrom 1 131072 (number_in MaxElements 131072 limits) × IsFrom 64 131072 (number_in CollectEvery 256 limits)

limits_from_sound : (limits : Members) → limit_faults limits ≡ [] → limits_are limits
limits_from_sound limits sound =
    let first = field_faults (limit_value_faults MaxElements limits) limits (may_have MaxElements number) in
    let second = field_faults (limit_value_faults CollectEvery limits) limits (may_have CollectEvery number) in
    let (max_elements, rest) = nothing_in first (second ++ []) (nothing_in (unknown_faults (keys_of limit_fields) limits) (first ++ (second ++ [])) sound).1 in
    let (collect_every, _) = nothing_in second [] rest in (
      optional_number_sound (IsFrom 1 131072) MaxElements (limit_value_faults MaxElements limits) (range_sound MaxElements 1 131072) (get_member (key_of MaxElements) limits) 131072 (record { least_of = omega arith; most_of = omega arith }) max_elements,
      optional_number_sound (IsFrom 64 131072) CollectEvery (limit_value_faults CollectEvery limits) (range_sound CollectEvery 64 131072) (get_member (key_of CollectEvery) limits) 256 (record { least_of = omega arith; most_of = omega arith }) collect_every,
    )

limits_sound : (document : Members) → limits_faults (get_member (key_of Job) document) ≡ [] → limits_are (limits_in document)
limits_sound document sound = by_value (get_member (key_of Job) document) sound
  where
    by_value : (o : Option Data) → limits_faults o ≡ [] → limits_are (unwrap_or (option_and_then as_table o) no_members)
    by_value None sound = (record { least_of = omega arith; most_of = omega arith }, record { least_of = omega arith; most_of = omega arith })
    by_value (Some (string n)) sound = absurd (cc)
    by_value (Some (integer n)) sound = absurd (cc)
    by_value (Some (float n)) sound = absurd (cc)
    by_value (Some (boolean n)) sound = absurd (cc)
    by_value (Some (datetime n)) sound = absurd (cc)
    by_value (Some (array n)) sound = absurd (cc)
    by_value (Some (table limits)) sound = limits_from_sound limits sound

-- ---- the job

some_table : (tables : List Members) → list_any is_sink tables ≡ true → 1 ≤ length tables
some_table [] sink = absurd (false≢true sink)
some_table (t ∷ tables) sink = omega arith

-- the tables of the vertices, where nothing is wrong with the document
record AreSound (tables : List Members) : Type 0 where
  few : length tables ≤ 32
  vertices : vertices_faults [] tables ≡ []
  sink : list_any is_sink tables ≡ true
  read : unread_faults (nodes_in tables) 0 (nodes_in tables) ≡ []

tables_sound : (document : Members) → array_faults (get_member (key_of Vertex) document) ≡ [] → vertices_faults [] (tables_in document) ≡ [] → graph_faults (tables_in document) ≡ [] → AreSound (tables_in document)
tables_sound document entries vertices graph =
    let tables = tables_in document in
    let few = ltb-false 32 (item_count (items_in document)) (items_in-sound document entries).few in
    let (sink, read) = nothing_in (map fault_of_document (fault_if (not (list_any is_sink tables)) NoSink)) (unread_faults (nodes_in tables) 0 (nodes_in tables)) graph in
    record {
      few = rw (tables_in-items document) (omega (arith, length-tables_of (items_in document), few));
      vertices = vertices;
      sink = none_wrong (list_any is_sink tables) NoSink (nothing_mapped fault_of_document (fault_if (not (list_any is_sink tables)) NoSink) sink);
      read = read;
    }

job_is : (document : Members) → limits_are (limits_in document) → AreSound (tables_in document) → IsJob (job_in document)
job_is document limits sound =
    let tables = tables_in document in
    let nodes = length-nodes_after [] tables in
    let some = some_table tables sound.sink in
    record {
      graph = sound_graph-IsGraph tables sound.few sound.vertices sound.read;
      some = omega (arith, nodes, some);
      roles = omega (arith, nodes, length-map tables role_in);
      vertices = omega (arith, nodes, length-map tables vertex_in);
      each = each_vertex tables sound.vertices;
      sink = sinks-roles tables ∙ sound.sink;
      names = names_distinct tables sound.vertices;
      files = files_distinct tables sound.vertices;
      max_elements = limits.0;
      collect_every = limits.1;
    }

pub sound_job : (document : Members) → faults document ≡ [] → IsJob (job_in document)
sound_job document sound =
    let unknown = unknown_faults document_keys document in
    let limits = limits_faults (get_member (key_of Job) document) in
    let items = array_faults (get_member (key_of Vertex) document) in
    let (front, graph) = nothing_in (map fault_of_document ((unknown ++ limits) ++ items) ++ vertices_faults [] (tables_in document)) (graph_faults (tables_in document)) sound in
    let (document_faults, vertices) = nothing_in (map fault_of_document ((unknown ++ limits) ++ items)) (vertices_faults [] (tables_in document)) front in
    let (before, entries) = nothing_in (unknown ++ limits) items (nothing_mapped fault_of_document ((unknown ++ limits) ++ items) document_faults) in
    job_is document (limits_sound document (nothing_in unknown limits before).1) (tables_sound document entries vertices graph)

-- the job that a document says is sound
pub job_of-sound : (document : Members) (job : JobText) → job_of document ≡ Ok job → IsJob job
job_of-sound document job says =
    let (none, is) = sound_reading (faults document) (job_in document) job (sym says) in
    rw is (sound_job document none)

-- so is the job that is made of what was read
pub read-sound : (document : Members) (limits : Limits) (items : Items) (draft : DraftText) → Ok (limits, items) ≡ faulty fault_of_document (parts_of document) → drafts_after 0 empty_draft items ≡ Ok draft → Ok tt ≡ sound_graph draft → IsJob (job_with draft limits)
unfolding read_document
read-sound document limits items draft parts drafts graph =
    let read : read_document document ≡ Ok (job_with draft limits) = rw (← parts, drafts, ← graph) in
    job_of-sound document (job_with draft limits) (sym (read_document-job_of document) ∙ read)
