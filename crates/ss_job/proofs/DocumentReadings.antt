-- A document is read as the job that it says, or as its first fault.
use Rattle.std.proofs.Common.{◌≡◌, ℕ, ◌+◌, Bool, true, false, not, ◌&&◌, List, [], ◌∷◌, ◌++◌, cond, length, map, Ok, Option, Some, None, refl, append_assoc, append-nil, arith}
use Rattle.std.proofs.lemmas.Bool.{false≢true}
use Rattle.std.proofs.lemmas.List.{length-append}
use Rattle.std.specs.Prelude.{nat_lt, unwrap_or, option_and_then}
use Rattle.std.specs.List.{list_any}
use Rattle.std.specs.Option.{option_map_or}
use Rattle.toml.specs.Data.{Data, string, integer, float, boolean, datetime, array, table, Items, no_items, item, Members, no_members, get_member, as_integer, as_array, as_table}
use Rattle.ss_job.specs.Document.{has_only}
use Rattle.ss_job.specs.Faults.{fault_of_document, fault_of_vertex, are_tables, item_count, limit_value_faults, limit_faults, limits_faults, array_faults, vertices_faults, unread_faults, graph_faults, faults, job_of}
use Rattle.ss_job.specs.Fields.{◌>>=◌, ◌>>◌, refuse, required, needed, optional, in_range_or, optional_number, optional_integer}
use Rattle.ss_job.specs.Format.{key_of, may_have, number, document_keys, keys_of, limit_fields, most_vertices}
use Rattle.ss_job.specs.JobIn.{tables_in, limits_in, role_in, nodes_in, job_in}
use Rattle.ss_job.specs.Lookup.{magnitude, number_in, tables_of}
use Rattle.ss_job.specs.Reading.{limits_from, limits_or, limits_of, as_tables, items_of, draft_at, drafts_after, read_streams, sound_graph, job_with, parts_of, read_document}
use Rattle.ss_job.specs.Wrong.{fault_if, is_sink, number_faults, field_faults, unknown_faults}
use Rattle.ss_job.specs.declared.fault.JobWhy.{JobWhy}
use Rattle.ss_job.specs.declared.fault.JobWhy.TheVariants.{WrongKind, UnknownField, Unread, NoSink, TooManyVertices}
use Rattle.ss_job.specs.declared.field_name.FieldName.{FieldName}
use Rattle.ss_job.specs.declared.field_name.FieldName.TheVariants.{Job, Vertex, MaxElements, CollectEvery}
use Rattle.ss_job.specs.declared.limits.Limits.{Limits}
use Rattle.ss_water.specs.Graph as graph
use Rattle.ss_water.specs.declared.node.Node.{Node}
use Rattle.ss_job.proofs.Earlier.{draft_in, kind-is_sink}
use Rattle.ss_job.proofs.FieldReadings.{optional_integer_reads, in_range_reads}
use Rattle.ss_job.proofs.Readings.{Reads, then, done, refused, made, placed, regrouped}
use Rattle.ss_job.proofs.VertexReadings.{vertex_reads}

-- ---- limits

max_elements_reads : (limits : Members) → Reads (optional_number MaxElements 131072 1 131072 limits) (field_faults (limit_value_faults MaxElements limits) limits (may_have MaxElements number)) (number_in MaxElements 131072 limits)
unfolding optional_number optional_integer
max_elements_reads limits = optional_integer_reads MaxElements (limit_value_faults MaxElements limits) (in_range_or MaxElements 131072 1 131072) (λ got. option_map_or magnitude got 131072) (done 131072) (in_range_reads MaxElements 1 131072) (get_member (key_of MaxElements) limits)

collect_every_reads : (limits : Members) → Reads (optional_number CollectEvery 256 64 131072 limits) (field_faults (limit_value_faults CollectEvery limits) limits (may_have CollectEvery number)) (number_in CollectEvery 256 limits)
unfolding optional_number optional_integer
collect_every_reads limits = optional_integer_reads CollectEvery (limit_value_faults CollectEvery limits) (in_range_or CollectEvery 256 64 131072) (λ got. option_map_or magnitude got 256) (done 256) (in_range_reads CollectEvery 64 131072) (get_member (key_of CollectEvery) limits)

abbrev limits_with : Members → Limits
limits_with limits = record { max_elements = number_in MaxElements 131072 limits; collect_every = number_in CollectEvery 256 limits }

limits_from_reads : (limits : Members) → Reads (limits_from limits) (limit_faults limits) (limits_with limits)
unfolding limits_from
limits_from_reads limits =
    then _ (refused (not (has_only (keys_of limit_fields) limits)) UnknownField) (λ _.
    then _ (max_elements_reads limits) (λ _.
    then _ (collect_every_reads limits) (λ _. done (limits_with limits))))

limits_reads : (document : Members) → Reads (limits_of document) (limits_faults (get_member (key_of Job) document)) (limits_with (limits_in document))
unfolding limits_of
limits_reads document = by_value (get_member (key_of Job) document)
  where
    by_value : (o : Option Data) → Reads (optional as_table Job o >>= limits_or) (limits_faults o) (limits_with (unwrap_or (option_and_then as_table o) no_members))
    by_value None = record { is = refl }
    by_value (Some (string n)) = record { is = refl }
    by_value (Some (integer n)) = record { is = refl }
    by_value (Some (float n)) = record { is = refl }
    by_value (Some (boolean n)) = record { is = refl }
    by_value (Some (datetime n)) = record { is = refl }
    by_value (Some (array n)) = record { is = refl }
    by_value (Some (table limits)) = limits_from_reads limits

-- ---- the array of the vertices

abbrev pub items_in : Members → Items
items_in document = unwrap_or (option_and_then as_array (get_member (key_of Vertex) document)) no_items

pub tables_in-items : (document : Members) → tables_in document ≡ tables_of (items_in document)
tables_in-items document = by_items (option_and_then as_array (get_member (key_of Vertex) document))
  where
    by_items : (o : Option Items) → option_map_or tables_of o [] ≡ tables_of (unwrap_or o no_items)
    by_items None = refl
    by_items (Some items) = refl

-- the array is one of tables, at most 32
pub record AreItems (items : Items) : Type 0 where
  pub tables : are_tables items ≡ true
  pub few : nat_lt most_vertices (item_count items) ≡ false

items_tested : (items : Items) (tables few : Bool) → Reads (required (cond tables (Some items) None) (WrongKind Vertex) >>= (λ items. refuse few TooManyVertices >> Ok items)) (fault_if (not tables) (WrongKind Vertex) ++ fault_if few TooManyVertices) items
items_tested items true true = record { is = refl }
items_tested items true false = record { is = refl }
items_tested items false few = record { is = refl }

items_reads : (document : Members) → Reads (items_of document) (array_faults (get_member (key_of Vertex) document)) (items_in document)
unfolding items_of
items_reads document = by_value (get_member (key_of Vertex) document)
  where
    by_value : (o : Option Data) → Reads (needed as_tables Vertex o >>= (λ items. refuse (nat_lt most_vertices (item_count items)) TooManyVertices >> Ok items)) (array_faults o) (unwrap_or (option_and_then as_array o) no_items)
    by_value None = record { is = refl }
    by_value (Some (string n)) = record { is = refl }
    by_value (Some (integer n)) = record { is = refl }
    by_value (Some (float n)) = record { is = refl }
    by_value (Some (boolean n)) = record { is = refl }
    by_value (Some (datetime n)) = record { is = refl }
    by_value (Some (array items)) = by_tests items (are_tables items)
      where
        by_tests : (items : Items) (tables : Bool) → Reads (required (cond tables (Some items) None) (WrongKind Vertex) >>= (λ items. refuse (nat_lt most_vertices (item_count items)) TooManyVertices >> Ok items)) (fault_if (not tables) (WrongKind Vertex) ++ fault_if (nat_lt most_vertices (item_count items)) TooManyVertices) items
        by_tests items true = made (λ _. items) (refused (nat_lt most_vertices (item_count items)) TooManyVertices)
        by_tests items false = record { is = refl }
    by_value (Some (table n)) = record { is = refl }

pub items_in-sound : (document : Members) → array_faults (get_member (key_of Vertex) document) ≡ [] → AreItems (items_in document)
items_in-sound document sound = by_value (get_member (key_of Vertex) document) sound
  where
    by_tests : (items : Items) (tables few : Bool) → are_tables items ≡ tables → nat_lt most_vertices (item_count items) ≡ few → fault_if (not tables) (WrongKind Vertex) ++ fault_if few TooManyVertices ≡ [] → AreItems items
    by_tests items true true a b sound = absurd (cc)
    by_tests items true false a b sound = record { tables = a; few = b }
    by_tests items false few a b sound = absurd (cc)

    by_value : (o : Option Data) → array_faults o ≡ [] → AreItems (unwrap_or (option_and_then as_array o) no_items)
    by_value None sound = absurd (cc)
    by_value (Some (string n)) sound = absurd (cc)
    by_value (Some (integer n)) sound = absurd (cc)
    by_value (Some (float n)) sound = absurd (cc)
    by_value (Some (boolean n)) sound = absurd (cc)
    by_value (Some (datetime n)) sound = absurd (cc)
    by_value (Some (array items)) sound = by_tests items (are_tables items) (nat_lt most_vertices (item_count items)) refl refl sound
    by_value (Some (table n)) sound = absurd (cc)

-- ---- the vertices one by one

pub drafts_reads : (earlier : List Members) (items : Items) → are_tables items ≡ true → Reads (drafts_after (length earlier) (draft_in earlier) items) (vertices_faults earlier (tables_of items)) (draft_in (earlier ++ tables_of items))
unfolding drafts_after draft_at
drafts_reads earlier no_items all = record { is = rw (append-nil earlier) }
drafts_reads earlier (item (string n) rest) all = absurd (false≢true all)
drafts_reads earlier (item (integer n) rest) all = absurd (false≢true all)
drafts_reads earlier (item (float n) rest) all = absurd (false≢true all)
drafts_reads earlier (item (boolean n) rest) all = absurd (false≢true all)
drafts_reads earlier (item (datetime n) rest) all = absurd (false≢true all)
drafts_reads earlier (item (array n) rest) all = absurd (false≢true all)
drafts_reads earlier (item (table t) rest) all =
    let more : length earlier + 1 ≡ length (earlier ++ t ∷ []) = omega (arith, length-append earlier (t ∷ [])) in
    then _ (placed (fault_of_vertex (length earlier)) (vertex_reads earlier t)) (λ _. rw (more, ← append_assoc earlier (t ∷ []) (tables_of rest)) (drafts_reads (earlier ++ t ∷ []) rest all))

-- ---- the graph

refused_at : (v : ℕ) (test : Bool) → Reads (refuse test (fault_of_vertex v Unread)) (map (fault_of_vertex v) (fault_if test Unread)) tt
refused_at v true = record { is = refl }
refused_at v false = record { is = refl }

streams_read : (nodes : List Node) (v : ℕ) (rest : List Node) → Reads (read_streams nodes v rest) (unread_faults nodes v rest) tt
unfolding read_streams
streams_read nodes v [] = record { is = refl }
streams_read nodes v (node ∷ rest) = then _ (refused_at v (graph.is_stream nodes v && not (graph.is_read nodes v))) (λ _. streams_read nodes (v + 1) rest)

refused_whole : (test : Bool) → Reads (refuse test (fault_of_document NoSink)) (map fault_of_document (fault_if test NoSink)) tt
refused_whole true = record { is = refl }
refused_whole false = record { is = refl }

pub sinks-roles : (tables : List Members) → list_any (λ role. graph.is_sink role.kind) (map role_in tables) ≡ list_any is_sink tables
sinks-roles [] = refl
sinks-roles (t ∷ tables) = rw (kind-is_sink t, sinks-roles tables)

pub graph_reads : (tables : List Members) → Reads (sound_graph (draft_in tables)) (graph_faults tables) tt
unfolding sound_graph
graph_reads tables = rw (sinks-roles tables) (then _ (refused_whole (not (list_any is_sink tables))) (λ _. streams_read (nodes_in tables) 0 (nodes_in tables)))

-- ---- the document

parts_reads : (document : Members) → Reads (parts_of document) (unknown_faults document_keys document ++ (limits_faults (get_member (key_of Job) document) ++ array_faults (get_member (key_of Vertex) document))) (limits_with (limits_in document), items_in document)
unfolding parts_of
parts_reads document =
    then {g = limits_faults (get_member (key_of Job) document) ++ array_faults (get_member (key_of Vertex) document)} {w = (limits_with (limits_in document), items_in document)} _ (refused (not (has_only document_keys document)) UnknownField) (λ _.
    then _ (limits_reads document) (λ _.
    made (λ items. (limits_with (limits_in document), items)) (items_reads document)))

pub nothing_mapped : {A B : Type 0} (f : A → B) (xs : List A) → map f xs ≡ [] → xs ≡ []
nothing_mapped f [] none = refl
nothing_mapped f (x ∷ xs) none = absurd (cc)

pub nothing_in : {A : Type 0} (xs ys : List A) → xs ++ ys ≡ [] → (xs ≡ []) × (ys ≡ [])
nothing_in [] ys none = (refl, none)
nothing_in (x ∷ xs) ys none = absurd (cc)

document_reads : (document : Members) → Reads (read_document document) (faults document) (job_in document)
unfolding read_document
document_reads document =
    let unknown = unknown_faults document_keys document in
    let limits = limits_faults (get_member (key_of Job) document) in
    let items = array_faults (get_member (key_of Vertex) document) in
    let tables : List Members = tables_of (items_in document) in
    rw (tables_in-items document)
    (regrouped (map fault_of_document ((unknown ++ limits) ++ items)) (vertices_faults [] tables) (graph_faults tables)
    (then _ (placed fault_of_document (regrouped unknown limits items (parts_reads document))) (λ sound.
    let sound_items = (nothing_in (unknown ++ limits) items (nothing_mapped fault_of_document ((unknown ++ limits) ++ items) sound)).1 in
    then _ (drafts_reads [] (items_in document) (items_in-sound document sound_items).tables) (λ _.
    made (λ _. job_with (draft_in tables) (limits_with (limits_in document))) (graph_reads tables)))))

-- the plain reader gives the job that the document says, or its first fault
pub read_document-job_of : (document : Members) → read_document document ≡ job_of document
read_document-job_of document = (document_reads document).is
