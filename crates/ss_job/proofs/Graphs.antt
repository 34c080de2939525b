-- The nodes of vertices with which nothing is wrong make a graph.
use Rattle.std.proofs.Common.{◌≡◌, ℕ, ◌+◌, ◌-◌, ◌<◌, ◌≤◌, Bool, true, false, not, ◌&&◌, zero, suc, List, [], ◌∷◌, ◌++◌, length, map, replicate, get_or, Ok, Some, refl, sym, ap, ◌∙◌, append_assoc, arith}
use Rattle.std.proofs.lemmas.Bool.{false≢true}
use Rattle.std.proofs.lemmas.List.{length-map, length-append, get_or_append_left}
use Rattle.std.specs.Prelude.{slice_get, unwrap_or}
use Rattle.toml.specs.Data.{Items, no_items, item, Members}
use Rattle.ss_job.specs.Faults.{first_fault_or, fault_of_vertex, fault_of_document, item_count, vertex_faults, vertices_faults, unread_faults}
use Rattle.ss_job.specs.Format.{most_inputs}
use Rattle.ss_job.specs.JobIn.{op_or_source, kind_of, inputs_in, node_in, nodes_after, nodes_in}
use Rattle.ss_job.specs.Lookup.{texts_in, tables_of}
use Rattle.ss_job.specs.Wrong.{fault_if, is_sink_at, number_of}
use Rattle.ss_job.specs.declared.fault.JobWhy.TheVariants.{Unread}
use Rattle.ss_job.specs.declared.field_name.FieldName.TheVariants.{Inputs}
use Rattle.ss_job.specs.declared.op.Op.{Op}
use Rattle.ss_job.specs.declared.op.Op.TheVariants as op
use Rattle.ss_water.specs.Graph.{IsGraph, IsLinkedAt, is_stream, is_read}
use Rattle.ss_water.specs.declared.node.Kind.TheVariants as kind
use Rattle.ss_water.specs.declared.node.Node.{Node}
use Rattle.ss_job.proofs.DocumentReadings.{nothing_in, nothing_mapped}
use Rattle.ss_job.proofs.Earlier.{streams_within}
use Rattle.ss_job.proofs.SoundInputs.{sound_vertex, sound_inputs, sound_numbers, most_inputs-few, inputs-few}

-- ---- where a node stands

-- the node is that of a table with which nothing is wrong, behind so many others
pub record IsNodeAt (before tables : List Members) (v : ℕ) (node : Node) : Type 0 where
  pub earlier : List Members
  pub table : Members
  pub later : List Members
  pub split : before ++ tables ≡ earlier ++ (table ∷ later)
  pub number : length earlier ≡ length before + v
  pub sound : vertex_faults earlier table ≡ []
  pub is : node ≡ node_in earlier table

some_is : {A : Type 0} {x y : A} → Some x ≡ Some y → y ≡ x
some_is e = cc

pub node_at : (before tables : List Members) (v : ℕ) (node : Node) → vertices_faults before tables ≡ [] → slice_get (nodes_after before tables) v ≡ Some node → IsNodeAt before tables v node
node_at before [] v node sound here = absurd (cc)
node_at before (t ∷ tables) zero node sound here =
    let first = (nothing_in (map (fault_of_vertex (length before)) (vertex_faults before t)) (vertices_faults (before ++ t ∷ []) tables) sound).0 in
    record {
      earlier = before;
      table = t;
      later = tables;
      split = refl;
      number = omega arith;
      sound = nothing_mapped (fault_of_vertex (length before)) (vertex_faults before t) first;
      is = some_is here;
    }
node_at before (t ∷ tables) (suc v) node sound here =
    let rest = (nothing_in (map (fault_of_vertex (length before)) (vertex_faults before t)) (vertices_faults (before ++ t ∷ []) tables) sound).1 in
    let found = node_at (before ++ t ∷ []) tables v node rest here in
    record {
      earlier = found.earlier;
      table = found.table;
      later = found.later;
      split = sym (append_assoc before (t ∷ []) tables) ∙ found.split;
      number = omega (arith, found.number, length-append before (t ∷ []));
      sound = found.sound;
      is = found.is;
    }

-- ---- each node is linked

sink_before : (earlier later : List Members) (v : ℕ) → v < length earlier → is_sink_at (earlier ++ later) v ≡ is_sink_at earlier v
sink_before [] later v within = absurd (omega arith)
sink_before (t ∷ earlier) later zero within = refl
sink_before (t ∷ earlier) later (suc v) within = sink_before earlier later v (omega arith)

source_op : (o : Op) → kind_of o ≡ kind.Source → most_inputs o ≡ 0
source_op op.Source e = refl
source_op op.Select e = absurd (cc)
source_op op.Union e = absurd (cc)
source_op op.Window e = absurd (cc)
source_op op.Join e = absurd (cc)
source_op op.Session e = absurd (cc)
source_op op.Except e = absurd (cc)
source_op op.Sink e = absurd (cc)

linked_at : (earlier : List Members) (t : Members) (later : List Members) → vertex_faults earlier t ≡ [] → IsLinkedAt (nodes_in (earlier ++ (t ∷ later))) (length earlier) (node_in earlier t)
linked_at earlier t later sound =
    let inputs = sound_inputs earlier t (sound_vertex earlier t sound) in
    let names = texts_in Inputs t in
    let numbers : List ℕ = inputs_in earlier t in
    let count : length numbers ≡ length names = length-map names (λ name. unwrap_or (number_of earlier name) 0) in
    let few : length names ≤ most_inputs (op_or_source t) = inputs-few (op_or_source t) (length names) inputs.count in
    let eight = most_inputs-few (op_or_source t) in
    let read = λ (i : ℕ) (within : i < length numbers). sound_numbers earlier names inputs.each i (omega arith) in
    let index = λ (i : ℕ) (within : i < length numbers). get_or_append_left numbers (replicate (8 - length numbers) 0) 0 i within in
    record {
      width = omega arith;
      source = λ e. let none = source_op (op_or_source t) e in omega arith;
      earlier = λ i within. let e = index i within in let r = (read i within).within in rw e r;
      stream = λ i within.
          let e = index i within in
          let r = read i within in
          let v = get_or numbers i 0 in
          rw e (streams_within [] (earlier ++ (t ∷ later)) v (omega (arith, length-append earlier (t ∷ later), r.within)) ∙ ap not (sink_before earlier (t ∷ later) v r.within ∙ r.stream));
    }

-- ---- each stream is read

read_here : (stream read : Bool) → fault_if (stream && not read) Unread ≡ [] → stream ≡ true → read ≡ true
read_here true true sound is_stream = refl
read_here true false sound is_stream = absurd (cc)
read_here false read sound is_stream = absurd (false≢true is_stream)

read-from : (nodes : List Node) (v : ℕ) (rest : List Node) (k u : ℕ) → unread_faults nodes v rest ≡ [] → k < length rest → u ≡ v + k → is_stream nodes u ≡ true → is_read nodes u ≡ true
read-from nodes v [] k u sound within place stream = absurd (omega arith)
read-from nodes v (node ∷ rest) zero u sound within place stream =
    let same : u ≡ v = omega arith in
    let first = (nothing_in (map (fault_of_vertex v) (fault_if (is_stream nodes v && not (is_read nodes v)) Unread)) (unread_faults nodes (v + 1) rest) sound).0 in
    let here = nothing_mapped (fault_of_vertex v) (fault_if (is_stream nodes v && not (is_read nodes v)) Unread) first in
    let stream_here : is_stream nodes v ≡ true = rw same at stream in
    rw same (read_here (is_stream nodes v) (is_read nodes v) here stream_here)
read-from nodes v (node ∷ rest) (suc k) u sound within place stream =
    let others = (nothing_in (map (fault_of_vertex v) (fault_if (is_stream nodes v && not (is_read nodes v)) Unread)) (unread_faults nodes (v + 1) rest) sound).1 in
    read-from nodes (v + 1) rest k u others (omega arith) (omega arith) stream

-- ---- the graph

pub length-nodes_after : (before tables : List Members) → length (nodes_after before tables) ≡ length tables
length-nodes_after before [] = refl
length-nodes_after before (t ∷ tables) = omega (arith, length-nodes_after (before ++ t ∷ []) tables)

stream_within : (nodes : List Node) (v : ℕ) → is_stream nodes v ≡ true → v < length nodes
stream_within [] v stream = absurd (false≢true stream)
stream_within (node ∷ nodes) zero stream = omega arith
stream_within (node ∷ nodes) (suc v) stream = omega (arith, stream_within nodes v stream)

linked_node : (tables : List Members) (v : ℕ) (node : Node) (earlier : List Members) (t : Members) (later : List Members) → tables ≡ earlier ++ (t ∷ later) → v ≡ length earlier → vertex_faults earlier t ≡ [] → node ≡ node_in earlier t → IsLinkedAt (nodes_in tables) v node
linked_node tables v node earlier t later split number sound is = rw (split, number, is) (linked_at earlier t later sound)

pub sound_graph-IsGraph : (tables : List Members) → length tables ≤ 32 → vertices_faults [] tables ≡ [] → unread_faults (nodes_in tables) 0 (nodes_in tables) ≡ [] → IsGraph (nodes_in tables)
sound_graph-IsGraph tables few sound read =
    record {
      count = omega (arith, length-nodes_after [] tables);
      linked = λ v node here.
          let found = node_at [] tables v node sound here in
          linked_node tables v node found.earlier found.table found.later found.split (omega (arith, found.number)) found.sound found.is;
      read = λ v stream. read-from (nodes_in tables) 0 (nodes_in tables) v v read (stream_within (nodes_in tables) v stream) (omega arith) stream;
    }

-- ---- what was read makes a graph

pub sound_reading : {A F : Type 0} (wrong : List F) (value read : A) → Ok read ≡ first_fault_or wrong value → (wrong ≡ []) × (read ≡ value)
sound_reading [] value read e = (refl, cc)
sound_reading (fault ∷ wrong) value read e = absurd (cc)

pub length-tables_of : (items : Items) → length (tables_of items) ≡ item_count items
length-tables_of no_items = refl
length-tables_of (item value rest) = omega (arith, length-tables_of rest)
