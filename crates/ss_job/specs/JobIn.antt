-- The job that a document says, where nothing is wrong with it: field by field, with the defaults of the format.
use Rattle.std.specs.Prelude.{ℕ, ◌-◌, false, List, [], ◌∷◌, ◌++◌, length, map, replicate, unwrap_or, Option}
use Rattle.std.specs.Prelude.{option_map, option_and_then, codes}
use Rattle.std.specs.Option.{option_map_or}
use Rattle.toml.specs.Data.{Members, no_members, get_member, as_array, as_table}
use Rattle.ss_events.specs.declared.late.Late.TheVariants.{Refuse}
use Rattle.ss_expr.specs.declared.stream_operator.Agg.TheVariants as agg
use Rattle.ss_expr.specs.declared.stream_operator.Field.TheVariants as value
use Rattle.ss_expr.specs.declared.stream_operator.Spec.{Spec}
use Rattle.ss_expr.specs.declared.stream_operator.Spec.TheVariants as spec
use Rattle.ss_fail.specs.declared.role.Role.{Role}
use Rattle.ss_job.specs.Format.{key_of}
use Rattle.ss_job.specs.JobText.{VertexText, source, inner, sink, JobText}
use Rattle.ss_job.specs.Lookup.{text_in, number_in, texts_in, tables_of, word_in, tree_in, tree_of_text, op_named}
use Rattle.ss_job.specs.Lookup.{late_named, agg_named, value_named, replay_named}
use Rattle.ss_job.specs.Wrong.{number_of}
use Rattle.ss_job.specs.declared.field_name.FieldName.TheVariants.{Job, Vertex, MaxElements, CollectEvery, Name}
use Rattle.ss_job.specs.declared.field_name.FieldName.TheVariants.{Inputs, File, Late, Where, A, B, C, D, Size, Hop, Gap}
use Rattle.ss_job.specs.declared.field_name.FieldName.TheVariants.{Agg, Of, Recover, Every, Replicas, Op}
use Rattle.ss_job.specs.declared.op.Op.{Op as Operator}
use Rattle.ss_job.specs.declared.op.Op.TheVariants as op
use Rattle.ss_job.specs.declared.policy.Policy.{Policy}
use Rattle.ss_water.specs.declared.node.Kind.{Kind}
use Rattle.ss_water.specs.declared.node.Kind.TheVariants as kind
use Rattle.ss_water.specs.declared.node.Node.{Node}

-- the tables of the vertices
abbrev pub tables_in : Members → List Members
tables_in document = option_map_or tables_of (option_and_then as_array (get_member (key_of Vertex) document)) []

-- the table of limits, where there is one
abbrev pub limits_in : Members → Members
limits_in document = unwrap_or (option_and_then as_table (get_member (key_of Job) document)) no_members

abbrev pub op_in : Members → Option Operator
op_in table = option_and_then op_named (text_in Op table)

abbrev pub kind_of : Operator → Kind
kind_of op.Source = kind.Source
kind_of op.Sink = kind.Sink
kind_of _ = kind.Inner

abbrev pub policy_in : Members → Policy
policy_in table =
    record {
      replay = word_in replay_named Recover false table;
      every = number_in Every 64 table;
      replicas = number_in Replicas 1 table;
    }

-- what each operator computes
abbrev pub select_in : Members → Spec
select_in table =
    spec.Select (option_map tree_of_text (text_in Where table))
    (tree_in A (codes "a") table) (tree_in B (codes "b") table)
    (tree_in C (codes "c") table) (tree_in D (codes "d") table)

abbrev pub window_in : Members → Spec
window_in table =
    spec.Window (number_in Size 0 table) (number_in Hop 0 table)
    (word_in agg_named Agg agg.Sum table) (word_in value_named Of value.A table)

abbrev pub session_in : Members → Spec
session_in table =
    spec.Session (number_in Gap 0 table) (word_in agg_named Agg agg.Sum table) (word_in value_named Of value.A table)

-- the file of a source or a sink
abbrev pub file_in : Members → List ℕ
file_in table = unwrap_or (text_in File table) []

-- what a vertex with this op does
abbrev pub vertex_with : Operator → Members → VertexText
vertex_with op.Source table = source (file_in table) (word_in late_named Late Refuse table)
vertex_with op.Select table = inner (select_in table) (policy_in table)
vertex_with op.Union table = inner spec.Union (policy_in table)
vertex_with op.Window table = inner (window_in table) (policy_in table)
vertex_with op.Join table = inner spec.Join (policy_in table)
vertex_with op.Session table = inner (session_in table) (policy_in table)
vertex_with op.Except table = inner spec.Except (policy_in table)
vertex_with op.Sink table = sink (file_in table)

abbrev pub op_or_source : Members → Operator
op_or_source table = unwrap_or (op_in table) op.Source

abbrev pub vertex_in : Members → VertexText
vertex_in table = vertex_with (op_or_source table) table

abbrev pub role_in : Members → Role
role_in table =
    record {
      name = unwrap_or (text_in Name table) [];
      kind = kind_of (op_or_source table);
      replicas = number_in Replicas 1 table;
    }

-- the numbers of the vertices that a vertex reads, and behind them zeros up to eight
abbrev pub inputs_in : List Members → Members → List ℕ
inputs_in earlier table = map (λ name. unwrap_or (number_of earlier name) 0) (texts_in Inputs table)

abbrev pub node_in : List Members → Members → Node
node_in earlier table =
    let inputs = inputs_in earlier table in
    record {
      kind = kind_of (op_or_source table);
      inputs = inputs ++ replicate (8 - length inputs) 0;
      width = length inputs;
    }

-- the nodes of these vertices, where `earlier` stand before them
abbrev pub nodes_after : List Members → List Members → List Node
nodes_after earlier [] = []
nodes_after earlier (table ∷ tables) = node_in earlier table ∷ nodes_after (earlier ++ table ∷ []) tables

abbrev pub nodes_in : List Members → List Node
nodes_in tables = nodes_after [] tables

-- the job that a document says
abbrev pub job_in : Members → JobText
job_in document =
    record {
      graph = nodes_in (tables_in document);
      roles = map role_in (tables_in document);
      vertices = map vertex_in (tables_in document);
      max_elements = number_in MaxElements 131072 (limits_in document);
      collect_every = number_in CollectEvery 256 (limits_in document);
    }
