-- Worked examples of the definitions.
use Rattle.std.proofs.Common.{◌≡◌, ℕ, pos, true, false, List, [], ◌∷◌, Ok, Err, Some, None, replicate, refl}
use Rattle.std.specs.Prelude.{codes}
use Rattle.toml.proofs.OnLiterals.{toml_on_literals}
use Rattle.toml.specs.Data.{Data, string, integer, array, table, Items, no_items, item, Members, no_members, member}
use Rattle.toml.specs.Parse.{parse_document}
use Rattle.ss_events.specs.declared.late.Late.TheVariants.{Refuse}
use Rattle.ss_expr.specs.Tree.{leaf}
use Rattle.ss_expr.specs.declared.atom.Atom.TheVariants as atom
use Rattle.ss_expr.specs.declared.stream_operator.Agg.TheVariants as agg
use Rattle.ss_expr.specs.declared.stream_operator.Field.TheVariants as value
use Rattle.ss_expr.specs.declared.stream_operator.Spec.{Spec}
use Rattle.ss_expr.specs.declared.stream_operator.Spec.TheVariants as spec
use Rattle.ss_fail.specs.declared.role.Role.{Role}
use Rattle.ss_job.specs.Faults.{job_of, fault_of_document, fault_of_vertex}
use Rattle.ss_job.specs.JobText.{source, inner, sink, JobText}
use Rattle.ss_job.specs.LegalNames.{is_vertex_name, is_file_name}
use Rattle.ss_job.specs.declared.fault.JobWhy.TheVariants.{MissingField, WrongKind, UnknownField, RepeatedName, RepeatedFile, LaterInput, SinkAsInput, BadRange, BadExpr, Unread, NoSink}
use Rattle.ss_job.specs.declared.field_name.FieldName.TheVariants as field
use Rattle.ss_job.specs.declared.policy.Policy.{Policy}
use Rattle.ss_water.specs.declared.node.Kind.{Kind}
use Rattle.ss_water.specs.declared.node.Kind.TheVariants as kind
use Rattle.ss_water.specs.declared.node.Node.{Node}

-- ---- names

pub a_name : is_vertex_name (codes "a-1_Z") ≡ true
a_name = refl

pub digit_first : is_vertex_name (codes "1a") ≡ false
digit_first = refl

pub longest_name : is_vertex_name (codes "abcdefghijklmnopqrstuvwxyz-01234") ≡ true
longest_name = refl

pub name_too_long : is_vertex_name (codes "abcdefghijklmnopqrstuvwxyz-012345") ≡ false
name_too_long = refl

pub a_file : is_file_name (codes "my data/in.csv") ≡ true
a_file = refl

pub standard_error : is_file_name (codes "!") ≡ false
standard_error = refl

-- ---- tables, their fields in the order of the keys

-- a source `a`
abbrev source_table : Members
source_table = member (codes "file") (string (codes "in")) (member (codes "name") (string (codes "a")) (member (codes "op") (string (codes "source")) no_members))

abbrev one_text : List ℕ → Data
one_text word = array (item (string word) no_items)

-- a window `w` of `a` with this hop and this size
abbrev window_table : Data → Data → Members
window_table hop size =
    member (codes "agg") (string (codes "sum")) (member (codes "hop") hop (member (codes "inputs") (one_text (codes "a")) (member (codes "name") (string (codes "w")) (member (codes "op") (string (codes "window")) (member (codes "size") size no_members)))))

-- a sink with this name and this input
abbrev sink_table : List ℕ → List ℕ → Members
sink_table name input =
    member (codes "file") (string (codes "-")) (member (codes "inputs") (one_text input) (member (codes "name") (string name) (member (codes "op") (string (codes "sink")) no_members)))

abbrev items : List Members → Items
items [] = no_items
items (t ∷ tables) = item (table t) (items tables)

-- the document of these vertices
abbrev document : List Members → Members
document tables = member (codes "vertex") (array (items tables)) no_members

-- ---- a job

abbrev the_node : Kind → List ℕ → ℕ → Node
the_node kind inputs width = record { kind = kind; inputs = inputs; width = width }

abbrev the_role : List ℕ → Kind → Role
the_role name kind = record { name = name; kind = kind; replicas = 1 }

-- the policy where a vertex says none
abbrev the_policy : Policy
the_policy = record { replay = false; every = 64; replicas = 1 }

-- a source, an operator `name` that reads it and computes `s`, and a sink that reads that
abbrev the_job : List ℕ → Spec → JobText
the_job name s =
    record {
      graph = the_node kind.Source (replicate 8 0) 0 ∷ the_node kind.Inner (replicate 8 0) 1 ∷ the_node kind.Sink (1 ∷ replicate 7 0) 1 ∷ [];
      roles = the_role (codes "a") kind.Source ∷ the_role name kind.Inner ∷ the_role (codes "z") kind.Sink ∷ [];
      vertices = source (codes "in") Refuse ∷ inner s the_policy ∷ sink (codes "-") ∷ [];
      max_elements = 131072;
      collect_every = 256;
    }

pub a_window : job_of (document (source_table ∷ window_table (integer (pos 10)) (integer (pos 30)) ∷ sink_table (codes "z") (codes "w") ∷ [])) ≡ Ok (the_job (codes "w") (spec.Window 30 10 agg.Sum value.A))
a_window = refl

-- a select without a test and without numbers of its own
abbrev select_table : Members
select_table = member (codes "inputs") (one_text (codes "a")) (member (codes "name") (string (codes "s")) (member (codes "op") (string (codes "select")) no_members))

pub a_select : job_of (document (source_table ∷ select_table ∷ sink_table (codes "z") (codes "s") ∷ [])) ≡ Ok (the_job (codes "s") (spec.Select None (leaf 0 atom.A) (leaf 0 atom.B) (leaf 0 atom.C) (leaf 0 atom.D)))
a_select = refl

-- ---- the first fault

-- no table of limits, and no file: the field that the source doesn't have is found first
pub unknown_field_first : job_of (document (member (codes "name") (string (codes "a")) (member (codes "op") (string (codes "source")) (member (codes "size") (integer (pos 1)) no_members)) ∷ [])) ≡ Err (fault_of_vertex 0 UnknownField)
unknown_field_first = refl

pub no_file : job_of (document (member (codes "name") (string (codes "a")) (member (codes "op") (string (codes "source")) no_members) ∷ [])) ≡ Err (fault_of_vertex 0 (MissingField field.File))
no_file = refl

-- a hop out of its range is found before a size of another kind
pub hop_before_size : job_of (document (source_table ∷ window_table (integer (pos 0)) (string (codes "30")) ∷ [])) ≡ Err (fault_of_vertex 1 (BadRange field.Hop (pos 0) (pos 1) (pos 1099511627776)))
hop_before_size = refl

pub no_whole_hops : job_of (document (source_table ∷ window_table (integer (pos 10)) (integer (pos 35)) ∷ [])) ≡ Err (fault_of_vertex 1 (BadRange field.Size (pos 35) (pos 10) (pos 640)))
no_whole_hops = refl

pub too_many_hops : job_of (document (source_table ∷ window_table (integer (pos 10)) (integer (pos 650)) ∷ [])) ≡ Err (fault_of_vertex 1 (BadRange field.Size (pos 650) (pos 10) (pos 640)))
too_many_hops = refl

pub later_input : job_of (document (sink_table (codes "z") (codes "a") ∷ source_table ∷ [])) ≡ Err (fault_of_vertex 0 LaterInput)
later_input = refl

pub sink_as_input : job_of (document (source_table ∷ sink_table (codes "z") (codes "a") ∷ sink_table (codes "y") (codes "z") ∷ [])) ≡ Err (fault_of_vertex 2 SinkAsInput)
sink_as_input = refl

pub repeated_name : job_of (document (source_table ∷ sink_table (codes "a") (codes "a") ∷ [])) ≡ Err (fault_of_vertex 1 RepeatedName)
repeated_name = refl

pub repeated_file : job_of (document (source_table ∷ sink_table (codes "y") (codes "a") ∷ sink_table (codes "z") (codes "a") ∷ [])) ≡ Err (fault_of_vertex 2 RepeatedFile)
repeated_file = refl

pub no_sink : job_of (document (source_table ∷ [])) ≡ Err (fault_of_document NoSink)
no_sink = refl

pub no_vertices : job_of (document []) ≡ Err (fault_of_document NoSink)
no_vertices = refl

-- a second source that nothing reads
pub unread : job_of (document (source_table ∷ sink_table (codes "z") (codes "a") ∷ member (codes "file") (string (codes "in")) (member (codes "name") (string (codes "b")) (member (codes "op") (string (codes "source")) no_members)) ∷ [])) ≡ Err (fault_of_vertex 2 Unread)
unread = refl

pub no_table_of_limits : job_of (member (codes "job") (integer (pos 1)) no_members) ≡ Err (fault_of_document (WrongKind field.Job))
no_table_of_limits = refl

pub limit_out_of_range : job_of (member (codes "job") (table (member (codes "collect_every") (integer (pos 63)) no_members)) no_members) ≡ Err (fault_of_document (BadRange field.CollectEvery (pos 63) (pos 64) (pos 131072)))
limit_out_of_range = refl

-- a truth where a number is wanted: the fault is at the operator
pub no_number : job_of (document (source_table ∷ member (codes "a") (string (codes "a < b")) select_table ∷ [])) ≡ Err (fault_of_vertex 1 (BadExpr field.A 2))
no_number = refl

-- ---- whole texts

pub a_job_file : parse_document (codes "vertex = [{ name = 'a', op = 'source', file = 'in' }, { name = 'z', op = 'sink', inputs = ['a'], file = '-' }]") ≡ Some (document (source_table ∷ sink_table (codes "z") (codes "a") ∷ []))
unfolding toml_on_literals
a_job_file = refl

pub a_window_file : parse_document (codes "[[vertex]]\nop = 'window'\ninputs = ['a']\nsize = 30\nhop = 10\nagg = 'sum'\nname = 'w'\n") ≡ Some (document (window_table (integer (pos 10)) (integer (pos 30)) ∷ []))
unfolding toml_on_literals
a_window_file = refl
