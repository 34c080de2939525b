-- What a table says in its fields, where nothing is wrong with them. A field that may be left out has a default.
use Rattle.std.specs.Prelude.{ℕ, ℤ, pos, negsuc, Bool, true, false, List, [], ◌∷◌, Option, Some, None}
use Rattle.std.specs.Prelude.{option_and_then, unwrap_or, Result, Ok, Err, bytes_eq, codes, if◌then◌else◌}
use Rattle.std.specs.Option.{option_map_or}
use Rattle.toml.specs.Data.{Items, no_items, item, Members, no_members, get_member, as_str, as_integer, as_array}
use Rattle.toml.specs.Data.{as_table}
use Rattle.ss_events.specs.declared.late.Late.{Late}
use Rattle.ss_events.specs.declared.late.Late.TheVariants as late
use Rattle.ss_expr.specs.Reading.{expression_of}
use Rattle.ss_expr.specs.Tree.{Tree, leaf}
use Rattle.ss_expr.specs.declared.fault.ExprFault.{ExprFault}
use Rattle.ss_expr.specs.declared.atom.Atom.TheVariants as atom
use Rattle.ss_expr.specs.declared.stream_operator.Agg.{Agg}
use Rattle.ss_expr.specs.declared.stream_operator.Agg.TheVariants as agg
use Rattle.ss_expr.specs.declared.stream_operator.Field.{Field}
use Rattle.ss_expr.specs.declared.stream_operator.Field.TheVariants as field
use Rattle.ss_job.specs.Format.{key_of}
use Rattle.ss_job.specs.declared.field_name.FieldName.{FieldName}
use Rattle.ss_job.specs.declared.op.Op.{Op}
use Rattle.ss_job.specs.declared.op.Op.TheVariants as op

-- the meaning of a word among words, each with its meaning
abbrev pub meaning_in : {A : Type 0} → List (List ℕ × A) → List ℕ → Option A
meaning_in [] word = None
meaning_in (entry ∷ entries) word = if bytes_eq word entry.0 then Some entry.1 else meaning_in entries word

abbrev pub op_named : List ℕ → Option Op
op_named =
    meaning_in (
    (codes "source", op.Source) ∷ (codes "select", op.Select) ∷ (codes "union", op.Union)
    ∷ (codes "window", op.Window) ∷ (codes "join", op.Join) ∷ (codes "session", op.Session)
    ∷ (codes "except", op.Except) ∷ (codes "sink", op.Sink) ∷ []
    )

abbrev pub late_named : List ℕ → Option Late
late_named = meaning_in ((codes "refuse", late.Refuse) ∷ (codes "drop", late.Drop) ∷ [])

abbrev pub agg_named : List ℕ → Option Agg
agg_named = meaning_in ((codes "sum", agg.Sum) ∷ (codes "min", agg.Least) ∷ (codes "max", agg.Greatest) ∷ [])

abbrev pub value_named : List ℕ → Option Field
value_named =
    meaning_in
    ((codes "a", field.A) ∷ (codes "b", field.B) ∷ (codes "c", field.C) ∷ (codes "d", field.D) ∷ [])

-- whether a vertex is recovered by replay
abbrev pub replay_named : List ℕ → Option Bool
replay_named = meaning_in ((codes "checkpoint", false) ∷ (codes "replay", true) ∷ [])

-- the text of a field, where it holds one
abbrev pub text_in : FieldName → Members → Option (List ℕ)
text_in name table = option_and_then as_str (get_member (key_of name) table)

-- the number of a field that holds none below 0
abbrev pub magnitude : ℤ → ℕ
magnitude (pos n) = n
magnitude (negsuc n) = 0

abbrev pub number_in : FieldName → ℕ → Members → ℕ
number_in name default table =
    option_map_or magnitude (option_and_then as_integer (get_member (key_of name) table)) default

-- the texts of an array
abbrev pub texts_of : Items → List (List ℕ)
texts_of no_items = []
texts_of (item value rest) = unwrap_or (as_str value) [] ∷ texts_of rest

abbrev pub texts_in : FieldName → Members → List (List ℕ)
texts_in name table = option_map_or texts_of (option_and_then as_array (get_member (key_of name) table)) []

-- the tables of an array
abbrev pub tables_of : Items → List Members
tables_of no_items = []
tables_of (item value rest) = unwrap_or (as_table value) no_members ∷ tables_of rest

-- what the word of a field means
abbrev pub word_in : {A : Type 0} → (List ℕ → Option A) → FieldName → A → Members → A
word_in named name default table = unwrap_or (option_and_then named (text_in name table)) default

-- the expression with a text
abbrev pub tree_or : Tree → Result Tree ExprFault → Tree
tree_or default (Ok e) = e
tree_or default (Err fault) = default

abbrev pub tree_of_text : List ℕ → Tree
tree_of_text text = tree_or (leaf 0 atom.A) (expression_of text)

-- the expression of a field; the field has the text `default` where it is left out
abbrev pub tree_in : FieldName → List ℕ → Members → Tree
tree_in name default table = tree_of_text (unwrap_or (text_in name table) default)
