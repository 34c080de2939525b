-- A plain reader of the fields of a table: what a field holds, or what is wrong with it.
use Rattle.std.specs.Prelude.{ℕ, ℤ, ◌*◌, Bool, false, ◌&&◌, List, Option, Some, None, option_and_then, Result, Ok}
use Rattle.std.specs.Prelude.{Err, unwrap_or, if◌then◌else◌, ⊤}
use Rattle.toml.specs.Data.{Data, Items, Members, as_str, as_integer, as_array, get_member}
use Rattle.ss_events.specs.declared.late.Late.{Late}
use Rattle.ss_events.specs.declared.late.Late.TheVariants.{Refuse}
use Rattle.ss_expr.specs.Kinds.{kind_fault}
use Rattle.ss_expr.specs.Reading.{expression_of}
use Rattle.ss_expr.specs.Tree.{Tree}
use Rattle.ss_expr.specs.declared.fault.ExprFault.{ExprFault}
use Rattle.ss_expr.specs.declared.kind.ValueKind.{ValueKind}
use Rattle.ss_expr.specs.declared.kind.ValueKind.TheVariants.{Truth, Num}
use Rattle.ss_expr.specs.declared.stream_operator.Agg.{Agg as Aggregate}
use Rattle.ss_expr.specs.declared.stream_operator.Field.{Field as EventField}
use Rattle.ss_expr.specs.declared.stream_operator.Field.TheVariants as value
use Rattle.ss_job.specs.Format.{key_of, are_texts}
use Rattle.ss_job.specs.Lookup.{magnitude, late_named, agg_named, value_named, replay_named}
use Rattle.ss_job.specs.Wrong.{is_within, is_multiple, out_of_range}
use Rattle.ss_job.specs.declared.fault.JobWhy.{JobWhy}
use Rattle.ss_job.specs.declared.fault.JobWhy.TheVariants.{MissingField, WrongKind, BadWord, BadExpr}
use Rattle.ss_job.specs.declared.field_name.FieldName.{FieldName}
use Rattle.ss_job.specs.declared.field_name.FieldName.TheVariants.{Late as LateField, Where, Size, Agg, Of, Recover}

infixl 10 ◌>>=◌
abbrev pub ◌>>=◌ : {A B E : Type 0} → Result A E → (A → Result B E) → Result B E
(Ok x) >>= f = f x
(Err e) >>= f = Err e

infixl 10 ◌>>◌
abbrev pub ◌>>◌ : {A B E : Type 0} → Result A E → Result B E → Result B E
r >> s = r >>= (λ _. s)

-- stops where the test holds
abbrev pub refuse : {E : Type 0} → Bool → E → Result ⊤ E
refuse test why = if test then Err why else Ok tt

-- a value that has to be there
abbrev pub required : {A E : Type 0} → Option A → E → Result A E
required (Some x) why = Ok x
required None why = Err why

-- ---- a field that has to be there, or may be; `shown` is what its kind of value shows

abbrev pub needed : {A : Type 0} → (Data → Option A) → FieldName → Option Data → Result A JobWhy
needed shown field None = Err (MissingField field)
needed shown field (Some value) = required (shown value) (WrongKind field)

abbrev pub optional : {A : Type 0} → (Data → Option A) → FieldName → Option Data → Result (Option A) JobWhy
optional shown field None = Ok None
optional shown field (Some value) = required (shown value) (WrongKind field) >>= (λ x. Ok (Some x))

unfoldable pub needed_text : FieldName → Members → Result (List ℕ) JobWhy
needed_text field table = needed as_str field (get_member (key_of field) table)

unfoldable pub optional_text : FieldName → Members → Result (Option (List ℕ)) JobWhy
optional_text field table = optional as_str field (get_member (key_of field) table)

unfoldable pub needed_integer : FieldName → Members → Result ℤ JobWhy
needed_integer field table = needed as_integer field (get_member (key_of field) table)

unfoldable pub optional_integer : FieldName → Members → Result (Option ℤ) JobWhy
optional_integer field table = optional as_integer field (get_member (key_of field) table)

-- an array of texts
abbrev pub if_texts : Items → Option Items
if_texts items = if are_texts items then Some items else None

abbrev pub as_texts : Data → Option Items
as_texts value = option_and_then if_texts (as_array value)

unfoldable pub needed_texts : FieldName → Members → Result Items JobWhy
needed_texts field table = needed as_texts field (get_member (key_of field) table)

-- ---- numbers

abbrev pub in_range : FieldName → ℕ → ℕ → ℤ → Result ℕ JobWhy
in_range field least most got =
    if is_within least most got then Ok (magnitude got) else Err (out_of_range field least most got)

abbrev pub in_range_or : FieldName → ℕ → ℕ → ℕ → Option ℤ → Result ℕ JobWhy
in_range_or field default least most None = Ok default
in_range_or field default least most (Some got) = in_range field least most got

unfoldable pub needed_number : FieldName → ℕ → ℕ → Members → Result ℕ JobWhy
needed_number field least most table = needed_integer field table >>= in_range field least most

unfoldable pub optional_number : FieldName → ℕ → ℕ → ℕ → Members → Result ℕ JobWhy
optional_number field default least most table = optional_integer field table >>= in_range_or field default least most

-- a size of one to 64 hops, and whole hops
abbrev pub whole_hops : ℕ → ℤ → Result ℕ JobWhy
whole_hops hop got =
    if is_within hop (64 * hop) got && is_multiple hop got then Ok (magnitude got)
    else Err (out_of_range Size hop (64 * hop) got)

unfoldable pub size_of : ℕ → Members → Result ℕ JobWhy
size_of hop table = needed_integer Size table >>= whole_hops hop

-- ---- words

abbrev pub meaning_or : {A : Type 0} → (List ℕ → Option A) → FieldName → A → Option (List ℕ) → Result A JobWhy
meaning_or named field default None = Ok default
meaning_or named field default (Some word) = required (named word) (BadWord field)

unfoldable pub late_of : Members → Result Late JobWhy
late_of table = optional_text LateField table >>= meaning_or late_named LateField Refuse

unfoldable pub value_of : Members → Result EventField JobWhy
value_of table = optional_text Of table >>= meaning_or value_named Of value.A

unfoldable pub replay_of : Members → Result Bool JobWhy
replay_of table = optional_text Recover table >>= meaning_or replay_named Recover false

unfoldable pub agg_of : Members → Result Aggregate JobWhy
agg_of table = needed_text Agg table >>= (λ word. required (agg_named word) (BadWord Agg))

-- ---- expressions

abbrev pub of_kind : FieldName → Tree → Option ℕ → Result Tree JobWhy
of_kind field e None = Ok e
of_kind field e (Some at) = Err (BadExpr field at)

abbrev pub if_kind : FieldName → ValueKind → Result Tree ExprFault → Result Tree JobWhy
if_kind field kind (Ok e) = of_kind field e (kind_fault e kind)
if_kind field kind (Err fault) = Err (BadExpr field fault.at)

-- the expression of this kind with a text
unfoldable pub expression_with : FieldName → ValueKind → List ℕ → Result Tree JobWhy
expression_with field kind text = if_kind field kind (expression_of text)

abbrev pub test_with : Option (List ℕ) → Result (Option Tree) JobWhy
test_with None = Ok None
test_with (Some text) = expression_with Where Truth text >>= (λ e. Ok (Some e))

unfoldable pub test_of : Members → Result (Option Tree) JobWhy
test_of table = optional_text Where table >>= test_with

-- a number of the rows, whose text is `default` where the field is left out
unfoldable pub row_number_of : FieldName → List ℕ → Members → Result Tree JobWhy
row_number_of field default table =
    optional_text field table >>= (λ text. expression_with field Num (unwrap_or text default))
