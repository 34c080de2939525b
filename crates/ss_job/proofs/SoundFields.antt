-- What holds of the fields of a table with which nothing is wrong.
use Rattle.std.proofs.Common.{◌≡◌, ℕ, ℤ, pos, negsuc, ◌*◌, ◌%◌, ◌^◌, Bool, true, false, ◌&&◌, zero, suc, List, [], ◌∷◌, Result, Ok, Err, Option, Some, None, cond, refl}
use Rattle.std.proofs.lemmas.Bool.{and_parts, leb-true, false≢true}
use Rattle.std.proofs.lemmas.Bool.Decides.{Decides-eqb}
use Rattle.std.specs.Prelude.{nat_le, codes, option_and_then, slice_get}
use Rattle.std.specs.Option.{option_map_or}
use Rattle.toml.specs.Data.{Data, string, integer, float, boolean, datetime, array, table, Members, as_str, as_integer}
use Rattle.ss_expr.specs.Kinds.{HasKind, kind_fault, kind_of, misfit, same_kind}
use Rattle.ss_expr.specs.Reading.{expression_of}
use Rattle.ss_expr.specs.Tree.{Tree, leaf, place}
use Rattle.ss_expr.specs.declared.atom.Atom.TheVariants as atom
use Rattle.ss_expr.specs.declared.fault.ExprFault.{ExprFault}
use Rattle.ss_expr.specs.declared.kind.ValueKind.{ValueKind}
use Rattle.ss_expr.specs.declared.kind.ValueKind.TheVariants.{Num, Text, Truth}
use Rattle.ss_job.specs.Format.{Field, has, may_have, text, number}
use Rattle.ss_job.specs.Lookup.{magnitude, tree_of_text, tree_or}
use Rattle.ss_job.specs.Sound.{IsFrom, IsWindow}
use Rattle.ss_job.specs.Wrong.{is_within, is_multiple, out_of_range, range_faults, size_faults, kind_faults, tree_faults, expression_faults, said_faults, field_faults, value_faults}
use Rattle.ss_job.specs.declared.fault.JobWhy.{JobWhy}
use Rattle.ss_job.specs.declared.field_name.FieldName.{FieldName}
use Rattle.ss_job.specs.declared.field_name.FieldName.TheVariants.{Size}
use Rattle.ss_job.specs.declared.op.Op.{Op}
use Rattle.ss_job.proofs.DocumentReadings.{nothing_in}
use Rattle.ss_job.proofs.VertexReadings.{wrong_in, none_wrong}

-- ---- one field of several

pub wrong_at : (o : Op) (earlier : List Members) (t : Members) (fields : List Field) (k : ℕ) (field : Field) → slice_get fields k ≡ Some field → wrong_in o earlier t fields ≡ [] → field_faults (value_faults field.name o earlier t) t field ≡ []
wrong_at o earlier t [] k field here sound = absurd (cc)
wrong_at o earlier t (first ∷ fields) zero field here sound =
    let same : first ≡ field = cc in
    rw (← same) (nothing_in (field_faults (value_faults first.name o earlier t) t first) (wrong_in o earlier t fields) sound).0
wrong_at o earlier t (first ∷ fields) (suc k) field here sound =
    wrong_at o earlier t fields k field here (nothing_in (field_faults (value_faults first.name o earlier t) t first) (wrong_in o earlier t fields) sound).1

-- ---- numbers

within_from : (least most : ℕ) (got : ℤ) → is_within least most got ≡ true → IsFrom least most (magnitude got)
within_from least most (pos n) within =
    let (low, high) = and_parts (nat_le least n) (nat_le n most) within in
    record { least_of = leb-true least n low; most_of = leb-true n most high }
within_from least most (negsuc n) within = absurd (false≢true within)

pub range_sound : (field : FieldName) (least most : ℕ) (got : ℤ) → range_faults field least most got ≡ [] → IsFrom least most (magnitude got)
range_sound field least most got sound = within_from least most got (none_wrong (is_within least most got) (out_of_range field least most got) sound)

pub size_from : (hop : ℕ) (got : ℤ) → IsFrom 1 (2 ^ 40) hop → size_faults hop got ≡ [] → IsWindow (magnitude got) hop
size_from hop got is_hop sound = by_sign got (and_parts (is_within hop (64 * hop) got) (is_multiple hop got) (none_wrong (is_within hop (64 * hop) got && is_multiple hop got) (out_of_range Size hop (64 * hop) got) sound))
  where
    by_sign : (got : ℤ) → (is_within hop (64 * hop) got ≡ true) × (is_multiple hop got ≡ true) → IsWindow (magnitude got) hop
    by_sign (pos n) parts = record { hop_of = is_hop; size_of = within_from hop (64 * hop) (pos n) parts.0; multiple = (Decides-eqb (n % hop) 0).0 parts.1 }
    by_sign (negsuc n) parts = absurd (false≢true parts.0)

module _ (P : ℕ → Type 0) (field : FieldName) (wrong : Data → List JobWhy) where
  pub needed_number_sound : ((got : ℤ) → wrong (integer got) ≡ [] → P (magnitude got)) → (o : Option Data) (default : ℕ) → said_faults wrong (has field number) o ≡ [] → P (option_map_or magnitude (option_and_then as_integer o) default)
  needed_number_sound each None default sound = absurd (cc)
  needed_number_sound each (Some (string n)) default sound = absurd (cc)
  needed_number_sound each (Some (integer n)) default sound = each n sound
  needed_number_sound each (Some (float n)) default sound = absurd (cc)
  needed_number_sound each (Some (boolean n)) default sound = absurd (cc)
  needed_number_sound each (Some (datetime n)) default sound = absurd (cc)
  needed_number_sound each (Some (array n)) default sound = absurd (cc)
  needed_number_sound each (Some (table n)) default sound = absurd (cc)

  pub optional_number_sound : ((got : ℤ) → wrong (integer got) ≡ [] → P (magnitude got)) → (o : Option Data) (default : ℕ) → P default → said_faults wrong (may_have field number) o ≡ [] → P (option_map_or magnitude (option_and_then as_integer o) default)
  optional_number_sound each None default is sound = is
  optional_number_sound each (Some (string n)) default is sound = absurd (cc)
  optional_number_sound each (Some (integer n)) default is sound = each n sound
  optional_number_sound each (Some (float n)) default is sound = absurd (cc)
  optional_number_sound each (Some (boolean n)) default is sound = absurd (cc)
  optional_number_sound each (Some (datetime n)) default is sound = absurd (cc)
  optional_number_sound each (Some (array n)) default is sound = absurd (cc)
  optional_number_sound each (Some (table n)) default is sound = absurd (cc)

-- ---- texts; `P` holds of what the field says

module _ (P : Option (List ℕ) → Type 0) (field : FieldName) (wrong : Data → List JobWhy) where
  pub needed_text_sound : ((word : List ℕ) → wrong (string word) ≡ [] → P (Some word)) → (o : Option Data) → said_faults wrong (has field text) o ≡ [] → P (option_and_then as_str o)
  needed_text_sound each None sound = absurd (cc)
  needed_text_sound each (Some (string word)) sound = each word sound
  needed_text_sound each (Some (integer n)) sound = absurd (cc)
  needed_text_sound each (Some (float n)) sound = absurd (cc)
  needed_text_sound each (Some (boolean n)) sound = absurd (cc)
  needed_text_sound each (Some (datetime n)) sound = absurd (cc)
  needed_text_sound each (Some (array n)) sound = absurd (cc)
  needed_text_sound each (Some (table n)) sound = absurd (cc)

  pub optional_text_sound : ((word : List ℕ) → wrong (string word) ≡ [] → P (Some word)) → P None → (o : Option Data) → said_faults wrong (may_have field text) o ≡ [] → P (option_and_then as_str o)
  optional_text_sound each is None sound = is
  optional_text_sound each is (Some (string word)) sound = each word sound
  optional_text_sound each is (Some (integer n)) sound = absurd (cc)
  optional_text_sound each is (Some (float n)) sound = absurd (cc)
  optional_text_sound each is (Some (boolean n)) sound = absurd (cc)
  optional_text_sound each is (Some (datetime n)) sound = absurd (cc)
  optional_text_sound each is (Some (array n)) sound = absurd (cc)
  optional_text_sound each is (Some (table n)) sound = absurd (cc)

-- ---- expressions

same_kind-is : (kind want : ValueKind) → same_kind kind want ≡ true → kind ≡ want
same_kind-is Num Num same = refl
same_kind-is Num Text same = absurd (false≢true same)
same_kind-is Num Truth same = absurd (false≢true same)
same_kind-is Text Num same = absurd (false≢true same)
same_kind-is Text Text same = refl
same_kind-is Text Truth same = absurd (false≢true same)
same_kind-is Truth Num same = absurd (false≢true same)
same_kind-is Truth Text same = absurd (false≢true same)
same_kind-is Truth Truth same = refl

no_fault : (test : Bool) (at : ℕ) → cond test None (Some at) ≡ None → test ≡ true
no_fault true at none = refl
no_fault false at none = absurd (cc)

kind_fault-none : (e : Tree) (want : ValueKind) → kind_fault e want ≡ None → HasKind e want
kind_fault-none e want none = by_misfit (misfit e) refl
  where
    by_misfit : (m : Option ℕ) → misfit e ≡ m → HasKind e want
    by_misfit (Some at) is = let some = rw is at none in absurd (cc)
    by_misfit None is = let root = rw is at none in record { fitting = is; root = same_kind-is (kind_of e) want (no_fault (same_kind (kind_of e) want) (place e) root) }

pub expression_sound : (field : FieldName) (kind : ValueKind) (words : List ℕ) → expression_faults field kind words ≡ [] → HasKind (tree_of_text words) kind
expression_sound field kind words sound = by_reading (expression_of words) sound
  where
    by_kind : (e : Tree) (fault : Option ℕ) → kind_fault e kind ≡ fault → kind_faults field fault ≡ [] → HasKind e kind
    by_kind e None is sound = kind_fault-none e kind is
    by_kind e (Some at) is sound = absurd (cc)

    by_reading : (r : Result Tree ExprFault) → tree_faults field kind r ≡ [] → HasKind (tree_or (leaf 0 atom.A) r) kind
    by_reading (Ok e) sound = by_kind e (kind_fault e kind) refl sound
    by_reading (Err fault) sound = absurd (cc)

-- the texts of the fields that are left out
pub default_a_kind : HasKind (tree_of_text (codes "a")) Num
default_a_kind = record { fitting = refl; root = refl }

pub default_b_kind : HasKind (tree_of_text (codes "b")) Num
default_b_kind = record { fitting = refl; root = refl }

pub default_c_kind : HasKind (tree_of_text (codes "c")) Num
default_c_kind = record { fitting = refl; root = refl }

pub default_d_kind : HasKind (tree_of_text (codes "d")) Num
default_d_kind = record { fitting = refl; root = refl }
