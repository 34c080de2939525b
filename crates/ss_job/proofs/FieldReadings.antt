-- Each field is read as what the format says of it.
use Rattle.std.proofs.Common.{◌≡◌, ℕ, ℤ, ◌*◌, ◌^◌, Bool, true, false, not, ◌&&◌, List, [], cond, Result, Ok, Err, Option, Some, None, refl}
use Rattle.std.specs.Prelude.{unwrap_or, option_map, option_and_then, codes}
use Rattle.std.specs.Option.{option_map_or}
use Rattle.toml.specs.Data.{Data, string, integer, float, boolean, datetime, array, table, Members, get_member, as_str, as_integer}
use Rattle.ss_events.specs.declared.late.Late.TheVariants.{Refuse}
use Rattle.ss_expr.specs.Kinds.{kind_fault}
use Rattle.ss_expr.specs.Reading.{expression_of}
use Rattle.ss_expr.specs.Tree.{Tree, leaf}
use Rattle.ss_expr.specs.declared.atom.Atom.TheVariants as atom
use Rattle.ss_expr.specs.declared.fault.ExprFault.{ExprFault}
use Rattle.ss_expr.specs.declared.kind.ValueKind.{ValueKind}
use Rattle.ss_expr.specs.declared.kind.ValueKind.TheVariants.{Truth, Num}
use Rattle.ss_expr.specs.declared.stream_operator.Agg.TheVariants as agg
use Rattle.ss_expr.specs.declared.stream_operator.Field.TheVariants as value
use Rattle.ss_job.specs.Faults.{first_fault_or}
use Rattle.ss_job.specs.Fields.{◌>>=◌, required, needed, optional, needed_text, optional_text, needed_integer, optional_integer, in_range, in_range_or, needed_number, optional_number, whole_hops, size_of, meaning_or, late_of, value_of, replay_of, agg_of, of_kind, if_kind, expression_with, test_with, test_of, row_number_of}
use Rattle.ss_job.specs.Format.{key_of, has, may_have, text, number}
use Rattle.ss_job.specs.Lookup.{magnitude, number_in, word_in, tree_in, tree_of_text, tree_or, text_in, late_named, agg_named, value_named, replay_named}
use Rattle.ss_job.specs.Wrong.{fault_if, range_faults, is_within, is_multiple, out_of_range, size_faults, kind_faults, tree_faults, expression_faults, said_faults, field_faults, value_faults}
use Rattle.ss_job.specs.declared.fault.JobWhy.{JobWhy}
use Rattle.ss_job.specs.declared.fault.JobWhy.TheVariants.{BadWord}
use Rattle.ss_job.specs.declared.field_name.FieldName.{FieldName}
use Rattle.ss_job.specs.declared.field_name.FieldName.TheVariants.{Late, Where, A, B, C, D, Size, Hop, Gap, Agg, Of, Recover, Every, Replicas}
use Rattle.ss_job.specs.declared.op.Op.{Op}
use Rattle.ss_job.proofs.Readings.{Reads, done, found, made}

-- ---- by the kind of the value; `value` is what the field says

module _ {B : Type 0} (field : FieldName) (wrong : Data → List JobWhy) where
  pub needed_text_reads : (k : List ℕ → Result B JobWhy) (says : Option (List ℕ) → B) → ((word : List ℕ) → Reads (k word) (wrong (string word)) (says (Some word)))
      → (o : Option Data) → Reads (needed as_str field o >>= k) (said_faults wrong (has field text) o) (says (option_and_then as_str o))
  needed_text_reads k says reads None = record { is = refl }
  needed_text_reads k says reads (Some (string word)) = reads word
  needed_text_reads k says reads (Some (integer n)) = record { is = refl }
  needed_text_reads k says reads (Some (float n)) = record { is = refl }
  needed_text_reads k says reads (Some (boolean n)) = record { is = refl }
  needed_text_reads k says reads (Some (datetime n)) = record { is = refl }
  needed_text_reads k says reads (Some (array n)) = record { is = refl }
  needed_text_reads k says reads (Some (table n)) = record { is = refl }

  pub optional_text_reads : (k : Option (List ℕ) → Result B JobWhy) (says : Option (List ℕ) → B) → Reads (k None) [] (says None) → ((word : List ℕ) → Reads (k (Some word)) (wrong (string word)) (says (Some word)))
      → (o : Option Data) → Reads (optional as_str field o >>= k) (said_faults wrong (may_have field text) o) (says (option_and_then as_str o))
  optional_text_reads k says nothing reads None = nothing
  optional_text_reads k says nothing reads (Some (string word)) = reads word
  optional_text_reads k says nothing reads (Some (integer n)) = record { is = refl }
  optional_text_reads k says nothing reads (Some (float n)) = record { is = refl }
  optional_text_reads k says nothing reads (Some (boolean n)) = record { is = refl }
  optional_text_reads k says nothing reads (Some (datetime n)) = record { is = refl }
  optional_text_reads k says nothing reads (Some (array n)) = record { is = refl }
  optional_text_reads k says nothing reads (Some (table n)) = record { is = refl }

  pub needed_integer_reads : (k : ℤ → Result B JobWhy) (says : Option ℤ → B) → ((got : ℤ) → Reads (k got) (wrong (integer got)) (says (Some got)))
      → (o : Option Data) → Reads (needed as_integer field o >>= k) (said_faults wrong (has field number) o) (says (option_and_then as_integer o))
  needed_integer_reads k says reads None = record { is = refl }
  needed_integer_reads k says reads (Some (string word)) = record { is = refl }
  needed_integer_reads k says reads (Some (integer n)) = reads n
  needed_integer_reads k says reads (Some (float n)) = record { is = refl }
  needed_integer_reads k says reads (Some (boolean n)) = record { is = refl }
  needed_integer_reads k says reads (Some (datetime n)) = record { is = refl }
  needed_integer_reads k says reads (Some (array n)) = record { is = refl }
  needed_integer_reads k says reads (Some (table n)) = record { is = refl }

  pub optional_integer_reads : (k : Option ℤ → Result B JobWhy) (says : Option ℤ → B) → Reads (k None) [] (says None) → ((got : ℤ) → Reads (k (Some got)) (wrong (integer got)) (says (Some got)))
      → (o : Option Data) → Reads (optional as_integer field o >>= k) (said_faults wrong (may_have field number) o) (says (option_and_then as_integer o))
  optional_integer_reads k says nothing reads None = nothing
  optional_integer_reads k says nothing reads (Some (string word)) = record { is = refl }
  optional_integer_reads k says nothing reads (Some (integer n)) = reads n
  optional_integer_reads k says nothing reads (Some (float n)) = record { is = refl }
  optional_integer_reads k says nothing reads (Some (boolean n)) = record { is = refl }
  optional_integer_reads k says nothing reads (Some (datetime n)) = record { is = refl }
  optional_integer_reads k says nothing reads (Some (array n)) = record { is = refl }
  optional_integer_reads k says nothing reads (Some (table n)) = record { is = refl }

-- ---- numbers

pub in_range_reads : (field : FieldName) (least most : ℕ) (got : ℤ) → Reads (in_range field least most got) (range_faults field least most got) (magnitude got)
in_range_reads field least most got = record { is = by_test (is_within least most got) }
  where
    by_test : (test : Bool) → cond test (Ok (magnitude got)) (Err (out_of_range field least most got)) ≡ first_fault_or (fault_if (not test) (out_of_range field least most got)) (magnitude got)
    by_test true = refl
    by_test false = refl

pub whole_hops_reads : (hop : ℕ) (got : ℤ) → Reads (whole_hops hop got) (size_faults hop got) (magnitude got)
whole_hops_reads hop got = record { is = by_test (is_within hop (64 * hop) got && is_multiple hop got) }
  where
    by_test : (test : Bool) → cond test (Ok (magnitude got)) (Err (out_of_range Size hop (64 * hop) got)) ≡ first_fault_or (fault_if (not test) (out_of_range Size hop (64 * hop) got)) (magnitude got)
    by_test true = refl
    by_test false = refl

-- ---- expressions

pub of_kind_reads : (field : FieldName) (e : Tree) (fault : Option ℕ) → Reads (of_kind field e fault) (kind_faults field fault) e
of_kind_reads field e None = record { is = refl }
of_kind_reads field e (Some at) = record { is = refl }

pub if_kind_reads : (field : FieldName) (kind : ValueKind) (default : Tree) (r : Result Tree ExprFault) → Reads (if_kind field kind r) (tree_faults field kind r) (tree_or default r)
if_kind_reads field kind default (Ok e) = of_kind_reads field e (kind_fault e kind)
if_kind_reads field kind default (Err fault) = record { is = refl }

pub expression_reads : (field : FieldName) (kind : ValueKind) (words : List ℕ) → Reads (expression_with field kind words) (expression_faults field kind words) (tree_of_text words)
unfolding expression_with
expression_reads field kind words = if_kind_reads field kind (leaf 0 atom.A) (expression_of words)

-- the texts `a`, `b`, `c` and `d` are numbers of a row
pub default_a_reads : Reads (expression_with A Num (codes "a")) [] (tree_of_text (codes "a"))
unfolding expression_with
default_a_reads = record { is = refl }

pub default_b_reads : Reads (expression_with B Num (codes "b")) [] (tree_of_text (codes "b"))
unfolding expression_with
default_b_reads = record { is = refl }

pub default_c_reads : Reads (expression_with C Num (codes "c")) [] (tree_of_text (codes "c"))
unfolding expression_with
default_c_reads = record { is = refl }

pub default_d_reads : Reads (expression_with D Num (codes "d")) [] (tree_of_text (codes "d"))
unfolding expression_with
default_d_reads = record { is = refl }

module _ (op : Op) (earlier : List Members) (t : Members) where
  pub hop_reads : Reads (needed_number Hop 1 (2 ^ 40) t) (field_faults (value_faults Hop op earlier t) t (has Hop number)) (number_in Hop 0 t)
  unfolding needed_number needed_integer
  hop_reads = needed_integer_reads Hop (value_faults Hop op earlier t) (in_range Hop 1 (2 ^ 40)) (λ got. option_map_or magnitude got 0) (in_range_reads Hop 1 (2 ^ 40)) (get_member (key_of Hop) t)

  pub gap_reads : Reads (needed_number Gap 1 (2 ^ 40) t) (field_faults (value_faults Gap op earlier t) t (has Gap number)) (number_in Gap 0 t)
  unfolding needed_number needed_integer
  gap_reads = needed_integer_reads Gap (value_faults Gap op earlier t) (in_range Gap 1 (2 ^ 40)) (λ got. option_map_or magnitude got 0) (in_range_reads Gap 1 (2 ^ 40)) (get_member (key_of Gap) t)

  pub size_reads : Reads (size_of (number_in Hop 0 t) t) (field_faults (value_faults Size op earlier t) t (has Size number)) (number_in Size 0 t)
  unfolding size_of needed_integer
  size_reads = needed_integer_reads Size (value_faults Size op earlier t) (whole_hops (number_in Hop 0 t)) (λ got. option_map_or magnitude got 0) (whole_hops_reads (number_in Hop 0 t)) (get_member (key_of Size) t)

  pub every_reads : Reads (optional_number Every 64 1 131072 t) (field_faults (value_faults Every op earlier t) t (may_have Every number)) (number_in Every 64 t)
  unfolding optional_number optional_integer
  every_reads = optional_integer_reads Every (value_faults Every op earlier t) (in_range_or Every 64 1 131072) (λ got. option_map_or magnitude got 64) (done 64) (in_range_reads Every 1 131072) (get_member (key_of Every) t)

  pub replicas_reads : Reads (optional_number Replicas 1 1 4 t) (field_faults (value_faults Replicas op earlier t) t (may_have Replicas number)) (number_in Replicas 1 t)
  unfolding optional_number optional_integer
  replicas_reads = optional_integer_reads Replicas (value_faults Replicas op earlier t) (in_range_or Replicas 1 1 4) (λ got. option_map_or magnitude got 1) (done 1) (in_range_reads Replicas 1 4) (get_member (key_of Replicas) t)

  -- ---- words

  pub late_reads : Reads (late_of t) (field_faults (value_faults Late op earlier t) t (may_have Late text)) (word_in late_named Late Refuse t)
  unfolding late_of optional_text
  late_reads = optional_text_reads Late (value_faults Late op earlier t) (meaning_or late_named Late Refuse) (λ word. unwrap_or (option_and_then late_named word) Refuse) (done Refuse) (λ word. found (late_named word) Refuse (BadWord Late)) (get_member (key_of Late) t)

  pub value_reads : Reads (value_of t) (field_faults (value_faults Of op earlier t) t (may_have Of text)) (word_in value_named Of value.A t)
  unfolding value_of optional_text
  value_reads = optional_text_reads Of (value_faults Of op earlier t) (meaning_or value_named Of value.A) (λ word. unwrap_or (option_and_then value_named word) value.A) (done value.A) (λ word. found (value_named word) value.A (BadWord Of)) (get_member (key_of Of) t)

  pub replay_reads : Reads (replay_of t) (field_faults (value_faults Recover op earlier t) t (may_have Recover text)) (word_in replay_named Recover false t)
  unfolding replay_of optional_text
  replay_reads = optional_text_reads Recover (value_faults Recover op earlier t) (meaning_or replay_named Recover false) (λ word. unwrap_or (option_and_then replay_named word) false) (done false) (λ word. found (replay_named word) false (BadWord Recover)) (get_member (key_of Recover) t)

  pub agg_reads : Reads (agg_of t) (field_faults (value_faults Agg op earlier t) t (has Agg text)) (word_in agg_named Agg agg.Sum t)
  unfolding agg_of needed_text
  agg_reads = needed_text_reads Agg (value_faults Agg op earlier t) (λ word. required (agg_named word) (BadWord Agg)) (λ word. unwrap_or (option_and_then agg_named word) agg.Sum) (λ word. found (agg_named word) agg.Sum (BadWord Agg)) (get_member (key_of Agg) t)

  -- ---- expressions

  pub test_reads : Reads (test_of t) (field_faults (value_faults Where op earlier t) t (may_have Where text)) (option_map tree_of_text (text_in Where t))
  unfolding test_of optional_text
  test_reads = optional_text_reads Where (value_faults Where op earlier t) test_with (λ words. option_map tree_of_text words) (done None) (λ words. made (λ e. Some e) (expression_reads Where Truth words)) (get_member (key_of Where) t)

  pub a_reads : Reads (row_number_of A (codes "a") t) (field_faults (value_faults A op earlier t) t (may_have A text)) (tree_in A (codes "a") t)
  unfolding row_number_of optional_text
  a_reads = optional_text_reads A (value_faults A op earlier t) (λ words. expression_with A Num (unwrap_or words (codes "a"))) (λ words. tree_of_text (unwrap_or words (codes "a"))) default_a_reads (λ words. expression_reads A Num words) (get_member (key_of A) t)

  pub b_reads : Reads (row_number_of B (codes "b") t) (field_faults (value_faults B op earlier t) t (may_have B text)) (tree_in B (codes "b") t)
  unfolding row_number_of optional_text
  b_reads = optional_text_reads B (value_faults B op earlier t) (λ words. expression_with B Num (unwrap_or words (codes "b"))) (λ words. tree_of_text (unwrap_or words (codes "b"))) default_b_reads (λ words. expression_reads B Num words) (get_member (key_of B) t)

  pub c_reads : Reads (row_number_of C (codes "c") t) (field_faults (value_faults C op earlier t) t (may_have C text)) (tree_in C (codes "c") t)
  unfolding row_number_of optional_text
  c_reads = optional_text_reads C (value_faults C op earlier t) (λ words. expression_with C Num (unwrap_or words (codes "c"))) (λ words. tree_of_text (unwrap_or words (codes "c"))) default_c_reads (λ words. expression_reads C Num words) (get_member (key_of C) t)

  pub d_reads : Reads (row_number_of D (codes "d") t) (field_faults (value_faults D op earlier t) t (may_have D text)) (tree_in D (codes "d") t)
  unfolding row_number_of optional_text
  d_reads = optional_text_reads D (value_faults D op earlier t) (λ words. expression_with D Num (unwrap_or words (codes "d"))) (λ words. tree_of_text (unwrap_or words (codes "d"))) default_d_reads (λ words. expression_reads D Num words) (get_member (key_of D) t)
