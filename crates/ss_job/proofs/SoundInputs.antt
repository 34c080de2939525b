-- What holds of the table of a vertex with which nothing is wrong.
use Rattle.std.proofs.Common.{◌≡◌, ℕ, ◌<◌, ◌≤◌, Bool, true, false, not, zero, suc, List, [], ◌∷◌, length, map, drop, get_or, Option, Some, None, bytes_eq, refl, inl, inr, arith}
use Rattle.std.proofs.lemmas.Bool.{cases_Bool, and_parts, leb-true}
use Rattle.std.proofs.lemmas.List.{length-map}
use Rattle.std.proofs.lemmas.List.Quantifiers.{position-Some}
use Rattle.std.specs.Prelude.{nat_le, unwrap_or, option_and_then, flat_map}
use Rattle.std.specs.Option.{option_map_or}
use Rattle.toml.specs.Data.{Data, string, integer, float, boolean, datetime, array, table, Members, get_member, as_array}
use Rattle.ss_job.specs.Document.{has_only}
use Rattle.ss_job.specs.Faults.{called_faults, rest_faults, vertex_faults}
use Rattle.ss_job.specs.Format.{Field, key_of, has, texts, are_texts, name_field, op_field, fields_of, vertex_keys, most_inputs}
use Rattle.ss_job.specs.JobIn.{op_in, op_or_source}
use Rattle.ss_job.specs.Lookup.{text_in, texts_in, texts_of}
use Rattle.ss_job.specs.Wrong.{fault_if, names_in, number_of, input_faults, inputs_faults, is_sink_at, has_input_count, said_faults, field_faults, unknown_faults, value_faults}
use Rattle.ss_job.specs.declared.fault.JobWhy.TheVariants.{UnknownField, WrongInputCount, LaterInput, SinkAsInput}
use Rattle.ss_job.specs.declared.field_name.FieldName.TheVariants.{Name, Inputs}
use Rattle.ss_job.specs.declared.op.Op.{Op}
use Rattle.ss_job.specs.declared.op.Op.TheVariants as op
use Rattle.ss_job.proofs.Absent.{get_member-absent}
use Rattle.ss_job.proofs.DocumentReadings.{nothing_in}
use Rattle.ss_job.proofs.VertexReadings.{name_wrong, op_wrong, wrong_in, none_wrong, none_refused, op_in-sound}

-- ---- a vertex

pub record SoundVertex (earlier : List Members) (t : Members) : Type 0 where
  pub op : op_in t ≡ Some (op_or_source t)
  pub name : field_faults (name_wrong earlier) t name_field ≡ []
  pub only : has_only (vertex_keys (op_or_source t)) t ≡ true
  pub fields : wrong_in (op_or_source t) earlier t (fields_of (op_or_source t)) ≡ []

pub sound_vertex : (earlier : List Members) (t : Members) → vertex_faults earlier t ≡ [] → SoundVertex earlier t
sound_vertex earlier t sound =
    let (called, rest) = nothing_in (called_faults earlier t) (rest_faults earlier t (op_in t)) sound in
    let (name, word) = nothing_in (field_faults (name_wrong earlier) t name_field) (field_faults op_wrong t op_field) called in
    let is_op : op_in t ≡ Some (op_or_source t) = op_in-sound t word in
    let rest_of_op : rest_faults earlier t (Some (op_or_source t)) ≡ [] = rw is_op at rest in
    let (unknown, fields) = nothing_in (unknown_faults (vertex_keys (op_or_source t)) t) (wrong_in (op_or_source t) earlier t (fields_of (op_or_source t))) rest_of_op in
    record { op = is_op; name = name; only = none_wrong (has_only (vertex_keys (op_or_source t)) t) UnknownField unknown; fields = fields }

-- ---- its inputs

array_sound : (o : Op) (earlier : List Members) (t : Members) → field_faults (value_faults Inputs o earlier t) t (has Inputs texts) ≡ [] → inputs_faults o earlier (texts_in Inputs t) ≡ []
array_sound o earlier t sound = by_value (get_member (key_of Inputs) t) sound
  where
    by_value : (value : Option Data) → said_faults (value_faults Inputs o earlier t) (has Inputs texts) value ≡ [] → inputs_faults o earlier (option_map_or texts_of (option_and_then as_array value) []) ≡ []
    by_value None sound = absurd (cc)
    by_value (Some (string n)) sound = absurd (cc)
    by_value (Some (integer n)) sound = absurd (cc)
    by_value (Some (float n)) sound = absurd (cc)
    by_value (Some (boolean n)) sound = absurd (cc)
    by_value (Some (datetime n)) sound = absurd (cc)
    by_value (Some (table n)) sound = absurd (cc)
    by_value (Some (array items)) sound =
        elim (cases_Bool (are_texts items)) [
          | inl all ↦ rw all at sound
          | inr some ↦ let wrong = rw some at sound in absurd (cc)
        ]

-- the number of inputs is one that the op takes, and each is one that may be read
pub record SoundInputs (earlier : List Members) (t : Members) : Type 0 where
  pub count : has_input_count (op_or_source t) (length (texts_in Inputs t)) ≡ true
  pub each : flat_map (input_faults earlier) (texts_in Inputs t) ≡ []

read_inputs : (o : Op) (earlier : List Members) (t : Members) (others : List Field) → wrong_in o earlier t (has Inputs texts ∷ others) ≡ [] → inputs_faults o earlier (texts_in Inputs t) ≡ []
read_inputs o earlier t others sound = array_sound o earlier t (nothing_in (field_faults (value_faults Inputs o earlier t) t (has Inputs texts)) (wrong_in o earlier t others) sound).0

no_inputs : (o : Op) (earlier : List Members) (t : Members) → o ≡ op.Source → has_only (vertex_keys o) t ≡ true → inputs_faults o earlier (texts_in Inputs t) ≡ []
no_inputs o earlier t is_source only =
    let only_these : has_only (vertex_keys op.Source) t ≡ true = rw is_source at only in
    rw (is_source, get_member-absent (key_of Inputs) (vertex_keys op.Source) t only_these refl)

op_inputs : (o : Op) (earlier : List Members) (t : Members) → has_only (vertex_keys o) t ≡ true → wrong_in o earlier t (fields_of o) ≡ [] → inputs_faults o earlier (texts_in Inputs t) ≡ []
op_inputs op.Source earlier t only sound = no_inputs op.Source earlier t refl only
op_inputs op.Select earlier t only sound = read_inputs op.Select earlier t (drop 1 (fields_of op.Select)) sound
op_inputs op.Union earlier t only sound = read_inputs op.Union earlier t (drop 1 (fields_of op.Union)) sound
op_inputs op.Window earlier t only sound = read_inputs op.Window earlier t (drop 1 (fields_of op.Window)) sound
op_inputs op.Join earlier t only sound = read_inputs op.Join earlier t (drop 1 (fields_of op.Join)) sound
op_inputs op.Session earlier t only sound = read_inputs op.Session earlier t (drop 1 (fields_of op.Session)) sound
op_inputs op.Except earlier t only sound = read_inputs op.Except earlier t (drop 1 (fields_of op.Except)) sound
op_inputs op.Sink earlier t only sound = read_inputs op.Sink earlier t (drop 1 (fields_of op.Sink)) sound

pub sound_inputs : (earlier : List Members) (t : Members) → SoundVertex earlier t → SoundInputs earlier t
sound_inputs earlier t sound =
    let names = texts_in Inputs t in
    let (count, each) = nothing_in (fault_if (not (has_input_count (op_or_source t) (length names))) WrongInputCount) (flat_map (input_faults earlier) names) (op_inputs (op_or_source t) earlier t sound.only sound.fields) in
    record { count = none_wrong (has_input_count (op_or_source t) (length names)) WrongInputCount count; each = each }

-- an earlier vertex, which is no sink
pub record IsEarlierStream (earlier : List Members) (v : ℕ) : Type 0 where
  pub within : v < length earlier
  pub stream : is_sink_at earlier v ≡ false

sound_input : (earlier : List Members) (name : List ℕ) → input_faults earlier name ≡ [] → IsEarlierStream earlier (unwrap_or (number_of earlier name) 0)
sound_input earlier name sound = by_number (number_of earlier name) refl sound
  where
    by_number : (o : Option ℕ) → number_of earlier name ≡ o → option_map_or (λ v. fault_if (is_sink_at earlier v) SinkAsInput) o (LaterInput ∷ []) ≡ [] → IsEarlierStream earlier (unwrap_or o 0)
    by_number None e sound = absurd (cc)
    by_number (Some v) e sound =
        let within : v < length (names_in earlier) = (position-Some (λ other. bytes_eq name other) (names_in earlier) v [] e).0 in
        record {
          within = omega (arith, length-map earlier (λ (t : Members). option_map_or (λ name. name) (text_in Name t) []), within);
          stream = none_refused (is_sink_at earlier v) SinkAsInput sound;
        }

pub sound_numbers : (earlier : List Members) (names : List (List ℕ)) → flat_map (input_faults earlier) names ≡ [] → (i : ℕ) → i < length names
    → IsEarlierStream earlier (get_or (map (λ name. unwrap_or (number_of earlier name) 0) names) i 0)
sound_numbers earlier [] sound i within = absurd (omega arith)
sound_numbers earlier (name ∷ names) sound zero within = sound_input earlier name (nothing_in (input_faults earlier name) (flat_map (input_faults earlier) names) sound).0
sound_numbers earlier (name ∷ names) sound (suc i) within = sound_numbers earlier names (nothing_in (input_faults earlier name) (flat_map (input_faults earlier) names) sound).1 i (omega arith)

-- how many inputs
pub most_inputs-few : (o : Op) → most_inputs o ≤ 8
most_inputs-few op.Source = omega arith
most_inputs-few op.Select = omega arith
most_inputs-few op.Union = omega arith
most_inputs-few op.Window = omega arith
most_inputs-few op.Join = omega arith
most_inputs-few op.Session = omega arith
most_inputs-few op.Except = omega arith
most_inputs-few op.Sink = omega arith

pub inputs-few : (o : Op) (count : ℕ) → has_input_count o count ≡ true → count ≤ most_inputs o
inputs-few o count takes = leb-true count (most_inputs o) (and_parts _ (nat_le count (most_inputs o)) takes).1
