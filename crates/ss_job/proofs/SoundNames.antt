-- Names and files are such as they may be, names differ, and so do the files of sinks, where nothing is wrong.
use Rattle.std.proofs.Common.{◌≡◌, ℕ, Bool, true, false, not, ◌&&◌, List, [], ◌∷◌, ◌++◌, cond, length, map, Option, Some, None, bytes_eq, refl, sym, ap, ◌∙◌, append_assoc, append-nil, inl, inr}
use Rattle.std.proofs.lemmas.Bool.{cases_Bool, false≢true}
use Rattle.std.proofs.lemmas.List.{map-append}
use Rattle.std.proofs.lemmas.Map.Keys.{IsDistinct-push}
use Rattle.std.specs.Cmp.Lexicographic.{nat_list_eq_equiv}
use Rattle.std.specs.List.{IsDistinct, filter_map, cons_option}
use Rattle.std.specs.Option.{option_map_or}
use Rattle.std.specs.Prelude.{codes, filter, unwrap_or}
use Rattle.toml.specs.Data.{Members, get_member}
use Rattle.ss_job.specs.Faults.{fault_of_vertex, vertex_faults, vertices_faults}
use Rattle.ss_job.specs.Format.{key_of, has, text, name_field, fields_of}
use Rattle.ss_job.specs.JobIn.{op_or_source, file_in, role_in, vertex_in, vertex_with}
use Rattle.ss_job.specs.JobText.{sink_file_of_vertex}
use Rattle.ss_job.specs.Lookup.{text_in}
use Rattle.ss_job.specs.LegalNames.{is_vertex_name, is_file_name, is_source_file}
use Rattle.ss_job.specs.Wrong.{fault_if, is_among, is_sink, names_in, sink_files, value_faults}
use Rattle.ss_job.specs.declared.fault.JobWhy.TheVariants.{BadName, RepeatedName, RepeatedFile}
use Rattle.ss_job.specs.declared.field_name.FieldName.TheVariants.{Name, File}
use Rattle.ss_job.specs.declared.op.Op.{Op}
use Rattle.ss_job.specs.declared.op.Op.TheVariants as op
use Rattle.ss_job.proofs.DocumentReadings.{nothing_in, nothing_mapped}
use Rattle.ss_job.proofs.Earlier.{is_sink_op, is_sink-op}
use Rattle.ss_job.proofs.SoundFields.{wrong_at, needed_text_sound}
use Rattle.ss_job.proofs.SoundInputs.{sound_vertex}
use Rattle.ss_job.proofs.VertexReadings.{name_wrong, wrong_in, none_wrong, none_refused}

-- ---- the name of a vertex

abbrev name_or_none : Option (List ℕ) → List ℕ
name_or_none word = option_map_or (λ name. name) word []

-- a name that a vertex may have, and that no earlier one has
pub record IsNewName (earlier : List Members) (word : Option (List ℕ)) : Type 0 where
  pub legal : is_vertex_name (unwrap_or word []) ≡ true
  pub new : is_among (name_or_none word) (names_in earlier) ≡ false

pub sound_name : (earlier : List Members) (t : Members) → vertex_faults earlier t ≡ [] → IsNewName earlier (text_in Name t)
sound_name earlier t sound =
    needed_text_sound (IsNewName earlier) Name (name_wrong earlier) (λ word none.
    let (bad, repeated) = nothing_in (fault_if (not (is_vertex_name word)) BadName) (fault_if (is_among word (names_in earlier)) RepeatedName) none in
    record { legal = none_wrong (is_vertex_name word) BadName bad; new = none_refused (is_among word (names_in earlier)) RepeatedName repeated })
    (get_member (key_of Name) t) (sound_vertex earlier t sound).name

names_from : (before tables : List Members) → IsDistinct bytes_eq (names_in before) → vertices_faults before tables ≡ [] → IsDistinct bytes_eq (names_in (before ++ tables))
names_from before [] distinct sound = rw (append-nil before) distinct
names_from before (t ∷ tables) distinct sound =
    let (first, rest) = nothing_in (map (fault_of_vertex (length before)) (vertex_faults before t)) (vertices_faults (before ++ t ∷ []) tables) sound in
    let name = sound_name before t (nothing_mapped (fault_of_vertex (length before)) (vertex_faults before t) first) in
    let more : IsDistinct bytes_eq (names_in (before ++ t ∷ [])) =
    rw (map-append (λ (table : Members). name_or_none (text_in Name table)) before (t ∷ []))
    (IsDistinct-push nat_list_eq_equiv (names_in before) (name_or_none (text_in Name t)) distinct name.new) in
    rw (← append_assoc before (t ∷ []) tables) (names_from (before ++ t ∷ []) tables more rest)

unwrapped : (word : Option (List ℕ)) → unwrap_or word [] ≡ name_or_none word
unwrapped None = refl
unwrapped (Some name) = refl

names-roles : (tables : List Members) → map (λ role. role.name) (map role_in tables) ≡ names_in tables
names-roles [] = refl
names-roles (t ∷ tables) = rw (names-roles tables, unwrapped (text_in Name t))

pub names_distinct : (tables : List Members) → vertices_faults [] tables ≡ [] → IsDistinct bytes_eq (map (λ role. role.name) (map role_in tables))
unfolding IsDistinct
names_distinct tables sound = rw (names-roles tables) (names_from [] tables tt sound)

-- ---- the file of a source

both_true : (a b : Bool) → a ≡ true → b ≡ false → (a && not b) ≡ true
both_true a b holds fails = rw (holds, fails)

pub sound_source_file : (earlier : List Members) (t : Members) → wrong_in op.Source earlier t (fields_of op.Source) ≡ [] → is_source_file (file_in t) ≡ true
sound_source_file earlier t sound =
    needed_text_sound (λ word. is_source_file (unwrap_or word []) ≡ true) File (value_faults File op.Source earlier t) (λ file none.
    let (bad, output) = nothing_in (fault_if (not (is_file_name file)) BadName) (fault_if (bytes_eq file (codes "-")) BadName) none in
    both_true (is_file_name file) (bytes_eq file (codes "-")) (none_wrong (is_file_name file) BadName bad) (none_refused (bytes_eq file (codes "-")) BadName output))
    (get_member (key_of File) t) (wrong_at op.Source earlier t (fields_of op.Source) 0 (has File text) refl sound)

-- ---- the file of a sink

-- a file that a sink may have, and that no earlier one has
pub record IsNewFile (earlier : List Members) (word : Option (List ℕ)) : Type 0 where
  pub legal : is_file_name (unwrap_or word []) ≡ true
  pub new : is_among (name_or_none word) (sink_files earlier) ≡ false

pub sound_sink_file : (earlier : List Members) (t : Members) → wrong_in op.Sink earlier t (fields_of op.Sink) ≡ [] → IsNewFile earlier (text_in File t)
sound_sink_file earlier t sound =
    needed_text_sound (IsNewFile earlier) File (value_faults File op.Sink earlier t) (λ file none.
    let (bad, repeated) = nothing_in (fault_if (not (is_file_name file)) BadName) (fault_if (is_among file (sink_files earlier)) RepeatedFile) none in
    record { legal = none_wrong (is_file_name file) BadName bad; new = none_refused (is_among file (sink_files earlier)) RepeatedFile repeated })
    (get_member (key_of File) t) (wrong_at op.Sink earlier t (fields_of op.Sink) 1 (has File text) refl sound)

filter-push : {A : Type 0} (test : A → Bool) (xs : List A) (x : A) → filter test (xs ++ x ∷ []) ≡ cond (test x) (filter test xs ++ x ∷ []) (filter test xs)
filter-push test [] x = refl
filter-push test (y ∷ xs) x = rw (filter-push test xs x) (by_tests (test y) (test x))
  where
    by_tests : (a b : Bool) → cond a (y ∷ cond b (filter test xs ++ x ∷ []) (filter test xs)) (cond b (filter test xs ++ x ∷ []) (filter test xs)) ≡ cond b (cond a (y ∷ filter test xs) (filter test xs) ++ x ∷ []) (cond a (y ∷ filter test xs) (filter test xs))
    by_tests true true = refl
    by_tests true false = refl
    by_tests false true = refl
    by_tests false false = refl

is_sink_op-Sink : (o : Op) → is_sink_op o ≡ true → o ≡ op.Sink
is_sink_op-Sink op.Source e = absurd (false≢true e)
is_sink_op-Sink op.Select e = absurd (false≢true e)
is_sink_op-Sink op.Union e = absurd (false≢true e)
is_sink_op-Sink op.Window e = absurd (false≢true e)
is_sink_op-Sink op.Join e = absurd (false≢true e)
is_sink_op-Sink op.Session e = absurd (false≢true e)
is_sink_op-Sink op.Except e = absurd (false≢true e)
is_sink_op-Sink op.Sink e = refl

-- the files of the sinks with one table more
files_more : (before : List Members) (t : Members) → vertex_faults before t ≡ [] → IsDistinct bytes_eq (sink_files before) → IsDistinct bytes_eq (sink_files (before ++ t ∷ []))
files_more before t sound distinct =
    rw (filter-push is_sink before t)
    (elim (cases_Bool (is_sink t)) [
      | inl holds ↦
          let of_sink : op_or_source t ≡ op.Sink = is_sink_op-Sink (op_or_source t) (sym (is_sink-op t) ∙ holds) in
          let fields : wrong_in op.Sink before t (fields_of op.Sink) ≡ [] = rw of_sink at (sound_vertex before t sound).fields in
          let file = sound_sink_file before t fields in
          rw (holds, map-append (λ (table : Members). name_or_none (text_in File table)) (filter is_sink before) (t ∷ []))
          (IsDistinct-push nat_list_eq_equiv (sink_files before) (name_or_none (text_in File t)) distinct file.new)
      | inr fails ↦ rw fails distinct
    ])

files_from : (before tables : List Members) → IsDistinct bytes_eq (sink_files before) → vertices_faults before tables ≡ [] → IsDistinct bytes_eq (sink_files (before ++ tables))
files_from before [] distinct sound = rw (append-nil before) distinct
files_from before (t ∷ tables) distinct sound =
    let (first, rest) = nothing_in (map (fault_of_vertex (length before)) (vertex_faults before t)) (vertices_faults (before ++ t ∷ []) tables) sound in
    let more = files_more before t (nothing_mapped (fault_of_vertex (length before)) (vertex_faults before t) first) distinct in
    rw (← append_assoc before (t ∷ []) tables) (files_from (before ++ t ∷ []) tables more rest)

sink_file-vertex_with : (o : Op) (t : Members) → sink_file_of_vertex (vertex_with o t) ≡ cond (is_sink_op o) (Some (file_in t)) None
sink_file-vertex_with op.Source t = refl
sink_file-vertex_with op.Select t = refl
sink_file-vertex_with op.Union t = refl
sink_file-vertex_with op.Window t = refl
sink_file-vertex_with op.Join t = refl
sink_file-vertex_with op.Session t = refl
sink_file-vertex_with op.Except t = refl
sink_file-vertex_with op.Sink t = refl

files-vertices : (tables : List Members) → filter_map sink_file_of_vertex (map vertex_in tables) ≡ sink_files tables
files-vertices [] = refl
files-vertices (t ∷ tables) =
    rw (sink_file-vertex_with (op_or_source t) t, ← is_sink-op t, files-vertices tables, unwrapped (text_in File t)) (by_sink (is_sink t))
  where
    by_sink : (sink : Bool) → cons_option (cond sink (Some (name_or_none (text_in File t))) None) (sink_files tables) ≡ map (λ (table : Members). name_or_none (text_in File table)) (cond sink (t ∷ filter is_sink tables) (filter is_sink tables))
    by_sink true = refl
    by_sink false = refl

pub files_distinct : (tables : List Members) → vertices_faults [] tables ≡ [] → IsDistinct bytes_eq (filter_map sink_file_of_vertex (map vertex_in tables))
unfolding IsDistinct
files_distinct tables sound = rw (files-vertices tables) (files_from [] tables tt sound)
