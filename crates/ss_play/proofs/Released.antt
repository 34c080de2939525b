-- The files that are given up, one vertex behind another.
use Rattle.std.proofs.Common.{◌≡◌, ℕ, ◌+◌, ◌<◌, ◌≤◌, Bool, true, false, List, [], ◌∷◌, ◌++◌, length, take, Some, cond, max}
use Rattle.std.proofs.Common.{refl, sym, ap, ◌∙◌, arith}
use Rattle.std.specs.Prelude.{◌||◌, bytes_eq, option_and_then, option_map}
use Rattle.std.specs.List.{list_any, slice_get}
use Rattle.std.proofs.lemmas.Bool.{cond-false, cond-true, false_from_ne_true, or_parts}
use Rattle.std.proofs.lemmas.List.{take_all, take_more}
use Rattle.std.proofs.lemmas.List.Folds.{list_any-append}
use Rattle.std.proofs.lemmas.Option.{slice_get-get_or}
use Rattle.std.proofs.lemmas.Slice.Eq.{bytes_eq-Decides}
use Rattle.ss_job.specs.JobText.{VertexText, source, inner, sink, JobText, file_of, file_of_vertex, op_of, op_of_spec, op_of_vertex}
use Rattle.ss_job.specs.declared.op.Op.{Op}
use Rattle.ss_job.specs.declared.op.Op.TheVariants as op
use Rattle.ss_expr.specs.declared.stream_operator.Spec.{Spec}
use Rattle.ss_expr.specs.declared.stream_operator.Spec.TheVariants as spec
use Rattle.ss_outside.specs.Told.{FileTold, untold, missing, held, InputsTold, Releases, with_mark}
use Rattle.ss_state.specs.LowWater.{least_of}
use Rattle.ss_play.specs.Releasing.{ReleasesAll, ReleasesFiles, is_source_of, least_mark, mark_among, marks_among, text_at}
use Rattle.ss_play.proofs.Least.{no_mark}

-- ---- what a vertex is

is_no_source : (s : Spec) → op_of_spec s ≡ op.Source → ⊥
is_no_source (spec.Select test a b c d) e = absurd cc
is_no_source spec.Union e = absurd cc
is_no_source (spec.Window size hop agg of) e = absurd cc
is_no_source spec.Join e = absurd cc
is_no_source (spec.Session gap agg of) e = absurd cc
is_no_source spec.Except e = absurd cc

-- a source with a file is one with this file where it is the same
source_with : (x : VertexText) (file name : List ℕ) → op_of_vertex x ≡ op.Source → file_of_vertex x ≡ Some file
    → is_source_of name x ≡ bytes_eq file name
source_with (source other late) file name e f =
    let same : other ≡ file = cc in
    ap (λ (t : List ℕ). bytes_eq t name) same
source_with (inner s policy) file name e f = absurd (is_no_source s e)
source_with (sink other) file name e f = absurd cc

no_source : (x : VertexText) (name : List ℕ) → (op_of_vertex x ≡ op.Source → ⊥) → is_source_of name x ≡ false
no_source (source other late) name ne = absurd (ne refl)
no_source (inner s policy) name ne = refl
no_source (sink other) name ne = refl

text_is : (job : JobText) (v : ℕ) → v < length job.vertices → slice_get job.vertices v ≡ Some (text_at job v)
text_is job v h = slice_get-get_or job.vertices v (sink []) h

op_at : (job : JobText) (v : ℕ) (o : Op) → v < length job.vertices → op_of job v ≡ Some o → op_of_vertex (text_at job v) ≡ o
op_at job v o h e =
    let f : Some (op_of_vertex (text_at job v)) ≡ Some o = sym (ap (option_map op_of_vertex) (text_is job v h)) ∙ e in
    cc

pub source_at : (job : JobText) (v : ℕ) (file name : List ℕ) → v < length job.vertices → op_of job v ≡ Some op.Source
    → file_of job v ≡ Some file → is_source_of name (text_at job v) ≡ bytes_eq file name
source_at job v file name h e f =
    source_with (text_at job v) file name (op_at job v op.Source h e)
    (sym (ap (option_and_then file_of_vertex) (text_is job v h)) ∙ f)

pub no_source_at : (job : JobText) (v : ℕ) (o : Op) (name : List ℕ) → v < length job.vertices → op_of job v ≡ Some o
    → (o ≡ op.Source → ⊥) → is_source_of name (text_at job v) ≡ false
no_source_at job v o name h e ne = no_source (text_at job v) name (λ s. ne (sym (op_at job v o h e) ∙ s))

-- ---- one release

pub unmarked : (file : FileTold) → with_mark 0 file ≡ file
unmarked untold = refl
unmarked missing = refl
unmarked (held file) =
    ap (λ (m : ℕ). held (record file { mark = m })) (let e : max file.mark 0 ≡ file.mark = omega arith in e)

one_among : (job : JobText) (marks : ℕ → ℕ) (x : VertexText) (name : List ℕ) (b : Bool) → is_source_of name x ≡ b
    → mark_among job marks (x ∷ []) name ≡ cond b (least_mark job marks name) 0
one_among job marks x name true e = ap (λ (b : Bool). cond (b || false) (least_mark job marks name) 0) e
one_among job marks x name false e = ap (λ (b : Bool). cond (b || false) (least_mark job marks name) 0) e

-- a name that is that of the file, or not
released_name : (job : JobText) (marks : ℕ → ℕ) (x : VertexText) (file name : List ℕ) (told : FileTold) (b : Bool)
    → bytes_eq name file ≡ b → is_source_of name x ≡ bytes_eq file name
    → cond (bytes_eq name file) (with_mark (least_mark job marks file) told) told
    ≡ with_mark (mark_among job marks (x ∷ []) name) told
released_name job marks x file name told true e is =
    let same : name ≡ file = (bytes_eq-Decides name file).0 e in
    let back : bytes_eq file name ≡ true = (bytes_eq-Decides file name).1 (sym same) in
    cond-true (bytes_eq name file) _ told e
    ∙ ap (λ (t : List ℕ). with_mark (least_mark job marks t) told) (sym same)
    ∙ ap (λ (m : ℕ). with_mark m told) (sym (one_among job marks x name true (is ∙ back)))
released_name job marks x file name told false e is =
    let back : bytes_eq file name ≡ false =
    false_from_ne_true (bytes_eq file name)
    (λ t. let f : false ≡ true = sym e ∙ (bytes_eq-Decides name file).1 (sym ((bytes_eq-Decides file name).0 t)) in absurd cc) in
    cond-false (bytes_eq name file) (with_mark (least_mark job marks file) told) told e
    ∙ sym (unmarked told)
    ∙ ap (λ (m : ℕ). with_mark m told) (sym (one_among job marks x name false (is ∙ back)))

-- the file of a source is released
pub one_released : (job : JobText) (marks : ℕ → ℕ) (v : ℕ) (file : List ℕ) (old new : InputsTold) → v < length job.vertices
    → op_of job v ≡ Some op.Source → file_of job v ≡ Some file → Releases old new file (least_mark job marks file)
    → ReleasesFiles job marks (text_at job v ∷ []) old new
one_released job marks v file old new h e f did = record {
  file = λ name. ap (λ (files : List ℕ → FileTold). files name) did.file
      ∙ released_name job marks (text_at job v) file name (old.file name) (bytes_eq name file) refl (source_at job v file name h e f);
  missed = did.missed;
  faults = did.faults;
}

-- of another vertex nothing is
pub none_released : (job : JobText) (marks : ℕ → ℕ) (v : ℕ) (o : Op) (old : InputsTold) → v < length job.vertices
    → op_of job v ≡ Some o → (o ≡ op.Source → ⊥) → ReleasesFiles job marks (text_at job v ∷ []) old old
none_released job marks v o old h e ne = record {
  file = λ name. sym (unmarked (old.file name))
      ∙ ap (λ (m : ℕ). with_mark m (old.file name)) (sym (one_among job marks (text_at job v) name false (no_source_at job v o name h e ne)));
  missed = refl;
  faults = omega arith;
}

-- ---- one release behind others

abbrev mark_where : Bool → ℕ → ℕ
mark_where b least = cond b least 0

twice : (b c : Bool) (least mark : ℕ) → max (max mark (mark_where b least)) (mark_where c least) ≡ max mark (mark_where (b || c) least)
twice true true least mark = omega arith
twice true false least mark = omega arith
twice false true least mark = omega arith
twice false false least mark = omega arith

marked_twice : (b c : Bool) (least : ℕ) (file : FileTold)
    → with_mark (mark_where c least) (with_mark (mark_where b least) file) ≡ with_mark (mark_where (b || c) least) file
marked_twice b c least untold = refl
marked_twice b c least missing = refl
marked_twice b c least (held file) = ap (λ (m : ℕ). held (record file { mark = m })) (twice b c least file.mark)

pub released_none : (job : JobText) (marks : ℕ → ℕ) (old : InputsTold) → ReleasesFiles job marks [] old old
released_none job marks old = record { file = λ name. sym (unmarked (old.file name)); missed = refl; faults = omega arith }

released_both : (job : JobText) (marks : ℕ → ℕ) (xs ys : List VertexText) (a b c : InputsTold)
    → ReleasesFiles job marks xs a b → ReleasesFiles job marks ys b c → ReleasesFiles job marks (xs ++ ys) a c
released_both job marks xs ys a b c first second = record {
  file = λ name.
      second.file name
      ∙ ap (with_mark (mark_among job marks ys name)) (first.file name)
      ∙ marked_twice (list_any (is_source_of name) xs) (list_any (is_source_of name) ys) (least_mark job marks name) (a.file name)
      ∙ ap (λ (t : Bool). with_mark (mark_where t (least_mark job marks name)) (a.file name)) (sym (list_any-append (is_source_of name) xs ys));
  missed = second.missed ∙ first.missed;
  faults = let one = first.faults in let two = second.faults in omega (arith, one, two);
}

pub released_more : (job : JobText) (marks : ℕ → ℕ) (v : ℕ) (a b c : InputsTold) → v < length job.vertices
    → ReleasesFiles job marks (take v job.vertices) a b → ReleasesFiles job marks (text_at job v ∷ []) b c
    → ReleasesFiles job marks (take (v + 1) job.vertices) a c
released_more job marks v a b c h first second =
    rw (take_more job.vertices v (sink []) h) (released_both job marks (take v job.vertices) (text_at job v ∷ []) a b c first second)

-- ---- all of them

none_among : (xs : List VertexText) (v : ℕ) (marks : ℕ → ℕ) (name : List ℕ) → list_any (is_source_of name) xs ≡ false
    → marks_among xs v marks name ≡ []
none_among [] v marks name e = refl
none_among (x ∷ xs) v marks name e =
    let parts = or_parts (is_source_of name x) (list_any (is_source_of name) xs) e in
    ap (λ (ms : List ℕ). ms ++ marks_among xs (v + 1) marks name) (no_mark x name (marks v) parts.0)
    ∙ none_among xs (v + 1) marks name parts.1

all_among : (job : JobText) (marks : ℕ → ℕ) (name : List ℕ) (b : Bool) → list_any (is_source_of name) job.vertices ≡ b
    → mark_among job marks job.vertices name ≡ least_mark job marks name
all_among job marks name true e = cond-true _ (least_mark job marks name) 0 e
all_among job marks name false e =
    cond-false _ (least_mark job marks name) 0 e
    ∙ sym (ap least_of (none_among job.vertices 0 marks name e))

pub released_all : (job : JobText) (marks : ℕ → ℕ) (n : ℕ) (old new : InputsTold) → length job.vertices ≤ n
    → ReleasesFiles job marks (take n job.vertices) old new → ReleasesAll job marks old new
released_all job marks n old new h did = record {
  file = λ name.
      did.file name
      ∙ ap (λ (xs : List VertexText). with_mark (mark_among job marks xs name) (old.file name)) (take_all n job.vertices h)
      ∙ ap (λ (m : ℕ). with_mark m (old.file name)) (all_among job marks name (list_any (is_source_of name) job.vertices) refl);
  missed = did.missed;
  faults = did.faults;
}
