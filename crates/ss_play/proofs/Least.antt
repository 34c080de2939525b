-- The least of the marks of the sources that have one file, one vertex behind another.
use Rattle.std.proofs.Common.{◌≡◌, ℕ, ◌+◌, ◌<◌, ◌≤◌, Bool, true, false, List, [], ◌∷◌, ◌++◌, length, take, Option, Some, None, cond, min}
use Rattle.std.proofs.Common.{refl, sym, ap, ◌∙◌, arith, append_assoc}
use Rattle.std.specs.Prelude.{unwrap_or}
use Rattle.std.proofs.lemmas.List.{append-nil, length-take-le, take_all, take_more}
use Rattle.ss_job.specs.JobText.{VertexText, source, inner, sink, JobText}
use Rattle.ss_state.specs.LowWater.{least_of}
use Rattle.ss_play.specs.Releasing.{marks_of_vertex, marks_among, is_source_of, lesser, text_at}

-- the least of some marks, where there are any
abbrev pub least_in : List ℕ → Option ℕ
least_in [] = None
least_in (n ∷ ns) = Some (least_of (n ∷ ns))

-- the least mark of the sources with this file among the first n vertices, where there are any
abbrev pub least_before : JobText → (ℕ → ℕ) → List ℕ → ℕ → Option ℕ
least_before job marks name n = least_in (marks_among (take n job.vertices) 0 marks name)

pub least_is : (ns : List ℕ) → unwrap_or (least_in ns) 0 ≡ least_of ns
least_is [] = refl
least_is (n ∷ ns) = refl

least_more : (n : ℕ) (ns : List ℕ) (m : ℕ) → least_of (n ∷ (ns ++ m ∷ [])) ≡ min (least_of (n ∷ ns)) m
least_more n [] m = refl
least_more n (k ∷ ns) m =
    let behind : least_of (k ∷ (ns ++ m ∷ [])) ≡ min (least_of (k ∷ ns)) m = least_more k ns m in
    ap (λ (l : ℕ). min n l) behind ∙ (omega arith)

least_in_more : (ns : List ℕ) (m : ℕ) → least_in (ns ++ m ∷ []) ≡ Some (lesser (least_in ns) m)
least_in_more [] m = refl
least_in_more (n ∷ ns) m = ap (λ (l : ℕ). Some l) (least_more n ns m)

marks_append : (xs ys : List VertexText) (v : ℕ) (marks : ℕ → ℕ) (name : List ℕ)
    → marks_among (xs ++ ys) v marks name ≡ marks_among xs v marks name ++ marks_among ys (v + length xs) marks name
marks_append [] ys v marks name = ap (λ (n : ℕ). marks_among ys n marks name) (let e : v ≡ v + 0 = omega arith in e)
marks_append (x ∷ xs) ys v marks name =
    ap (λ (ms : List ℕ). marks_of_vertex x name (marks v) ++ ms)
    (marks_append xs ys (v + 1) marks name
    ∙ ap (λ (n : ℕ). marks_among xs (v + 1) marks name ++ marks_among ys n marks name)
    (let e : (v + 1) + length xs ≡ v + length (x ∷ xs) = omega arith in e))
    ∙ sym (append_assoc (marks_of_vertex x name (marks v)) (marks_among xs (v + 1) marks name) (marks_among ys (v + length (x ∷ xs)) marks name))

mark_of_source : (x : VertexText) (name : List ℕ) (mark : ℕ) → is_source_of name x ≡ true → marks_of_vertex x name mark ≡ mark ∷ []
mark_of_source (source file late) name mark e = ap (λ (b : Bool). cond b (mark ∷ []) []) e
mark_of_source (inner spec policy) name mark e = absurd cc
mark_of_source (sink file) name mark e = absurd cc

pub no_mark : (x : VertexText) (name : List ℕ) (mark : ℕ) → is_source_of name x ≡ false → marks_of_vertex x name mark ≡ []
no_mark (source file late) name mark e = ap (λ (b : Bool). cond b (mark ∷ []) []) e
no_mark (inner spec policy) name mark e = refl
no_mark (sink file) name mark e = refl

next_marks : (job : JobText) (marks : ℕ → ℕ) (name : List ℕ) (v : ℕ) → v < length job.vertices
    → marks_among (take (v + 1) job.vertices) 0 marks name
    ≡ marks_among (take v job.vertices) 0 marks name ++ marks_of_vertex (text_at job v) name (marks v)
next_marks job marks name v h =
    ap (λ (xs : List VertexText). marks_among xs 0 marks name) (take_more job.vertices v (sink []) h)
    ∙ marks_append (take v job.vertices) (text_at job v ∷ []) 0 marks name
    ∙ ap (λ (ms : List ℕ). marks_among (take v job.vertices) 0 marks name ++ ms)
    (append-nil (marks_of_vertex (text_at job v) name (marks (0 + length (take v job.vertices))))
    ∙ ap (λ (n : ℕ). marks_of_vertex (text_at job v) name (marks n))
    (let e : length (take v job.vertices) ≡ v = length-take-le v job.vertices (omega (arith, h)) in
    let f : 0 + length (take v job.vertices) ≡ v = omega (arith, e) in f))

-- a vertex that is such a source
pub least_with : (job : JobText) (marks : ℕ → ℕ) (name : List ℕ) (v : ℕ) → v < length job.vertices
    → is_source_of name (text_at job v) ≡ true
    → least_before job marks name (v + 1) ≡ Some (lesser (least_before job marks name v) (marks v))
least_with job marks name v h e =
    ap least_in (next_marks job marks name v h)
    ∙ ap (λ (ms : List ℕ). least_in (marks_among (take v job.vertices) 0 marks name ++ ms)) (mark_of_source (text_at job v) name (marks v) e)
    ∙ least_in_more (marks_among (take v job.vertices) 0 marks name) (marks v)

-- and one that isn't
pub least_without : (job : JobText) (marks : ℕ → ℕ) (name : List ℕ) (v : ℕ) → v < length job.vertices
    → is_source_of name (text_at job v) ≡ false
    → least_before job marks name (v + 1) ≡ least_before job marks name v
least_without job marks name v h e =
    ap least_in (next_marks job marks name v h)
    ∙ ap (λ (ms : List ℕ). least_in (marks_among (take v job.vertices) 0 marks name ++ ms)) (no_mark (text_at job v) name (marks v) e)
    ∙ ap least_in (append-nil (marks_among (take v job.vertices) 0 marks name))

-- when all vertices were looked at
pub least_of_all : (job : JobText) (marks : ℕ → ℕ) (name : List ℕ) (n : ℕ) → length job.vertices ≤ n
    → unwrap_or (least_before job marks name n) 0 ≡ least_of (marks_among job.vertices 0 marks name)
least_of_all job marks name n h =
    ap (λ (xs : List VertexText). unwrap_or (least_in (marks_among xs 0 marks name)) 0) (take_all n job.vertices h)
    ∙ least_is (marks_among job.vertices 0 marks name)
