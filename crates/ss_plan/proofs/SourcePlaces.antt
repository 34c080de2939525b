-- Where the lists of sources stand.
use Rattle.std.proofs.Common.{◌≡◌, ℕ, zero, suc, ◌+◌, ◌<◌, ◌≤◌, Bool, true, false, List, [], ◌∷◌, length, get_or, take, Option, Some, None, cond, refl, sym, ap, ◌∙◌, subst, arith}
use Rattle.std.proofs.lemmas.List.Sums.{count_by_more_yes, count_by_more_no, sum_by-take-le}
use Rattle.std.specs.List.{slice_get, count_by}
use Rattle.std.specs.Option.{option_map}
use Rattle.ss_job.specs.JobText.{VertexText, source, inner, sink, JobText, op_of, op_of_vertex, op_of_spec}
use Rattle.ss_job.specs.declared.op.Op.{Op}
use Rattle.ss_job.specs.declared.op.Op.TheVariants as op
use Rattle.ss_expr.specs.declared.stream_operator.Spec.{Spec}
use Rattle.ss_expr.specs.declared.stream_operator.Spec.TheVariants as spec
use Rattle.ss_plan.specs.Plan.{is_source, sources_before}

-- what stands under a number in a list of vertices, if it is of this op

pub at_op : (texts : List VertexText) (v : ℕ) (o : Op) → option_map op_of_vertex (slice_get texts v) ≡ Some o
    → (v < length texts) × (op_of_vertex (get_or texts v (sink [])) ≡ o)
at_op [] v o e = cc
at_op (text ∷ texts) zero o e = (omega arith, cc)
at_op (text ∷ texts) (suc v) o e = let rest = at_op texts v o e in (omega arith, rest.1)

abbrev pub is_source_op : Op → Bool
is_source_op op.Source = true
is_source_op op.Select = false
is_source_op op.Union = false
is_source_op op.Window = false
is_source_op op.Join = false
is_source_op op.Session = false
is_source_op op.Except = false
is_source_op op.Sink = false

same_source : (text : VertexText) → is_source text ≡ is_source_op (op_of_vertex text)
same_source (source file late) = refl
same_source (inner (spec.Select test a b c d) policy) = refl
same_source (inner spec.Union policy) = refl
same_source (inner (spec.Window size hop agg of) policy) = refl
same_source (inner spec.Join policy) = refl
same_source (inner (spec.Session gap agg of) policy) = refl
same_source (inner spec.Except policy) = refl
same_source (sink file) = refl

next_by : (texts : List VertexText) (v : ℕ) (b : Bool) → v < length texts → is_source (get_or texts v (sink [])) ≡ b
    → count_by is_source (take (v + 1) texts) ≡ count_by is_source (take v texts) + cond b 1 0
next_by texts v true h e = count_by_more_yes is_source texts v (sink []) h e
next_by texts v false h e = omega (arith, count_by_more_no is_source texts v (sink []) h e)

-- one more where the vertex is a source
pub sources_next : (job : JobText) (v : ℕ) (o : Op) → op_of job v ≡ Some o
    → sources_before job (v + 1) ≡ sources_before job v + cond (is_source_op o) 1 0
sources_next job v o e =
    let here = at_op job.vertices v o e in
    next_by job.vertices v (is_source_op o) here.0
    (same_source (get_or job.vertices v (sink [])) ∙ ap is_source_op here.1)

-- a source's list is one of as many as there are sources
pub source_within : (job : JobText) (v : ℕ) → op_of job v ≡ Some op.Source → sources_before job v < count_by is_source job.vertices
source_within job v e =
    omega (arith, sources_next job v op.Source e, sum_by-take-le (λ (text : VertexText). cond (is_source text) 1 0) job.vertices (v + 1))

-- the same of what is a source by its text
pub place_within : (texts : List VertexText) (v : ℕ) → v < length texts → is_source (get_or texts v (sink [])) ≡ true
    → count_by is_source (take v texts) < count_by is_source texts
place_within texts v h e =
    omega (arith, count_by_more_yes is_source texts v (sink []) h e, sum_by-take-le (λ (text : VertexText). cond (is_source text) 1 0) texts (v + 1))
