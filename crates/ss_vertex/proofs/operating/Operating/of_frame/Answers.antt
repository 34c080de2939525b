use Rattle.std.proofs.Common.{◌≡◌, Option, IsSomeAnd, Ok, refl, sym, subst, arith}
use Rattle.ss_expr.specs.declared.stream_operator.Spec.{Spec}
use Rattle.ss_meaning.specs.Entries.{Entries}
use Rattle.ss_vertex.specs.Calls.{entries_in, operator_in}
use Rattle.ss_vertex.proofs.Operators.{operator, state_of, spec_found}
use Rattle.ss_vertex.proofs.Snapshots.{from_frame}
use Rattle.ss_vertex.proofs.operating.Operating.of_frame.Goals as goal

pub at-merger-requires-clause-some : goal.at-merger-requires-clause-some
at-merger-requires-clause-some c =
    let known = c.laws_of_vertices.ensures in
    let spec = spec_found c.args.plan.now.job c.job.result.now c.args.f.now.v c.spec.result c.unwrap-spec.result c.job.ensures.job c.spec.ensures c.unwrap-spec.ensures in
    let o = operator known.vertices known.jobs c.args.plan.now c.max_elements.ensures.plan c.args.f.now.v c.unwrap-spec.result.now spec in
    let width = c.requires.vertex.width in
    let inputs = o.inputs in
    let some = o.some in
    omega arith

pub at-merger-requires-clause-few : goal.at-merger-requires-clause-few
at-merger-requires-clause-few c =
    let known = c.laws_of_vertices.ensures in
    let spec = spec_found c.args.plan.now.job c.job.result.now c.args.f.now.v c.spec.result c.unwrap-spec.result c.job.ensures.job c.spec.ensures c.unwrap-spec.ensures in
    let o = operator known.vertices known.jobs c.args.plan.now c.max_elements.ensures.plan c.args.f.now.v c.unwrap-spec.result.now spec in
    let width = c.requires.vertex.width in
    let inputs = o.inputs in
    let few = o.few in
    omega arith

pub of_image-requires : goal.of_image-requires
of_image-requires c =
    let known = c.laws_of_vertices.ensures in
    let spec = spec_found c.args.plan.now.job c.job.result.now c.args.f.now.v c.spec.result c.unwrap-spec.result c.job.ensures.job c.spec.ensures c.unwrap-spec.ensures in
    (operator known.vertices known.jobs c.args.plan.now c.max_elements.ensures.plan c.args.f.now.v c.unwrap-spec.result.now spec).computable

pub returns-in-Ok-clause-ok : goal.returns-in-Ok-clause-ok
returns-in-Ok-clause-ok c =
    let spec = spec_found c.args.plan.now.job c.job.result.now c.args.f.now.v c.spec.result c.unwrap-spec.result c.job.ensures.job c.spec.ensures c.unwrap-spec.ensures in
    let f = c.args.f.now in
    let oper = c.in-Ok.oper in
    let from = from_frame f c.unwrap-spec.result.now f.n c.at-merger.result oper c.as_slice.result.now c.at-merger.ensures
    c.in-Ok.ensures.spec c.in-Ok.ensures.low c.in-Ok.ensures.ok c.as_slice.ensures in (
      refl,
      subst (λ (q : Option Spec). IsSomeAnd q (λ s. (entries : Entries) × (entries_in f s ≡ Ok entries) × (state_of c.at-merger.result oper ≡ operator_in f s entries)))
          (sym spec) from,
    )
