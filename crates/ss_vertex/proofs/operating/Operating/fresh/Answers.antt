use Rattle.std.proofs.Common.{refl, arith}
use Rattle.ss_vertex.proofs.Operators.{operator, spec_found, node_found, fresh_operates}
use Rattle.ss_vertex.proofs.operating.Operating.fresh.Goals as goal

pub new-requires : goal.new-requires
new-requires c =
    let known = c.laws_of_vertices.ensures in
    let spec = spec_found c.args.plan.now.job c.job-job.result.now c.args.v c.spec.result c.unwrap-spec.result c.job-job.ensures.job c.spec.ensures c.unwrap-spec.ensures in
    (operator known.vertices known.jobs c.args.plan.now c.max_elements.ensures.plan c.args.v c.unwrap-spec.result.now spec).computable

pub new-requires-2-clause-some : goal.new-requires-2-clause-some
new-requires-2-clause-some c =
    let known = c.laws_of_vertices.ensures in
    let spec = spec_found c.args.plan.now.job c.job-job.result.now c.args.v c.spec.result c.unwrap-spec.result c.job-job.ensures.job c.spec.ensures c.unwrap-spec.ensures in
    let o = operator known.vertices known.jobs c.args.plan.now c.max_elements.ensures.plan c.args.v c.unwrap-spec.result.now spec in
    let width = node_found c.args.plan.now c.args.v c.unwrap-spec.result.now o c.job-job.result.now c.graph.result.now c.node-width.result
    c.job-job.ensures.job c.graph.ensures.graph c.node-width.ensures.node in
    let inputs = o.inputs in
    let some = o.some in
    omega arith

pub returns : goal.returns
returns c =
    let known = c.laws_of_vertices.ensures in
    let spec = spec_found c.args.plan.now.job c.job-job.result.now c.args.v c.spec.result c.unwrap-spec.result c.job-job.ensures.job c.spec.ensures c.unwrap-spec.ensures in
    let o = operator known.vertices known.jobs c.args.plan.now c.max_elements.ensures.plan c.args.v c.unwrap-spec.result.now spec in
    let width = node_found c.args.plan.now c.args.v c.unwrap-spec.result.now o c.job-job.result.now c.graph.result.now c.node-width.result
    c.job-job.ensures.job c.graph.ensures.graph c.node-width.ensures.node in (
      refl,
      fresh_operates c.args.plan.now c.args.v c.unwrap-spec.result.now c.node-width.result.width c.new-2.result c.in_ok-oper.oper
          spec o width c.new-2.ensures c.in_ok-oper.ensures.spec c.in_ok-oper.ensures.stands,
    )
