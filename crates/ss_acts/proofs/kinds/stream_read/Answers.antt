use Rattle.std.proofs.Common.{◌≡◌, ◌∙◌, Some, List, ap, sym}
use Rattle.std.specs.Prelude.{slice_get}
use Rattle.ss_job.specs.JobText.{JobText}
use Rattle.ss_water.specs.declared.node.Node.{Node}
use Rattle.ss_acts.proofs.Inputs.{input_is}
use Rattle.ss_acts.proofs.kinds.stream_read.Goals as goal

pub returns : goal.returns
returns c =
    let plan = c.args.plan.now in
    let graph : c.graph.result.now ≡ plan.job.graph = c.graph.ensures.graph ∙ ap (λ (j : JobText). j.graph) c.job.ensures.job in
    let at : slice_get plan.job.graph c.args.v ≡ Some c.node.result = ap (λ (nodes : List Node). slice_get nodes c.args.v) (sym graph) ∙ c.node.ensures.node in
    input_is c.vertices_by_number.ensures plan c.plan_facts.ensures (c.plans_have_numbers.ensures.meant plan c.plan_facts.ensures.is)
    c.args.v c.args.i c.node.result c.requires.operator at c.requires.input
