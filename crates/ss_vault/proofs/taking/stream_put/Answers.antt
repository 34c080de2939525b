use Rattle.std.proofs.Common.{◌≡◌, ◌∙◌, Some, List, length, ap, sym, arith}
use Rattle.std.specs.Prelude.{slice_get}
use Rattle.ss_job.specs.JobText.{JobText}
use Rattle.ss_water.specs.declared.node.Node.{Node}
use Rattle.ss_vault.proofs.taking.stream_put.Goals as goal

pub node-requires : goal.node-requires
node-requires c =
    let here = c.requires.0 in
    let count = c.plan_facts.ensures.count in
    let graph : c.graph.result.now ≡ c.args.plan.now.job.graph = c.graph.ensures.graph ∙ ap (λ (j : JobText). j.graph) c.job.ensures.job in
    let same : length c.graph.result.now ≡ length c.args.plan.now.job.graph = ap (λ (nodes : List Node). length nodes) graph in
    omega (arith, here, count, same)

pub returns : goal.returns
returns c =
    let graph : c.graph.result.now ≡ c.args.plan.now.job.graph = c.graph.ensures.graph ∙ ap (λ (j : JobText). j.graph) c.job.ensures.job in
    let at : slice_get c.args.plan.now.job.graph c.args.k ≡ Some c.node.result = ap (λ (nodes : List Node). slice_get nodes c.args.k) (sym graph) ∙ c.node.ensures.node in
    c.plan_facts.ensures.reads c.args.k c.node.result c.requires at
