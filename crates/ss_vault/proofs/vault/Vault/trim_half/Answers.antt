use Rattle.std.proofs.Common.{◌≡◌, ◌∙◌, List, Some, ap, subst, sym}
use Rattle.std.specs.Prelude.{slice_get}
use Rattle.std.proofs.lemmas.Bool.{false≢true}
use Rattle.ss_state.specs.Numbers.{is_inner}
use Rattle.ss_water.specs.Graph.{is_sink}
use Rattle.ss_water.specs.declared.node.Node.{Node}
use Rattle.ss_vault.proofs.vault.Vault.trim_half.Goals as goal

pub drop_snapshots-requires-clause-operator : goal.drop_snapshots-requires-clause-operator
drop_snapshots-requires-clause-operator g c =
    let graph : c.graph.result.now ≡ c.args.plan.now.job.graph = c.graph.ensures.graph ∙ ap (λ j. j.graph) c.job.ensures.job in
    let at : slice_get c.args.plan.now.job.graph c.args.v ≡ Some c.node.result = subst (λ (nodes : List Node). slice_get nodes c.args.v ≡ Some c.node.result) graph c.node.ensures.node in
    let kind = c.plan_facts.ensures.kinds c.args.v c.node.result at in
    (c.requires.stream.0, ap is_inner (kind ∙ c.in-Inner.is))

pub raise_mark-requires-clause-source : goal.raise_mark-requires-clause-source
raise_mark-requires-clause-source g c =
    let graph : c.graph.result.now ≡ c.args.plan.now.job.graph = c.graph.ensures.graph ∙ ap (λ j. j.graph) c.job.ensures.job in
    let at : slice_get c.args.plan.now.job.graph c.args.v ≡ Some c.node.result = subst (λ (nodes : List Node). slice_get nodes c.args.v ≡ Some c.node.result) graph c.node.ensures.node in
    let kind = c.plan_facts.ensures.kinds c.args.v c.node.result at in
    ap is_inner (kind ∙ c.in-Source.is)

pub unreachable-requires : goal.unreachable-requires
unreachable-requires g c =
    let graph : c.graph.result.now ≡ c.args.plan.now.job.graph = c.graph.ensures.graph ∙ ap (λ j. j.graph) c.job.ensures.job in
    let at : slice_get c.args.plan.now.job.graph c.args.v ≡ Some c.node.result = subst (λ (nodes : List Node). slice_get nodes c.args.v ≡ Some c.node.result) graph c.node.ensures.node in
    let kind = c.plan_facts.ensures.kinds c.args.v c.node.result at in
    false≢true (sym c.requires.stream.1 ∙ ap is_sink (kind ∙ c.in-Sink.is))
