use Rattle.std.proofs.Common.{◌∙◌, not}
use Rattle.ss_water.specs.Graph.{is_sink}
use Rattle.ss_water.specs.declared.node.Node.{Node}
use Rattle.ss_vault.proofs.FirstRows.{list_more}
use Rattle.ss_vault.proofs.numbers.first_ended.Goals as goal

pub loop-v-preserved : goal.loop-v-preserved
loop-v-preserved c =
    c.in_ok-push.ensures.items
    ∙ list_more (λ (n : Node). not (is_sink n.kind)) c.args.graph.now c.loop-v.v c.node.result c.loop-v.ended.items c.has_none.result
    c.loop-v.invariant c.has_none.ensures c.node.ensures.node
