use Rattle.ss_engine.proofs.Behind.{insts_more}
use Rattle.ss_engine.proofs.around.down_insts.Goals as goal

pub loop-v-preserved : goal.loop-v-preserved
loop-v-preserved c =
    insts_more c.args.plan.now c.loop-v.v c.loop-v.insts.items c.push.new.self.items c.in_ok-replicas.replicas c.loop-v.invariant
    c.in_ok-replicas.ensures c.in_ok-push.ensures.items
