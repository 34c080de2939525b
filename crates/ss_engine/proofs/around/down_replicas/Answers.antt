use Rattle.std.proofs.Common.{◌+◌, sym, subst}
use Rattle.std.specs.Prelude.{List}
use Rattle.ss_engine.specs.Around.{AreDown}
use Rattle.ss_engine.proofs.Behind.{down_more}
use Rattle.ss_vertex.specs.Inst.{InstState}
use Rattle.ss_engine.proofs.around.down_replicas.Goals as goal

pub loop-r-preserved : goal.loop-r-preserved
loop-r-preserved c =
    subst (λ (xs : List InstState). AreDown c.args.plan.now c.args.v (c.loop-r.r + 1) xs) (sym c.in_ok-push.ensures.items)
    (down_more c.args.plan.now c.args.v c.loop-r.r c.loop-r.replicas.items c.in_ok-inst.inst c.loop-r.invariant c.in_ok-inst.ensures)
