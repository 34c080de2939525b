use Rattle.std.proofs.Common.{◌≡◌, ◌++◌, take}
use Rattle.ss_engine.specs.Told.{plant_told, state_of}
use Rattle.ss_frames.specs.Plans.{plan_numbers}
use Rattle.ss_state.specs.Numbers.{vertex}
use Rattle.ss_state.specs.State.{insts_at}
use Rattle.ss_play.specs.Report.{replica_lines}
use Rattle.ss_play.proofs.reporting.put_replicas.Given as goal

-- the lines of the replicas passed are appended
abbrev pub invariant-loop-r : goal.invariant-loop-r
invariant-loop-r g l =
    let p = plant_told g.O.Outputs.told g.D.Depot.told l.plant in
    l.out.items
    ≡ l.fn.out.items ++ replica_lines p.plan.job.roles (vertex (plan_numbers p.plan) l.v) l.v 0
    (take l.r (insts_at (state_of p) l.v))
