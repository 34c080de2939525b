use Rattle.std.proofs.Common.{◌+◌}
use Rattle.ss_vault.proofs.Firsts.{keeps_fault}
use Rattle.ss_vault.proofs.starting.keep_first_frames.Goals as goal

pub returns-in-Err : goal.returns-in-Err
returns-in-Err g c =
    keeps_fault c.args.plan.now 0 (c.loop-v.v + 1) _ _ _ c.in-Err.fault c.loop-v.invariant.fewer c.in-Err.ensures
