use Rattle.ss_frames.specs.Plans.{plan_numbers, policies_of, limits_of}
use Rattle.ss_manager.proofs.snapping.is_numbered.Goals as goal

pub returns-clause-numbered : goal.returns-clause-numbered
unfolding plan_numbers
returns-clause-numbered c =
    let plan = c.args.plan.now in
    c.instances_are_numbered.ensures plan (policies_of plan.job) (limits_of plan.job) c.args.inst.now c.max_elements.ensures.plan c.requires
