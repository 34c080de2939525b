use Rattle.std.proofs.Common.{◌∙◌}
use Rattle.ss_frames.specs.Plans.{plan_numbers}
use Rattle.ss_state.specs.Numbers.{vertex}
use Rattle.ss_serial.proofs.Over.{next_is}
use Rattle.ss_serial.proofs.state.next_number.Goals as goal

pub returns : goal.returns
returns c =
    let inst = c.args.inst.now in
    c.next.ensures ∙ next_is (vertex (plan_numbers c.args.plan.now) inst.v) inst c.is_numbered.ensures.numbered.next
