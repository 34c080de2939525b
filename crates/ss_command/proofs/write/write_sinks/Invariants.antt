use Rattle.ss_plan.specs.Plan.{lists_of}
use Rattle.ss_command.specs.Output.{puts_below}
use Rattle.ss_command.specs.Computed.{list_at}
use Rattle.ss_command.specs.Puts.{WentWhole}
use Rattle.ss_command.proofs.write.write_sinks.Given as goal

-- what belongs to the vertices passed is put
abbrev pub invariant-loop-v : goal.invariant-loop-v
invariant-loop-v g l = WentWhole (g.O.Outputs.told l.fn.outputs) (g.O.Outputs.told l.outputs) (puts_below l.job (list_at (lists_of l.streams)) l.v)
