use Rattle.std.proofs.Common.{take}
use Rattle.std.specs.Prelude.{All}
use Rattle.ss_outside.specs.Told.{KeepsInputs}
use Rattle.ss_plan.specs.Plan.{lists_of}
use Rattle.ss_command.specs.Ends.{MayHave}
use Rattle.ss_command.specs.Streams.{AreLists, IsSourceList}
use Rattle.ss_command.proofs.sources.read_sources.Given as goal

-- the sources among the vertices passed are read
abbrev pub invariant-loop-v : goal.invariant-loop-v
invariant-loop-v g l = record {
  read : AreLists (MayHave (g.I.Inputs.told l.fn.inputs)) l.job 0 (take l.v l.job.vertices) (lists_of l.lists.items);
  each : All (IsSourceList l.job) (lists_of l.lists.items);
  kept : KeepsInputs (g.I.Inputs.told l.fn.inputs) (g.I.Inputs.told l.inputs);
}
