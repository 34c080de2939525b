use Rattle.ss_vault.specs.Devices.{HoldsFirstBelow, NoFewer}
use Rattle.ss_vault.proofs.starting.keep_first_frames.Given as goal

abbrev pub invariant-loop-v : goal.invariant-loop-v
invariant-loop-v g l = record {
  holds : HoldsFirstBelow l.plan l.v (g.D.Depot.told l.depot).contents;
  fewer : NoFewer (g.D.Depot.told l.fn.depot) (g.D.Depot.told l.depot);
}
