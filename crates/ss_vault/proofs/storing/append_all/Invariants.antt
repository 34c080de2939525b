use Rattle.std.proofs.Common.{◌≡◌}
use Rattle.ss_vault.specs.Devices.{Appended}
use Rattle.ss_vault.proofs.storing.append_all.Given as goal

abbrev pub invariant-loop-x : goal.invariant-loop-x
invariant-loop-x g l = record {
  counted : l.count ≡ l.x-index;
  appended : Appended (g.D.Depot.told l.fn.depot) (g.D.Depot.told l.depot) l.v l.n l.elements l.count;
}
