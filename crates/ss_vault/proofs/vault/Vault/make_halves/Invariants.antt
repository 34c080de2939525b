use Rattle.std.proofs.Common.{◌≡◌, ◌*◌, ◌≤◌, None}
use Rattle.ss_frames.specs.Plans.{plan_numbers}
use Rattle.ss_vault.specs.Steps.{PassesOver, last_streams}
use Rattle.ss_vault.specs.Told.{vault_told}
use Rattle.ss_vault.proofs.vault.Vault.make_halves.Given as goal

abbrev pub invariant-loop-passed : goal.invariant-loop-passed
invariant-loop-passed g l = record {
  passes : PassesOver l.plan (last_streams (plan_numbers l.plan) l.passed) (vault_told g.O.Outputs.told g.D.Depot.told l.fn.self) l.halves None
      (vault_told g.O.Outputs.told g.D.Depot.told l.self);
  few : l.halves ≤ 2 * l.passed;
  outputs : g.O.Outputs.told l.self.outputs ≡ g.O.Outputs.told l.fn.self.outputs;
}
