use Rattle.std.specs.Prelude.{◌≡◌}
use Rattle.std.proofs.Common.{sym, subst}
use Rattle.ss_outside.specs.Depot.{DepotTold, no_contents}
use Rattle.tests_commands.proofs.devices.depot_of.Goals as goal

pub loop-field-preserved : goal.loop-field-preserved
loop-field-preserved c = subst (λ (told : DepotTold). told.contents ≡ no_contents) (sym c.list_call.ensures.told) c.loop-field.invariant
