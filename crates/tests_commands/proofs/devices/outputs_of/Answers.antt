use Rattle.std.proofs.Common.{sym, subst}
use Rattle.ss_outside.specs.Told.{OutputsTold}
use Rattle.ss_vault.specs.Calls.{HaveNoBytes}
use Rattle.tests_commands.proofs.devices.outputs_of.Goals as goal

pub loop-field-preserved : goal.loop-field-preserved
loop-field-preserved c = subst (λ (told : OutputsTold). HaveNoBytes told) (sym c.list_put.ensures.told) c.loop-field.invariant
