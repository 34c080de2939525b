use Rattle.ss_outside.specs.MemOutputs.{mem_outputs_told}
use Rattle.ss_vault.specs.Calls.{HaveNoBytes}
use Rattle.tests_commands.proofs.devices.outputs_of.Given as goal

-- nothing was done yet
abbrev pub invariant-loop-field : goal.invariant-loop-field
invariant-loop-field l = HaveNoBytes (mem_outputs_told l.outputs)
