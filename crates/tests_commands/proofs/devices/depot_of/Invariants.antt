use Rattle.std.specs.Prelude.{◌≡◌}
use Rattle.ss_outside.specs.Depot.{no_contents}
use Rattle.ss_outside.specs.MemDepot.{mem_depot_told}
use Rattle.tests_commands.proofs.devices.depot_of.Given as goal

-- nothing was done yet
abbrev pub invariant-loop-field : goal.invariant-loop-field
invariant-loop-field l = (mem_depot_told l.depot).contents ≡ no_contents
