-- How often the devices of a vault have failed.
use Rattle.std.specs.Prelude.{◌≤◌}
use Rattle.ss_outside.specs.Depot.{DepotTold}
use Rattle.ss_outside.specs.Told.{OutputsTold}
use Rattle.ss_vault.specs.declared.counts.Counts.{Counts}

-- the counts that these devices tell
abbrev pub counts_told : OutputsTold → DepotTold → Counts
counts_told outputs depot =
    record { faults = depot.faults; output_faults = outputs.faults; shorts = depot.shorts }

-- none of them is below what it was
pub record NoneFell (before now : Counts) : Type 0 where
  pub faults : before.faults ≤ now.faults
  pub output_faults : before.output_faults ≤ now.output_faults
  pub shorts : before.shorts ≤ now.shorts
