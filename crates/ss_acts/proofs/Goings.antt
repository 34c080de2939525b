-- A vault that goes on.
use Rattle.std.proofs.Common.{Option, None, refl, sym, ◌∙◌, arith}
use Rattle.ss_acts.specs.Leaves.{Goes, Keeps}
use Rattle.ss_plan.specs.Plan.{PlanText}
use Rattle.ss_state.specs.declared.entry.Entry.{Entry}
use Rattle.ss_vault.specs.Calls.{Enters}
use Rattle.ss_vault.specs.Told.{VaultTold}

pub goes_on : (plan : PlanText) (s u : VaultTold) (entry : Option Entry) → Enters plan s entry None u → Goes s u
goes_on plan s u entry enters = record {
  halted = enters.halted ∙ sym enters.going;
  started = enters.started;
  counts = enters.counts;
}

pub stays : (s : VaultTold) → Goes s s
stays s = record {
  halted = refl;
  started = refl;
  counts = record { faults = omega arith; output_faults = omega arith; shorts = omega arith };
}

pub keeps : (plan : PlanText) (s u : VaultTold) → Enters plan s None None u → Keeps s u
keeps plan s u enters = record { numbers = enters.numbers; goes = goes_on plan s u None enters }
