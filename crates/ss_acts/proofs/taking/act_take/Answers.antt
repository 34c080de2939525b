use Rattle.std.proofs.Common.{Ok, Some, sym, subst}
use Rattle.ss_fail.specs.declared.outcome.Outcome.{Outcome}
use Rattle.ss_vault.specs.Told.{VaultTold}
use Rattle.ss_acts.specs.Calls.{TakesLine}
use Rattle.ss_acts.specs.Leaves.{PutsToNoOther, sink_failed}
use Rattle.ss_acts.specs.declared.fault.EngineFault.{EngineFault}
use Rattle.ss_acts.proofs.Takes.{puts_made, puts_met, takes}
use Rattle.ss_acts.proofs.taking.act_take.Goals as goal

pub returns-in-Ok-clause-answer : goal.returns-in-Ok-clause-answer
returns-in-Ok-clause-answer g c =
    let v = c.args.vault.now in
    let w = c.take.new.self in
    let s : VaultTold = record { held = v.numbers; halted = v.halted; started = v.started; depot = g.D.Depot.told v.depot; outputs = g.O.Outputs.told v.outputs } in
    let u : VaultTold = record { held = w.numbers; halted = w.halted; started = w.started; depot = g.D.Depot.told w.depot; outputs = g.O.Outputs.told w.outputs } in
    subst (λ (told : Outcome). TakesLine c.args.plan.now c.args.k s (Ok told) u) (sym c.told.ensures)
    (takes c.args.plan.now c.args.k s u c.in-Ok.take c.in-Ok.ensures.answer)

pub returns-in-Ok-clause-outputs : goal.returns-in-Ok-clause-outputs
returns-in-Ok-clause-outputs g c =
    let v = c.args.vault.now in
    let w = c.take.new.self in
    let s : VaultTold = record { held = v.numbers; halted = v.halted; started = v.started; depot = g.D.Depot.told v.depot; outputs = g.O.Outputs.told v.outputs } in
    let u : VaultTold = record { held = w.numbers; halted = w.halted; started = w.started; depot = g.D.Depot.told w.depot; outputs = g.O.Outputs.told w.outputs } in
    puts_made c.args.plan.now c.args.k s u c.in-Ok.take c.requires.sink c.requires.sound c.in-Ok.ensures.answer c.in-Ok.ensures.outputs

pub returns-in-Err-clause-outputs : goal.returns-in-Err-clause-outputs
returns-in-Err-clause-outputs g c =
    let v = c.args.vault.now in
    let w = c.take.new.self in
    let s : VaultTold = record { held = v.numbers; halted = v.halted; started = v.started; depot = g.D.Depot.told v.depot; outputs = g.O.Outputs.told v.outputs } in
    let u : VaultTold = record { held = w.numbers; halted = w.halted; started = w.started; depot = g.D.Depot.told w.depot; outputs = g.O.Outputs.told w.outputs } in
    subst (λ (f : EngineFault). PutsToNoOther c.args.plan.now (sink_failed (Some c.args.k) f) s u) (sym c.of_vault.ensures)
    (puts_met c.args.plan.now c.args.k s u c.in-Err.fault c.in-Err.ensures.outputs)
