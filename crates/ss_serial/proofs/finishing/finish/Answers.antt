use Rattle.std.specs.Prelude.{Err, Ok}
use Rattle.ss_engine.specs.Told.{plant_told}
use Rattle.ss_serial.proofs.Excuses.{excuses}
use Rattle.ss_serial.proofs.Progress.{drives_none, drives_then, fires_on, lower_in}
use Rattle.ss_serial.proofs.Taken.{put_all}
use Rattle.ss_serial.proofs.finishing.finish.Goals as goal

pub rounds-init : goal.rounds-init
rounds-init g c =
    let p = plant_told g.O.Outputs.told g.D.Depot.told c.args.plant.now in
    record { joint = c.requires.joint; drives = drives_none c.args.triggers.now p c.args.trace.now }

pub round-requires-clause-joint : goal.round-requires-clause-joint
round-requires-clause-joint g c = c.rounds.invariant.joint

pub round-requires-clause-triggers : goal.round-requires-clause-triggers
round-requires-clause-triggers g c =
    let p = plant_told g.O.Outputs.told g.D.Depot.told c.args.plant.now in
    let q = plant_told g.O.Outputs.told g.D.Depot.told c.rounds.plant in
    fires_on p q c.args.triggers.now c.rounds.invariant.drives.plays.runs.plan c.requires.triggers

pub rounds-preserved : goal.rounds-preserved
rounds-preserved g c =
    let p = plant_told g.O.Outputs.told g.D.Depot.told c.args.plant.now in
    let q = plant_told g.O.Outputs.told g.D.Depot.told c.rounds.plant in
    let r = plant_told g.O.Outputs.told g.D.Depot.told c.round.new.plant in
    record {
      joint = c.in-Ok-true.ensures.joint;
      drives = drives_then c.args.triggers.now p q r c.args.trace.now c.rounds.trace c.round.new.trace (Ok tt)
          c.rounds.invariant.drives c.in-Ok-true.ensures.advances.drives;
    }

pub rounds-smaller : goal.rounds-smaller
rounds-smaller g c =
    let p = plant_told g.O.Outputs.told g.D.Depot.told c.args.plant.now in
    let q = plant_told g.O.Outputs.told g.D.Depot.told c.rounds.plant in
    let r = plant_told g.O.Outputs.told g.D.Depot.told c.round.new.plant in
    lower_in c.args.triggers.now p q r c.rounds.invariant.drives.plays.runs.plan
    (c.in-Ok-true.ensures.advances.lower c.in-Ok-true.field-0-test)

pub returns-in-Ok-false-clause-drives : goal.returns-in-Ok-false-clause-drives
returns-in-Ok-false-clause-drives g c =
    let p = plant_told g.O.Outputs.told g.D.Depot.told c.args.plant.now in
    let q = plant_told g.O.Outputs.told g.D.Depot.told c.rounds.plant in
    let r = plant_told g.O.Outputs.told g.D.Depot.told c.round.new.plant in
    drives_then c.args.triggers.now p q r c.args.trace.now c.rounds.trace c.round.new.trace (Ok tt)
    c.rounds.invariant.drives c.in-Ok-false.ensures.advances.drives

pub returns-in-Ok-false-clause-put : goal.returns-in-Ok-false-clause-put
returns-in-Ok-false-clause-put g c =
    let r = plant_told g.O.Outputs.told g.D.Depot.told c.round.new.plant in
    put_all r c.in-Ok-false.ensures.joint (c.in-Ok-false.ensures.put c.in-Ok-false.field-0-test)

pub returns-in-Err-clause-drives : goal.returns-in-Err-clause-drives
returns-in-Err-clause-drives g c =
    let p = plant_told g.O.Outputs.told g.D.Depot.told c.args.plant.now in
    let q = plant_told g.O.Outputs.told g.D.Depot.told c.rounds.plant in
    let r = plant_told g.O.Outputs.told g.D.Depot.told c.round.new.plant in
    drives_then c.args.triggers.now p q r c.args.trace.now c.rounds.trace c.round.new.trace (Err c.in-Err.fault)
    c.rounds.invariant.drives c.in-Err.ensures.advances

pub returns-in-Err-clause-excused : goal.returns-in-Err-clause-excused
returns-in-Err-clause-excused g c =
    let p = plant_told g.O.Outputs.told g.D.Depot.told c.args.plant.now in
    let q = plant_told g.O.Outputs.told g.D.Depot.told c.rounds.plant in
    let r = plant_told g.O.Outputs.told g.D.Depot.told c.round.new.plant in
    let drives = drives_then c.args.triggers.now p q r c.args.trace.now c.rounds.trace c.round.new.trace (Err c.in-Err.fault)
    c.rounds.invariant.drives c.in-Err.ensures.advances in
    excuses p r drives.acts c.args.trace.now c.round.new.trace c.in-Err.fault drives.plays
