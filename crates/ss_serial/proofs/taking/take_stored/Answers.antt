use Rattle.std.proofs.Common.{◌∙◌, [], refl, sym}
use Rattle.std.specs.Prelude.{Err}
use Rattle.ss_engine.specs.Told.{plant_told}
use Rattle.ss_serial.proofs.Progress.{drives_then, headway_more, headway_none, lower_in, takes_on}
use Rattle.ss_serial.proofs.Taken.{all_put}
use Rattle.ss_serial.proofs.taking.take_stored.Goals as goal

pub loop-plant-init : goal.loop-plant-init
loop-plant-init g c =
    let p = plant_told g.O.Outputs.told g.D.Depot.told c.args.plant.now in
    record { joint = c.requires.joint; headway = λ ts. headway_none ts p c.args.trace.now }

pub has_line-requires-clause-joint : goal.has_line-requires-clause-joint
has_line-requires-clause-joint g c = c.loop-plant.invariant.joint

pub has_line-requires-clause-sink : goal.has_line-requires-clause-sink
has_line-requires-clause-sink g c =
    let p = plant_told g.O.Outputs.told g.D.Depot.told c.args.plant.now in
    let q = plant_told g.O.Outputs.told g.D.Depot.told c.loop-plant.plant in
    takes_on p q c.args.k (c.loop-plant.invariant.headway []).drives.plays.runs.plan c.requires.sink

pub take_line-requires-clause-joint : goal.take_line-requires-clause-joint
take_line-requires-clause-joint g c = c.loop-plant.invariant.joint

pub take_line-requires-clause-sink : goal.take_line-requires-clause-sink
take_line-requires-clause-sink g c =
    let p = plant_told g.O.Outputs.told g.D.Depot.told c.args.plant.now in
    let q = plant_told g.O.Outputs.told g.D.Depot.told c.loop-plant.plant in
    takes_on p q c.args.k (c.loop-plant.invariant.headway []).drives.plays.runs.plan c.requires.sink

pub loop-plant-smaller : goal.loop-plant-smaller
loop-plant-smaller g c =
    let p = plant_told g.O.Outputs.told g.D.Depot.told c.args.plant.now in
    let q = plant_told g.O.Outputs.told g.D.Depot.told c.loop-plant.plant in
    let r = plant_told g.O.Outputs.told g.D.Depot.told c.take_line.new.plant in
    lower_in [] p q r (c.loop-plant.invariant.headway []).drives.plays.runs.plan ((c.in-Ok.ensures.lowers []).lower refl)

pub loop-plant-preserved : goal.loop-plant-preserved
loop-plant-preserved g c =
    let p = plant_told g.O.Outputs.told g.D.Depot.told c.args.plant.now in
    let q = plant_told g.O.Outputs.told g.D.Depot.told c.loop-plant.plant in
    let r = plant_told g.O.Outputs.told g.D.Depot.told c.take_line.new.plant in
    record {
      joint = c.in-Ok.ensures.joint;
      headway = λ ts. headway_more ts p q r c.args.trace.now c.loop-plant.trace c.take_line.new.trace c.loop-plant.moved
          (c.loop-plant.invariant.headway ts) (c.in-Ok.ensures.lowers ts);
    }

pub returns-in-Err-clause-advances : goal.returns-in-Err-clause-advances
returns-in-Err-clause-advances g c = λ ts.
    let p = plant_told g.O.Outputs.told g.D.Depot.told c.args.plant.now in
    let q = plant_told g.O.Outputs.told g.D.Depot.told c.loop-plant.plant in
    let r = plant_told g.O.Outputs.told g.D.Depot.told c.take_line.new.plant in
    drives_then ts p q r c.args.trace.now c.loop-plant.trace c.take_line.new.trace (Err c.in-Err.fault)
    (c.loop-plant.invariant.headway ts).drives (c.in-Err.ensures.lowers ts)

pub returns-clause-joint : goal.returns-clause-joint
returns-clause-joint g c = c.loop-plant.invariant.joint

pub returns-clause-advances : goal.returns-clause-advances
returns-clause-advances g c = c.loop-plant.invariant.headway

pub returns-clause-put : goal.returns-clause-put
returns-clause-put g c = λ moved stored.
    let p = plant_told g.O.Outputs.told g.D.Depot.told c.args.plant.now in
    let q = plant_told g.O.Outputs.told g.D.Depot.told c.loop-plant.plant in
    let headway = c.loop-plant.invariant.headway [] in
    all_put p q c.args.k headway.drives.plays.runs.plan (headway.same moved) (sym c.has_line.ensures ∙ c.loop-plant-test.false) stored
