use Rattle.std.proofs.Common.{◌∙◌, sym}
use Rattle.std.specs.Prelude.{Err}
use Rattle.ss_engine.specs.Told.{plant_told, state_of}
use Rattle.ss_serial.specs.Stored.{job_of}
use Rattle.ss_serial.proofs.Progress.{drives_then, gives_on, headway_more}
use Rattle.ss_serial.proofs.turns.turn.Goals as goal

pub returns-then-not-has_batch-clause-stored : goal.returns-then-not-has_batch-clause-stored
returns-then-not-has_batch-clause-stored g c = λ moved stored.
    let p = plant_told g.O.Outputs.told g.D.Depot.told c.args.plant.now in
    let q = plant_told g.O.Outputs.told g.D.Depot.told c.work.new.plant in
    c.what_is_over_is_whole.ensures (job_of q) (state_of q) c.args.v c.in-Ok.ensures.joint.numbers
    (gives_on p q c.args.v c.in-Ok.ensures.advances.drives.plays.runs.plan c.requires.stream) (c.in-Ok.ensures.over moved stored)
    (sym c.has_batch.ensures ∙ c.if-not-has_batch.true)

pub returns-in-Ok-store-clause-advances : goal.returns-in-Ok-store-clause-advances
returns-in-Ok-store-clause-advances g c =
    let p = plant_told g.O.Outputs.told g.D.Depot.told c.args.plant.now in
    let q = plant_told g.O.Outputs.told g.D.Depot.told c.work.new.plant in
    let r = plant_told g.O.Outputs.told g.D.Depot.told c.store.new.plant in
    headway_more c.args.triggers.now p q r c.args.trace.now c.work.new.trace c.store.new.trace c.in-Ok.moved c.in-Ok.ensures.advances
    (c.in-Ok-store.ensures.lowers c.args.triggers.now)

pub returns-in-Err-store-clause-advances : goal.returns-in-Err-store-clause-advances
returns-in-Err-store-clause-advances g c =
    let p = plant_told g.O.Outputs.told g.D.Depot.told c.args.plant.now in
    let q = plant_told g.O.Outputs.told g.D.Depot.told c.work.new.plant in
    let r = plant_told g.O.Outputs.told g.D.Depot.told c.store.new.plant in
    drives_then c.args.triggers.now p q r c.args.trace.now c.work.new.trace c.store.new.trace (Err c.in-Err-store.fault)
    c.in-Ok.ensures.advances.drives (c.in-Err-store.ensures.lowers c.args.triggers.now)
