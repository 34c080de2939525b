use Rattle.std.proofs.Common.{◌∙◌, ap}
use Rattle.ss_engine.specs.Told.{plant_told, state_of}
use Rattle.ss_state.specs.State.{durable_at}
use Rattle.ss_vault.specs.Told.{VaultTold, durable_of}
use Rattle.ss_serial.proofs.Newest.{newest_is}
use Rattle.ss_serial.proofs.state.newest.Goals as goal

pub returns-in-Some : goal.returns-in-Some
returns-in-Some g c =
    let p = plant_told g.O.Outputs.told g.D.Depot.told c.args.plant.now in
    newest_is c.snaps.result.now (durable_at (state_of p) c.args.v).snaps c.in-Some.snap.now
    (c.snaps.ensures.numbers ∙ ap (λ (vault : VaultTold). (durable_of vault c.args.v).snaps) c.vault.ensures)
    (c.requires.joint.numbers.vault.stands.row c.args.v).rises c.in-Some.ensures.value
