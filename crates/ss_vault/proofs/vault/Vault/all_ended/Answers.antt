use Rattle.ss_vault.specs.Told.{VaultTold}
use Rattle.ss_vault.proofs.Ended as ends
use Rattle.ss_vault.proofs.vault.Vault.all_ended.Goals as goal

pub returns : goal.returns
returns g c plan sound =
    let v = c.args.self.now in
    let s : VaultTold = record { held = v.numbers; halted = v.halted; started = v.started; depot = g.D.Depot.told v.depot; outputs = g.O.Outputs.told v.outputs } in
    ((λ all. ends.ended_all plan s sound (c.all_ended.ensures.0 all)), (λ have. c.all_ended.ensures.1 (ends.all_ended plan s sound have)))
