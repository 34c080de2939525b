use Rattle.std.proofs.Common.{◌∙◌, ℕ, ap, arith}
use Rattle.ss_vault.specs.NumbersHeld.{greatest_within, snaps_held}
use Rattle.ss_vault.specs.Readers.{IsOperatorIn}
use Rattle.ss_vault.specs.Told.{VaultTold}
use Rattle.ss_vault.proofs.Answering.{low_found}
use Rattle.ss_vault.proofs.Starts.{sound_rise, sound_start}
use Rattle.ss_vault.proofs.vault.Vault.low.Goals as goal

pub within-requires-clause-rise : goal.within-requires-clause-rise
within-requires-clause-rise g c =
    let v = c.args.self.now in
    let s : VaultTold = record { held = v.numbers; halted = v.halted; started = v.started; depot = g.D.Depot.told v.depot; outputs = g.O.Outputs.told v.outputs } in
    let in_plan : IsOperatorIn c.requires.0 s c.args.v = c.requires.1 in
    sound_rise c.requires.0 (c.every_snapshot_facts.ensures c.requires.0 in_plan.is) s c.args.v in_plan.sound in_plan.operator

pub within-requires-clause-start : goal.within-requires-clause-start
within-requires-clause-start g c =
    let v = c.args.self.now in
    let s : VaultTold = record { held = v.numbers; halted = v.halted; started = v.started; depot = g.D.Depot.told v.depot; outputs = g.O.Outputs.told v.outputs } in
    let in_plan : IsOperatorIn c.requires.0 s c.args.v = c.requires.1 in
    sound_start c.requires.0 (c.every_snapshot_facts.ensures c.requires.0 in_plan.is) s c.args.v c.dur.result in_plan.sound in_plan.operator
    (let e = c.dur.ensures in omega (arith, e))

pub returns : goal.returns
returns g c plan in_plan =
    let v = c.args.self.now in
    let s : VaultTold = record { held = v.numbers; halted = v.halted; started = v.started; depot = g.D.Depot.told v.depot; outputs = g.O.Outputs.told v.outputs } in
    c.within.ensures ∙ ap (λ (n : ℕ). greatest_within (snaps_held s.held c.args.v) n) c.dur.ensures
    ∙ low_found plan (c.every_snapshot_facts.ensures plan in_plan.is) s c.args.v in_plan.sound in_plan.operator
