use Rattle.std.proofs.Common.{◌≡◌, ◌∙◌, ℕ, refl, ap, arith}
use Rattle.ss_frames.specs.Plans.{plan_numbers}
use Rattle.ss_state.specs.LowWater.{low_at}
use Rattle.ss_vault.specs.NumbersHeld.{greatest_within, snaps_held}
use Rattle.ss_vault.specs.Steps.{with_journal}
use Rattle.ss_vault.specs.Told.{VaultTold, numbers_of}
use Rattle.ss_vault.proofs.Answering.{low_found}
use Rattle.ss_vault.proofs.Halves.{dropped_half, trims_low}
use Rattle.ss_vault.proofs.Coded.{gives}
use Rattle.ss_vault.proofs.Starts.{sound_rise, sound_start}
use Rattle.ss_vault.proofs.vault.Vault.drop_snapshots.Goals as goal

pub within-low-requires-clause-rise : goal.within-low-requires-clause-rise
within-low-requires-clause-rise g c =
    let v = c.args.self.now in
    let s : VaultTold = record { held = v.numbers; halted = v.halted; started = v.started; depot = g.D.Depot.told v.depot; outputs = g.O.Outputs.told v.outputs } in
    sound_rise c.args.plan.now c.snapshot_facts.ensures (with_journal s c.requires.sound.0) c.args.v c.requires.sound.1 c.requires.operator

pub within-low-requires-clause-start : goal.within-low-requires-clause-start
within-low-requires-clause-start g c =
    let v = c.args.self.now in
    let s : VaultTold = record { held = v.numbers; halted = v.halted; started = v.started; depot = g.D.Depot.told v.depot; outputs = g.O.Outputs.told v.outputs } in
    sound_start c.args.plan.now c.snapshot_facts.ensures (with_journal s c.requires.sound.0) c.args.v c.dur.result c.requires.sound.1 c.requires.operator
    (let e = c.dur.ensures in omega (arith, e))

pub returns-in-Ok-clause-half : goal.returns-in-Ok-clause-half
returns-in-Ok-clause-half g c =
    let v = c.args.self.now in
    let s : VaultTold = record { held = v.numbers; halted = v.halted; started = v.started; depot = g.D.Depot.told v.depot; outputs = g.O.Outputs.told v.outputs } in
    let low : c.within-low.result ≡ low_at (plan_numbers c.args.plan.now) (numbers_of s).ledger c.args.v =
    c.within-low.ensures ∙ ap (λ (n : ℕ). greatest_within (snaps_held s.held c.args.v) n) c.dur.ensures
    ∙ low_found c.args.plan.now c.snapshot_facts.ensures (with_journal s c.requires.sound.0) c.args.v c.requires.sound.1 c.requires.operator in
    let u : VaultTold = record s { held = c.trimmed.new.self; depot = g.D.Depot.told c.drop_below.new.self } in (
      low ∙ trims_low (plan_numbers c.args.plan.now) (numbers_of s).ledger c.args.v c.requires.operator.1,
      dropped_half c.run_facts.ensures c.args.plan.now c.plan_facts.ensures c.snapshot_facts.ensures s u c.args.v c.within-low.result c.requires.going c.requires.operator
          (gives (plan_numbers c.args.plan.now) c.args.v c.requires.operator) low
          c.trimmed.ensures.ledger c.trimmed.ensures.besides c.trimmed.ensures.snaps c.in-Ok.ensures c.requires.going refl refl,
    )
