use Rattle.std.proofs.Common.{◌∙◌, refl}
use Rattle.ss_frames.specs.Plans.{plan_numbers}
use Rattle.ss_vault.specs.Told.{VaultTold, numbers_of}
use Rattle.ss_vault.proofs.Halves.{marked_dur, marked_half, trims_mark}
use Rattle.ss_vault.proofs.vault.Vault.raise_mark.Goals as goal

pub returns-clause-half : goal.returns-clause-half
returns-clause-half g c =
    let v = c.args.self.now in
    let s : VaultTold = record { held = v.numbers; halted = v.halted; started = v.started; depot = g.D.Depot.told v.depot; outputs = g.O.Outputs.told v.outputs } in
    let u : VaultTold = record s { held = c.marked.new.self } in (
      c.dur.ensures ∙ marked_dur (numbers_of s).ledger (numbers_of u).ledger c.args.v c.marked.ensures.ledger
          ∙ trims_mark (plan_numbers c.args.plan.now) (numbers_of s).ledger c.args.v c.requires.source,
      marked_half c.run_facts.ensures c.args.plan.now c.plan_facts.ensures s u c.args.v c.requires.going c.requires.stream c.requires.source
          c.marked.ensures.ledger c.marked.ensures.besides c.marked.ensures.snaps refl c.requires.going refl refl,
    )
