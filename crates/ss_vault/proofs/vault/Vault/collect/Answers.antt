use Rattle.std.proofs.Common.{◌≡◌, ◌∙◌, None, arith, sym}
use Rattle.ss_state.specs.declared.entry.Entry.TheVariants as entry
use Rattle.ss_vault.specs.Told.{VaultTold, numbers_of}
use Rattle.ss_vault.proofs.Behind.{none_of}
use Rattle.ss_vault.proofs.Entered.{entered, failed, has_needed}
use Rattle.ss_vault.proofs.vault.Vault.collect.Goals as goal

pub returns-then-is_some-clause-needed : goal.returns-then-is_some-clause-needed
returns-then-is_some-clause-needed g c =
    let v = c.args.self.now in
    let s : VaultTold = record { held = v.numbers; halted = v.halted; started = v.started; depot = g.D.Depot.told v.depot; outputs = g.O.Outputs.told v.outputs } in
    has_needed c.collection_facts.ensures c.args.plan.now c.plan_facts.ensures s c.requires.sound

pub collect_half-requires-clause-sound : goal.collect_half-requires-clause-sound
collect_half-requires-clause-sound g c =
    let v = c.args.self.now in
    let s : VaultTold = record { held = v.numbers; halted = v.halted; started = v.started; depot = g.D.Depot.told v.depot; outputs = g.O.Outputs.told v.outputs } in
    ((numbers_of s).journal, c.requires.sound)

pub collect_half-requires-clause-going : goal.collect_half-requires-clause-going
collect_half-requires-clause-going g c = none_of c.args.self.now.halted (sym c.is_some.ensures ∙ c.if-is_some.false)

pub enter-requires : goal.enter-requires
enter-requires g c = let p = c.in-Ok.ensures.half.1.places in let h = c.requires.place in omega (arith, p, h)

pub returns-in-Ok-clause-sound : goal.returns-in-Ok-clause-sound
returns-in-Ok-clause-sound g c =
    let v = c.args.self.now in
    let s : VaultTold = record { held = v.numbers; halted = v.halted; started = v.started; depot = g.D.Depot.told v.depot; outputs = g.O.Outputs.told v.outputs } in
    let w = c.collect_half.new.self in
    let m : VaultTold = record { held = w.numbers; halted = w.halted; started = w.started; depot = g.D.Depot.told w.depot; outputs = g.O.Outputs.told w.outputs } in
    let going : s.halted ≡ None = none_of s.halted (sym c.is_some.ensures ∙ c.if-is_some.false) in
    (entered c.args.plan.now s m c.enter.new.self (entry.Collected c.args.v) going c.in-Ok.ensures.half.1 c.enter.ensures.ledger c.enter.ensures.journal c.enter.ensures.snaps c.enter.ensures.ended
    c.requires.sound).0

pub returns-in-Ok-clause-answer : goal.returns-in-Ok-clause-answer
returns-in-Ok-clause-answer g c =
    let v = c.args.self.now in
    let s : VaultTold = record { held = v.numbers; halted = v.halted; started = v.started; depot = g.D.Depot.told v.depot; outputs = g.O.Outputs.told v.outputs } in
    let w = c.collect_half.new.self in
    let m : VaultTold = record { held = w.numbers; halted = w.halted; started = w.started; depot = g.D.Depot.told w.depot; outputs = g.O.Outputs.told w.outputs } in
    let going : s.halted ≡ None = none_of s.halted (sym c.is_some.ensures ∙ c.if-is_some.false) in (
      c.in-Ok.ensures.half.0,
      (entered c.args.plan.now s m c.enter.new.self (entry.Collected c.args.v) going c.in-Ok.ensures.half.1 c.enter.ensures.ledger c.enter.ensures.journal c.enter.ensures.snaps c.enter.ensures.ended
          c.requires.sound).1,
    )

pub returns-in-Ok-clause-needed : goal.returns-in-Ok-clause-needed
returns-in-Ok-clause-needed g c =
    let v = c.args.self.now in
    let s : VaultTold = record { held = v.numbers; halted = v.halted; started = v.started; depot = g.D.Depot.told v.depot; outputs = g.O.Outputs.told v.outputs } in
    let w = c.collect_half.new.self in
    let m : VaultTold = record { held = w.numbers; halted = w.halted; started = w.started; depot = g.D.Depot.told w.depot; outputs = g.O.Outputs.told w.outputs } in
    let going : s.halted ≡ None = none_of s.halted (sym c.is_some.ensures ∙ c.if-is_some.false) in
    let all = entered c.args.plan.now s m c.enter.new.self (entry.Collected c.args.v) going c.in-Ok.ensures.half.1 c.enter.ensures.ledger c.enter.ensures.journal c.enter.ensures.snaps c.enter.ensures.ended
    c.requires.sound in
    has_needed c.collection_facts.ensures c.args.plan.now c.plan_facts.ensures _ all.0

pub returns-in-Err-clause-sound : goal.returns-in-Err-clause-sound
returns-in-Err-clause-sound g c =
    let v = c.args.self.now in
    let s : VaultTold = record { held = v.numbers; halted = v.halted; started = v.started; depot = g.D.Depot.told v.depot; outputs = g.O.Outputs.told v.outputs } in
    let w = c.collect_half.new.self in
    let m : VaultTold = record { held = w.numbers; halted = w.halted; started = w.started; depot = g.D.Depot.told w.depot; outputs = g.O.Outputs.told w.outputs } in
    let going : s.halted ≡ None = none_of s.halted (sym c.is_some.ensures ∙ c.if-is_some.false) in
    (failed c.args.plan.now s m c.in-Err.fault going c.in-Err.ensures.half c.requires.sound).0

pub returns-in-Err-clause-answer : goal.returns-in-Err-clause-answer
returns-in-Err-clause-answer g c =
    let v = c.args.self.now in
    let s : VaultTold = record { held = v.numbers; halted = v.halted; started = v.started; depot = g.D.Depot.told v.depot; outputs = g.O.Outputs.told v.outputs } in
    let w = c.collect_half.new.self in
    let m : VaultTold = record { held = w.numbers; halted = w.halted; started = w.started; depot = g.D.Depot.told w.depot; outputs = g.O.Outputs.told w.outputs } in
    let going : s.halted ≡ None = none_of s.halted (sym c.is_some.ensures ∙ c.if-is_some.false) in
    let all = failed c.args.plan.now s m c.in-Err.fault going c.in-Err.ensures.half c.requires.sound in
    (all.1, all.2)

pub returns-in-Err-clause-needed : goal.returns-in-Err-clause-needed
returns-in-Err-clause-needed g c =
    let v = c.args.self.now in
    let s : VaultTold = record { held = v.numbers; halted = v.halted; started = v.started; depot = g.D.Depot.told v.depot; outputs = g.O.Outputs.told v.outputs } in
    let w = c.collect_half.new.self in
    let m : VaultTold = record { held = w.numbers; halted = w.halted; started = w.started; depot = g.D.Depot.told w.depot; outputs = g.O.Outputs.told w.outputs } in
    let going : s.halted ≡ None = none_of s.halted (sym c.is_some.ensures ∙ c.if-is_some.false) in
    has_needed c.collection_facts.ensures c.args.plan.now c.plan_facts.ensures m (failed c.args.plan.now s m c.in-Err.fault going c.in-Err.ensures.half c.requires.sound).0
