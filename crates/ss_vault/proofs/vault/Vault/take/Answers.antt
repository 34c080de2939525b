use Rattle.std.proofs.Common.{◌≡◌, ◌∙◌, ◌<◌, ◌≤◌, ℕ, None, ap, sym, subst, arith}
use Rattle.ss_frames.specs.Plans.{plan_numbers}
use Rattle.ss_state.specs.Numbers.{JobNumbers, input, vertex}
use Rattle.ss_state.specs.State.{VaultNumbers, row_at}
use Rattle.ss_vault.specs.Calls.{Enters, IsOfPut}
use Rattle.ss_vault.specs.Told.{VaultTold, durable_of}
use Rattle.ss_vault.proofs.Behind.{delivers_behind, enters_behind, none_of, stops_behind, takes_behind}
use Rattle.ss_vault.proofs.Delivered.{take_due}
use Rattle.ss_vault.proofs.Looking.{look_delivers, look_put, only_where, placed}
use Rattle.ss_vault.proofs.Took.{stream_of}
use Rattle.ss_vault.proofs.vault.Vault.take.Goals as goal

pub dur-dur-requires : goal.dur-dur-requires
dur-dur-requires g c =
    let stream = stream_of (plan_numbers c.args.plan.now) c.plan_facts.ensures.numbers c.args.k c.requires.sink in
    let inside = stream.0 in
    let rows = c.requires.sound.numbers.stands.rows in
    let is = c.stream_put-u.ensures in
    omega (arith, inside, rows, is)

pub stored-requires-clause-sound : goal.stored-requires-clause-sound
stored-requires-clause-sound g c =
    let v = c.args.self.now in
    let s : VaultTold = record { held = v.numbers; halted = v.halted; started = v.started; depot = g.D.Depot.told v.depot; outputs = g.O.Outputs.told v.outputs } in
    let plan = c.args.plan.now in
    let job : JobNumbers = plan_numbers plan in
    let going : s.halted ≡ None = none_of s.halted (sym c.is_some.ensures ∙ c.if-is_some.false) in
    let m : VaultTold = record s { held = c.reserve_entry.new.self } in
    let first = placed plan s c.reserve_entry.new.self c.requires.sound going c.reserve_entry.ensures.numbers c.reserve_entry.ensures.snaps c.reserve_entry.ensures.ended in
    first.0

pub stored-requires-clause-base : goal.stored-requires-clause-base
stored-requires-clause-base g c =
    let v = c.args.self.now in
    let s : VaultTold = record { held = v.numbers; halted = v.halted; started = v.started; depot = g.D.Depot.told v.depot; outputs = g.O.Outputs.told v.outputs } in
    let plan = c.args.plan.now in
    let job : JobNumbers = plan_numbers plan in
    let going : s.halted ≡ None = none_of s.halted (sym c.is_some.ensures ∙ c.if-is_some.false) in
    let u_is : c.stream_put-u.result ≡ input (vertex job c.args.k) 0 = c.stream_put-u.ensures in
    let n_is : c.taken-n.result ≡ (durable_of s c.args.k).taken = c.taken-n.ensures in
    let untaken = c.requires.sound.numbers.stands.untaken c.args.k c.requires.sink in
    let base : (durable_of s (input (vertex job c.args.k) 0)).base ≤ c.taken-n.result = omega (arith, untaken, n_is) in
    subst (λ (x : VaultNumbers). (row_at x.ledger c.stream_put-u.result).base ≤ c.taken-n.result) (sym c.reserve_entry.ensures.numbers)
    (subst (λ (i : ℕ). (durable_of s i).base ≤ c.taken-n.result) (sym u_is) base)

pub returns-in-Ok-clause-answer : goal.returns-in-Ok-clause-answer
returns-in-Ok-clause-answer g c =
    let v = c.args.self.now in
    let s : VaultTold = record { held = v.numbers; halted = v.halted; started = v.started; depot = g.D.Depot.told v.depot; outputs = g.O.Outputs.told v.outputs } in
    let plan = c.args.plan.now in
    let job : JobNumbers = plan_numbers plan in
    let going : s.halted ≡ None = none_of s.halted (sym c.is_some.ensures ∙ c.if-is_some.false) in
    let m : VaultTold = record s { held = c.reserve_entry.new.self } in
    let first = placed plan s c.reserve_entry.new.self c.requires.sound going c.reserve_entry.ensures.numbers c.reserve_entry.ensures.snaps c.reserve_entry.ensures.ended in
    let after : VaultTold = record { held = c.stored.new.self.numbers; halted = c.stored.new.self.halted; started = c.stored.new.self.started; depot = g.D.Depot.told c.stored.new.self.depot; outputs = g.O.Outputs.told c.stored.new.self.outputs } in
    let enters : Enters plan s None None after = enters_behind plan s m after None None first.1 c.in-Ok.ensures.answer.1 in
    takes_behind plan c.args.k s after _ c.deliver.result enters c.deliver.ensures.answer

pub returns-in-Ok-clause-outputs : goal.returns-in-Ok-clause-outputs
returns-in-Ok-clause-outputs g c =
    let v = c.args.self.now in
    let s : VaultTold = record { held = v.numbers; halted = v.halted; started = v.started; depot = g.D.Depot.told v.depot; outputs = g.O.Outputs.told v.outputs } in
    let plan = c.args.plan.now in
    let job : JobNumbers = plan_numbers plan in
    let going : s.halted ≡ None = none_of s.halted (sym c.is_some.ensures ∙ c.if-is_some.false) in
    let m : VaultTold = record s { held = c.reserve_entry.new.self } in
    let first = placed plan s c.reserve_entry.new.self c.requires.sound going c.reserve_entry.ensures.numbers c.reserve_entry.ensures.snaps c.reserve_entry.ensures.ended in
    let after : VaultTold = record { held = c.stored.new.self.numbers; halted = c.stored.new.self.halted; started = c.stored.new.self.started; depot = g.D.Depot.told c.stored.new.self.depot; outputs = g.O.Outputs.told c.stored.new.self.outputs } in
    let enters : Enters plan s None None after = enters_behind plan s m after None None first.1 c.in-Ok.ensures.answer.1 in
    delivers_behind plan c.args.k s after _ c.deliver.result c.in-Ok.ensures.outputs enters.numbers c.deliver.ensures.outputs

pub returns-in-Err-clause-answer : goal.returns-in-Err-clause-answer
returns-in-Err-clause-answer g c =
    let v = c.args.self.now in
    let s : VaultTold = record { held = v.numbers; halted = v.halted; started = v.started; depot = g.D.Depot.told v.depot; outputs = g.O.Outputs.told v.outputs } in
    let plan = c.args.plan.now in
    let job : JobNumbers = plan_numbers plan in
    let going : s.halted ≡ None = none_of s.halted (sym c.is_some.ensures ∙ c.if-is_some.false) in
    let m : VaultTold = record s { held = c.reserve_entry.new.self } in
    let first = placed plan s c.reserve_entry.new.self c.requires.sound going c.reserve_entry.ensures.numbers c.reserve_entry.ensures.snaps c.reserve_entry.ensures.ended in
    let u_is : c.stream_put-u.result ≡ input (vertex job c.args.k) 0 = c.stream_put-u.ensures in
    let n_is : c.taken-n.result ≡ (durable_of s c.args.k).taken = c.taken-n.ensures in
    let within : (durable_of s c.args.k).taken ≤ (durable_of s (input (vertex job c.args.k) 0)).dur = c.requires.sound.numbers.stands.taken c.args.k c.requires.sink in
    let dur_is : c.dur-dur.result ≡ (durable_of s (input (vertex job c.args.k) 0)).dur = c.dur-dur.ensures ∙ ap (λ (i : ℕ). (durable_of s i).dur) u_is in
    let other = c.if-n-dur.false in
    let stored : (durable_of s c.args.k).taken < (durable_of s (input (vertex job c.args.k) 0)).dur = omega (arith, within, dur_is, n_is, other) in
    let look = look_put c.stream_put-u.result c.taken-n.result c.in-Err.fault c.in-Err.ensures.answer.0 in (
      subst (λ (i : ℕ). IsOfPut i (durable_of s c.args.k).taken c.in-Err.fault) u_is (subst (λ (n : ℕ). IsOfPut c.stream_put-u.result n c.in-Err.fault) n_is look),
      only_where _ c.in-Err.fault (take_due plan s c.args.k c.requires.sound stored),
      stops_behind plan s m _ None c.in-Err.fault first.1 c.in-Err.ensures.answer.1,
    )

pub returns-in-Err-clause-outputs : goal.returns-in-Err-clause-outputs
returns-in-Err-clause-outputs g c =
    let v = c.args.self.now in
    let s : VaultTold = record { held = v.numbers; halted = v.halted; started = v.started; depot = g.D.Depot.told v.depot; outputs = g.O.Outputs.told v.outputs } in
    let plan = c.args.plan.now in
    let job : JobNumbers = plan_numbers plan in
    let going : s.halted ≡ None = none_of s.halted (sym c.is_some.ensures ∙ c.if-is_some.false) in
    look_delivers plan c.args.k c.stream_put-u.result c.taken-n.result s _ c.in-Err.fault c.in-Err.ensures.answer.0 c.in-Err.ensures.outputs
