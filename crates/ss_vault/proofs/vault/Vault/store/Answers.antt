use Rattle.std.proofs.Common.{◌≡◌, ◌∙◌, ◌+◌, ◌++◌, ℕ, Some, Ok, length, refl, sym, subst, arith}
use Rattle.ss_frames.specs.Plans.{plan_numbers}
use Rattle.ss_vault.specs.Devices.{Appended, StopsAppending}
use Rattle.ss_vault.specs.Steps.{Stores}
use Rattle.ss_vault.specs.Told.{VaultTold, durable_of}
use Rattle.ss_vault.specs.declared.answers.Flush.TheVariants as flush
use Rattle.ss_vault.proofs.Flushed.{stored_few}
use Rattle.ss_vault.proofs.Stored.{Touched, next_firsts, next_is, stored_all, stored_some}
use Rattle.ss_vault.proofs.vault.Vault.store.Goals as goal

pub append_both-count-requires-clause-next : goal.append_both-count-requires-clause-next
append_both-count-requires-clause-next g c =
    let v = c.args.self.now in
    let s : VaultTold = record { held = v.numbers; halted = v.halted; started = v.started; depot = g.D.Depot.told v.depot; outputs = g.O.Outputs.told v.outputs } in
    c.dur-dur.ensures ∙ next_is c.args.plan.now c.plan_facts.ensures s c.args.v c.requires.sound c.requires.stream

pub append_both-count-requires-clause-firsts : goal.append_both-count-requires-clause-firsts
append_both-count-requires-clause-firsts g c =
    let v = c.args.self.now in
    let s : VaultTold = record { held = v.numbers; halted = v.halted; started = v.started; depot = g.D.Depot.told v.depot; outputs = g.O.Outputs.told v.outputs } in
    next_firsts c.args.plan.now c.plan_facts.ensures s c.args.v (c.args.first.now ++ c.args.rest.now) c.requires.stream c.requires.elements

pub stored-requires-clause-few : goal.stored-requires-clause-few
stored-requires-clause-few g c =
    let v = c.args.self.now in
    let s : VaultTold = record { held = v.numbers; halted = v.halted; started = v.started; depot = g.D.Depot.told v.depot; outputs = g.O.Outputs.told v.outputs } in
    let all = stored_few c.args.plan.now c.plan_facts.ensures s c.requires.sound in
    let within = c.append_both-count.ensures.0.within in
    let few = c.requires.few in
    omega (arith, all, within, few)

pub returns-in-None-clause-sound : goal.returns-in-None-clause-sound
returns-in-None-clause-sound g c =
    let v = c.args.self.now in
    let s : VaultTold = record { held = v.numbers; halted = v.halted; started = v.started; depot = g.D.Depot.told v.depot; outputs = g.O.Outputs.told v.outputs } in
    let u : VaultTold = record s { held = c.stored.new.self; depot = g.D.Depot.told c.append_both-count.new.depot } in
    let count : ℕ = c.append_both-count.result.0 in
    let appended : Appended s.depot u.depot c.args.v (durable_of s c.args.v).dur (c.args.first.now ++ c.args.rest.now) count =
    subst (λ (n : ℕ). Appended s.depot u.depot c.args.v n (c.args.first.now ++ c.args.rest.now) count) c.dur-dur.ensures c.append_both-count.ensures.0 in
    let touched : Touched c.args.plan.now s u c.args.v count (c.args.first.now ++ c.args.rest.now) = record {
      numbers = c.stored.ensures.numbers (plan_numbers c.args.plan.now);
      snaps = c.stored.ensures.snaps;
      ended = c.stored.ensures.ended;
      started = refl;
      outputs = refl;
      appended = appended;
    } in
    let stops : count ≡ length (c.args.first.now ++ c.args.rest.now) = subst (λ o. StopsAppending s.depot u.depot count (length (c.args.first.now ++ c.args.rest.now)) o) c.in-None.is c.append_both-count.ensures.1 in
    (stored_all c.run_facts.ensures c.args.plan.now c.plan_facts.ensures s u c.args.v count (c.args.first.now ++ c.args.rest.now) c.requires.sound c.requires.stream c.requires.elements c.requires.few c.requires.since touched c.requires.going c.requires.going stops).0

pub returns-in-None-clause-answer : goal.returns-in-None-clause-answer
returns-in-None-clause-answer g c =
    let v = c.args.self.now in
    let s : VaultTold = record { held = v.numbers; halted = v.halted; started = v.started; depot = g.D.Depot.told v.depot; outputs = g.O.Outputs.told v.outputs } in
    let u : VaultTold = record s { held = c.stored.new.self; depot = g.D.Depot.told c.append_both-count.new.depot } in
    let count : ℕ = c.append_both-count.result.0 in
    let appended : Appended s.depot u.depot c.args.v (durable_of s c.args.v).dur (c.args.first.now ++ c.args.rest.now) count =
    subst (λ (n : ℕ). Appended s.depot u.depot c.args.v n (c.args.first.now ++ c.args.rest.now) count) c.dur-dur.ensures c.append_both-count.ensures.0 in
    let touched : Touched c.args.plan.now s u c.args.v count (c.args.first.now ++ c.args.rest.now) = record {
      numbers = c.stored.ensures.numbers (plan_numbers c.args.plan.now);
      snaps = c.stored.ensures.snaps;
      ended = c.stored.ensures.ended;
      started = refl;
      outputs = refl;
      appended = appended;
    } in
    let stops : count ≡ length (c.args.first.now ++ c.args.rest.now) = subst (λ o. StopsAppending s.depot u.depot count (length (c.args.first.now ++ c.args.rest.now)) o) c.in-None.is c.append_both-count.ensures.1 in
    let answer = (stored_all c.run_facts.ensures c.args.plan.now c.plan_facts.ensures s u c.args.v count (c.args.first.now ++ c.args.rest.now) c.requires.sound c.requires.stream c.requires.elements c.requires.few c.requires.since touched c.requires.going c.requires.going stops).1 in
    subst (λ (n : ℕ). Stores c.args.plan.now c.args.v (length (c.args.first.now ++ c.args.rest.now)) s (Ok (flush.Flushed count (n + count))) u) (sym c.dur-dur.ensures) answer

pub returns-in-Some-clause-sound : goal.returns-in-Some-clause-sound
returns-in-Some-clause-sound g c =
    let v = c.args.self.now in
    let s : VaultTold = record { held = v.numbers; halted = v.halted; started = v.started; depot = g.D.Depot.told v.depot; outputs = g.O.Outputs.told v.outputs } in
    let u : VaultTold = record s { held = c.stored.new.self; depot = g.D.Depot.told c.append_both-count.new.depot; halted = c.halts-self.result } in
    let count : ℕ = c.append_both-count.result.0 in
    let appended : Appended s.depot u.depot c.args.v (durable_of s c.args.v).dur (c.args.first.now ++ c.args.rest.now) count =
    subst (λ (n : ℕ). Appended s.depot u.depot c.args.v n (c.args.first.now ++ c.args.rest.now) count) c.dur-dur.ensures c.append_both-count.ensures.0 in
    let touched : Touched c.args.plan.now s u c.args.v count (c.args.first.now ++ c.args.rest.now) = record {
      numbers = c.stored.ensures.numbers (plan_numbers c.args.plan.now);
      snaps = c.stored.ensures.snaps;
      ended = c.stored.ensures.ended;
      started = refl;
      outputs = refl;
      appended = appended;
    } in
    let stops : StopsAppending s.depot u.depot count (length (c.args.first.now ++ c.args.rest.now)) (Some c.in-Some.fault) = subst (λ o. StopsAppending s.depot u.depot count (length (c.args.first.now ++ c.args.rest.now)) o) c.in-Some.is c.append_both-count.ensures.1 in
    (stored_some c.run_facts.ensures c.args.plan.now c.plan_facts.ensures s u c.args.v count (c.args.first.now ++ c.args.rest.now) c.in-Some.fault c.requires.sound c.requires.stream c.requires.elements c.requires.few c.requires.since touched c.requires.going c.halts-self.ensures stops).0

pub returns-in-Some-clause-answer : goal.returns-in-Some-clause-answer
returns-in-Some-clause-answer g c =
    let v = c.args.self.now in
    let s : VaultTold = record { held = v.numbers; halted = v.halted; started = v.started; depot = g.D.Depot.told v.depot; outputs = g.O.Outputs.told v.outputs } in
    let u : VaultTold = record s { held = c.stored.new.self; depot = g.D.Depot.told c.append_both-count.new.depot; halted = c.halts-self.result } in
    let count : ℕ = c.append_both-count.result.0 in
    let appended : Appended s.depot u.depot c.args.v (durable_of s c.args.v).dur (c.args.first.now ++ c.args.rest.now) count =
    subst (λ (n : ℕ). Appended s.depot u.depot c.args.v n (c.args.first.now ++ c.args.rest.now) count) c.dur-dur.ensures c.append_both-count.ensures.0 in
    let touched : Touched c.args.plan.now s u c.args.v count (c.args.first.now ++ c.args.rest.now) = record {
      numbers = c.stored.ensures.numbers (plan_numbers c.args.plan.now);
      snaps = c.stored.ensures.snaps;
      ended = c.stored.ensures.ended;
      started = refl;
      outputs = refl;
      appended = appended;
    } in
    let stops : StopsAppending s.depot u.depot count (length (c.args.first.now ++ c.args.rest.now)) (Some c.in-Some.fault) = subst (λ o. StopsAppending s.depot u.depot count (length (c.args.first.now ++ c.args.rest.now)) o) c.in-Some.is c.append_both-count.ensures.1 in
    (stored_some c.run_facts.ensures c.args.plan.now c.plan_facts.ensures s u c.args.v count (c.args.first.now ++ c.args.rest.now) c.in-Some.fault c.requires.sound c.requires.stream c.requires.elements c.requires.few c.requires.since touched c.requires.going c.halts-self.ensures stops).1
