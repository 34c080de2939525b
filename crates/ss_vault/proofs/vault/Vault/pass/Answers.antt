use Rattle.std.proofs.Common.{◌≡◌, ◌∙◌, ◌++◌, ◌∷◌, [], ℕ, List, Option, None, Some, ap, length, subst, sym}
use Rattle.ss_frames.specs.Plans.{plan_numbers}
use Rattle.ss_state.specs.Journal.{pass_order}
use Rattle.ss_state.specs.declared.entry.Entry.{Entry}
use Rattle.ss_state.specs.declared.entry.Entry.TheVariants as entry
use Rattle.ss_vault.specs.Steps.{PassesOver, last_streams}
use Rattle.ss_vault.specs.Told.{VaultTold}
use Rattle.ss_vault.specs.declared.fault.VaultFault.{VaultFault}
use Rattle.ss_vault.proofs.Behind.{none_of}
use Rattle.ss_vault.proofs.Entered.{has_collected, has_needed, passed_all, passed_some}
use Rattle.ss_vault.proofs.Passed.{last_all}
use Rattle.ss_vault.proofs.vault.Vault.pass.Goals as goal

pub returns-then-is_some-clause-needed : goal.returns-then-is_some-clause-needed
returns-then-is_some-clause-needed g c =
    let v = c.args.self.now in
    let s : VaultTold = record { held = v.numbers; halted = v.halted; started = v.started; depot = g.D.Depot.told v.depot; outputs = g.O.Outputs.told v.outputs } in
    has_needed c.collection_facts.ensures c.args.plan.now c.plan_facts.ensures s c.requires.sound

pub returns-in-None-clause-sound : goal.returns-in-None-clause-sound
returns-in-None-clause-sound g c =
    let v = c.args.self.now in
    let s : VaultTold = record { held = v.numbers; halted = v.halted; started = v.started; depot = g.D.Depot.told v.depot; outputs = g.O.Outputs.told v.outputs } in
    let w = c.make_halves-halves.new.self in
    let m : VaultTold = record { held = w.numbers; halted = w.halted; started = w.started; depot = g.D.Depot.told w.depot; outputs = g.O.Outputs.told w.outputs } in
    let order : last_streams (plan_numbers c.args.plan.now) (length (plan_numbers c.args.plan.now).vertices) ≡ pass_order (plan_numbers c.args.plan.now) = last_all (plan_numbers c.args.plan.now) in
    let going : s.halted ≡ None = none_of s.halted (sym c.is_some.ensures ∙ c.if-is_some.false) in
    let passes : PassesOver c.args.plan.now (pass_order (plan_numbers c.args.plan.now)) s c.make_halves-halves.result.0 None m =
    subst (λ (o : Option VaultFault). PassesOver c.args.plan.now (pass_order (plan_numbers c.args.plan.now)) s c.make_halves-halves.result.0 o m) c.in-None.is
    (subst (λ (vs : List ℕ). PassesOver c.args.plan.now vs s c.make_halves-halves.result.0 c.make_halves-halves.result.1 m) order c.make_halves-halves.ensures.passes) in
    let all = passed_all c.run_facts.ensures c.args.plan.now c.plan_facts.ensures s m c.enter.new.self c.make_halves-halves.result.0 going passes
    (c.enter.ensures.ledger ∙ c.count_anew.ensures.ledger) (c.enter.ensures.journal ∙ ap (λ (j : List Entry). j ++ entry.Pass c.make_halves-halves.result.0 ∷ []) c.count_anew.ensures.besides.journal)
    (c.enter.ensures.snaps ∙ c.count_anew.ensures.snaps) (c.enter.ensures.ended ∙ c.count_anew.ensures.besides.ended) c.requires.sound in
    all.0

pub returns-in-None-clause-answer : goal.returns-in-None-clause-answer
returns-in-None-clause-answer g c =
    let v = c.args.self.now in
    let s : VaultTold = record { held = v.numbers; halted = v.halted; started = v.started; depot = g.D.Depot.told v.depot; outputs = g.O.Outputs.told v.outputs } in
    let w = c.make_halves-halves.new.self in
    let m : VaultTold = record { held = w.numbers; halted = w.halted; started = w.started; depot = g.D.Depot.told w.depot; outputs = g.O.Outputs.told w.outputs } in
    let order : last_streams (plan_numbers c.args.plan.now) (length (plan_numbers c.args.plan.now).vertices) ≡ pass_order (plan_numbers c.args.plan.now) = last_all (plan_numbers c.args.plan.now) in
    let going : s.halted ≡ None = none_of s.halted (sym c.is_some.ensures ∙ c.if-is_some.false) in
    let passes : PassesOver c.args.plan.now (pass_order (plan_numbers c.args.plan.now)) s c.make_halves-halves.result.0 None m =
    subst (λ (o : Option VaultFault). PassesOver c.args.plan.now (pass_order (plan_numbers c.args.plan.now)) s c.make_halves-halves.result.0 o m) c.in-None.is
    (subst (λ (vs : List ℕ). PassesOver c.args.plan.now vs s c.make_halves-halves.result.0 c.make_halves-halves.result.1 m) order c.make_halves-halves.ensures.passes) in
    let all = passed_all c.run_facts.ensures c.args.plan.now c.plan_facts.ensures s m c.enter.new.self c.make_halves-halves.result.0 going passes
    (c.enter.ensures.ledger ∙ c.count_anew.ensures.ledger) (c.enter.ensures.journal ∙ ap (λ (j : List Entry). j ++ entry.Pass c.make_halves-halves.result.0 ∷ []) c.count_anew.ensures.besides.journal)
    (c.enter.ensures.snaps ∙ c.count_anew.ensures.snaps) (c.enter.ensures.ended ∙ c.count_anew.ensures.besides.ended) c.requires.sound in
    all.1

pub returns-in-None-clause-collected : goal.returns-in-None-clause-collected
returns-in-None-clause-collected g c =
    let v = c.args.self.now in
    let s : VaultTold = record { held = v.numbers; halted = v.halted; started = v.started; depot = g.D.Depot.told v.depot; outputs = g.O.Outputs.told v.outputs } in
    let w = c.make_halves-halves.new.self in
    let m : VaultTold = record { held = w.numbers; halted = w.halted; started = w.started; depot = g.D.Depot.told w.depot; outputs = g.O.Outputs.told w.outputs } in
    let order : last_streams (plan_numbers c.args.plan.now) (length (plan_numbers c.args.plan.now).vertices) ≡ pass_order (plan_numbers c.args.plan.now) = last_all (plan_numbers c.args.plan.now) in
    let going : s.halted ≡ None = none_of s.halted (sym c.is_some.ensures ∙ c.if-is_some.false) in
    let passes : PassesOver c.args.plan.now (pass_order (plan_numbers c.args.plan.now)) s c.make_halves-halves.result.0 None m =
    subst (λ (o : Option VaultFault). PassesOver c.args.plan.now (pass_order (plan_numbers c.args.plan.now)) s c.make_halves-halves.result.0 o m) c.in-None.is
    (subst (λ (vs : List ℕ). PassesOver c.args.plan.now vs s c.make_halves-halves.result.0 c.make_halves-halves.result.1 m) order c.make_halves-halves.ensures.passes) in
    let all = passed_all c.run_facts.ensures c.args.plan.now c.plan_facts.ensures s m c.enter.new.self c.make_halves-halves.result.0 going passes
    (c.enter.ensures.ledger ∙ c.count_anew.ensures.ledger) (c.enter.ensures.journal ∙ ap (λ (j : List Entry). j ++ entry.Pass c.make_halves-halves.result.0 ∷ []) c.count_anew.ensures.besides.journal)
    (c.enter.ensures.snaps ∙ c.count_anew.ensures.snaps) (c.enter.ensures.ended ∙ c.count_anew.ensures.besides.ended) c.requires.sound in
    has_collected c.collection_facts.ensures c.args.plan.now c.plan_facts.ensures s (record m { held = c.enter.new.self }) c.requires.sound all.1

pub returns-in-None-clause-needed : goal.returns-in-None-clause-needed
returns-in-None-clause-needed g c =
    let v = c.args.self.now in
    let s : VaultTold = record { held = v.numbers; halted = v.halted; started = v.started; depot = g.D.Depot.told v.depot; outputs = g.O.Outputs.told v.outputs } in
    let w = c.make_halves-halves.new.self in
    let m : VaultTold = record { held = w.numbers; halted = w.halted; started = w.started; depot = g.D.Depot.told w.depot; outputs = g.O.Outputs.told w.outputs } in
    let order : last_streams (plan_numbers c.args.plan.now) (length (plan_numbers c.args.plan.now).vertices) ≡ pass_order (plan_numbers c.args.plan.now) = last_all (plan_numbers c.args.plan.now) in
    let going : s.halted ≡ None = none_of s.halted (sym c.is_some.ensures ∙ c.if-is_some.false) in
    let passes : PassesOver c.args.plan.now (pass_order (plan_numbers c.args.plan.now)) s c.make_halves-halves.result.0 None m =
    subst (λ (o : Option VaultFault). PassesOver c.args.plan.now (pass_order (plan_numbers c.args.plan.now)) s c.make_halves-halves.result.0 o m) c.in-None.is
    (subst (λ (vs : List ℕ). PassesOver c.args.plan.now vs s c.make_halves-halves.result.0 c.make_halves-halves.result.1 m) order c.make_halves-halves.ensures.passes) in
    let all = passed_all c.run_facts.ensures c.args.plan.now c.plan_facts.ensures s m c.enter.new.self c.make_halves-halves.result.0 going passes
    (c.enter.ensures.ledger ∙ c.count_anew.ensures.ledger) (c.enter.ensures.journal ∙ ap (λ (j : List Entry). j ++ entry.Pass c.make_halves-halves.result.0 ∷ []) c.count_anew.ensures.besides.journal)
    (c.enter.ensures.snaps ∙ c.count_anew.ensures.snaps) (c.enter.ensures.ended ∙ c.count_anew.ensures.besides.ended) c.requires.sound in
    has_needed c.collection_facts.ensures c.args.plan.now c.plan_facts.ensures (record m { held = c.enter.new.self }) all.0

pub returns-in-Some-clause-sound : goal.returns-in-Some-clause-sound
returns-in-Some-clause-sound g c =
    let v = c.args.self.now in
    let s : VaultTold = record { held = v.numbers; halted = v.halted; started = v.started; depot = g.D.Depot.told v.depot; outputs = g.O.Outputs.told v.outputs } in
    let w = c.make_halves-halves.new.self in
    let m : VaultTold = record { held = w.numbers; halted = w.halted; started = w.started; depot = g.D.Depot.told w.depot; outputs = g.O.Outputs.told w.outputs } in
    let order : last_streams (plan_numbers c.args.plan.now) (length (plan_numbers c.args.plan.now).vertices) ≡ pass_order (plan_numbers c.args.plan.now) = last_all (plan_numbers c.args.plan.now) in
    let going : s.halted ≡ None = none_of s.halted (sym c.is_some.ensures ∙ c.if-is_some.false) in
    let passes : PassesOver c.args.plan.now (pass_order (plan_numbers c.args.plan.now)) s c.make_halves-halves.result.0 (Some c.in-Some.fault) m =
    subst (λ (o : Option VaultFault). PassesOver c.args.plan.now (pass_order (plan_numbers c.args.plan.now)) s c.make_halves-halves.result.0 o m) c.in-Some.is
    (subst (λ (vs : List ℕ). PassesOver c.args.plan.now vs s c.make_halves-halves.result.0 c.make_halves-halves.result.1 m) order c.make_halves-halves.ensures.passes) in
    let all = passed_some c.run_facts.ensures c.args.plan.now c.plan_facts.ensures s m c.enter-in-Some.new.self c.make_halves-halves.result.0 c.in-Some.fault going passes
    c.enter-in-Some.ensures.ledger c.enter-in-Some.ensures.journal c.enter-in-Some.ensures.snaps c.enter-in-Some.ensures.ended c.requires.sound in
    all.0

pub returns-in-Some-clause-answer : goal.returns-in-Some-clause-answer
returns-in-Some-clause-answer g c =
    let v = c.args.self.now in
    let s : VaultTold = record { held = v.numbers; halted = v.halted; started = v.started; depot = g.D.Depot.told v.depot; outputs = g.O.Outputs.told v.outputs } in
    let w = c.make_halves-halves.new.self in
    let m : VaultTold = record { held = w.numbers; halted = w.halted; started = w.started; depot = g.D.Depot.told w.depot; outputs = g.O.Outputs.told w.outputs } in
    let order : last_streams (plan_numbers c.args.plan.now) (length (plan_numbers c.args.plan.now).vertices) ≡ pass_order (plan_numbers c.args.plan.now) = last_all (plan_numbers c.args.plan.now) in
    let going : s.halted ≡ None = none_of s.halted (sym c.is_some.ensures ∙ c.if-is_some.false) in
    let passes : PassesOver c.args.plan.now (pass_order (plan_numbers c.args.plan.now)) s c.make_halves-halves.result.0 (Some c.in-Some.fault) m =
    subst (λ (o : Option VaultFault). PassesOver c.args.plan.now (pass_order (plan_numbers c.args.plan.now)) s c.make_halves-halves.result.0 o m) c.in-Some.is
    (subst (λ (vs : List ℕ). PassesOver c.args.plan.now vs s c.make_halves-halves.result.0 c.make_halves-halves.result.1 m) order c.make_halves-halves.ensures.passes) in
    let all = passed_some c.run_facts.ensures c.args.plan.now c.plan_facts.ensures s m c.enter-in-Some.new.self c.make_halves-halves.result.0 c.in-Some.fault going passes
    c.enter-in-Some.ensures.ledger c.enter-in-Some.ensures.journal c.enter-in-Some.ensures.snaps c.enter-in-Some.ensures.ended c.requires.sound in
    all.1

pub returns-in-Some-clause-needed : goal.returns-in-Some-clause-needed
returns-in-Some-clause-needed g c =
    let v = c.args.self.now in
    let s : VaultTold = record { held = v.numbers; halted = v.halted; started = v.started; depot = g.D.Depot.told v.depot; outputs = g.O.Outputs.told v.outputs } in
    let w = c.make_halves-halves.new.self in
    let m : VaultTold = record { held = w.numbers; halted = w.halted; started = w.started; depot = g.D.Depot.told w.depot; outputs = g.O.Outputs.told w.outputs } in
    let order : last_streams (plan_numbers c.args.plan.now) (length (plan_numbers c.args.plan.now).vertices) ≡ pass_order (plan_numbers c.args.plan.now) = last_all (plan_numbers c.args.plan.now) in
    let going : s.halted ≡ None = none_of s.halted (sym c.is_some.ensures ∙ c.if-is_some.false) in
    let passes : PassesOver c.args.plan.now (pass_order (plan_numbers c.args.plan.now)) s c.make_halves-halves.result.0 (Some c.in-Some.fault) m =
    subst (λ (o : Option VaultFault). PassesOver c.args.plan.now (pass_order (plan_numbers c.args.plan.now)) s c.make_halves-halves.result.0 o m) c.in-Some.is
    (subst (λ (vs : List ℕ). PassesOver c.args.plan.now vs s c.make_halves-halves.result.0 c.make_halves-halves.result.1 m) order c.make_halves-halves.ensures.passes) in
    let all = passed_some c.run_facts.ensures c.args.plan.now c.plan_facts.ensures s m c.enter-in-Some.new.self c.make_halves-halves.result.0 c.in-Some.fault going passes
    c.enter-in-Some.ensures.ledger c.enter-in-Some.ensures.journal c.enter-in-Some.ensures.snaps c.enter-in-Some.ensures.ended c.requires.sound in
    has_needed c.collection_facts.ensures c.args.plan.now c.plan_facts.ensures (record m { held = c.enter-in-Some.new.self }) all.0
