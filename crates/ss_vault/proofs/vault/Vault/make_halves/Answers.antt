use Rattle.std.proofs.Common.{◌≡◌, ◌∙◌, ◌<◌, ◌+◌, ◌-◌, ◌∷◌, [], ℕ, List, Option, None, Some, ap, arith, length, reverse, subst, sym}
use Rattle.std.specs.List.{range_with_len}
use Rattle.ss_frames.specs.Plans.{plan_numbers}
use Rattle.ss_state.specs.Numbers.{JobNumbers}
use Rattle.ss_vault.specs.Steps.{PassesOver, last_streams, streams_among}
use Rattle.ss_vault.specs.Told.{VaultTold}
use Rattle.ss_vault.specs.declared.fault.VaultFault.{VaultFault}
use Rattle.ss_vault.proofs.Behind.{none_of}
use Rattle.ss_vault.proofs.Passed.{last_more, last_rest, passes_join, passes_more, some_of}
use Rattle.ss_vault.proofs.vault.Vault.make_halves.Goals as goal

pub returns-then-is_some-clause-passes : goal.returns-then-is_some-clause-passes
returns-then-is_some-clause-passes g c =
    let v = c.args.self.now in
    let s : VaultTold = record { held = v.numbers; halted = v.halted; started = v.started; depot = g.D.Depot.told v.depot; outputs = g.O.Outputs.told v.outputs } in
    let w = c.loop-passed.self in
    let m : VaultTold = record { held = w.numbers; halted = w.halted; started = w.started; depot = g.D.Depot.told w.depot; outputs = g.O.Outputs.told w.outputs } in
    let x = c.pass_over-made.new.self in
    let u : VaultTold = record { held = x.numbers; halted = x.halted; started = x.started; depot = g.D.Depot.told x.depot; outputs = g.O.Outputs.told x.outputs } in
    let job : JobNumbers = plan_numbers c.args.plan.now in
    let k : ℕ = c.loop-passed.passed in
    let count : c.count-count.result ≡ length job.vertices = let e = c.plan_facts.ensures.count in c.count-count.ensures.count ∙ ap length (c.graph.ensures.graph ∙ ap (λ j. j.graph) c.job.ensures.job) ∙ sym e in
    let within : k < length job.vertices = let t = c.loop-passed-test.true in omega (arith, t, count) in
    let at : c.count-count.result - 1 - k ≡ length job.vertices - 1 - k = omega (arith, count) in
    let made = c.pass_over-made.result.0 in
    let both : PassesOver c.args.plan.now (last_streams job (k + 1)) s (c.loop-passed.halves + made) c.pass_over-made.result.1 u =
    subst (λ (vs : List ℕ). PassesOver c.args.plan.now vs s (c.loop-passed.halves + made) c.pass_over-made.result.1 u) (last_more job k within)
    (passes_join c.args.plan.now (last_streams job k) (streams_among job ((length job.vertices - 1 - k) ∷ [])) s m u c.loop-passed.halves made c.pass_over-made.result.1
    c.loop-passed.invariant.passes (subst (λ (v : ℕ). PassesOver c.args.plan.now (streams_among job (v ∷ [])) m made c.pass_over-made.result.1 u) at c.pass_over-made.ensures.passes)) in
    let some = some_of c.pass_over-made.result.1 (sym c.is_some.ensures ∙ c.if-is_some.true) in
    let stopped : PassesOver c.args.plan.now (last_streams job (k + 1)) s (c.loop-passed.halves + made) (Some some.0) u =
    subst (λ (o : Option VaultFault). PassesOver c.args.plan.now (last_streams job (k + 1)) s (c.loop-passed.halves + made) o u) some.1 both in
    subst (λ (o : Option VaultFault). PassesOver c.args.plan.now (last_streams job (length job.vertices)) s (c.loop-passed.halves + made) o u) (sym some.1)
    (subst (λ (vs : List ℕ). PassesOver c.args.plan.now vs s (c.loop-passed.halves + made) (Some some.0) u) (last_rest job (k + 1) (omega (arith, within)))
    (passes_more c.args.plan.now (last_streams job (k + 1)) (reverse (streams_among job (range_with_len 0 (length job.vertices - (k + 1))))) s u (c.loop-passed.halves + made) some.0 stopped))

pub loop-passed-preserved : goal.loop-passed-preserved
loop-passed-preserved g c =
    let v = c.args.self.now in
    let s : VaultTold = record { held = v.numbers; halted = v.halted; started = v.started; depot = g.D.Depot.told v.depot; outputs = g.O.Outputs.told v.outputs } in
    let w = c.loop-passed.self in
    let m : VaultTold = record { held = w.numbers; halted = w.halted; started = w.started; depot = g.D.Depot.told w.depot; outputs = g.O.Outputs.told w.outputs } in
    let x = c.pass_over-made.new.self in
    let u : VaultTold = record { held = x.numbers; halted = x.halted; started = x.started; depot = g.D.Depot.told x.depot; outputs = g.O.Outputs.told x.outputs } in
    let job : JobNumbers = plan_numbers c.args.plan.now in
    let k : ℕ = c.loop-passed.passed in
    let count : c.count-count.result ≡ length job.vertices = let e = c.plan_facts.ensures.count in c.count-count.ensures.count ∙ ap length (c.graph.ensures.graph ∙ ap (λ j. j.graph) c.job.ensures.job) ∙ sym e in
    let within : k < length job.vertices = let t = c.loop-passed-test.true in omega (arith, t, count) in
    let at : c.count-count.result - 1 - k ≡ length job.vertices - 1 - k = omega (arith, count) in
    let made = c.pass_over-made.result.0 in
    let none : c.pass_over-made.result.1 ≡ None = none_of c.pass_over-made.result.1 (sym c.is_some.ensures ∙ c.if-is_some.false) in
    record {
      passes = subst (λ (o : Option VaultFault). PassesOver c.args.plan.now (last_streams job (k + 1)) s (c.loop-passed.halves + made) o u) none
          (subst (λ (vs : List ℕ). PassesOver c.args.plan.now vs s (c.loop-passed.halves + made) c.pass_over-made.result.1 u) (last_more job k within)
          (passes_join c.args.plan.now (last_streams job k) (streams_among job ((length job.vertices - 1 - k) ∷ [])) s m u c.loop-passed.halves made c.pass_over-made.result.1
          c.loop-passed.invariant.passes (subst (λ (v : ℕ). PassesOver c.args.plan.now (streams_among job (v ∷ [])) m made c.pass_over-made.result.1 u) at c.pass_over-made.ensures.passes)));
      few = let h = c.loop-passed.invariant.few in let i = c.pass_over-made.ensures.few in omega (arith, h, i);
      outputs = c.pass_over-made.ensures.outputs ∙ c.loop-passed.invariant.outputs;
    }
