-- The input that `choose` names is the one that the clauses name.
use Rattle.std.proofs.Common.{◌≡◌, ℕ, ◌<◌, length, sym, ◌∙◌, subst, arith, Option, Some, IfSome}
use Rattle.ss_meaning.specs.Inputs.{next_input}
use Rattle.ss_merge.specs.Merging.{MergerState, StandsAfterNext}
use Rattle.ss_merge.proofs.Steps.{stands_next}
use Rattle.ss_merge.proofs.Walks.{next_within}
use Rattle.ss_merge.proofs.merger.Merger.accept.Goals as goal

pub take-requires-clause-input : goal.take-requires-clause-input
take-requires-clause-input c =
    omega (arith, next_within 0 c.args.self.now.bounds c.unwrap-input.result (sym c.choose.ensures.input ∙ c.unwrap-input.ensures))

pub returns-clause-stands : goal.returns-clause-stands
returns-clause-stands c =
    let old : MergerState = c.args.self.now in
    let input : ℕ = c.unwrap-input.result in
    let name : next_input old.bounds ≡ Some input = sym c.choose.ensures.input ∙ c.unwrap-input.ensures in
    let inside : input < length old.bounds = omega (arith, next_within 0 old.bounds input name) in
    let laws = c.bounds_tell_what_is_next.ensures in
    let stands : StandsAfterNext old c.take.new.self input c.args.x.now =
    subst (λ (new : MergerState). StandsAfterNext old new input c.args.x.now) (sym c.take.ensures)
    (stands_next laws.bounds laws.counts old input c.args.x.now inside) in
    subst (λ (o : Option ℕ). IfSome o (λ i. StandsAfterNext old c.take.new.self i c.args.x.now)) (sym name) stands
