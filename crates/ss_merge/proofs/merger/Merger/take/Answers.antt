-- The fields change as the state does.
use Rattle.std.proofs.Common.{◌≡◌, ℕ, ◌+◌, ◌<◌, length, get_or, set, ap, ◌∙◌, sym, subst, arith, IsSome}
use Rattle.std.proofs.lemmas.List.{length-take}
use Rattle.ss_elem.specs.Validity.{next_bound}
use Rattle.ss_merge.specs.Merging.{MergerState, IsMergerState, accepted, first_inputs}
use Rattle.ss_merge.proofs.Steps.{accepts, stays_state}
use Rattle.ss_merge.proofs.merger.Merger.take.Goals as goal

within : (c : goal.After-self-1) → c.args.input < c.self.inside.width
within c =
    let same = ap (λ (s : MergerState). length s.bounds) c.self.view_is in
    omega (arith, same, c.requires.input, length-take c.self.inside.width c.self.inside.bounds)

changed : (c : goal.After-self-1)
    → first_inputs c.self.inside.width (set c.self.inside.bounds c.args.input c.bound_after-bound.result)
    (set c.self.inside.positions c.args.input (get_or c.self.inside.positions c.args.input 0 + 1))
    ≡ accepted (first_inputs c.self.inside.width c.self.inside.bounds c.self.inside.positions) c.args.input c.args.x.now
changed c =
    let ps = set c.self.inside.positions c.args.input (get_or c.self.inside.positions c.args.input 0 + 1) in
    ap (λ (b : ℕ). first_inputs c.self.inside.width (set c.self.inside.bounds c.args.input b) ps) c.bound_after-bound.ensures
    ∙ accepts c.self.inside.width c.self.inside.bounds c.self.inside.positions c.args.input c.args.x.now (within c)

pub returns : goal.returns
returns c = changed c ∙ ap (λ (s : MergerState). accepted s c.args.input c.args.x.now) c.self.view_is

pub invariant_of-self : goal.invariant_of-self
invariant_of-self c =
    let state : MergerState = first_inputs c.self.inside.width c.self.inside.bounds c.self.inside.positions in
    let inside : c.args.input < length state.bounds =
    subst (λ (s : MergerState). c.args.input < length s.bounds) (sym c.self.view_is) c.requires.input in
    let follows : IsSome (next_bound (get_or state.bounds c.args.input 0) c.args.x.now) =
    subst (λ (s : MergerState). IsSome (next_bound (get_or s.bounds c.args.input 0) c.args.x.now)) (sym c.self.view_is)
    c.requires.follows in
    let kept = stays_state state c.args.input c.args.x.now c.self.invariant.0 inside follows in
    (subst IsMergerState (sym (changed c)) kept, c.self.invariant.1)
