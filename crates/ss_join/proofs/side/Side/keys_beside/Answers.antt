use Rattle.std.proofs.Common.{◌≡◌, ℕ, List, length, map, None, ap, ◌∙◌, arith}
use Rattle.std.specs.Prelude.{nat_eq}
use Rattle.std.specs.Set.{is_member, distinct_count}
use Rattle.ss_elem.specs.declared.element.Event.{Event}
use Rattle.ss_join.specs.Held.{keys_apart}
use Rattle.ss_join.specs.States.{row_keys}
use Rattle.ss_join.proofs.Keys.{first_keys, keys_counted}
use Rattle.ss_join.proofs.side.Side.keys_beside.Goals as goal

pub returns-clause-count : goal.returns-clause-count
returns-clause-count c =
    let now = c.self.inside in
    let others = row_keys c.args.other.now in
    let skip = is_member nat_eq others in
    let firsts : List (ℕ × ℕ) → List ℕ = λ ps. first_keys skip None (map (λ p. p.0) ps) in
    let stop : length (first_keys skip c.loop-place.before (map (λ (p : ℕ × ℕ). p.0) c.loop-place.place-iterator)) ≡ 0 =
    ap (λ (ps : List (ℕ × ℕ)). length (first_keys skip c.loop-place.before (map (λ (p : ℕ × ℕ). p.0) ps))) c.in-None.ensures.steps.0 in
    let count : c.loop-place.count ≡ length (firsts c.keys-place-items.result) = omega (arith, stop, c.loop-place.invariant.count, ap (λ ps. length (firsts ps)) c.into_iter-place-iterator.ensures.into_iter_gives) in
    count
    ∙ (ap (λ ps. length (firsts ps)) c.keys-place-items.ensures.rest
    ∙ (keys_counted now.rows now.ends now.next others c.self.invariant
    ∙ ap (λ (rows : List Event). distinct_count nat_eq (keys_apart others (row_keys rows))) c.self.view_is))
