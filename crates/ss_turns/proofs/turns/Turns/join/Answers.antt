use Rattle.std.proofs.Common.{sym, ap, ◌∙◌, refl, arith}
use Rattle.ss_turns.specs.View.{times}
use Rattle.ss_turns.specs.Fits.{emptied}
use Rattle.ss_turns.proofs.Keeps.{joins_it}
use Rattle.ss_turns.proofs.Holds.{recounted, after_step, none_held}
use Rattle.ss_turns.proofs.turns.Turns.join.Goals as goal

pub join_seat-requires : goal.join_seat-requires
join_seat-requires g c =
    let M = g.V.Member in
    let here = ap (λ z. z.of) c.pass.view_is ∙ (c.requires.pass ∙ sym (ap (λ z. z.of) c.self.view_is)) in
    let there = ap (λ z. z.of) c.other.view_is ∙ (c.requires.other ∙ sym (ap (λ z. z.of) c.self.view_is)) in
    let free = ap (λ z. z.view.has) c.other.view_is ∙ c.requires.free in
    let none = none_held _ (λ k. c.other.invariant.same k ∙ ap (times k) free) in
    let out = c.other.invariant.order ∙ ap emptied none in
    let wide = c.self.invariant in
    (here, there, out, omega (arith, wide), joins_it M.place M.plan M.numbers _ _ _ _ _ _ c.pass.invariant.share c.other.invariant.share free)

pub invariant_of-pass : goal.invariant_of-pass
invariant_of-pass g c =
    let some_share = c.pass.invariant.share in
    after_step _ _ _ _ _ _ _ _ c.join_seat.ensures.0 c.join_seat.ensures.2 refl refl (recounted _ _ _ _ _ c.pass.invariant _ refl (omega (arith, some_share)))
