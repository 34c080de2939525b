use Rattle.std.proofs.Common.{sym, ap, ◌∙◌, refl, arith}
use Rattle.ss_turns.proofs.Keeps.{asks_it}
use Rattle.ss_turns.proofs.Holds.{recounted, after_step}
use Rattle.ss_turns.proofs.turns.Turns.stop.Goals as goal

pub store-requires : goal.store-requires
store-requires g c =
    let M = g.V.Member in
    let here = ap (λ z. z.of) c.pass.view_is ∙ (c.requires ∙ sym (ap (λ z. z.of) c.self.view_is)) in
    let last = c.slot_count-word.ensures in
    let wide = c.self.invariant in
    (here, omega (arith, last, wide), asks_it M.place M.plan M.numbers _ _ _ _ _ _ last c.pass.invariant.share)

pub invariant_of-pass : goal.invariant_of-pass
invariant_of-pass g c = after_step _ _ _ _ _ _ _ _ c.store.ensures.0 c.store.ensures.2 refl refl (recounted _ _ _ _ _ c.pass.invariant _ refl c.pass.invariant.share)
