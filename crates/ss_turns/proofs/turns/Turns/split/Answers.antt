use Rattle.std.proofs.Common.{◌<◌, sym, ap, ◌∙◌, refl, subst, arith}
use Rattle.ss_turns.proofs.Keeps.{splits_it}
use Rattle.ss_turns.proofs.Holds.{recounted, after_step}
use Rattle.ss_turns.proofs.turns.Turns.split.Goals as goal

pub split_seat-seat-requires : goal.split_seat-seat-requires
split_seat-seat-requires g c =
    let M = g.V.Member in
    let here = ap (λ z. z.of) c.pass.view_is ∙ (c.requires.pass ∙ sym (ap (λ z. z.of) c.self.view_is)) in
    let two = subst (λ z. 1 < z.view.share) (sym c.pass.view_is) c.requires.share in
    let wide = c.self.invariant in
    (here, omega (arith, wide), splits_it M.place M.plan M.numbers _ _ _ _ two)

pub invariant_of-pass : goal.invariant_of-pass
invariant_of-pass g c =
    let two = subst (λ z. 1 < z.view.share) (sym c.pass.view_is) c.requires.share in
    after_step _ _ _ _ _ _ _ _ c.split_seat-seat.ensures.0 c.split_seat-seat.ensures.2 refl refl (recounted _ _ _ _ _ c.pass.invariant _ refl (omega (arith, two)))
