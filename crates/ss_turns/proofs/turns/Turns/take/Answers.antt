use Rattle.std.proofs.Common.{◌≡◌, ℕ, ◌<◌, ◌∷◌, List, Option, Some, None, sym, ap, ◌∙◌, refl, subst, arith}
use Rattle.atomic_table.specs.Table.{rest}
use Rattle.ss_turns.specs.View.{times}
use Rattle.ss_turns.specs.Plays.{Holder}
use Rattle.ss_turns.proofs.Keeps.{takes_it}
use Rattle.ss_turns.proofs.Holds.{recounted, room_left, takes_slot, after_step}
use Rattle.ss_turns.proofs.turns.Turns.take.Goals as goal

pub compare_exchange-requires : goal.compare_exchange-requires
compare_exchange-requires g c =
    let M = g.V.Member in
    let here = ap (λ z. z.of) c.pass.view_is ∙ (c.requires.pass ∙ sym (ap (λ z. z.of) c.self.view_is)) in
    let inside = subst (λ z. c.args.slot < z.of.slots) (sym c.self.view_is) c.requires.slot in
    let wide = c.self.invariant in
    (here, omega (arith, inside, wide), takes_it M.place M.plan M.numbers _ _ _ _ _ _ inside c.pass.invariant.share)

pub invariant_of-pass : goal.invariant_of-pass
invariant_of-pass g c =
    after_step _ _ _ _ _ _ _ _ c.compare_exchange.ensures.0 (c.compare_exchange.ensures.2.1 c.if-compare_exchange-ne0.true) refl refl
    (recounted _ _ _ _ _ c.pass.invariant _ refl c.pass.invariant.share)

pub push_front_reserved-requires : goal.push_front_reserved-requires
push_front_reserved-requires g c =
    let here = ap (λ z. z.of.slots) c.pass.view_is ∙ ap (λ z. z.slots) c.requires.pass in
    let inside : c.args.slot < c.pass.inside.seat.table_id.slots = subst (λ n. c.args.slot < n) (sym here) c.requires.slot in
    let free = subst (λ z. times c.args.slot z.view.has ≡ 0) (sym c.pass.view_is) c.requires.free in
    let room = room_left _ _ _ _ _ c.pass.invariant c.args.slot inside free in
    omega (arith, room)

pub exchange-requires : goal.exchange-requires
exchange-requires g c =
    let here = ap (λ z. z.of) c.pass.view_is ∙ (c.requires.pass ∙ sym (ap (λ z. z.of) c.self.view_is)) in
    let found = c.compare_exchange.ensures.2.0 c.if-compare_exchange-ne0.false in
    let out = ap (λ z. z.1) found.3 in
    let same = ap rest out in
    (c.compare_exchange.ensures.0 ∙ here, (Some found.0, out ∙ ap (λ (r : List (ℕ × Option g.row.V.Denot)). (c.args.slot, Some found.0) ∷ r) (sym same)))

pub invariant_of-pass-2 : goal.invariant_of-pass-2
invariant_of-pass-2 g c =
    let here = ap (λ z. z.of.slots) c.pass.view_is ∙ ap (λ z. z.slots) c.requires.pass in
    let inside : c.args.slot < c.pass.inside.seat.table_id.slots = subst (λ n. c.args.slot < n) (sym here) c.requires.slot in
    let free = subst (λ z. times c.args.slot z.view.has ≡ 0) (sym c.pass.view_is) c.requires.free in
    let found = c.compare_exchange.ensures.2.0 c.if-compare_exchange-ne0.false in
    let emptied = ap (λ (z : Holder g.row.V.Denot g.row.V-Plan.Denot). (z.0, (c.args.slot, None) ∷ rest z.1)) found.3 in
    after_step _ _ _ _ _ _ _ _ (c.exchange.ensures.0 ∙ c.compare_exchange.ensures.0) (c.exchange.ensures.3 ∙ emptied) c.push_front_reserved.ensures.items c.push_front_reserved.ensures.capacity
    (takes_slot _ _ _ _ _ c.pass.invariant c.args.slot (g.V.Member.numbers found.0) inside free)
