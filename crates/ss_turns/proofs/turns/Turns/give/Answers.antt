use Rattle.std.proofs.Common.{◌≡◌, ◌<◌, Some, sym, ap, ◌∙◌, subst, arith}
use Rattle.ss_turns.specs.View.{times}
use Rattle.ss_turns.specs.declared.view.View.{View}
use Rattle.ss_turns.proofs.Keeps.{gives_it}
use Rattle.ss_turns.proofs.Holds.{recounted, gives_slot, gives_away, after_step}
use Rattle.ss_turns.proofs.turns.Turns.give.Goals as goal

pub bring-requires-clause-held : goal.bring-requires-clause-held
bring-requires-clause-held g c =
    let held = subst (λ z. 0 < times c.args.slot z.view.has) (sym c.pass.view_is) c.requires.held in
    let same = c.pass.invariant.same c.args.slot in
    omega (arith, held, same)

pub store-requires : goal.store-requires
store-requires g c =
    let M = g.V.Member in
    let here = ap (λ z. z.of) c.pass.view_is ∙ (c.requires.pass ∙ sym (ap (λ z. z.of) c.self.view_is)) in
    let table = c.exchange.ensures.0 ∙ (c.bring.ensures.seat.0 ∙ here) in
    let view = ap (λ z. z.0) c.exchange.ensures.3 ∙ c.bring.ensures.seat.2 in
    let has = subst (λ z. 0 < times c.args.slot z.view.has) (sym c.pass.view_is) c.requires.held in
    let same = c.pass.invariant.same c.args.slot in
    let within = c.pass.invariant.inside c.args.slot (omega (arith, has, same)) in
    let inside = subst (λ t. c.args.slot < t.slots) here within in
    let wide = c.self.invariant in
    let back : (Q : View g.row.V-Plan.Denot → Type 0) → Q c.pass.inside.seat.me.0 → Q c.exchange.new.seat.me.0 = λ Q q. subst Q (sym view) q in
    let plan = subst (λ z. z.view.plan ≡ Some (M.plan c.args.value)) (sym c.pass.view_is) c.requires.plan in (
      table,
      omega (arith, inside, wide),
      gives_it M.place M.plan M.numbers _ _ _ _ _ _ c.args.value _ (ap (λ z. z.1) c.exchange.ensures.3) inside
          (back (λ v. 0 < v.share) c.pass.invariant.share) (back (λ v. 0 < times c.args.slot v.has) has) c.requires.place (back (λ v. v.plan ≡ Some (M.plan c.args.value)) plan),
    )

pub invariant_of-pass : goal.invariant_of-pass
invariant_of-pass g c =
    let M = g.V.Member in
    let view = c.bring.ensures.seat.2 in
    let share = subst (λ v. 0 < v.share) (sym view) c.pass.invariant.share in
    let fits = recounted _ _ _ _ _ c.pass.invariant c.bring.new.seat.me.0 (ap (λ v. v.has) view) share in
    let left = gives_away M.numbers _ _ _ _ c.args.slot c.args.value _ c.bring.ensures.order c.bring.ensures.first c.exchange.ensures.3 c.store.ensures.2 in
    let table = c.store.ensures.0 ∙ (c.exchange.ensures.0 ∙ c.bring.ensures.seat.0) in
    after_step _ _ _ _ _ _ _ _ table left c.pop_front.ensures.rest (c.pop_front.ensures.capacity ∙ c.bring.ensures.room)
    (gives_slot _ _ _ _ _ _ fits c.args.slot (M.numbers c.args.value) (λ j. ap (times j) (sym c.bring.ensures.first) ∙ c.bring.ensures.same j))
