use Rattle.std.proofs.Common.{◌≡◌, ◌<◌, true, false, length, get_or, set, None, sym, ap, ◌∙◌, subst, arith}
use Rattle.std.specs.Mem.Slots.{slots_items, slots_filled, slots_counts, IsFull}
use Rattle.std.specs.Mem.Slots.Ownership.{Filled}
use Rattle.ss_turns.specs.Stands.{at_home, Stands}
use Rattle.ss_turns.proofs.Ends.{turn_read, length-at_home, not_home, home_there, at_home_set, already_empty, same_closed, stands_emptied, full_again, gives_out}
use Rattle.ss_turns.proofs.closed.Closed.value.Goals as goal

pub word-requires : goal.word-requires
word-requires g c =
    let wide = c.self.invariant.2.wide in
    let inside = subst (λ z. c.args.slot < length z.there) (sym c.self.view_is) c.requires in
    let same = length-at_home _ _ wide in
    let count = (slots_counts c.self.inside.slots.words).0 in
    (omega (arith, wide, inside, same, count), c.self.invariant.0)

pub returns-then-word-ne0-clause-there : goal.returns-then-word-ne0-clause-there
returns-then-word-ne0-clause-there g c =
    let taken = λ (e : get_or (slots_items c.self.inside.slots.words) c.args.slot 0 ≡ 0). c.if-word-ne0.true (sym (turn_read (slots_items c.self.inside.slots.words) c.args.slot c.word.result c.word.ensures) ∙ e) in
    sym (ap (λ z. get_or z.there c.args.slot false) (sym c.self.view_is) ∙ not_home (slots_items c.self.inside.slots.words) (slots_items c.self.inside.slots.slots) c.args.slot taken)

pub returns-then-word-ne0-clause-rest : goal.returns-then-word-ne0-clause-rest
returns-then-word-ne0-clause-rest g c =
    let taken = λ (e : get_or (slots_items c.self.inside.slots.words) c.args.slot 0 ≡ 0). c.if-word-ne0.true (sym (turn_read (slots_items c.self.inside.slots.words) c.args.slot c.word.result c.word.ensures) ∙ e) in
    already_empty c.args.self.now c.args.slot (ap (λ z. get_or z.there c.args.slot false) (sym c.self.view_is) ∙ not_home (slots_items c.self.inside.slots.words) (slots_items c.self.inside.slots.slots) c.args.slot taken)

pub take-value-requires : goal.take-value-requires
take-value-requires g c =
    let wide = c.self.invariant.2.wide in
    let inside = subst (λ z. c.args.slot < length z.there) (sym c.self.view_is) c.requires in
    let same = length-at_home _ _ wide in
    let count = (slots_counts c.self.inside.slots.slots).0 in
    let within : c.args.slot < c.self.inside.slots.slots.len = omega (arith, inside, same, count) in
    (within, c.self.invariant.1 c.args.slot (omega arith) within)

pub put-requires : goal.put-requires
put-requires g c =
    let wide = c.self.invariant.2.wide in
    let inside = subst (λ z. c.args.slot < length z.there) (sym c.self.view_is) c.requires in
    let same = length-at_home _ _ wide in
    let count = (slots_counts c.self.inside.slots.slots).0 in
    let kept = c.take-value.ensures.others.2 in
    omega (arith, inside, same, count, kept)

pub invariant_of-self : goal.invariant_of-self
invariant_of-self g c =
    let M = g.V.Member in
    let wide = c.self.invariant.2.wide in
    let inside = subst (λ z. c.args.slot < length z.there) (sym c.self.view_is) c.requires in
    let same = length-at_home _ _ wide in
    let counts = slots_counts c.self.inside.slots.slots in
    let few = counts.0 in
    let flags = counts.1 in
    let others = c.take-value.ensures.others in
    let filled = c.put.ensures.filled ∙ ap (λ bs. set bs c.args.slot true) others.1 in
    let items = c.put.ensures.items ∙ ap (λ xs. set xs c.args.slot None) others.0 in
    let count = c.put.ensures.places.count ∙ others.2 in
    let emptied = stands_emptied M.place M.plan _ _ _ c.self.invariant.2 c.args.slot in (
      subst (λ row. IsFull row) (sym others.3) c.self.invariant.0,
      full_again (slots_filled c.self.inside.slots.slots) _ _ c.args.slot (omega (arith, inside, same, few, flags))
          (subst (λ n. Filled (slots_filled c.self.inside.slots.slots) 0 n) (sym count) c.self.invariant.1) filled,
      subst (λ row. Stands M.place M.plan c.self.inside.pass.value.view.plan (slots_items row) (slots_items c.put.new.self)) (sym others.3)
          (subst (λ xs. Stands M.place M.plan c.self.inside.pass.value.view.plan (slots_items c.self.inside.slots.words) xs) (sym items) emptied),
    )

pub returns-clause-there : goal.returns-clause-there
returns-clause-there g c =
    let wide = c.self.invariant.2.wide in
    let inside = subst (λ z. c.args.slot < length z.there) (sym c.self.view_is) c.requires in
    let same = length-at_home _ _ wide in
    let free = turn_read (slots_items c.self.inside.slots.words) c.args.slot c.word.result c.word.ensures ∙ c.if-word-ne0.false in
    home_there (slots_items c.self.inside.slots.words) (slots_items c.self.inside.slots.slots) c.args.slot c.take-value.result (omega (arith, wide, inside, same)) free c.take-value.ensures.value ∙ ap (λ z. get_or z.there c.args.slot false) c.self.view_is

pub returns-clause-value : goal.returns-clause-value
returns-clause-value g c =
    let free = turn_read (slots_items c.self.inside.slots.words) c.args.slot c.word.result c.word.ensures ∙ c.if-word-ne0.false in
    gives_out g.V.Member.place g.V.Member.plan c.self.inside.pass.value.view.plan (slots_items c.self.inside.slots.words) (slots_items c.self.inside.slots.slots) c.self.invariant.2 c.args.slot c.take-value.result free c.take-value.ensures.value _ (ap (λ z. z.plan) c.self.view_is)

pub returns-clause-rest : goal.returns-clause-rest
returns-clause-rest g c =
    let others = c.take-value.ensures.others in
    let items = c.put.ensures.items ∙ ap (λ xs. set xs c.args.slot None) others.0 in
    let words = ap slots_items others.3 in
    same_closed _ _ (ap (λ z. z.plan) c.self.view_is)
    (ap (λ ws. at_home ws (slots_items c.put.new.self)) words ∙ (ap (at_home (slots_items c.self.inside.slots.words)) items
    ∙ (at_home_set _ _ c.args.slot ∙ ap (λ z. set z.there c.args.slot false) c.self.view_is)))
