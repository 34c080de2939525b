use Rattle.std.proofs.Common.{◌<◌, true, replicate, sym, ap, ◌∙◌, subst}
use Rattle.std.specs.Mem.Slots.{slots_items, slots_counts}
use Rattle.ss_turns.specs.Stands.{Stands}
use Rattle.ss_turns.proofs.Ends.{stands, all_home, told_own, length-at_home, at_home_all}
use Rattle.ss_turns.proofs.closed.Closed.of.Goals as goal

pub invariant_of-result : goal.invariant_of-result
invariant_of-result g c =
    let M = g.V.Member in
    let end = c.close_with.ensures.values in
    let safe = stands M.place M.plan _ _ _ _ _ _ end.2 c.pass.invariant.share in
    let plan = ap (λ z. z.view.plan) (c.pass.view_is ∙ sym c.of-seen.ensures) in
    (end.0, end.1, subst (λ o. Stands M.place M.plan o (slots_items c.close_with.result.words) (slots_items c.close_with.result.slots)) plan safe)

pub returns-clause-slots : goal.returns-clause-slots
returns-clause-slots g c =
    let M = g.V.Member in
    let safe = stands M.place M.plan _ _ _ _ _ _ c.close_with.ensures.values.2 c.pass.invariant.share in
    length-at_home _ _ safe.wide ∙ (sym (slots_counts c.close_with.result.slots).0 ∙ c.close_with.ensures.counts.1)

pub returns-clause-whole : goal.returns-clause-whole
returns-clause-whole g c = λ whole.
    let M = g.V.Member in
    let end = c.close_with.ensures.values.2 in
    let safe = stands M.place M.plan _ _ _ _ _ _ end c.pass.invariant.share in
    let all = ap (λ z. z.view.share) c.pass.view_is ∙ whole in
    let free = ap (λ z. z.view.has) c.pass.view_is ∙ c.requires.free in
    at_home_all _ _ safe.wide (all_home M.place M.plan _ _ _ _ _ _ end all free) ∙ ap (λ n. replicate n true) (sym (slots_counts c.close_with.result.slots).0 ∙ c.close_with.ensures.counts.1)

pub returns-clause-stop : goal.returns-clause-stop
returns-clause-stop g c = λ whole heard.
    let M = g.V.Member in
    let all = ap (λ z. z.view.share) c.pass.view_is ∙ whole in
    subst (λ z. 0 < z.view.stops) c.pass.view_is (told_own M.place M.plan _ _ _ _ _ _ c.close_with.ensures.values.2 all (subst (λ z. 0 < z.view.heard) (sym c.pass.view_is) heard))
