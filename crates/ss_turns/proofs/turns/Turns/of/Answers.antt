use Rattle.std.proofs.Common.{◌≡◌, ◌+◌, List, length, get_or, Option, Some, refl, sym, ap, ◌∙◌, subst, arith}
use Rattle.std.proofs.lemmas.Option.{slice_get_read}
use Rattle.atomic_table.specs.Table.{opening}
use Rattle.ss_turns.specs.View.{fresh}
use Rattle.ss_turns.specs.Rule.{Kept}
use Rattle.ss_turns.proofs.Keeps.{begins}
use Rattle.ss_turns.proofs.Moves.{values_of, all_back, zeros, length-zeros}
use Rattle.ss_turns.proofs.turns.Turns.of.Goals as goal

pub new-requires : goal.new-requires
new-requires g c =
    let M = g.V.Member in
    let values = c.args.values.items in
    let words = c.as_slice.ensures.value ∙ c.in-Ok.ensures.words in
    let count = c.len.ensures in
    let some = c.requires.some in
    let first = slice_get_read values (length values) 0 c.index.result.now refl (omega (arith, some)) c.index.ensures in
    let key = ap M.plan c.of-2.ensures in
    let long : length c.as_slice.result.now ≡ length values + 1 = (let l = ap length words ∙ length-zeros (c.len.result + 1) in omega (arith, l, count)) in
    subst (λ (slots : List (Option g.row.V.Denot)). Kept M.place M.plan (M.plan c.of-2.result.value) c.args.passes (opening c.as_slice.result.now slots (fresh (Some (M.plan c.of-2.result.value)) c.args.passes)))
    (sym c.move_in.ensures.slots)
    (begins M.place M.plan M.numbers _ _ _ values long (λ k. ap (λ ws. get_or ws k 0) words ∙ zeros (c.len.result + 1) k) c.requires.passes
    (λ k x at. (c.requires.places k x at, c.requires.plan k 0 x c.index.result.now at first ∙ sym key)))

pub returns-in-Ok-new-clause-plan : goal.returns-in-Ok-new-clause-plan
returns-in-Ok-new-clause-plan g c = λ k x at.
    let M = g.V.Member in
    let values = c.args.values.items in
    let some = c.requires.some in
    let first = slice_get_read values (length values) 0 c.index.result.now refl (omega (arith, some)) c.index.ensures in
    ap (λ z. z.0.plan) c.in-Ok-new.ensures.ok.4 ∙ ap Some (ap M.plan c.of-2.ensures ∙ c.requires.plan 0 k c.index.result.now x first at)

pub returns-in-Err-clause-refused : goal.returns-in-Err-clause-refused
returns-in-Err-clause-refused g c =
    let slots = c.in-Err.ensures.err ∙ c.move_in.ensures.slots in
    c.move_back.ensures ∙ (ap values_of slots ∙ all_back c.args.values.items)
