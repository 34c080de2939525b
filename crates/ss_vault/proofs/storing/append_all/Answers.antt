use Rattle.std.proofs.Common.{◌+◌, ℕ, get_or, ap, sym, arith, ◌∙◌}
use Rattle.ss_vault.proofs.Appending.{appended_more, appended_next}
use Rattle.ss_vault.proofs.storing.append_all.Goals as goal

pub overflow_add-n : goal.overflow_add-n
overflow_add-n g c =
    let fit = c.requires.fit in
    let counted = c.loop-x.invariant.counted in
    let within = c.loop-x.invariant.appended.within in
    omega (arith, fit, counted, within)

pub append_element-requires-clause-next : goal.append_element-requires-clause-next
append_element-requires-clause-next g c =
    appended_next _ _ c.args.v c.args.n c.args.elements.now c.loop-x.count c.loop-x.invariant.appended c.requires.next

pub loop-x-preserved : goal.loop-x-preserved
loop-x-preserved g c =
    let counted = c.loop-x.invariant.counted in
    let test = c.loop-x-test.true in
    record {
      counted = ap (λ (n : ℕ). n + 1) counted;
      appended = appended_more _ _ _ c.args.v c.args.n c.args.elements.now c.loop-x.count c.x-item.result c.loop-x.invariant.appended
          (omega (arith, counted, test)) (c.x-item.is ∙ ap (λ (i : ℕ). get_or c.args.elements.now i c.x-item.result) (sym counted))
          c.in-Ok.ensures.record c.in-Ok.ensures.stores;
    }
