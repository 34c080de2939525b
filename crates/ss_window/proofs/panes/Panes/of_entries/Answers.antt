use Rattle.std.proofs.Common.{◌≡◌, true, List, [], ◌∷◌, ◌++◌, take, get_or, sym, ap, subst, ◌∙◌}
use Rattle.std.specs.List.{AllByRecursion}
use Rattle.std.proofs.lemmas.List.{take_more}
use Rattle.ss_meaning.specs.Entries.{WindowEntry}
use Rattle.ss_meaning.specs.EntryLists.{is_before}
use Rattle.ss_window.proofs.Pushes.{all_before}
use Rattle.ss_window.proofs.panes.Panes.of_entries.Goals as goal

pub push-requires : goal.push-requires
push-requires c =
    let e : WindowEntry = c.entry-item.result in
    let all : List WindowEntry = c.args.entries.now in
    let i = c.loop-entry.entry-index in
    subst (AllByRecursion (λ (f : WindowEntry). is_before e.end e.key f ≡ true)) (sym c.loop-entry.invariant)
    (all_before all i e c.requires c.loop-entry-test.true (sym c.entry-item.is))

pub loop-entry-preserved : goal.loop-entry-preserved
loop-entry-preserved c =
    let e : WindowEntry = c.entry-item.result in
    let all : List WindowEntry = c.args.entries.now in
    let i = c.loop-entry.entry-index in
    let at : get_or all i e ≡ e = sym c.entry-item.is in
    c.in_ok-push.ensures
    ∙ (ap (λ (xs : List WindowEntry). xs ++ e ∷ []) c.loop-entry.invariant
    ∙ (ap (λ (x : WindowEntry). take i all ++ x ∷ []) (sym at) ∙ sym (take_more all i e c.loop-entry-test.true)))
