use Rattle.std.proofs.Common.{sym, ap, ◌∙◌, w64, ℤ}
use Rattle.std.proofs.lemmas.Int.{to_z-of_z}
use Rattle.std.proofs.lemmas.List.Elements.{recursion_from_All}
use Rattle.std.specs.BTreeMap.{is_at, values}
use Rattle.std.specs.Ordering.{nat_cmp}
use Rattle.ss_window.specs.Held.{join_of, grown_total, entries_at}
use Rattle.ss_window.proofs.PaneTotals.{few_found, put_is_insert}
use Rattle.ss_window.proofs.pane.put.Goals as goal

pub grown-more-requires : goal.grown-more-requires
grown-more-requires c =
    λ x s.
    few_found (is_at (nat_cmp c.args.key.now)) c.args.pane.now.entries
    (recursion_from_All _ (values c.args.pane.now) c.requires) x (sym c.total_of-had.ensures ∙ s)

pub returns-clause-ok : goal.returns-clause-ok
returns-clause-ok c =
    let join = join_of c.args.agg in
    let value = to_z-of_z w64 c.args.value c.ranges.value in
    let grown =
    c.grown-more.ensures
    ∙ (ap (λ (v : ℤ). grown_total join v c.total_of-had.result) value ∙ ap (grown_total join c.args.value) c.total_of-had.ensures) in
    λ end.
    ap (entries_at end) c.in_ok-insert.ensures.entries
    ∙ put_is_insert join end c.args.key.now c.args.value c.args.pane.now.entries c.grown-more.result c.insert.ensures.was_ordered grown
