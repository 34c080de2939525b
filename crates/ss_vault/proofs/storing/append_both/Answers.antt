use Rattle.std.proofs.Common.{◌≡◌, length, sym, ◌∙◌}
use Rattle.std.specs.Prelude.{IsSome}
use Rattle.ss_elem.specs.Validity.{next_bound}
use Rattle.ss_elem.specs.declared.element.Element.{Element}
use Rattle.ss_outside.specs.Depot.{DepotTold}
use Rattle.ss_vault.proofs.AppendedBoth.{all_rest, appended_both, none_stops, stops_both}
use Rattle.ss_vault.proofs.Appending.{appended_next}
use Rattle.ss_vault.proofs.Behind.{none_of}
use Rattle.ss_vault.proofs.storing.append_both.Goals as goal

pub append_all-more-requires-clause-next : goal.append_all-more-requires-clause-next
append_all-more-requires-clause-next g c =
    appended_next _ _ c.args.v c.args.n c.args.first.now c.append_all-count.result.0 c.append_all-count.ensures.0 c.requires.next

pub append_all-more-requires-clause-first : goal.append_all-more-requires-clause-first
append_all-more-requires-clause-first g c =
    all_rest (λ (x : Element). IsSome (next_bound 0 x)) c.args.first.now c.args.rest.now c.requires.firsts

pub returns : goal.returns
returns g c =
    let a : DepotTold = g.D.Depot.told c.args.depot.now in
    let b : DepotTold = g.D.Depot.told c.append_all-count.new.depot in
    let e : DepotTold = g.D.Depot.told c.append_all-more.new.depot in
    let going = none_of c.append_all-count.result.1 (sym c.is_some.ensures ∙ c.if-is_some.false) in
    let all : c.append_all-count.result.0 ≡ length c.args.first.now =
    none_stops a b c.append_all-count.result.0 (length c.args.first.now) c.append_all-count.result.1 going c.append_all-count.ensures.1 in
    let had = c.append_all-count.ensures.0 in (
      appended_both a b e c.args.v c.args.n c.append_all-count.result.0 c.append_all-more.result.0 c.args.first.now c.args.rest.now had all c.append_all-more.ensures.0,
      stops_both a b e c.append_all-count.result.0 c.append_all-more.result.0 c.args.first.now c.args.rest.now c.append_all-more.result.1 had.faults all c.append_all-more.ensures.1,
    )
