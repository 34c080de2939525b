-- The list under the number of sources before.
use Rattle.std.proofs.Common.{◌≡◌, ℕ, Vec, Global, ◌<◌, List, [], length, get_or, map, Some, sym, ap, ◌∙◌, subst, arith}
use Rattle.std.proofs.lemmas.List.{length-map, get_or-map}
use Rattle.ss_elem.specs.declared.element.Element.{Element}
use Rattle.ss_job.specs.JobText.{op_of}
use Rattle.ss_job.specs.declared.op.Op.TheVariants as op
use Rattle.ss_plan.specs.Plan.{PlanText, lists_of, plan_of, source_list, sources_before}
use Rattle.ss_plan.proofs.SourcePlaces.{source_within}
use Rattle.ss_plan.proofs.plan.Plan.source.Goals as goal

pub bounds-as_slice-place : goal.bounds-as_slice-place
bounds-as_slice-place c =
    let source : op_of c.self.inside.job c.args.v ≡ Some op.Source =
    ap (λ (p : PlanText). op_of p.job c.args.v) c.self.view_is ∙ c.requires in
    let within = source_within c.self.inside.job c.args.v source in
    omega (arith, within, c.self.invariant.0.count, c.place_of-place.ensures, c.as_slice.ensures.value, ap length c.as_slice.ensures.value, length-map c.self.inside.lists.items (λ list. list.items))

pub returns : goal.returns
returns c =
    let lists = c.self.inside.lists.items in
    let place = c.place_of-place.result in
    let read : c.index-as_slice-place.result ≡ get_or lists place c.index-as_slice-place.result =
    c.index-as_slice-place.is ∙ ap (λ (ls : List (Vec Element Global)). get_or ls place c.index-as_slice-place.result) c.as_slice.ensures.value in
    let within : place < length lists =
    let source : op_of c.self.inside.job c.args.v ≡ Some op.Source =
    ap (λ (p : PlanText). op_of p.job c.args.v) c.self.view_is ∙ c.requires in
    let inside = source_within c.self.inside.job c.args.v source in
    omega (arith, inside, c.self.invariant.0.count, c.place_of-place.ensures, length-map lists (λ list. list.items)) in
    let found : get_or (lists_of lists) place [] ≡ c.index-as_slice-place.result.items =
    get_or-map (λ (list : Vec Element Global). list.items) lists place c.index-as_slice-place.result [] within
    ∙ ap (λ (list : Vec Element Global). list.items) (sym read) in
    c.as_slice-2.ensures.value ∙ sym found
    ∙ ap (λ n. get_or (lists_of lists) n []) c.place_of-place.ensures
    ∙ ap (λ (p : PlanText). source_list p c.args.v) c.self.view_is
