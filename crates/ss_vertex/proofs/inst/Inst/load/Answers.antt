use Rattle.std.proofs.Common.{◌≡◌, ℕ, [], length, Some, sym, ap, subst, arith}
use Rattle.std.proofs.lemmas.List.{length-drop}
use Rattle.ss_vertex.specs.Inst.{InstState}
use Rattle.ss_vertex.specs.Kept.{inst_kept, left_kept}
use Rattle.ss_vertex.specs.Standing.{InstStands}
use Rattle.ss_vertex.specs.declared.work.Work.{Work}
use Rattle.ss_vertex.specs.declared.work.Work.TheVariants.{Merging}
use Rattle.ss_vertex.proofs.Executing.{nil_of}
use Rattle.ss_vertex.proofs.Loading.{undamaged, loaded_stands}
use Rattle.ss_vertex.proofs.inst.Inst.load.Goals as goal

pub returns-in-Err-clause-undamaged : goal.returns-in-Err-clause-undamaged
returns-in-Err-clause-undamaged c snapshot =
    undamaged c.laws_of_vertices.ensures c.args.plan.now c.max_elements.ensures.plan c.args.f.now snapshot c.in-Err.fault c.in-Err.ensures.fault

pub invariant_of-self : goal.invariant_of-self
invariant_of-self c =
    let same = ap length c.as_slice-done.ensures in
    record { within = omega arith; few = c.self.invariant.few; numbered = λ k. absurd (omega arith) }

pub returns-clause-stands : goal.returns-clause-stands
returns-clause-stands c snapshot stands =
    let i = c.self.inside in
    let f = c.args.f.now in
    let done : ℕ = length c.as_slice-done.result.now in
    let all : done ≡ length i.given.elements = ap length c.as_slice-done.ensures in
    let none : left_kept i.given done ≡ [] = nil_of (left_kept i.given done) (let count = length-drop done i.given.elements in omega arith) in
    let v_is : i.v ≡ c.args.self.now.v = ap (λ (x : InstState). x.v) c.self.view_is in
    let there : InstStands c.args.plan.now (inst_kept c.args.self.now.v f.out i.given done (Merging (Some c.in-Ok.operating))) =
    loaded_stands c.laws_of_vertices.ensures c.args.plan.now c.max_elements.ensures.plan c.args.self.now f c.in-Ok.operating i.given done
    c.requires.vertex.vertex c.in-Ok.ensures.ok.0 c.in-Ok.ensures.ok.1 none snapshot stands in
    subst (λ (w : Work). InstStands c.args.plan.now (inst_kept i.v f.out i.given done w)) (sym c.go_on.ensures)
    (subst (λ u. InstStands c.args.plan.now (inst_kept u f.out i.given done (Merging (Some c.in-Ok.operating)))) (sym v_is) there)
