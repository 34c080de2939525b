-- What the laws say of the vertex, the code does.
use Rattle.std.proofs.Common.{◌+◌, List, [], IsSome, refl, sym, ◌∙◌, subst, arith}
use Rattle.ss_elem.specs.declared.element.Element.{Element}
use Rattle.ss_merge.specs.Merging.{MergerState, MayBeNext}
use Rattle.ss_oper.specs.Standing.{Steps}
use Rattle.ss_vertex.specs.declared.operating.Operating.{Operating}
use Rattle.ss_vertex.proofs.Arrives.{within_next, kept_next}
use Rattle.ss_vertex.proofs.Accepting.{wants, chosen, may_be_next, early, few, few_taken, advance, accepts}
use Rattle.ss_vertex.proofs.operating.Operating.accept.Goals as goal

pub unwrap-input-requires : goal.unwrap-input-requires
unwrap-input-requires c =
    let w = wants c.laws_of_vertices.ensures c.args.plan.now c.max_elements-most.ensures.plan c.args.v c.args.self.now c.args.x.now
    c.requires.operator c.requires.within c.requires.wanted in
    subst IsSome (sym (c.choose.ensures.input ∙ chosen c.args.plan.now c.args.v c.args.self.now c.args.x.now w)) refl

pub accept-requires : goal.accept-requires
accept-requires c =
    let w = wants c.laws_of_vertices.ensures c.args.plan.now c.max_elements-most.ensures.plan c.args.v c.args.self.now c.args.x.now
    c.requires.operator c.requires.within c.requires.wanted in
    subst (λ (m : MergerState). MayBeNext m c.args.x.now) (sym c.copied-merger.ensures)
    (may_be_next c.args.plan.now c.args.v c.args.self.now c.args.x.now w)

pub count_given-requires : goal.count_given-requires
count_given-requires c =
    let w = wants c.laws_of_vertices.ensures c.args.plan.now c.max_elements-most.ensures.plan c.args.v c.args.self.now c.args.x.now
    c.requires.operator c.requires.within c.requires.wanted in
    early c.args.plan.now c.args.v c.args.self.now c.args.x.now w

pub step-requires-clause-early : goal.step-requires-clause-early
step-requires-clause-early c =
    let w = wants c.laws_of_vertices.ensures c.args.plan.now c.max_elements-most.ensures.plan c.args.v c.args.self.now c.args.x.now
    c.requires.operator c.requires.within c.requires.wanted in
    early c.args.plan.now c.args.v c.args.self.now c.args.x.now w

pub step-requires-clause-few : goal.step-requires-clause-few
step-requires-clause-few c =
    let w = wants c.laws_of_vertices.ensures c.args.plan.now c.max_elements-most.ensures.plan c.args.v c.args.self.now c.args.x.now
    c.requires.operator c.requires.within c.requires.wanted in
    few c.args.plan.now c.args.v c.args.self.now c.args.x.now w

pub returns-then-reached-most-clause-fault : goal.returns-then-reached-most-clause-fault
returns-then-reached-most-clause-fault c =
    let w = wants c.laws_of_vertices.ensures c.args.plan.now c.max_elements-most.ensures.plan c.args.v c.args.self.now c.args.x.now
    c.requires.operator c.requires.within c.requires.wanted in
    let a = advance c.args.plan.now c.args.v c.args.self.now c.args.x.now w c.choose.result c.unwrap-input.result
    c.copied-merger.result c.accept.new.self c.count_given.result c.choose.ensures.input c.unwrap-input.ensures
    c.copied-merger.ensures c.accept.ensures.accepted c.accept.ensures.stands c.count_given.ensures.given in
    let total = a.total in
    let before = c.requires.total in
    let most = c.max_elements-most.ensures.most in
    (omega arith, omega arith)

pub returns-in-Err-clause-fault : goal.returns-in-Err-clause-fault
returns-in-Err-clause-fault c =
    let w = wants c.laws_of_vertices.ensures c.args.plan.now c.max_elements-most.ensures.plan c.args.v c.args.self.now c.args.x.now
    c.requires.operator c.requires.within c.requires.wanted in
    let a = advance c.args.plan.now c.args.v c.args.self.now c.args.x.now w c.choose.result c.unwrap-input.result
    c.copied-merger.result c.accept.new.self c.count_given.result c.choose.ensures.input c.unwrap-input.ensures
    c.copied-merger.ensures c.accept.ensures.accepted c.accept.ensures.stands c.count_given.ensures.given in
    let total = a.total in
    let before = c.requires.total in
    let most = c.max_elements-most.ensures.most in
    omega arith

pub overflow_add-self : goal.overflow_add-self
overflow_add-self c =
    let w = wants c.laws_of_vertices.ensures c.args.plan.now c.max_elements-most.ensures.plan c.args.v c.args.self.now c.args.x.now
    c.requires.operator c.requires.within c.requires.wanted in
    let taken = few_taken c.args.plan.now c.args.v c.args.self.now c.args.x.now w in
    omega arith

pub returns-clause-within : goal.returns-clause-within
returns-clause-within c =
    let w = wants c.laws_of_vertices.ensures c.args.plan.now c.max_elements-most.ensures.plan c.args.v c.args.self.now c.args.x.now
    c.requires.operator c.requires.within c.requires.wanted in
    let a = advance c.args.plan.now c.args.v c.args.self.now c.args.x.now w c.choose.result c.unwrap-input.result
    c.copied-merger.result c.accept.new.self c.count_given.result c.choose.ensures.input c.unwrap-input.ensures
    c.copied-merger.ensures c.accept.ensures.accepted c.accept.ensures.stands c.count_given.ensures.given in
    let total = a.total in
    let before = c.requires.total in
    let most = c.max_elements-most.ensures.most in
    within_next c.args.plan.now c.args.v c.args.self.now.n w.work.s c.args.x.now w.operator w.arrives c.requires.within (omega arith)

pub returns-clause-kept : goal.returns-clause-kept
returns-clause-kept c =
    let w = wants c.laws_of_vertices.ensures c.args.plan.now c.max_elements-most.ensures.plan c.args.v c.args.self.now c.args.x.now
    c.requires.operator c.requires.within c.requires.wanted in
    kept_next c.args.plan.now c.args.v c.args.self.now.n c.args.x.now w.arrives c.requires.kept c.check_kept.ensures

pub returns-clause-operator : goal.returns-clause-operator
returns-clause-operator c =
    let w = wants c.laws_of_vertices.ensures c.args.plan.now c.max_elements-most.ensures.plan c.args.v c.args.self.now c.args.x.now
    c.requires.operator c.requires.within c.requires.wanted in
    let a = advance c.args.plan.now c.args.v c.args.self.now c.args.x.now w c.choose.result c.unwrap-input.result
    c.copied-merger.result c.accept.new.self c.count_given.result c.choose.ensures.input c.unwrap-input.ensures
    c.copied-merger.ensures c.accept.ensures.accepted c.accept.ensures.stands c.count_given.ensures.given in
    let new : Operating = record { n = c.args.self.now.n + 1; merger = c.accept.new.self; oper = c.step.new.self } in
    let steps : Steps c.accept.new.self c.unwrap-input.result c.args.x.now c.args.self.now.oper c.step.new.self [] c.step.new.out.elements =
    subst (λ (xs : List Element). Steps c.accept.new.self c.unwrap-input.result c.args.x.now c.args.self.now.oper c.step.new.self xs c.step.new.out.elements)
    c.requires.none c.in-Ok.ensures.ok in
    (accepts c.args.plan.now c.args.v c.args.self.now new c.args.x.now w c.unwrap-input.result c.step.new.out.elements
    a.input refl a.width a.stands c.step.ensures.spec steps).operates

pub returns-clause-given : goal.returns-clause-given
returns-clause-given c =
    let w = wants c.laws_of_vertices.ensures c.args.plan.now c.max_elements-most.ensures.plan c.args.v c.args.self.now c.args.x.now
    c.requires.operator c.requires.within c.requires.wanted in
    let a = advance c.args.plan.now c.args.v c.args.self.now c.args.x.now w c.choose.result c.unwrap-input.result
    c.copied-merger.result c.accept.new.self c.count_given.result c.choose.ensures.input c.unwrap-input.ensures
    c.copied-merger.ensures c.accept.ensures.accepted c.accept.ensures.stands c.count_given.ensures.given in
    let new : Operating = record { n = c.args.self.now.n + 1; merger = c.accept.new.self; oper = c.step.new.self } in
    let steps : Steps c.accept.new.self c.unwrap-input.result c.args.x.now c.args.self.now.oper c.step.new.self [] c.step.new.out.elements =
    subst (λ (xs : List Element). Steps c.accept.new.self c.unwrap-input.result c.args.x.now c.args.self.now.oper c.step.new.self xs c.step.new.out.elements)
    c.requires.none c.in-Ok.ensures.ok in
    (accepts c.args.plan.now c.args.v c.args.self.now new c.args.x.now w c.unwrap-input.result c.step.new.out.elements
    a.input refl a.width a.stands c.step.ensures.spec steps).given
