use Rattle.std.proofs.Common.{◌∙◌, ℕ, nat_le, true, false, refl, sym, subst, arith}
use Rattle.std.proofs.lemmas.Bool.{lt-ltb, le-ltb}
use Rattle.ss_frames.specs.Plans.{plan_numbers}
use Rattle.ss_state.specs.Numbers.{mlen, vertex}
use Rattle.ss_state.specs.Rule.{snap_due}
use Rattle.ss_vertex.specs.Inst.{left_of, n_of}
use Rattle.ss_vertex.specs.Laws.{IsNumbered}
use Rattle.ss_manager.proofs.Rules.{all_arrived, decides, down_loads, more_arrives}
use Rattle.ss_manager.proofs.deciding.next_act.Goals as goal

pub returns-then-not-is_up : goal.returns-then-not-is_up
returns-then-not-is_up c = down_loads _ c.args.v c.args.r c.args.last c.args.inst.now (sym c.is_up.ensures ∙ c.if-not-is_up.true)

pub returns-then-left-gt0 : goal.returns-then-left-gt0
returns-then-left-gt0 c =
    let inst = c.args.inst.now in
    let x = vertex (plan_numbers c.args.plan.now) c.args.v in
    decides x c.args.v c.args.r c.args.last inst true (snap_due x (n_of inst) c.args.last) (nat_le (mlen x) (n_of inst))
    (sym c.is_up.ensures ∙ c.if-not-is_up.false) (lt-ltb 0 (left_of inst) (omega (arith, c.left.ensures, c.if-left-gt0.true))) refl refl

pub returns-then-is_snap_due : goal.returns-then-is_snap_due
returns-then-is_snap_due c =
    let inst = c.args.inst.now in
    let x = vertex (plan_numbers c.args.plan.now) c.args.v in
    decides x c.args.v c.args.r c.args.last inst false true (nat_le (mlen x) (n_of inst))
    (sym c.is_up.ensures ∙ c.if-not-is_up.false) (le-ltb 0 (left_of inst) (omega (arith, c.left.ensures, c.if-left-gt0.false)))
    (sym c.is_snap_due.ensures ∙ c.if-is_snap_due.true) refl

pub returns-in-Some : goal.returns-in-Some
returns-in-Some c =
    let plan = c.args.plan.now in
    let inst = c.args.inst.now in
    let x = vertex (plan_numbers plan) c.args.v in
    let numbered : IsNumbered plan x inst =
    subst (λ (w : ℕ). IsNumbered plan (vertex (plan_numbers plan) w) inst) c.requires.vertex c.is_numbered.ensures.numbered in
    decides x c.args.v c.args.r c.args.last inst false false false
    (sym c.is_up.ensures ∙ c.if-not-is_up.false) (le-ltb 0 (left_of inst) (omega (arith, c.left.ensures, c.if-left-gt0.false)))
    (sym c.is_snap_due.ensures ∙ c.if-is_snap_due.false)
    (more_arrives x (n_of inst) c.in-Some.field-0
    (c.in-Some.ensures plan c.max_elements.ensures.plan c.requires.stands ∙ numbered.wanted (n_of inst) numbered.reached))

pub returns-in-None : goal.returns-in-None
returns-in-None c =
    let plan = c.args.plan.now in
    let inst = c.args.inst.now in
    let x = vertex (plan_numbers plan) c.args.v in
    let numbered : IsNumbered plan x inst =
    subst (λ (w : ℕ). IsNumbered plan (vertex (plan_numbers plan) w) inst) c.requires.vertex c.is_numbered.ensures.numbered in
    decides x c.args.v c.args.r c.args.last inst false false true
    (sym c.is_up.ensures ∙ c.if-not-is_up.false) (le-ltb 0 (left_of inst) (omega (arith, c.left.ensures, c.if-left-gt0.false)))
    (sym c.is_snap_due.ensures ∙ c.if-is_snap_due.false)
    (all_arrived x (n_of inst)
    (c.in-None.ensures plan c.max_elements.ensures.plan c.requires.stands ∙ numbered.wanted (n_of inst) numbered.reached))
