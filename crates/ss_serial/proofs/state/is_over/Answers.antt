use Rattle.std.proofs.Common.{◌≡◌, ◌∙◌, ℕ, nat_le, true, false, sym, ap, subst, refl, arith, le-leb}
use Rattle.std.proofs.lemmas.Bool.{lt-leb}
use Rattle.ss_engine.specs.Told.{plant_told, state_of}
use Rattle.ss_frames.specs.Plans.{plan_numbers}
use Rattle.ss_plan.specs.Plan.{PlanText}
use Rattle.ss_rounds.specs.Whole as whole
use Rattle.ss_state.specs.Numbers.{VertexNumbers, vertex}
use Rattle.ss_state.specs.Rule.{last_snap, snap_due}
use Rattle.ss_state.specs.State.{durable_at}
use Rattle.ss_vault.specs.Told.{VaultTold, durable_of}
use Rattle.ss_vertex.specs.Inst.{inst_numbers, n_of}
use Rattle.ss_vertex.specs.Standing.{InstStands}
use Rattle.ss_serial.specs.Stored.{job_of}
use Rattle.ss_serial.proofs.Looking.{has_first, own_vertex, stands}
use Rattle.ss_serial.proofs.Over.{accepted_is, not_there, over_at, stored_whole, told_by_due}
use Rattle.ss_serial.proofs.state.is_over.Goals as goal

pub inst-inst-requires-clause-replica : goal.inst-inst-requires-clause-replica
inst-inst-requires-clause-replica g c =
    has_first (plant_told g.O.Outputs.told g.D.Depot.told c.args.plant.now) c.args.v c.requires.joint c.requires.stream

pub is_at_end-requires : goal.is_at_end-requires
is_at_end-requires g c =
    let p = plant_told g.O.Outputs.told g.D.Depot.told c.args.plant.now in
    subst (λ (plan : PlanText). InstStands plan c.inst-inst.result.now) (sym c.plan-plan.ensures)
    (stands p c.args.v 0 c.inst-inst.result.now c.requires.joint.parts c.inst-inst.ensures).stands

pub returns-then-not-is_at_end : goal.returns-then-not-is_at_end
returns-then-not-is_at_end g c =
    let p = plant_told g.O.Outputs.told g.D.Depot.told c.args.plant.now in
    let inst = c.inst-inst.result.now in
    let is = stands p c.args.v 0 inst c.requires.joint.parts c.inst-inst.ensures in
    let x = vertex (job_of p) c.args.v in
    let own = own_vertex p c.plan-plan.result.now c.args.v inst.v c.plan-plan.ensures is.vertex in
    over_at p c.args.v inst c.tail-tail.result.now false (snap_due x (whole.accepted_of (inst_numbers inst)) (last_snap (durable_at (state_of p) c.args.v).snaps))
    (nat_le (whole.next_of x (inst_numbers inst)) c.tail-tail.result.now.numbers.end)
    (nat_le (whole.next_of x (inst_numbers inst)) (durable_at (state_of p) c.args.v).dur) false c.inst-inst.ensures c.tail-tail.ensures
    (sym (ap (λ (y : VertexNumbers). whole.is_at_end y (inst_numbers inst)) own) ∙ sym c.is_at_end.ensures ∙ c.if-not-is_at_end.true)
    refl refl refl (sym c.has_full_batch.ensures ∙ c.if-has_full_batch.false)

pub next_number-next-requires : goal.next_number-next-requires
next_number-next-requires g c =
    let p = plant_told g.O.Outputs.told g.D.Depot.told c.args.plant.now in
    subst (λ (plan : PlanText). InstStands plan c.inst-inst.result.now) (sym c.plan-plan.ensures)
    (stands p c.args.v 0 c.inst-inst.result.now c.requires.joint.parts c.inst-inst.ensures).stands

pub returns-then-next-dur : goal.returns-then-next-dur
returns-then-next-dur g c =
    let p = plant_told g.O.Outputs.told g.D.Depot.told c.args.plant.now in
    let inst = c.inst-inst.result.now in
    let is = stands p c.args.v 0 inst c.requires.joint.parts c.inst-inst.ensures in
    let x = vertex (job_of p) c.args.v in
    let own = own_vertex p c.plan-plan.result.now c.args.v inst.v c.plan-plan.ensures is.vertex in
    let dur = c.dur.ensures ∙ ap (λ (vault : VaultTold). (durable_of vault c.args.v).dur) c.vault.ensures in
    let next = c.next_number-next.ensures ∙ ap (λ (y : VertexNumbers). whole.next_of y (inst_numbers inst)) own in
    let due = snap_due x (whole.accepted_of (inst_numbers inst)) (last_snap (durable_at (state_of p) c.args.v).snaps) in
    let there = nat_le (whole.next_of x (inst_numbers inst)) c.tail-tail.result.now.numbers.end in
    sym (stored_whole due there)
    ∙ over_at p c.args.v inst c.tail-tail.result.now true due there true false c.inst-inst.ensures c.tail-tail.ensures
    (sym (ap (λ (y : VertexNumbers). whole.is_at_end y (inst_numbers inst)) own) ∙ sym c.is_at_end.ensures ∙ c.if-not-is_at_end.false)
    refl refl
    (le-leb (whole.next_of x (inst_numbers inst)) (durable_at (state_of p) c.args.v).dur (omega (arith, next, dur, c.if-next-dur.true)))
    (sym c.has_full_batch.ensures ∙ c.if-has_full_batch.false)

pub is_snap_due-requires-clause-vertex : goal.is_snap_due-requires-clause-vertex
is_snap_due-requires-clause-vertex g c =
    let p = plant_told g.O.Outputs.told g.D.Depot.told c.args.plant.now in
    (stands p c.args.v 0 c.inst-inst.result.now c.requires.joint.parts c.inst-inst.ensures).vertex

pub is_snap_due-requires-clause-stands : goal.is_snap_due-requires-clause-stands
is_snap_due-requires-clause-stands g c =
    let p = plant_told g.O.Outputs.told g.D.Depot.told c.args.plant.now in
    subst (λ (plan : PlanText). InstStands plan c.inst-inst.result.now) (sym c.plan-plan.ensures)
    (stands p c.args.v 0 c.inst-inst.result.now c.requires.joint.parts c.inst-inst.ensures).stands

pub returns-then-next-end : goal.returns-then-next-end
returns-then-next-end g c =
    let p = plant_told g.O.Outputs.told g.D.Depot.told c.args.plant.now in
    let inst = c.inst-inst.result.now in
    let is = stands p c.args.v 0 inst c.requires.joint.parts c.inst-inst.ensures in
    let x = vertex (job_of p) c.args.v in
    let own = own_vertex p c.plan-plan.result.now c.args.v inst.v c.plan-plan.ensures is.vertex in
    let dur = c.dur.ensures ∙ ap (λ (vault : VaultTold). (durable_of vault c.args.v).dur) c.vault.ensures in
    let next = c.next_number-next.ensures ∙ ap (λ (y : VertexNumbers). whole.next_of y (inst_numbers inst)) own in
    let due : c.is_snap_due.result ≡ snap_due x (whole.accepted_of (inst_numbers inst)) (last_snap (durable_at (state_of p) c.args.v).snaps) =
    c.is_snap_due.ensures
    ∙ ap (λ (plan : PlanText). snap_due (vertex (plan_numbers plan) c.args.v) (n_of inst) c.newest.result) c.plan-plan.ensures
    ∙ ap (λ (n : ℕ). snap_due x n c.newest.result) (accepted_is inst)
    ∙ ap (snap_due x (whole.accepted_of (inst_numbers inst))) c.newest.ensures in
    sym (told_by_due c.is_snap_due.result)
    ∙ over_at p c.args.v inst c.tail-tail.result.now true c.is_snap_due.result true false false c.inst-inst.ensures c.tail-tail.ensures
    (sym (ap (λ (y : VertexNumbers). whole.is_at_end y (inst_numbers inst)) own) ∙ sym c.is_at_end.ensures ∙ c.if-not-is_at_end.false)
    (sym due)
    (le-leb (whole.next_of x (inst_numbers inst)) c.tail-tail.result.now.numbers.end (omega (arith, next, c.end.ensures.end, c.if-next-end.true)))
    (lt-leb (whole.next_of x (inst_numbers inst)) (durable_at (state_of p) c.args.v).dur (omega (arith, next, dur, c.if-next-dur.false)))
    (sym c.has_full_batch.ensures ∙ c.if-has_full_batch.false)

pub returns-else-next-end : goal.returns-else-next-end
returns-else-next-end g c =
    let p = plant_told g.O.Outputs.told g.D.Depot.told c.args.plant.now in
    let inst = c.inst-inst.result.now in
    let is = stands p c.args.v 0 inst c.requires.joint.parts c.inst-inst.ensures in
    let x = vertex (job_of p) c.args.v in
    let own = own_vertex p c.plan-plan.result.now c.args.v inst.v c.plan-plan.ensures is.vertex in
    let dur = c.dur.ensures ∙ ap (λ (vault : VaultTold). (durable_of vault c.args.v).dur) c.vault.ensures in
    let next = c.next_number-next.ensures ∙ ap (λ (y : VertexNumbers). whole.next_of y (inst_numbers inst)) own in
    let due = snap_due x (whole.accepted_of (inst_numbers inst)) (last_snap (durable_at (state_of p) c.args.v).snaps) in
    lt-leb c.next_number-next.result c.end.result c.if-next-end.false
    ∙ sym (not_there due)
    ∙ over_at p c.args.v inst c.tail-tail.result.now true due false false false c.inst-inst.ensures c.tail-tail.ensures
    (sym (ap (λ (y : VertexNumbers). whole.is_at_end y (inst_numbers inst)) own) ∙ sym c.is_at_end.ensures ∙ c.if-not-is_at_end.false)
    refl
    (lt-leb (whole.next_of x (inst_numbers inst)) c.tail-tail.result.now.numbers.end (omega (arith, next, c.end.ensures.end, c.if-next-end.false)))
    (lt-leb (whole.next_of x (inst_numbers inst)) (durable_at (state_of p) c.args.v).dur (omega (arith, next, dur, c.if-next-dur.false)))
    (sym c.has_full_batch.ensures ∙ c.if-has_full_batch.false)
