use Rattle.std.proofs.Common.{List, ℕ, ◌≡◌, ◌<◌, ◌∙◌, length, Ok, Err, ap, refl, subst, sym}
use Rattle.ss_acts.specs.Facts.{ActFacts}
use Rattle.ss_acts.specs.Calls.{ReadsTail, ReadsVault}
use Rattle.ss_acts.specs.Parts.{IsReplicaOf, IsTailOf, vertex_of}
use Rattle.ss_acts.specs.Readings.{IsReady, wanted_from}
use Rattle.ss_acts.specs.declared.fault.ReadPart.{ReadPart}
use Rattle.ss_acts.specs.declared.fault.ReadPart.TheVariants as read_part
use Rattle.ss_fail.specs.declared.act.Act.TheVariants as act
use Rattle.ss_frames.specs.Plans.{plan_numbers}
use Rattle.ss_plan.specs.Plan.{PlanText}
use Rattle.ss_state.specs.Numbers.{IsOperator}
use Rattle.ss_tail.specs.Held.{TailHeld}
use Rattle.ss_vault.specs.Sound.{Sound}
use Rattle.ss_vault.specs.Told.{VaultTold, vault_told}
use Rattle.ss_vertex.specs.Inst.{InstState, inst_numbers}
use Rattle.ss_vertex.specs.Standing.{InstStands}
use Rattle.ss_engine.specs.Applies.{AppliesJointly}
use Rattle.ss_engine.specs.Told.{PlantTold, plant_told, tail_of}
use Rattle.ss_engine.proofs.Parts.{stands_at}
use Rattle.ss_engine.proofs.Picking.{asker_is_ready}
use Rattle.ss_engine.proofs.Places.{v_within, r_within, t_within, inst_here, inst_written, tail_here}
use Rattle.ss_engine.proofs.ReadActs.{tail_applies, kept_applies, refused_applies}
use Rattle.ss_engine.proofs.plant.Plant.read_inputs.Goals as goal

pub index_mut-requires : goal.index_mut-requires
index_mut-requires g c =
    let p : PlantTold = plant_told g.O.Outputs.told g.D.Depot.told c.args.self.now in
    v_within p c.args.self.now.insts c.args.v refl c.requires.joint c.requires.replica.0.0

pub index_mut-inst-requires : goal.index_mut-inst-requires
index_mut-inst-requires g c =
    let p : PlantTold = plant_told g.O.Outputs.told g.D.Depot.told c.args.self.now in
    r_within p c.args.self.now.insts c.args.v c.args.r c.index_mut.result.now refl c.requires.joint c.requires.replica c.index_mut.ensures.value

pub vertex_wanted-u-requires-clause-stands : goal.vertex_wanted-u-requires-clause-stands
vertex_wanted-u-requires-clause-stands g c =
    let p : PlantTold = plant_told g.O.Outputs.told g.D.Depot.told c.args.self.now in
    let v = c.args.v in
    let r = c.args.r in
    let z = c.index_mut.result.now in
    let old : InstState = c.index_mut-inst.result.now in
    let insts = c.args.self.now.insts in
    let is = inst_here p insts v r z old refl c.requires.joint c.requires.replica c.index_mut.ensures.value c.index_mut-inst.ensures.value in
    subst (λ (plan : PlanText). InstStands plan old) (sym c.deref-2.ensures) (stands_at p v r old c.requires.joint.parts is).stands

pub vertex_wanted-u-requires-clause-operator : goal.vertex_wanted-u-requires-clause-operator
vertex_wanted-u-requires-clause-operator g c =
    let p : PlantTold = plant_told g.O.Outputs.told g.D.Depot.told c.args.self.now in
    let v = c.args.v in
    let r = c.args.r in
    let z = c.index_mut.result.now in
    let old : InstState = c.index_mut-inst.result.now in
    let insts = c.args.self.now.insts in
    let is = inst_here p insts v r z old refl c.requires.joint c.requires.replica c.index_mut.ensures.value c.index_mut-inst.ensures.value in
    let of_v = (stands_at p v r old c.requires.joint.parts is).vertex in
    subst (λ (plan : PlanText). IsOperator (plan_numbers plan) old.v) (sym c.deref-2.ensures)
    (subst (λ (w : ℕ). IsOperator (plan_numbers p.plan) w) (sym of_v) c.requires.operator)

pub index-requires : goal.index-requires
index-requires g c =
    let p : PlantTold = plant_told g.O.Outputs.told g.D.Depot.told c.args.self.now in
    let u = c.vertex_wanted-u.result in
    let among = subst (λ (plan : PlanText). u < length (plan_numbers plan).vertices) c.deref-2.ensures c.vertex_wanted-u.ensures.within in
    t_within p c.args.self.now.tails u refl c.requires.joint among

pub act_read-requires-clause-stands : goal.act_read-requires-clause-stands
act_read-requires-clause-stands g c =
    let p : PlantTold = plant_told g.O.Outputs.told g.D.Depot.told c.args.self.now in
    let v = c.args.v in
    let r = c.args.r in
    let z = c.index_mut.result.now in
    let old : InstState = c.index_mut-inst.result.now in
    let insts = c.args.self.now.insts in
    let is = inst_here p insts v r z old refl c.requires.joint c.requires.replica c.index_mut.ensures.value c.index_mut-inst.ensures.value in
    subst (λ (plan : PlanText). InstStands plan old) (sym c.deref-3.ensures) (stands_at p v r old c.requires.joint.parts is).stands

pub act_read-requires-clause-operator : goal.act_read-requires-clause-operator
act_read-requires-clause-operator g c =
    let p : PlantTold = plant_told g.O.Outputs.told g.D.Depot.told c.args.self.now in
    let v = c.args.v in
    let r = c.args.r in
    let z = c.index_mut.result.now in
    let old : InstState = c.index_mut-inst.result.now in
    let insts = c.args.self.now.insts in
    let is = inst_here p insts v r z old refl c.requires.joint c.requires.replica c.index_mut.ensures.value c.index_mut-inst.ensures.value in
    let of_v = (stands_at p v r old c.requires.joint.parts is).vertex in
    subst (λ (plan : PlanText). IsOperator (plan_numbers plan) old.v) (sym c.deref-3.ensures)
    (subst (λ (w : ℕ). IsOperator (plan_numbers p.plan) w) (sym of_v) c.requires.operator)

pub act_read-requires-clause-tail : goal.act_read-requires-clause-tail
act_read-requires-clause-tail g c =
    let p : PlantTold = plant_told g.O.Outputs.told g.D.Depot.told c.args.self.now in
    let v = c.args.v in
    let r = c.args.r in
    let z = c.index_mut.result.now in
    let old : InstState = c.index_mut-inst.result.now in
    let insts = c.args.self.now.insts in
    let is = inst_here p insts v r z old refl c.requires.joint c.requires.replica c.index_mut.ensures.value c.index_mut-inst.ensures.value in
    let u = c.vertex_wanted-u.result in
    let wanted : IsReady p.plan old → u ≡ wanted_from p.plan old =
    subst (λ (plan : PlanText). IsReady plan old → u ≡ wanted_from plan old) c.deref-2.ensures c.vertex_wanted-u.ensures.wanted in
    let among = subst (λ (plan : PlanText). u < length (plan_numbers plan).vertices) c.deref-2.ensures c.vertex_wanted-u.ensures.within in
    let tail : TailHeld = c.index.result.now in
    let tail_is : tail ≡ tail_of p u = tail_here p c.args.self.now.tails u tail refl c.requires.joint among c.index.ensures in
    let stands : IsReady p.plan old → IsTailOf p.plan (wanted_from p.plan old) tail = λ ready.
    subst (λ (w : ℕ). IsTailOf p.plan w tail) (wanted ready) (subst (λ (t : TailHeld). IsTailOf p.plan u t) (sym tail_is) (c.requires.joint.parts.tails u)) in
    subst (λ (plan : PlanText). IsReady plan old → IsTailOf plan (wanted_from plan old) tail) (sym c.deref-3.ensures) stands

pub act_read_kept-requires-clause-stands : goal.act_read_kept-requires-clause-stands
act_read_kept-requires-clause-stands g c =
    let p : PlantTold = plant_told g.O.Outputs.told g.D.Depot.told c.args.self.now in
    let v = c.args.v in
    let r = c.args.r in
    let z = c.index_mut.result.now in
    let old : InstState = c.index_mut-inst.result.now in
    let insts = c.args.self.now.insts in
    let is = inst_here p insts v r z old refl c.requires.joint c.requires.replica c.index_mut.ensures.value c.index_mut-inst.ensures.value in
    let u = c.vertex_wanted-u.result in
    let wanted : IsReady p.plan old → u ≡ wanted_from p.plan old =
    subst (λ (plan : PlanText). IsReady plan old → u ≡ wanted_from plan old) c.deref-2.ensures c.vertex_wanted-u.ensures.wanted in
    let among = subst (λ (plan : PlanText). u < length (plan_numbers plan).vertices) c.deref-2.ensures c.vertex_wanted-u.ensures.within in
    let tail : TailHeld = c.index.result.now in
    let tail_is : tail ≡ tail_of p u = tail_here p c.args.self.now.tails u tail refl c.requires.joint among c.index.ensures in
    let new : InstState = c.act_read.new.inst in
    let answer : ReadsTail p.plan old (tail_of p u) (Ok read_part.AskVault) new =
    subst (λ (t : TailHeld). ReadsTail p.plan old t (Ok read_part.AskVault) new) tail_is
    (subst (λ (plan : PlanText). ReadsTail plan old tail (Ok read_part.AskVault) new) c.deref-3.ensures (subst (λ (part : ReadPart). ReadsTail c.deref-3.result.now old tail (Ok part) new) c.in-AskVault.is c.in-Ok.ensures.answer)) in
    subst (λ (plan : PlanText). InstStands plan new) (sym c.deref-in-AskVault.ensures)
    (subst (λ (i : InstState). InstStands p.plan i) (sym answer.1) (stands_at p v r old c.requires.joint.parts is).stands)

pub act_read_kept-requires-clause-operator : goal.act_read_kept-requires-clause-operator
act_read_kept-requires-clause-operator g c =
    let p : PlantTold = plant_told g.O.Outputs.told g.D.Depot.told c.args.self.now in
    let v = c.args.v in
    let r = c.args.r in
    let z = c.index_mut.result.now in
    let old : InstState = c.index_mut-inst.result.now in
    let insts = c.args.self.now.insts in
    let is = inst_here p insts v r z old refl c.requires.joint c.requires.replica c.index_mut.ensures.value c.index_mut-inst.ensures.value in
    let u = c.vertex_wanted-u.result in
    let wanted : IsReady p.plan old → u ≡ wanted_from p.plan old =
    subst (λ (plan : PlanText). IsReady plan old → u ≡ wanted_from plan old) c.deref-2.ensures c.vertex_wanted-u.ensures.wanted in
    let among = subst (λ (plan : PlanText). u < length (plan_numbers plan).vertices) c.deref-2.ensures c.vertex_wanted-u.ensures.within in
    let tail : TailHeld = c.index.result.now in
    let tail_is : tail ≡ tail_of p u = tail_here p c.args.self.now.tails u tail refl c.requires.joint among c.index.ensures in
    let new : InstState = c.act_read.new.inst in
    let answer : ReadsTail p.plan old (tail_of p u) (Ok read_part.AskVault) new =
    subst (λ (t : TailHeld). ReadsTail p.plan old t (Ok read_part.AskVault) new) tail_is
    (subst (λ (plan : PlanText). ReadsTail plan old tail (Ok read_part.AskVault) new) c.deref-3.ensures (subst (λ (part : ReadPart). ReadsTail c.deref-3.result.now old tail (Ok part) new) c.in-AskVault.is c.in-Ok.ensures.answer)) in
    let of_v = (stands_at p v r old c.requires.joint.parts is).vertex in
    subst (λ (plan : PlanText). IsOperator (plan_numbers plan) new.v) (sym c.deref-in-AskVault.ensures)
    (subst (λ (w : ℕ). IsOperator (plan_numbers p.plan) w) (sym (ap (λ (i : InstState). i.v) answer.1 ∙ of_v)) c.requires.operator)

pub act_read_kept-requires-clause-ready : goal.act_read_kept-requires-clause-ready
act_read_kept-requires-clause-ready g c =
    let p : PlantTold = plant_told g.O.Outputs.told g.D.Depot.told c.args.self.now in
    let v = c.args.v in
    let r = c.args.r in
    let z = c.index_mut.result.now in
    let old : InstState = c.index_mut-inst.result.now in
    let insts = c.args.self.now.insts in
    let is = inst_here p insts v r z old refl c.requires.joint c.requires.replica c.index_mut.ensures.value c.index_mut-inst.ensures.value in
    let u = c.vertex_wanted-u.result in
    let wanted : IsReady p.plan old → u ≡ wanted_from p.plan old =
    subst (λ (plan : PlanText). IsReady plan old → u ≡ wanted_from plan old) c.deref-2.ensures c.vertex_wanted-u.ensures.wanted in
    let among = subst (λ (plan : PlanText). u < length (plan_numbers plan).vertices) c.deref-2.ensures c.vertex_wanted-u.ensures.within in
    let tail : TailHeld = c.index.result.now in
    let tail_is : tail ≡ tail_of p u = tail_here p c.args.self.now.tails u tail refl c.requires.joint among c.index.ensures in
    let new : InstState = c.act_read.new.inst in
    let answer : ReadsTail p.plan old (tail_of p u) (Ok read_part.AskVault) new =
    subst (λ (t : TailHeld). ReadsTail p.plan old t (Ok read_part.AskVault) new) tail_is
    (subst (λ (plan : PlanText). ReadsTail plan old tail (Ok read_part.AskVault) new) c.deref-3.ensures (subst (λ (part : ReadPart). ReadsTail c.deref-3.result.now old tail (Ok part) new) c.in-AskVault.is c.in-Ok.ensures.answer)) in
    subst (λ (plan : PlanText). IsReady plan new) (sym c.deref-in-AskVault.ensures)
    (subst (λ (i : InstState). IsReady p.plan i) (sym answer.1) (asker_is_ready (vertex_of p.plan old.v) (inst_numbers old) (tail_of p u).numbers answer.0))

pub act_read_kept-requires-clause-sound : goal.act_read_kept-requires-clause-sound
act_read_kept-requires-clause-sound g c =
    let p : PlantTold = plant_told g.O.Outputs.told g.D.Depot.told c.args.self.now in
    subst (λ (plan : PlanText). Sound plan p.vault) (sym c.deref-in-AskVault.ensures) c.requires.joint.parts.vault

pub returns-in-Did : goal.returns-in-Did
returns-in-Did g c =
    let p : PlantTold = plant_told g.O.Outputs.told g.D.Depot.told c.args.self.now in
    let v = c.args.v in
    let r = c.args.r in
    let z = c.index_mut.result.now in
    let old : InstState = c.index_mut-inst.result.now in
    let insts = c.args.self.now.insts in
    let is = inst_here p insts v r z old refl c.requires.joint c.requires.replica c.index_mut.ensures.value c.index_mut-inst.ensures.value in
    let u = c.vertex_wanted-u.result in
    let wanted : IsReady p.plan old → u ≡ wanted_from p.plan old =
    subst (λ (plan : PlanText). IsReady plan old → u ≡ wanted_from plan old) c.deref-2.ensures c.vertex_wanted-u.ensures.wanted in
    let among = subst (λ (plan : PlanText). u < length (plan_numbers plan).vertices) c.deref-2.ensures c.vertex_wanted-u.ensures.within in
    let tail : TailHeld = c.index.result.now in
    let tail_is : tail ≡ tail_of p u = tail_here p c.args.self.now.tails u tail refl c.requires.joint among c.index.ensures in
    let new : InstState = c.act_read.new.inst in
    let answer : ReadsTail p.plan old (tail_of p u) (Ok (read_part.Did c.in-Did.outcome)) new =
    subst (λ (t : TailHeld). ReadsTail p.plan old t (Ok (read_part.Did c.in-Did.outcome)) new) tail_is
    (subst (λ (plan : PlanText). ReadsTail plan old tail (Ok (read_part.Did c.in-Did.outcome)) new) c.deref-3.ensures (subst (λ (part : ReadPart). ReadsTail c.deref-3.result.now old tail (Ok part) new) c.in-Did.is c.in-Ok.ensures.answer)) in
    let facts : ActFacts p.plan = subst ActFacts c.deref.ensures c.act_facts.ensures in
    subst (λ (xs : List (List InstState)). AppliesJointly p (act.Read v r) (Ok c.in-Did.outcome) (record p { insts = xs }))
    (inst_written p insts v r z new refl c.requires.joint c.requires.replica c.index_mut.ensures.value)
    (tail_applies c.act_laws.ensures p v r u old new c.in-Did.outcome facts c.requires.joint c.requires.replica is c.requires.operator.1 wanted
    (subst (λ (plan : PlanText). IsReplicaOf plan old.v new) c.deref-3.ensures c.in-Ok.ensures.replica) answer)

pub returns-in-AskVault : goal.returns-in-AskVault
returns-in-AskVault g c =
    let p : PlantTold = plant_told g.O.Outputs.told g.D.Depot.told c.args.self.now in
    let v = c.args.v in
    let r = c.args.r in
    let z = c.index_mut.result.now in
    let old : InstState = c.index_mut-inst.result.now in
    let insts = c.args.self.now.insts in
    let is = inst_here p insts v r z old refl c.requires.joint c.requires.replica c.index_mut.ensures.value c.index_mut-inst.ensures.value in
    let u = c.vertex_wanted-u.result in
    let wanted : IsReady p.plan old → u ≡ wanted_from p.plan old =
    subst (λ (plan : PlanText). IsReady plan old → u ≡ wanted_from plan old) c.deref-2.ensures c.vertex_wanted-u.ensures.wanted in
    let among = subst (λ (plan : PlanText). u < length (plan_numbers plan).vertices) c.deref-2.ensures c.vertex_wanted-u.ensures.within in
    let tail : TailHeld = c.index.result.now in
    let tail_is : tail ≡ tail_of p u = tail_here p c.args.self.now.tails u tail refl c.requires.joint among c.index.ensures in
    let new : InstState = c.act_read.new.inst in
    let answer : ReadsTail p.plan old (tail_of p u) (Ok read_part.AskVault) new =
    subst (λ (t : TailHeld). ReadsTail p.plan old t (Ok read_part.AskVault) new) tail_is
    (subst (λ (plan : PlanText). ReadsTail plan old tail (Ok read_part.AskVault) new) c.deref-3.ensures (subst (λ (part : ReadPart). ReadsTail c.deref-3.result.now old tail (Ok part) new) c.in-AskVault.is c.in-Ok.ensures.answer)) in
    let facts : ActFacts p.plan = subst ActFacts c.deref.ensures c.act_facts.ensures in
    let last : InstState = c.act_read_kept.new.inst in
    let result = c.act_read_kept.result in
    let after : VaultTold = vault_told g.O.Outputs.told g.D.Depot.told c.act_read_kept.new.vault in
    let here = c.deref-in-AskVault.ensures in
    subst (λ (xs : List (List InstState)). AppliesJointly p (act.Read v r) result (record p { insts = xs; vault = after }))
    (inst_written p insts v r z last refl c.requires.joint c.requires.replica c.index_mut.ensures.value)
    (kept_applies c.act_laws.ensures p v r u old last after result facts c.requires.joint c.requires.replica is c.requires.operator.1 wanted
    answer.0
    (subst (λ (i : InstState). IsReplicaOf p.plan i.v last) answer.1 (subst (λ (plan : PlanText). IsReplicaOf plan new.v last) here c.act_read_kept.ensures.replica))
    (subst (λ (plan : PlanText). Sound plan after) here c.act_read_kept.ensures.sound)
    (subst (λ (i : InstState). ReadsVault p.plan i p.vault result last after) answer.1
    (subst (λ (plan : PlanText). ReadsVault plan new p.vault result last after) here c.act_read_kept.ensures.answer))
    c.act_read_kept.ensures.asks c.act_read_kept.ensures.outputs)

pub returns-in-Err : goal.returns-in-Err
returns-in-Err g c =
    let p : PlantTold = plant_told g.O.Outputs.told g.D.Depot.told c.args.self.now in
    let v = c.args.v in
    let r = c.args.r in
    let z = c.index_mut.result.now in
    let old : InstState = c.index_mut-inst.result.now in
    let insts = c.args.self.now.insts in
    let is = inst_here p insts v r z old refl c.requires.joint c.requires.replica c.index_mut.ensures.value c.index_mut-inst.ensures.value in
    let u = c.vertex_wanted-u.result in
    let wanted : IsReady p.plan old → u ≡ wanted_from p.plan old =
    subst (λ (plan : PlanText). IsReady plan old → u ≡ wanted_from plan old) c.deref-2.ensures c.vertex_wanted-u.ensures.wanted in
    let among = subst (λ (plan : PlanText). u < length (plan_numbers plan).vertices) c.deref-2.ensures c.vertex_wanted-u.ensures.within in
    let tail : TailHeld = c.index.result.now in
    let tail_is : tail ≡ tail_of p u = tail_here p c.args.self.now.tails u tail refl c.requires.joint among c.index.ensures in
    let new : InstState = c.act_read.new.inst in
    let answer : ReadsTail p.plan old (tail_of p u) (Err c.in-Err.fault) new =
    subst (λ (t : TailHeld). ReadsTail p.plan old t (Err c.in-Err.fault) new) tail_is
    (subst (λ (plan : PlanText). ReadsTail plan old tail (Err c.in-Err.fault) new) c.deref-3.ensures c.in-Err.ensures.answer) in
    let facts : ActFacts p.plan = subst ActFacts c.deref.ensures c.act_facts.ensures in
    subst (λ (xs : List (List InstState)). AppliesJointly p (act.Read v r) (Err c.in-Err.fault) (record p { insts = xs }))
    (inst_written p insts v r z new refl c.requires.joint c.requires.replica c.index_mut.ensures.value)
    (refused_applies c.act_laws.ensures p v r u old new c.in-Err.fault facts c.requires.joint c.requires.replica is c.requires.operator.1 wanted
    (subst (λ (plan : PlanText). IsReplicaOf plan old.v new) c.deref-3.ensures c.in-Err.ensures.replica) answer)
