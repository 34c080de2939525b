use Rattle.std.proofs.Common.{refl, subst, sym}
use Rattle.std.specs.Prelude.{is_ok}
use Rattle.ss_acts.specs.Calls.{Snaps}
use Rattle.ss_acts.specs.Leaves.{AsksVault}
use Rattle.ss_acts.specs.Readings.{must_keep}
use Rattle.ss_plan.specs.Plan.{PlanText}
use Rattle.ss_vault.specs.Sound.{Sound}
use Rattle.ss_vault.specs.Told.{VaultTold, vault_told}
use Rattle.ss_vertex.specs.Inst.{InstState}
use Rattle.ss_vertex.specs.Standing.{InstStands}
use Rattle.ss_engine.specs.Told.{PlantTold, plant_told}
use Rattle.ss_engine.proofs.Acts.{snap_applies}
use Rattle.ss_engine.proofs.Parts.{stands_at}
use Rattle.ss_engine.proofs.Places.{v_within, r_within, inst_here}
use Rattle.ss_engine.proofs.plant.Plant.snap.Goals as goal

pub index-requires : goal.index-requires
index-requires g c =
    let p : PlantTold = plant_told g.O.Outputs.told g.D.Depot.told c.args.self.now in
    v_within p c.args.self.now.insts c.args.v refl c.requires.joint c.requires.replica.0.0

pub index-inst-requires : goal.index-inst-requires
index-inst-requires g c =
    let p : PlantTold = plant_told g.O.Outputs.told g.D.Depot.told c.args.self.now in
    r_within p c.args.self.now.insts c.args.v c.args.r c.index.result.now refl c.requires.joint c.requires.replica c.index.ensures

pub act_snap-requires-clause-stands : goal.act_snap-requires-clause-stands
act_snap-requires-clause-stands g c =
    let p : PlantTold = plant_told g.O.Outputs.told g.D.Depot.told c.args.self.now in
    let v = c.args.v in
    let r = c.args.r in
    let z = c.index.result.now in
    let old : InstState = c.index-inst.result.now in
    let insts = c.args.self.now.insts in
    let is = inst_here p insts v r z old refl c.requires.joint c.requires.replica c.index.ensures c.index-inst.ensures in
    subst (λ (plan : PlanText). InstStands plan old) (sym c.deref.ensures) (stands_at p v r old c.requires.joint.parts is).stands

pub act_snap-requires-clause-sound : goal.act_snap-requires-clause-sound
act_snap-requires-clause-sound g c =
    let p : PlantTold = plant_told g.O.Outputs.told g.D.Depot.told c.args.self.now in
    subst (λ (plan : PlanText). Sound plan p.vault) (sym c.deref.ensures) c.requires.joint.parts.vault

pub returns : goal.returns
returns g c =
    let p : PlantTold = plant_told g.O.Outputs.told g.D.Depot.told c.args.self.now in
    let v = c.args.v in
    let r = c.args.r in
    let z = c.index.result.now in
    let old : InstState = c.index-inst.result.now in
    let insts = c.args.self.now.insts in
    let is = inst_here p insts v r z old refl c.requires.joint c.requires.replica c.index.ensures c.index-inst.ensures in
    let u : VaultTold = vault_told g.O.Outputs.told g.D.Depot.told c.act_snap.new.vault in
    let result = c.act_snap.result in
    snap_applies c.act_laws.ensures p v r old u result c.requires.joint c.requires.replica is
    (subst (λ (plan : PlanText). Sound plan u) c.deref.ensures c.act_snap.ensures.sound)
    (subst (λ (plan : PlanText). Snaps plan old p.vault result u) c.deref.ensures c.act_snap.ensures.answer)
    (subst (λ (plan : PlanText). AsksVault (must_keep plan old) p.vault (is_ok result) u) c.deref.ensures c.act_snap.ensures.asks)
    c.act_snap.ensures.outputs
