use Rattle.std.proofs.Common.{◌≡◌, refl, subst, sym}
use Rattle.ss_acts.specs.Leaves.{LeavesTail}
use Rattle.ss_state.specs.Acts.{lose_act}
use Rattle.ss_tail.specs.Held.{Stands, TailHeld}
use Rattle.ss_engine.specs.Told.{PlantTold, plant_told, tail_of}
use Rattle.ss_engine.proofs.Acts.{lose_applies}
use Rattle.ss_engine.proofs.Places.{t_within, tail_here}
use Rattle.ss_engine.proofs.plant.Plant.lose.Goals as goal

pub index_mut-requires : goal.index_mut-requires
index_mut-requires g c =
    let p : PlantTold = plant_told g.O.Outputs.told g.D.Depot.told c.args.self.now in
    t_within p c.args.self.now.tails c.args.v refl c.requires.joint c.requires.stream.0

pub returns : goal.returns
returns g c =
    let p : PlantTold = plant_told g.O.Outputs.told g.D.Depot.told c.args.self.now in
    let v = c.args.v in
    let tail : TailHeld = c.index_mut.result.now in
    let is : tail ≡ tail_of p v = tail_here p c.args.self.now.tails v tail refl c.requires.joint c.requires.stream.0 c.index_mut.ensures.value in
    lose_applies c.act_laws.ensures p v c.act_lose.new.tail c.act_lose.result c.requires.joint c.requires.stream
    (λ list most stood. c.act_lose.ensures.stands list most (subst (λ (t : TailHeld). Stands list most t) (sym is) stood))
    (subst (λ (t : TailHeld). LeavesTail (lose_act t.numbers) c.act_lose.new.tail c.act_lose.result) is c.act_lose.ensures.answer)
