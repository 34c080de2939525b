use Rattle.ss_engine.specs.Told.{PlantTold, plant_told, state_of}
use Rattle.ss_play.proofs.VertexLines.{lines_more}
use Rattle.ss_play.proofs.reporting.put_vertices.Goals as goal

pub loop-v-preserved : goal.loop-v-preserved
loop-v-preserved g c =
    let p : PlantTold = plant_told g.O.Outputs.told g.D.Depot.told c.args.plant.now in
    lines_more p.plan (state_of p) c.loop-v.v c.args.out.now.items c.loop-v.out.items _ c.loop-v.invariant c.in_ok-put_vertex.ensures
