use Rattle.ss_engine.specs.Told.{plant_told}
use Rattle.ss_engine.proofs.TakenApart.{are_parts}
use Rattle.ss_engine.proofs.plant.Plant.take_apart.Goals as goal

pub returns-clause-stand : goal.returns-clause-stand
returns-clause-stand g c = are_parts (plant_told g.O.Outputs.told g.D.Depot.told c.args.self) c.requires.joint
