-- What the outside tells at one moment.
use Rattle.ss_outside.specs.Depot.{DepotTold}
use Rattle.ss_outside.specs.Told.{InputsTold, OutputsTold}
use Rattle.ss_command.specs.declared.outside.Outside.{Outside}

pub record Seen : Type 0 where
  pub inputs : InputsTold
  pub outputs : OutputsTold
  pub depot : DepotTold

abbrev pub seen :
    {I O D : Type 0} → (I → InputsTold) → (O → OutputsTold) → (D → DepotTold) → Outside I O D → Seen
seen inputs_told outputs_told depot_told outside = record {
  inputs = inputs_told outside.inputs;
  outputs = outputs_told outside.outputs;
  depot = depot_told outside.depot;
}
