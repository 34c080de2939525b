-- What is given over the elements so far, and the bounds that they leave.
use Rattle.std.proofs.Common.{◌≡◌, take}
use Rattle.ss_expr.specs.Operators.{operator_of}
use Rattle.ss_meaning.specs.Emit.{output}
use Rattle.ss_meaning.specs.Inputs.{bounds}
use Rattle.ss_plan.proofs.operating.row_by_row_output.Given as goal

abbrev pub invariant-loop-x : goal.invariant-loop-x
invariant-loop-x l = record {
  given : l.list.items ≡ output (operator_of l.spec) l.width (take l.x-index l.arrived);
  bounds : l.bounds ≡ bounds l.width (take l.x-index l.arrived);
}
