use Rattle.ss_join.proofs.Holding.{none_held, none_listed}
use Rattle.ss_join.proofs.side.Side.of_rows.Goals as goal

pub loop-number-init : goal.loop-number-init
loop-number-init c = record {
  held = none_held c.new-rows.result c.new-ends.result c.new-rows.ensures.empty c.new-ends.ensures.empty c.new-rows.ensures.ordered c.new-ends.ensures.ordered;
  rows = none_listed c.new-rows.result;
}
