use Rattle.std.proofs.Common.{refl}
use Rattle.ss_join.specs.Held.{in_order}
use Rattle.ss_join.proofs.side.Side.new.Goals as goal

pub returns : goal.returns
unfolding in_order
returns c = refl
