use Rattle.std.proofs.Common.{◌∙◌}
use Rattle.std.specs.Map.Iter.{deref_pair}
use Rattle.ss_join.proofs.Keys.{first_tells}
use Rattle.ss_join.proofs.side.Side.has_key.Goals as goal

pub returns : goal.returns
returns c =
    c.is_some.ensures
    ∙ first_tells deref_pair c.of_key.result c.next.new.self c.next.result c.args.key.now c.args.self.now c.of_key.ensures.rows c.next.ensures.steps
