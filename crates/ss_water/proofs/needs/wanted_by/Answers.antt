use Rattle.std.proofs.Common.{◌≡◌, arith, length}
use Rattle.ss_water.proofs.Reading.{node_least, node_some}
use Rattle.ss_water.proofs.needs.wanted_by.Goals as goal

pub returns-clause-least : goal.returns-clause-least
returns-clause-least c =
    node_least c.args.node.now c.args.snaps.now c.args.dur c.args.taken c.args.j c.wanted.result c.least_read.result c.requires.width c.wanted.ensures c.least_read.ensures

pub returns-clause-some : goal.returns-clause-some
returns-clause-some c =
    let eight : length c.args.node.now.inputs ≡ 8 = omega arith in
    node_some c.args.node.now c.wanted.result c.args.j c.least_read.result eight c.requires.width c.least_read.ensures
