-- The bytes that are held are given as the call is listed.
use Rattle.ss_outside.specs.MemDepot.{contents_held}
use Rattle.ss_outside.specs.declared.depot_calls.DepotCall.TheVariants.{Load}
use Rattle.ss_outside.proofs.Depots.{gives_as_listed}
use Rattle.ss_outside.proofs.mem_depot.MemDepotDepot.load.Goals as goal

pub returns-clause-loads : goal.returns-clause-loads
returns-clause-loads c =
    let given = c.give.ensures in
    gives_as_listed (contents_held c.args.self.now) c.args.self.now.calls c.give.new.self Load
    ((contents_held c.args.self.now).frames c.args.v c.args.n) c.frame_of-bytes.result.now c.args.out.now.items c.give.new.out.items
    c.give.result c.requires.held c.frame_of-bytes.ensures given.calls given.rising_faults given.rising_shorts given.given given.kept
