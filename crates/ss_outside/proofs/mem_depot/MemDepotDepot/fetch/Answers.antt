-- The bytes that are held are given as the call is listed.
use Rattle.std.proofs.Common.{arith}
use Rattle.std.proofs.lemmas.Bool.Decides.{nat_tests}
use Rattle.ss_outside.specs.Depot.{record_at}
use Rattle.ss_outside.specs.MemDepot.{contents_held}
use Rattle.ss_outside.specs.declared.depot_calls.DepotCall.TheVariants.{Fetch}
use Rattle.ss_outside.proofs.Depots.{gives_as_listed}
use Rattle.ss_outside.proofs.mem_depot.MemDepotDepot.fetch.Goals as goal

pub returns-clause-fetches : goal.returns-clause-fetches
returns-clause-fetches c =
    let given = c.give.ensures in
    gives_as_listed (contents_held c.args.self.now) c.args.self.now.calls c.give.new.self Fetch
    (record_at (contents_held c.args.self.now) c.args.v c.args.n) c.record_of-bytes.result.now c.args.out.now.items c.give.new.out.items
    c.give.result c.requires.held (grind (arith, nat_tests, c.record_of-bytes.ensures)) given.calls given.rising_faults given.rising_shorts given.given given.kept
