use Rattle.std.proofs.Common.{◌+◌}
use Rattle.ss_frames.specs.Within.{IsWithin}
use Rattle.ss_vertex.specs.Kept.{n_kept}
use Rattle.ss_vertex.proofs.Executing.{on_ok, source_accepts}
use Rattle.ss_vertex.proofs.work.Work.accept.Goals as goal

pub returns-in-Some-clause-within : goal.returns-in-Some-clause-within
returns-in-Some-clause-within c =
    on_ok c.list_next.result (IsWithin c.args.plan.now c.args.v (n_kept c.args.self.now + 1))
    (source_accepts c.laws_of_vertices.ensures c.args.plan.now c.max_elements.ensures.plan c.args.v c.args.next c.args.self.now
    c.args.x.now c.requires.works c.in-Listing.len c.in-Some.n c.in-Listing.n c.in-Listing.is c.in-Some.is c.requires.wanted)
