use Rattle.std.proofs.Common.{rules}
use Rattle.std.proofs.lemmas.List.Sorted.{IsPartitionPoint-from_clause}
use Rattle.ss_meaning.specs.Session.{SessionEntry}
use Rattle.ss_meaning.specs.SessionLists.{is_apart}
use Rattle.ss_session.proofs.SessionPlaces.{prefix_is, partitioned}
use Rattle.ss_session.proofs.session_puts.place.Goals as goal

pub returns-clause-place : goal.returns-clause-place
returns-clause-place c =
    let es = c.args.entries.now in
    let test = λ (e : SessionEntry). is_apart c.args.gap e c.args.session.now in
    prefix_is test es c.partition_point.result c.partition_point.ensures.bound
    (IsPartitionPoint-from_clause test es c.partition_point.result c.partition_point.ensures.partitioned
    (partitioned c.args.gap c.args.session.now es c.requires.apart c.requires.times) (λ a r f' k. search rules))
