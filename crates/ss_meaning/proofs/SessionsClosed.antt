-- The sessions that close between two times.
use Rattle.std.proofs.Common.{◌&&◌, nat_lt, nat_le, length, filter, ap, ◌∙◌}
use Rattle.ss_meaning.specs.Session.{closing}
use Rattle.ss_meaning.specs.SessionRows.{closes_between, ClosedAreByTime, ClosedAreCounted}
use Rattle.ss_meaning.proofs.ByTime.{by_ends, length-by_time}

pub closed_are_by_time : ClosedAreByTime
closed_are_by_time gap entries before after = by_ends (closing gap) (λ time. nat_lt before time && nat_le time after) entries

pub closed_are_counted : ClosedAreCounted
closed_are_counted gap entries before after =
    ap length (closed_are_by_time gap entries before after)
    ∙ length-by_time (closing gap) (filter (closes_between gap before after) entries)
