use Rattle.std.proofs.Common.{ℕ, ◌<◌, ◌≤◌}
use Rattle.std.specs.Prelude.{slice_index_or}
use Rattle.ss_meaning.specs.Session.{SessionEntry, closing}
use Rattle.ss_session.proofs.session.soonest.Given as goal

abbrev pub invariant-loop-entry : goal.invariant-loop-entry
invariant-loop-entry l = (k : ℕ) (d : SessionEntry) → k < l.entry-index → l.least ≤ closing l.gap (slice_index_or l.entries k d)
