use Rattle.std.proofs.Common.{◌≡◌, length, drop}
use Rattle.toml.specs.View.{items_view}
use Rattle.ss_job.specs.Reading.{drafts_after}
use Rattle.ss_job.specs.Vertices.{empty_draft}
use Rattle.ss_job.proofs.reader.drafts_of.Given as goal

abbrev pub invariant-loop-v : goal.invariant-loop-v
invariant-loop-v l = record {
  read : drafts_after l.v l.draft (items_view (drop l.v l.array.items)) ≡ drafts_after 0 empty_draft (items_view l.array.items);
  count : length l.draft.nodes ≡ l.v;
}
