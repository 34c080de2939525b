-- The loop that reads the vertices.
use Rattle.std.proofs.Common.{◌≡◌, ℕ, ◌+◌, ◌<◌, ◌≤◌, List, length, drop, get_or, drop_of_length-le, Ok}
use Rattle.toml.proofs.Views.{items_view-drop}
use Rattle.toml.specs.View.{view, items_view}
use Rattle.toml.specs.declared.value.Value.{Value}
use Rattle.ss_job.specs.Answers.{IsFaultOfDocument}
use Rattle.ss_job.specs.Reading.{draft_at, drafts_after}
use Rattle.ss_job.specs.Vertices.{DraftText}
use Rattle.ss_job.specs.declared.fault.JobsFault.{JobsFault}
use Rattle.ss_job.specs.declared.fault.JobsFault.TheVariants.{At, Memory}

-- one vertex more
pub drafts-more : (draft next : DraftText) (values : List Value) (v : ℕ) (value : Value) → v < length values → get_or values v value ≡ value → draft_at v draft (view value) ≡ Ok next
    → drafts_after v draft (items_view (drop v values)) ≡ drafts_after (v + 1) next (items_view (drop (v + 1) values))
unfolding drafts_after
drafts-more draft next values v value within here read = rw (items_view-drop values v value within, here, read)

-- a vertex that is at fault
pub drafts-stop : (draft : DraftText) (values : List Value) (v : ℕ) (value : Value) (fault : JobsFault) → v < length values → get_or values v value ≡ value → IsFaultOfDocument fault (draft_at v draft (view value))
    → IsFaultOfDocument fault (drafts_after v draft (items_view (drop v values)))
unfolding drafts_after
drafts-stop draft values v value (At fault) within here failed = rw (items_view-drop values v value within, here, failed)
drafts-stop draft values v value Memory within here failed = tt

-- no more vertices
pub drafts-end : (draft : DraftText) (values : List Value) (v : ℕ) → length values ≤ v → drafts_after v draft (items_view (drop v values)) ≡ Ok draft
unfolding drafts_after
drafts-end draft values v past = rw (drop_of_length-le values past)
