-- The lines of one vertex, by the parts of a running job that they tell of.
use Rattle.std.specs.Prelude.{ℕ, List, ◌++◌, map}
use Rattle.ss_fail.specs.declared.role.Role.{Role}
use Rattle.ss_plan.specs.Plan.{PlanText}
use Rattle.ss_report.specs.StateText.{stream_text, mark_text, snaps_line_end}
use Rattle.ss_state.specs.State.{LedgerRow, TailNumbers}
use Rattle.ss_vault.specs.Sound.{snap_at}

-- what is stored of vertex v, and what its tail shows
abbrev pub row_text : List Role → ℕ → LedgerRow → TailNumbers → List ℕ
row_text roles v row tail = stream_text roles v row.base row.dur tail.from tail.end tail.torn

-- of a source, with its mark
abbrev pub source_text : List Role → ℕ → LedgerRow → TailNumbers → List ℕ
source_text roles v row tail = row_text roles v row tail ++ mark_text row.mark

-- of an operator, with its snapshots
abbrev pub inner_text : PlanText → ℕ → LedgerRow → TailNumbers → List ℕ
inner_text plan v row tail =
    row_text plan.job.roles v row tail ++ snaps_line_end (map (snap_at plan v) row.snaps)
