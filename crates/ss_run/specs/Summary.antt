-- The summary of a run: how many lines each sink has put.
use Rattle.std.specs.Prelude.{ℕ, zero, suc, List, [], ◌++◌, length, if◌then◌else◌}
use Rattle.ss_frames.specs.Plans.{plan_numbers}
use Rattle.ss_plan.specs.Plan.{PlanText}
use Rattle.ss_report.specs.StateText.{state_text}
use Rattle.ss_report.specs.declared.state_row.StateRow.TheVariants.{Summary, Done}
use Rattle.ss_state.specs.Numbers.{vertex}
use Rattle.ss_vault.specs.Sound.{stream_put}
use Rattle.ss_water.specs.Graph.{is_sink}

-- the line of vertex k, where it is a sink: the length of the stream that it puts
abbrev pub summary_line : PlanText → ℕ → List ℕ
summary_line plan k =
    if is_sink (vertex (plan_numbers plan) k).kind
    then state_text plan.job.roles (Summary k (length (stream_put plan k))) else []

-- those of the first vertices
abbrev pub summary_lines : PlanText → ℕ → List ℕ
summary_lines plan zero = []
summary_lines plan (suc k) = summary_lines plan k ++ summary_line plan k

abbrev pub summary_text : PlanText → List ℕ
summary_text plan =
    summary_lines plan (length (plan_numbers plan).vertices) ++ state_text plan.job.roles Done
