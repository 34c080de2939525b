-- What the laws say of one plan, gathered for the acts.
use Rattle.std.proofs.Common.{◌<◌, length, sym, ap, ◌∙◌, arith}
use Rattle.ss_acts.specs.Facts.{ActFacts}
use Rattle.ss_acts.specs.Parts.{vertex_of}
use Rattle.ss_frames.specs.Laws.{PlanNumbersAreMeant, WithinIsMayAccept}
use Rattle.ss_frames.specs.Plans.{plan_numbers, policies_of, limits_of, AreOfPlan}
use Rattle.ss_plan.specs.Laws.{VerticesByNumber}
use Rattle.ss_plan.specs.Limit.{IsPlan}
use Rattle.ss_plan.specs.Plan.{PlanText}
use Rattle.ss_vault.specs.Facts.{PlanFacts}
use Rattle.ss_vertex.specs.Inst.{InstState}
use Rattle.ss_vertex.specs.Laws.{InstancesAreNumbered, IsNumbered, SnapshotsFit}
use Rattle.ss_vertex.specs.Standing.{InstStands}
use Rattle.ss_water.specs.Graph.{is_sink}

numbered_at : InstancesAreNumbered → (plan : PlanText) → IsPlan plan → (inst : InstState) → InstStands plan inst
    → IsNumbered plan (vertex_of plan inst.v) inst
unfolding plan_numbers
numbered_at law plan is inst stands = law plan (policies_of plan.job) (limits_of plan.job) inst is stands

pub facts : PlanNumbersAreMeant → VerticesByNumber → WithinIsMayAccept → InstancesAreNumbered → SnapshotsFit → (plan : PlanText)
    → PlanFacts plan → ActFacts plan
facts are_meant by_number within numbered fit plan known =
    let meant : AreOfPlan plan (plan_numbers plan) = are_meant plan known.is in
    let vertices = (by_number plan known.is.job).count in
    let count = meant.count in
    record {
      of_plan = known;
      meant = meant;
      streams = λ v. (
        λ gives.
            let h = gives.0 in
            let here : v < length plan.job.graph = omega (arith, h, vertices) in
            (omega (arith, here, count), ap is_sink (meant.meant v here).kind ∙ gives.1),
        λ stream.
            let h = stream.0 in
            let here : v < length plan.job.graph = omega (arith, h, count) in
            (omega (arith, here, vertices), ap is_sink (sym (meant.meant v here).kind) ∙ stream.1),
      );
      numbered = λ inst stands. numbered_at numbered plan known.is inst stands;
      within = λ v n stream. within plan known.is v n stream;
      snapshots = λ f snapshot. fit plan f known.is snapshot;
    }
