-- The streams so far hold what the next vertex reads.
use Rattle.std.proofs.Common.{◌≡◌, ℕ, ◌<◌, List, Vec, Global, length, sym, ap, ◌∙◌, subst, arith}
use Rattle.ss_elem.specs.declared.element.Element.{Element}
use Rattle.ss_job.specs.JobText.{JobText}
use Rattle.ss_plan.specs.Plan.{lists_of, vertices_of}
use Rattle.ss_plan.specs.Streams.{HoldInputs}
use Rattle.ss_plan.proofs.Everything.{earlier_in}
use Rattle.ss_plan.proofs.Keeping.{hold_inputs}
use Rattle.ss_plan.proofs.streams.streams_wanted.Goals as goal

pub stream_if-requires-clause-inputs : goal.stream_if-requires-clause-inputs
stream_if-requires-clause-inputs c e =
    let inside : c.loop-v.v < length c.args.plan.now.job.graph =
    omega (
      arith,
      c.loop-v-test.true,
      c.count-v-end.ensures.count,
      ap length c.graph.ensures.graph,
      ap (λ (job : JobText). length job.graph) c.job-job.ensures.job,
    ) in
    let earlier = earlier_in c.args.plan.now c.job-job.result.now c.loop-v.v c.job-job.ensures.job c.graph.ensures.sound c.job-job.ensures.lists inside in
    let held = hold_inputs (vertices_of c.args.plan.now) c.args.wanted.now c.loop-v.v (lists_of c.loop-v.streams.items) earlier c.requires.closed
    c.loop-v.invariant.right e in
    subst (λ (streams : List (Vec Element Global)). HoldInputs (vertices_of c.args.plan.now) c.loop-v.v (lists_of streams)) (sym c.as_slice.ensures.value) held
