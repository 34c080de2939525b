use Rattle.std.proofs.Common.{◌≡◌, ◌∙◌, ◌<◌, ◌^◌, Some, None, List, length, ap, sym, subst, arith}
use Rattle.std.specs.Prelude.{slice_get}
use Rattle.ss_codec.specs.Frame.{IsFrame, frame_bytes}
use Rattle.ss_codec.specs.declared.frame.Frame.{Frame}
use Rattle.ss_job.specs.JobText.{JobText, spec_of}
use Rattle.ss_water.specs.declared.node.Node.{Node}
use Rattle.ss_vault.proofs.Firsts.{IsFirstOf, is_first_of, keeps_first, keeps_memory, keeps_none, no_operator, stored_first}
use Rattle.ss_vault.proofs.starting.keep_first_frame.Goals as goal

pub spec-requires : goal.spec-requires
spec-requires g c =
    let here = c.requires.vertex in
    let count = c.plan_facts.ensures.count in
    let texts = c.plan_facts.ensures.is.job.vertices in
    let same : length c.job-job.result.now.vertices ≡ length c.args.plan.now.job.vertices = ap (λ (j : JobText). length j.vertices) c.job-job.ensures.job in
    omega (arith, here, count, texts, same)

pub node-requires : goal.node-requires
node-requires g c =
    let here = c.requires.vertex in
    let count = c.plan_facts.ensures.count in
    let graph : c.graph-graph.result.now ≡ c.args.plan.now.job.graph = c.graph-graph.ensures.graph ∙ ap (λ (j : JobText). j.graph) c.job-job.ensures.job in
    let same : length c.graph-graph.result.now ≡ length c.args.plan.now.job.graph = ap (λ (nodes : List Node). length nodes) graph in
    omega (arith, here, count, same)

pub keep_frame-requires-clause-vertex : goal.keep_frame-requires-clause-vertex
keep_frame-requires-clause-vertex g c =
    let plan = c.args.plan.now in
    let job : c.job-job.result.now ≡ plan.job = c.job-job.ensures.job in
    let graph : c.graph-graph.result.now ≡ plan.job.graph = c.graph-graph.ensures.graph ∙ ap (λ (j : JobText). j.graph) job in
    let has : spec_of plan.job c.args.v ≡ Some c.in-Some.spec.now = ap (λ (j : JobText). spec_of j c.args.v) (sym job) ∙ sym c.in-Some.ensures in
    let at : slice_get plan.job.graph c.args.v ≡ Some c.node.result = ap (λ (nodes : List Node). slice_get nodes c.args.v) (sym graph) ∙ c.node.ensures.node in
    let first : IsFirstOf plan c.args.v c.in-Ok.f =
    is_first_of plan c.plan_facts.ensures c.snapshot_facts.ensures c.args.v c.in-Some.spec.now c.node.result c.in-Ok.f has at c.in-Ok.ensures in
    let few = c.plan_facts.ensures.few in
    let inside = first.operator.0 in
    let v_is : c.in-Ok.f.v ≡ c.args.v = ap (λ (f : Frame). f.v) first.is ∙ first.coded.of_vertex in
    omega (arith, few, inside, v_is)

pub keep_frame-requires-clause-frame : goal.keep_frame-requires-clause-frame
keep_frame-requires-clause-frame g c =
    let plan = c.args.plan.now in
    let job : c.job-job.result.now ≡ plan.job = c.job-job.ensures.job in
    let graph : c.graph-graph.result.now ≡ plan.job.graph = c.graph-graph.ensures.graph ∙ ap (λ (j : JobText). j.graph) job in
    let has : spec_of plan.job c.args.v ≡ Some c.in-Some.spec.now = ap (λ (j : JobText). spec_of j c.args.v) (sym job) ∙ sym c.in-Some.ensures in
    let at : slice_get plan.job.graph c.args.v ≡ Some c.node.result = ap (λ (nodes : List Node). slice_get nodes c.args.v) (sym graph) ∙ c.node.ensures.node in
    let first : IsFirstOf plan c.args.v c.in-Ok.f =
    is_first_of plan c.plan_facts.ensures c.snapshot_facts.ensures c.args.v c.in-Some.spec.now c.node.result c.in-Ok.f has at c.in-Ok.ensures in
    subst IsFrame (sym first.is) first.coded.is_frame

pub keep_frame-requires-clause-few : goal.keep_frame-requires-clause-few
keep_frame-requires-clause-few g c =
    let plan = c.args.plan.now in
    let job : c.job-job.result.now ≡ plan.job = c.job-job.ensures.job in
    let graph : c.graph-graph.result.now ≡ plan.job.graph = c.graph-graph.ensures.graph ∙ ap (λ (j : JobText). j.graph) job in
    let has : spec_of plan.job c.args.v ≡ Some c.in-Some.spec.now = ap (λ (j : JobText). spec_of j c.args.v) (sym job) ∙ sym c.in-Some.ensures in
    let at : slice_get plan.job.graph c.args.v ≡ Some c.node.result = ap (λ (nodes : List Node). slice_get nodes c.args.v) (sym graph) ∙ c.node.ensures.node in
    let first : IsFirstOf plan c.args.v c.in-Ok.f =
    is_first_of plan c.plan_facts.ensures c.snapshot_facts.ensures c.args.v c.in-Some.spec.now c.node.result c.in-Ok.f has at c.in-Ok.ensures in
    subst (λ (f : Frame). length (frame_bytes f) < 2 ^ 32) (sym first.is) first.coded.few

pub returns-in-None : goal.returns-in-None
returns-in-None g c =
    let plan = c.args.plan.now in
    let none : spec_of plan.job c.args.v ≡ None = ap (λ (j : JobText). spec_of j c.args.v) (sym c.job-job.ensures.job) ∙ sym c.in-None.ensures in
    keeps_none plan c.args.v (g.D.Depot.told c.args.depot.now) (no_operator plan c.plan_facts.ensures c.args.v c.requires.vertex none) c.requires.holds

pub returns-in-Ok : goal.returns-in-Ok
returns-in-Ok g c =
    let plan = c.args.plan.now in
    let job : c.job-job.result.now ≡ plan.job = c.job-job.ensures.job in
    let graph : c.graph-graph.result.now ≡ plan.job.graph = c.graph-graph.ensures.graph ∙ ap (λ (j : JobText). j.graph) job in
    let has : spec_of plan.job c.args.v ≡ Some c.in-Some.spec.now = ap (λ (j : JobText). spec_of j c.args.v) (sym job) ∙ sym c.in-Some.ensures in
    let at : slice_get plan.job.graph c.args.v ≡ Some c.node.result = ap (λ (nodes : List Node). slice_get nodes c.args.v) (sym graph) ∙ c.node.ensures.node in
    let first : IsFirstOf plan c.args.v c.in-Ok.f =
    is_first_of plan c.plan_facts.ensures c.snapshot_facts.ensures c.args.v c.in-Some.spec.now c.node.result c.in-Ok.f has at c.in-Ok.ensures in
    let old = g.D.Depot.told c.args.depot.now in
    let new = g.D.Depot.told c.keep_frame.new.depot in
    keeps_first plan c.args.v c.in-Ok.f old new c.keep_frame.result first c.requires.holds (stored_first plan c.args.v c.in-Ok.f old new c.keep_frame.result first c.keep_frame.ensures)

pub returns-in-Err : goal.returns-in-Err
returns-in-Err g c = keeps_memory c.args.plan.now c.args.v (g.D.Depot.told c.args.depot.now) c.requires.holds
