-- The stream by what the vertex is.
use Rattle.std.proofs.Common.{◌≡◌, ℕ, ◌<◌, ◌≤◌, List, [], Vec, Global, Some, length, get_or, map, refl, sym, ap, ◌∙◌, subst, arith, IfOk}
use Rattle.std.proofs.lemmas.List.{length-map}
use Rattle.std.proofs.lemmas.Result.{IfOk-weaker}
use Rattle.ss_elem.specs.declared.element.Element.{Element}
use Rattle.ss_job.specs.JobText.{JobText, op_of, spec_of}
use Rattle.ss_job.specs.declared.op.Op.TheVariants as op
use Rattle.ss_expr.specs.Operators.{operator_of}
use Rattle.ss_meaning.specs.Emit.{output}
use Rattle.ss_meaning.specs.Meaning.{meaning, streams_at}
use Rattle.ss_meaning.specs.Merge.{merge}
use Rattle.ss_plan.specs.Plan.{inputs_read, lists_of, vertices_of, source_list}
use Rattle.ss_plan.proofs.Gathering.{found}
use Rattle.ss_plan.proofs.Reading.{stands_from, operates, inputs_within, inputs_arrive, operator_meaning, source_meaning, sink_meaning}
use Rattle.ss_plan.proofs.stream.stream_of.Goals as goal

pub operator_stream-requires-clause-computable : goal.operator_stream-requires-clause-computable
operator_stream-requires-clause-computable c =
    let stands = stands_from c.args.plan.now c.job-job.result.now c.graph.result.now c.args.v c.node-node.result c.job-job.ensures.job
    c.graph.ensures.sound c.job-job.ensures.lists c.requires.vertex c.graph.ensures.graph c.node-node.ensures.node
    c.meaning_is_made_of_the_inputs.ensures c.meaning_is_whole.ensures in
    let spec = c.in-Some.ensures ∙ ap (λ (job : JobText). spec_of job c.args.v) c.job-job.ensures.job in
    (operates c.args.plan.now c.args.v c.node-node.result c.in-Some.spec.now stands spec).computable

pub operator_stream-requires-clause-takes : goal.operator_stream-requires-clause-takes
operator_stream-requires-clause-takes c =
    let stands = stands_from c.args.plan.now c.job-job.result.now c.graph.result.now c.args.v c.node-node.result c.job-job.ensures.job
    c.graph.ensures.sound c.job-job.ensures.lists c.requires.vertex c.graph.ensures.graph c.node-node.ensures.node
    c.meaning_is_made_of_the_inputs.ensures c.meaning_is_whole.ensures in
    let spec = c.in-Some.ensures ∙ ap (λ (job : JobText). spec_of job c.args.v) c.job-job.ensures.job in
    (operates c.args.plan.now c.args.v c.node-node.result c.in-Some.spec.now stands spec).takes

pub operator_stream-requires-clause-some : goal.operator_stream-requires-clause-some
operator_stream-requires-clause-some c =
    let stands = stands_from c.args.plan.now c.job-job.result.now c.graph.result.now c.args.v c.node-node.result c.job-job.ensures.job
    c.graph.ensures.sound c.job-job.ensures.lists c.requires.vertex c.graph.ensures.graph c.node-node.ensures.node
    c.meaning_is_made_of_the_inputs.ensures c.meaning_is_whole.ensures in
    let spec = c.in-Some.ensures ∙ ap (λ (job : JobText). spec_of job c.args.v) c.job-job.ensures.job in
    (operates c.args.plan.now c.args.v c.node-node.result c.in-Some.spec.now stands spec).some

pub operator_stream-requires-clause-inputs : goal.operator_stream-requires-clause-inputs
operator_stream-requires-clause-inputs c =
    let stands = stands_from c.args.plan.now c.job-job.result.now c.graph.result.now c.args.v c.node-node.result c.job-job.ensures.job
    c.graph.ensures.sound c.job-job.ensures.lists c.requires.vertex c.graph.ensures.graph c.node-node.ensures.node
    c.meaning_is_made_of_the_inputs.ensures c.meaning_is_whole.ensures in
    let spec = c.in-Some.ensures ∙ ap (λ (job : JobText). spec_of job c.args.v) c.job-job.ensures.job in
    inputs_within c.args.plan.now c.args.v c.node-node.result c.in-Some.spec.now (length c.args.streams.now) stands spec c.requires.before

pub operator_stream-requires-clause-arrive : goal.operator_stream-requires-clause-arrive
operator_stream-requires-clause-arrive c =
    let stands = stands_from c.args.plan.now c.job-job.result.now c.graph.result.now c.args.v c.node-node.result c.job-job.ensures.job
    c.graph.ensures.sound c.job-job.ensures.lists c.requires.vertex c.graph.ensures.graph c.node-node.ensures.node
    c.meaning_is_made_of_the_inputs.ensures c.meaning_is_whole.ensures in
    let spec = c.in-Some.ensures ∙ ap (λ (job : JobText). spec_of job c.args.v) c.job-job.ensures.job in
    inputs_arrive c.args.plan.now c.args.v c.node-node.result c.in-Some.spec.now (lists_of c.args.streams.now) stands spec c.requires.inputs

pub bounds-streams-input : goal.bounds-streams-input
bounds-streams-input c =
    let stands = stands_from c.args.plan.now c.job-job.result.now c.graph.result.now c.args.v c.node-node.result c.job-job.ensures.job
    c.graph.ensures.sound c.job-job.ensures.lists c.requires.vertex c.graph.ensures.graph c.node-node.ensures.node
    c.meaning_is_made_of_the_inputs.ensures c.meaning_is_whole.ensures in
    let none = c.in-None.ensures ∙ ap (λ (job : JobText). spec_of job c.args.v) c.job-job.ensures.job in
    let other : op_of c.args.plan.now.job c.args.v ≡ Some op.Source → ⊥ =
    λ e. c.if-is_source.ensures.other refl (ap (λ (job : JobText). op_of job c.args.v) c.job-job.ensures.job ∙ e) in
    let both = sink_meaning c.args.plan.now c.args.v c.node-node.result (lists_of c.args.streams.now) stands none other c.requires.inputs in
    let low = both.1 in
    let enough = c.requires.before in
    omega arith

pub returns-in-Some : goal.returns-in-Some
returns-in-Some c =
    let stands = stands_from c.args.plan.now c.job-job.result.now c.graph.result.now c.args.v c.node-node.result c.job-job.ensures.job
    c.graph.ensures.sound c.job-job.ensures.lists c.requires.vertex c.graph.ensures.graph c.node-node.ensures.node
    c.meaning_is_made_of_the_inputs.ensures c.meaning_is_whole.ensures in
    let spec = c.in-Some.ensures ∙ ap (λ (job : JobText). spec_of job c.args.v) c.job-job.ensures.job in
    let node = c.node-node.result in
    let kind = operator_of c.in-Some.spec.now in
    let given = output kind (length (inputs_read node)) (merge (streams_at (lists_of c.args.streams.now) (inputs_read node))) in
    IfOk-weaker c.operator_stream.result
    (λ (list : Vec Element Global). list.items ≡ given)
    (λ (list : Vec Element Global). list.items ≡ meaning (vertices_of c.args.plan.now) c.args.v)
    (λ list e. e ∙ operator_meaning c.args.plan.now c.args.v node c.in-Some.spec.now (lists_of c.args.streams.now) stands spec c.requires.inputs)
    c.operator_stream.ensures

pub returns-then-is_source : goal.returns-then-is_source
returns-then-is_source c =
    let stands = stands_from c.args.plan.now c.job-job.result.now c.graph.result.now c.args.v c.node-node.result c.job-job.ensures.job
    c.graph.ensures.sound c.job-job.ensures.lists c.requires.vertex c.graph.ensures.graph c.node-node.ensures.node
    c.meaning_is_made_of_the_inputs.ensures c.meaning_is_whole.ensures in
    let source : op_of c.args.plan.now.job c.args.v ≡ Some op.Source =
    sym (ap (λ (job : JobText). op_of job c.args.v) c.job-job.ensures.job) ∙ c.if-is_source.ensures.source refl in
    IfOk-weaker c.from_slice.result
    (λ (list : Vec Element Global). list.items ≡ c.source.result.now)
    (λ (list : Vec Element Global). list.items ≡ meaning (vertices_of c.args.plan.now) c.args.v)
    (λ list e. e ∙ c.source.ensures ∙ source_meaning c.args.plan.now c.args.v c.node-node.result stands source)
    c.from_slice.ensures.items

pub returns-else-is_source : goal.returns-else-is_source
returns-else-is_source c =
    let stands = stands_from c.args.plan.now c.job-job.result.now c.graph.result.now c.args.v c.node-node.result c.job-job.ensures.job
    c.graph.ensures.sound c.job-job.ensures.lists c.requires.vertex c.graph.ensures.graph c.node-node.ensures.node
    c.meaning_is_made_of_the_inputs.ensures c.meaning_is_whole.ensures in
    let none = c.in-None.ensures ∙ ap (λ (job : JobText). spec_of job c.args.v) c.job-job.ensures.job in
    let other : op_of c.args.plan.now.job c.args.v ≡ Some op.Source → ⊥ =
    λ e. c.if-is_source.ensures.other refl (ap (λ (job : JobText). op_of job c.args.v) c.job-job.ensures.job ∙ e) in
    let both = sink_meaning c.args.plan.now c.args.v c.node-node.result (lists_of c.args.streams.now) stands none other c.requires.inputs in
    let input = get_or c.node-node.result.inputs 0 0 in
    let enough = c.requires.before in
    let low : input < c.args.v = both.1 in
    let within : input < length c.args.streams.now = omega arith in
    let read = found c.args.streams.now input c.index-streams-input.result within c.index-streams-input.is in
    IfOk-weaker c.from_slice-else-is_source.result
    (λ (list : Vec Element Global). list.items ≡ c.as_slice.result.now)
    (λ (list : Vec Element Global). list.items ≡ meaning (vertices_of c.args.plan.now) c.args.v)
    (λ list e. e ∙ c.as_slice.ensures.value ∙ sym read ∙ both.0)
    c.from_slice-else-is_source.ensures.items
