use Rattle.std.proofs.Common.{◌≡◌, ◌<◌, length, take, arith, subst, inl, inr, ℕ, List}
use Rattle.ss_outside.specs.Told.{FileTold}
use Rattle.ss_plan.specs.Plan.{lists_of}
use Rattle.ss_command.specs.Ends.{MayHave}
use Rattle.ss_command.specs.Order.{source_file}
use Rattle.ss_command.specs.Refusal.{refusal_of}
use Rattle.ss_command.specs.Streams.{AddsList}
use Rattle.ss_command.proofs.Ends.{may, keeps-then, stops-then}
use Rattle.ss_command.proofs.Steps.{count_is}
use Rattle.ss_job.specs.JobText.{VertexText}
use Rattle.ss_command.proofs.Streams.{lists-next, each-next, length-take_within}
use Rattle.ss_command.proofs.Vertices.{item_at}
use Rattle.ss_command.proofs.sources.read_sources.Goals as goal

pub returns-in-Err-clause-fault : goal.returns-in-Err-clause-fault
returns-in-Err-clause-fault g c =
    let old = g.I.Inputs.told c.args.inputs.now in
    let mid = g.I.Inputs.told c.loop-v.inputs in
    let new = g.I.Inputs.told c.read_vertex.new.inputs in
    let refusal = refusal_of c.in-Err.fault in
    let job = c.args.job.now in
    elim c.in-Err.ensures.fault [
      | inl at ↦ inl (record {
        v = c.loop-v.v;
        earlier = lists_of c.loop-v.lists.items;
        read = c.loop-v.invariant.read;
        here = record {
          file = at.file;
          late = at.late;
          is_source = at.is_source;
          stops = stops-then old mid new refusal (source_file job c.loop-v.v at.file at.late) c.loop-v.invariant.kept at.stops;
        };
      })
      | inr wants ↦ inr (wants.0, keeps-then old mid new c.loop-v.invariant.kept wants.1)
    ]

pub loop-v-preserved : goal.loop-v-preserved
loop-v-preserved g c =
    let job = c.args.job.now in
    let old = g.I.Inputs.told c.args.inputs.now in
    let mid = g.I.Inputs.told c.loop-v.inputs in
    let inside : c.loop-v.v < length job.vertices = omega (arith, count_is job c.graph.result.now c.count-v-end.result c.graph.ensures.sound c.graph.ensures.graph c.count-v-end.ensures.count) in
    let (x, at) = item_at job.vertices c.loop-v.v inside in
    let ((vertex, here, added), kept) = c.in-Ok.ensures.added in
    let same : vertex ≡ x = cc (here, at.here) in
    let adds_mid : AddsList (MayHave mid) job c.loop-v.v x c.loop-v.lists.items c.read_vertex.new.lists.items =
    subst (λ (y : VertexText). AddsList (MayHave mid) job c.loop-v.v y c.loop-v.lists.items c.read_vertex.new.lists.items) same added in
    let adds : AddsList (MayHave old) job c.loop-v.v x c.loop-v.lists.items c.read_vertex.new.lists.items =
    subst (λ (files : List ℕ → FileTold). AddsList (may files) job c.loop-v.v x c.loop-v.lists.items c.read_vertex.new.lists.items) c.loop-v.invariant.kept.file adds_mid in
    let count : length (take c.loop-v.v job.vertices) ≡ c.loop-v.v = length-take_within c.loop-v.v job.vertices inside in
    record {
      read = lists-next (MayHave old) job c.loop-v.v x c.loop-v.lists.items c.read_vertex.new.lists.items count at.passed c.loop-v.invariant.read adds;
      each = each-next (MayHave old) job c.loop-v.v x c.loop-v.lists.items c.read_vertex.new.lists.items c.loop-v.invariant.each adds;
      kept = keeps-then old mid (g.I.Inputs.told c.read_vertex.new.inputs) c.loop-v.invariant.kept kept;
    }
