use Rattle.std.proofs.Common.{◌≡◌, ℕ, ◌++◌, List, refl, sym, ap, ◌∙◌}
use Rattle.ss_frames.specs.Frames.{inputs_at, accepted, op_number, padded}
use Rattle.ss_image.specs.Images.{image_of}
use Rattle.ss_merge.specs.Merging.{MergerState}
use Rattle.ss_vertex.proofs.Accepting.{bounds_count, positions_count}
use Rattle.ss_vertex.proofs.Operators.{operator, at_work, spec_found, node_found, some_same}
use Rattle.ss_vertex.proofs.Snapshots.{frame_is, frame_parts, accepted_count}
use Rattle.ss_vertex.proofs.Arrives.{out_is}
use Rattle.ss_vertex.proofs.operating.Operating.frame.Goals as goal

pub positions_of-requires-clause-width : goal.positions_of-requires-clause-width
positions_of-requires-clause-width c =
    let known = c.laws_of_vertices.ensures in
    let work = at_work c.args.plan.now c.args.v c.args.self.now c.requires.operator in
    let o = operator known.vertices known.jobs c.args.plan.now c.max_elements.ensures.plan c.args.v work.s work.spec in
    node_found c.args.plan.now c.args.v work.s o c.job-job.result.now c.graph.result.now c.node-width.result
    c.job-job.ensures.job c.graph.ensures.graph c.node-width.ensures.node
    ∙ sym (bounds_count c.args.plan.now c.args.v c.args.self.now work)

pub bounds_of-requires-clause-width : goal.bounds_of-requires-clause-width
bounds_of-requires-clause-width c =
    let known = c.laws_of_vertices.ensures in
    let work = at_work c.args.plan.now c.args.v c.args.self.now c.requires.operator in
    let o = operator known.vertices known.jobs c.args.plan.now c.max_elements.ensures.plan c.args.v work.s work.spec in
    node_found c.args.plan.now c.args.v work.s o c.job-job.result.now c.graph.result.now c.node-width.result
    c.job-job.ensures.job c.graph.ensures.graph c.node-width.ensures.node
    ∙ sym (bounds_count c.args.plan.now c.args.v c.args.self.now work)

pub positions_of-requires-clause-positions : goal.positions_of-requires-clause-positions
positions_of-requires-clause-positions c =
    let known = c.laws_of_vertices.ensures in
    let work = at_work c.args.plan.now c.args.v c.args.self.now c.requires.operator in
    let o = operator known.vertices known.jobs c.args.plan.now c.max_elements.ensures.plan c.args.v work.s work.spec in
    node_found c.args.plan.now c.args.v work.s o c.job-job.result.now c.graph.result.now c.node-width.result
    c.job-job.ensures.job c.graph.ensures.graph c.node-width.ensures.node
    ∙ sym (positions_count c.args.plan.now c.args.v c.args.self.now work)

pub returns : goal.returns
returns c =
    let known = c.laws_of_vertices.ensures in
    let plan = c.args.plan.now in
    let v : ℕ = c.args.v in
    let self = c.args.self.now in
    let work = at_work plan v self c.requires.operator in
    let o = operator known.vertices known.jobs plan c.max_elements.ensures.plan v work.s work.spec in
    let width = node_found plan v work.s o c.job-job.result.now c.graph.result.now c.node-width.result
    c.job-job.ensures.job c.graph.ensures.graph c.node-width.ensures.node in
    let spec = spec_found plan.job c.job-job.result.now v c.spec.result c.unwrap-spec.result c.job-job.ensures.job c.spec.ensures c.unwrap-spec.ensures in
    let same : c.unwrap-spec.result.now ≡ work.s = some_same c.unwrap-spec.result.now work.s (sym spec ∙ work.spec) in
    let bytes : c.image.new.out.items ≡ image_of self.oper.entries =
    c.in_ok-image.ensures.ok ∙ ap (λ (xs : List ℕ). xs ++ image_of self.oper.entries) c.new-image.ensures.items in
    frame_parts v work.s (inputs_at plan v) (accepted plan v self.n)
    (record {
      v = v;
      n = self.n;
      out = c.args.total;
      op = c.op_number.result;
      width = c.node-width.result.width;
      pos = c.positions_of.result;
      bounds = c.bounds_of.result;
      image = c.of.result;
    })
    refl
    (sym (accepted_count plan v self.n work.s o c.requires.within.taken))
    (c.requires.total ∙ out_is plan v self.n work.s o)
    (c.op_number.ensures ∙ ap op_number same)
    width
    (c.positions_of.ensures ∙ ap (λ (m : MergerState). padded m.positions) work.merger)
    (c.bounds_of.ensures ∙ ap (λ (m : MergerState). padded m.bounds) work.merger)
    (c.of.ensures ∙ bytes ∙ ap image_of work.entries)
    ∙ sym (frame_is plan v self.n work.s work.spec)
