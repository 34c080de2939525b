-- The first mark, the marks on what a marked vertex reads, and all of them.
use Rattle.std.proofs.Common.{◌≡◌, ℕ, ◌+◌, ◌-◌, ◌<◌, ◌≤◌, length, sym, subst, arith}
use Rattle.ss_plan.specs.Plan.{vertices_of}
use Rattle.ss_plan.proofs.Marks.{AreMarks, first_mark, mark_more, marks_exact, vertex_reads, in_vertices}
use Rattle.ss_plan.proofs.needed.mark_needed.Goals as goal

pub loop-u-init : goal.loop-u-init
loop-u-init c =
    let inside : c.args.v < length c.args.marked.now = omega (arith, c.requires.vertex, c.requires.many) in
    record { marks = first_mark (vertices_of c.args.plan.now) c.args.v c.args.marked.now inside c.requires.none; within = omega arith }

pub loop-u-preserved-then-marked-u : goal.loop-u-preserved-then-marked-u
loop-u-preserved-then-marked-u c =
    let job = vertices_of c.args.plan.now in
    let w : ℕ = c.loop-u.u - 1 in
    let positive = c.loop-u-test.true in
    let most = c.loop-u.invariant.within in
    let next : c.loop-u.u ≡ w + 1 = omega arith in
    let inside : w < length c.args.plan.now.job.vertices = omega (arith, c.requires.vertex) in
    let are : AreMarks job c.args.v (w + 1) c.loop-u.marked = subst (λ k. AreMarks job c.args.v k c.loop-u.marked) next c.loop-u.invariant.marks in
    record {
      marks = mark_more job c.args.v w c.node.result c.loop-u.marked c.mark_inputs.new.marked
          (vertex_reads c.args.plan.now c.job.result.now c.graph-graph.result.now w c.node.result c.job.ensures.job c.graph-graph.ensures.sound
          c.graph-graph.ensures.graph inside c.node.ensures.node)
          c.node.ensures.linked.earlier are c.if-marked-u.true c.mark_inputs.ensures.kept c.mark_inputs.ensures.inputs c.mark_inputs.ensures.only;
      within = omega arith;
    }

pub returns-clause-exact : goal.returns-clause-exact
returns-clause-exact c =
    let job = vertices_of c.args.plan.now in
    let over = c.loop-u-test.false in
    let none : c.loop-u.u ≡ 0 = omega arith in
    marks_exact job c.args.v c.loop-u.marked
    (in_vertices c.args.plan.now c.job.result.now c.args.v c.job.ensures.job c.graph-graph.ensures.sound c.requires.vertex)
    (subst (λ k. AreMarks job c.args.v k c.loop-u.marked) none c.loop-u.invariant.marks)
