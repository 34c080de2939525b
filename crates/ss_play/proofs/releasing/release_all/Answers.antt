use Rattle.std.proofs.Common.{length, get_or, ap, ◌∙◌, arith}
use Rattle.ss_play.proofs.Released.{released_all, released_more, released_none}
use Rattle.ss_play.proofs.releasing.release_all.Goals as goal

pub loop-v-init : goal.loop-v-init
loop-v-init g c = released_none _ _ _

pub release_file-requires-clause-vertex : goal.release_file-requires-clause-vertex
release_file-requires-clause-vertex g c =
    let test = c.loop-v-test.true in
    let count = c.count-v-end.ensures.count ∙ ap length c.graph.ensures.graph in
    let vertices = c.graph.ensures.sound.vertices in
    omega (arith, test, count, vertices)

pub loop-v-preserved : goal.loop-v-preserved
loop-v-preserved g c =
    let test = c.loop-v-test.true in
    let count = c.count-v-end.ensures.count ∙ ap length c.graph.ensures.graph in
    let vertices = c.graph.ensures.sound.vertices in
    released_more c.args.job.now (λ v. get_or c.args.marks.now v 0) c.loop-v.v _ _ _ (omega (arith, test, count, vertices))
    c.loop-v.invariant c.release_file.ensures

pub returns : goal.returns
returns g c =
    let test = c.loop-v-test.false in
    let count = c.count-v-end.ensures.count ∙ ap length c.graph.ensures.graph in
    let vertices = c.graph.ensures.sound.vertices in
    released_all c.args.job.now (λ v. get_or c.args.marks.now v 0) c.loop-v.v _ _ (omega (arith, test, count, vertices)) c.loop-v.invariant
