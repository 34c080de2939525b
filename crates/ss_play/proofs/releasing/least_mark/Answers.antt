use Rattle.std.proofs.Common.{ℕ, ◌<◌, List, length, get_or, ap, sym, ◌∙◌, Some, Option, arith}
use Rattle.ss_job.specs.JobText.{JobText}
use Rattle.std.specs.Prelude.{unwrap_or}
use Rattle.ss_play.specs.Releasing.{lesser}
use Rattle.ss_play.proofs.Least.{least_of_all, least_with, least_without}
use Rattle.ss_play.proofs.releasing.least_mark.Goals as goal
use Rattle.ss_play.proofs.releasing.least_mark.Goals.{then-is_source_of, else-is_source_of}

pub loop-v-preserved : goal.loop-v-preserved
loop-v-preserved c =
    let job : JobText = c.args.job.now in
    let name : List ℕ = c.args.name.now in
    let marks : ℕ → ℕ = λ v. get_or c.args.marks.now v 0 in
    let test = c.loop-v-test.true in
    let count = c.count-v-end.ensures.count ∙ ap length c.graph.ensures.graph in
    let vertices = c.graph.ensures.sound.vertices in
    let within : c.loop-v.v < length job.vertices = omega (arith, test, count, vertices) in
    elim c.if-is_source_of.branch [
      | then-is_source_of w ↦
          w.least-is
          ∙ ap (λ (m : ℕ). Some m) (w.lesser.ensures ∙ ap (λ (o : Option ℕ). lesser o (marks c.loop-v.v)) c.loop-v.invariant)
          ∙ sym (least_with job marks name c.loop-v.v within (sym c.is_source_of.ensures ∙ w.if-is_source_of.true))
      | else-is_source_of w ↦
          w.least-is ∙ c.loop-v.invariant
          ∙ sym (least_without job marks name c.loop-v.v within (sym c.is_source_of.ensures ∙ w.if-is_source_of.false))
    ]

pub returns : goal.returns
returns c =
    let test = c.loop-v-test.false in
    let count = c.count-v-end.ensures.count ∙ ap length c.graph.ensures.graph in
    let vertices = c.graph.ensures.sound.vertices in
    c.unwrap_or.ensures ∙ ap (λ (o : Option ℕ). unwrap_or o 0) c.loop-v.invariant
    ∙ least_of_all c.args.job.now (λ v. get_or c.args.marks.now v 0) c.args.name.now c.loop-v.v (omega (arith, test, count, vertices))
