use Rattle.std.proofs.Common.{◌≡◌, ◌<◌, ◌+◌, drop, length, sym, ◌∙◌, ap, arith, true, false}
use Rattle.std.specs.List.{list_any}
use Rattle.ss_command.specs.Output.{writes_to_output}
use Rattle.ss_command.proofs.Steps.{count_is}
use Rattle.ss_command.proofs.Vertices.{item_at, shown_here, shown_later, shows-at}
use Rattle.ss_command.proofs.summary.shows_sink.Goals as goal

pub returns-then-shows : goal.returns-then-shows
returns-then-shows c =
    let job = c.args.job.now in
    let inside : c.loop-v.v < length job.vertices = omega (arith, count_is job c.graph.result.now c.count-v-end.result c.graph.ensures.sound c.graph.ensures.graph c.count-v-end.ensures.count) in
    let (x, at) = item_at job.vertices c.loop-v.v inside in
    let here : writes_to_output x ≡ true = sym (shows-at job c.loop-v.v x at.here) ∙ sym c.shows.ensures ∙ c.if-shows.true in
    sym (sym c.loop-v.invariant ∙ ap (list_any writes_to_output) at.left ∙ shown_here x (drop (c.loop-v.v + 1) job.vertices) here)

pub loop-v-preserved : goal.loop-v-preserved
loop-v-preserved c =
    let job = c.args.job.now in
    let inside : c.loop-v.v < length job.vertices = omega (arith, count_is job c.graph.result.now c.count-v-end.result c.graph.ensures.sound c.graph.ensures.graph c.count-v-end.ensures.count) in
    let (x, at) = item_at job.vertices c.loop-v.v inside in
    let not_here : writes_to_output x ≡ false = sym (shows-at job c.loop-v.v x at.here) ∙ sym c.shows.ensures ∙ c.if-shows.false in
    sym (shown_later x (drop (c.loop-v.v + 1) job.vertices) not_here) ∙ ap (list_any writes_to_output) (sym at.left) ∙ c.loop-v.invariant
