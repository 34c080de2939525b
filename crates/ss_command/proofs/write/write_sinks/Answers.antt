use Rattle.std.proofs.Common.{◌<◌, length, sym, subst, arith}
use Rattle.ss_plan.specs.Plan.{lists_of}
use Rattle.ss_command.specs.Output.{puts_below, sink_puts}
use Rattle.ss_command.specs.Computed.{list_at}
use Rattle.ss_command.specs.Puts.{WentWhole}
use Rattle.ss_command.proofs.Puts.{WentWhole-append}
use Rattle.ss_command.proofs.Steps.{count_is, puts_below-more, puts_below-split}
use Rattle.ss_command.proofs.Wrote.{wrote-between}
use Rattle.ss_command.proofs.write.write_sinks.Goals as goal

pub returns-in-Err : goal.returns-in-Err
returns-in-Err g c =
    let job = c.args.job.now in
    let lists = list_at (lists_of c.args.streams.now) in
    let inside : c.loop-v.v < length job.vertices = omega (arith, count_is job c.graph.result.now c.count-v-end.result c.graph.ensures.sound c.graph.ensures.graph c.count-v-end.ensures.count) in
    let split = puts_below-split job lists c.loop-v.v (length job.vertices) inside in
    wrote-between (g.O.Outputs.told c.args.outputs.now) (g.O.Outputs.told c.loop-v.outputs) (g.O.Outputs.told c.write_sink.new.outputs)
    (puts_below job lists c.loop-v.v) (sink_puts job lists c.loop-v.v) (puts_below job lists (length job.vertices)) split.0 c.in-Err.fault
    split.1 c.loop-v.invariant c.in-Err.ensures

pub loop-v-preserved : goal.loop-v-preserved
loop-v-preserved g c =
    let job = c.args.job.now in
    let lists = list_at (lists_of c.args.streams.now) in
    let old = g.O.Outputs.told c.args.outputs.now in
    let new = g.O.Outputs.told c.write_sink.new.outputs in
    subst (WentWhole old new) (sym (puts_below-more job lists c.loop-v.v))
    (WentWhole-append old (g.O.Outputs.told c.loop-v.outputs) new (puts_below job lists c.loop-v.v) (sink_puts job lists c.loop-v.v) c.loop-v.invariant c.in-Ok.ensures)
