-- One input more.
use Rattle.std.proofs.Common.{◌≡◌, ℕ, ◌+◌, ◌<◌, List, length, get_or, sym, ap, ◌∙◌, subst, arith, take_all}
use Rattle.ss_meaning.specs.Meaning.{streams_at}
use Rattle.ss_plan.specs.Plan.{inputs_read, lists_of}
use Rattle.ss_plan.proofs.Gathering.{gather_more}
use Rattle.ss_plan.proofs.Vertices.{inputs_count, input_at}
use Rattle.ss_plan.proofs.stream.gathered.Goals as goal

pub bounds-streams-input : goal.bounds-streams-input
bounds-streams-input c =
    let inside : c.loop-i.i < length (inputs_read c.args.node.now) =
    omega (arith, c.loop-i-test.true, inputs_count c.args.node.now) in
    subst (λ n. n < length c.args.streams.now) (input_at c.args.node.now c.loop-i.i 0 c.loop-i-test.true)
    (c.requires.inputs c.loop-i.i 0 inside)

pub loop-i-preserved : goal.loop-i-preserved
loop-i-preserved c =
    let inside : c.loop-i.i < length (inputs_read c.args.node.now) =
    omega (arith, c.loop-i-test.true, inputs_count c.args.node.now) in
    let place = input_at c.args.node.now c.loop-i.i 0 c.loop-i-test.true in
    let within : get_or c.args.node.now.inputs c.loop-i.i 0 < length c.args.streams.now =
    subst (λ n. n < length c.args.streams.now) place (c.requires.inputs c.loop-i.i 0 inside) in
    gather_more c.args.streams.now (inputs_read c.args.node.now) c.loop-i.i (get_or c.args.node.now.inputs c.loop-i.i 0)
    c.loop-i.lists.items c.push.new.self.items c.as_slice.result c.index-streams-input.result inside place within
    c.index-streams-input.is c.as_slice.ensures.value c.loop-i.invariant c.in_ok-push.ensures.items

pub returns : goal.returns
returns c =
    c.loop-i.invariant
    ∙ ap (streams_at (lists_of c.args.streams.now))
    (take_all c.loop-i.i (inputs_read c.args.node.now) (omega (arith, c.loop-i-test.false, inputs_count c.args.node.now)))
