use Rattle.std.proofs.Common.{◌∙◌, ℕ, List, ap, arith}
use Rattle.std.specs.Prelude.{slice_get}
use Rattle.ss_acts.specs.Parts.{vertex_of}
use Rattle.ss_acts.proofs.Replies.{item_below, tail_asks_torn, tail_got, tail_of_wanted, tail_refused, tail_waits}
use Rattle.ss_elem.specs.declared.element.Element.{Element}
use Rattle.ss_meaning.specs.Meaning.{meaning}
use Rattle.ss_plan.specs.Plan.{vertices_of}
use Rattle.ss_state.specs.Numbers.{input}
use Rattle.ss_acts.proofs.reading.act_read.Goals as goal

pub accept-requires-clause-element : goal.accept-requires-clause-element
accept-requires-clause-element c =
    let plan = c.args.plan.now in
    let inst = c.args.inst.now in
    let tail = c.args.tail.now in
    let numbered = c.act_facts.ensures.numbered inst c.requires.stands in
    let stands = tail_of_wanted plan inst tail c.in-Item.input c.in-Item.n c.in-Item.ensures c.requires.tail in
    let there = item_below tail c.in-Item.n c.in-Item-read.x stands.numbered c.in-Item-read.ensures.answer in
    let below = there.1 in
    let end = stands.end_within in
    let u : ℕ = input (vertex_of plan inst.v) c.in-Item.input in (
      ap (λ (xs : List Element). slice_get xs c.in-Item.n) (numbered.read c.requires.operator.1 c.in-Item.input)
          ∙ c.in-Item-read.ensures.standing (meaning (vertices_of plan) u) plan.job.max_elements stands,
      omega (arith, below, end),
    )

pub returns-in-Ok-clause-answer : goal.returns-in-Ok-clause-answer
returns-in-Ok-clause-answer c =
    let stands = tail_of_wanted c.args.plan.now c.args.inst.now c.args.tail.now c.in-Item.input c.in-Item.n c.in-Item.ensures c.requires.tail in
    tail_got c.args.plan.now c.args.inst.now c.accept.new.inst c.args.tail.now c.in-Item.input c.in-Item.n c.in-Item-read.x c.in-Ok.outcome
    c.in-Item.ensures stands.numbered c.in-Item-read.ensures.answer c.in-Ok.ensures.answer

pub returns-in-Err-clause-answer : goal.returns-in-Err-clause-answer
returns-in-Err-clause-answer c =
    let stands = tail_of_wanted c.args.plan.now c.args.inst.now c.args.tail.now c.in-Item.input c.in-Item.n c.in-Item.ensures c.requires.tail in
    tail_refused c.args.plan.now c.args.inst.now c.accept.new.inst c.args.tail.now c.in-Item.input c.in-Item.n c.in-Item-read.x c.in-Err.fault
    c.in-Item.ensures stands.numbered c.in-Item-read.ensures.answer c.in-Err.ensures.answer

pub returns-in-NotYet-clause-answer : goal.returns-in-NotYet-clause-answer
returns-in-NotYet-clause-answer c =
    let stands = tail_of_wanted c.args.plan.now c.args.inst.now c.args.tail.now c.in-Item.input c.in-Item.n c.in-Item.ensures c.requires.tail in
    tail_waits c.args.plan.now c.args.inst.now c.args.tail.now c.in-Item.input c.in-Item.n c.in-NotYet.end c.in-Item.ensures stands.numbered
    c.in-NotYet.ensures.answer

pub returns-in-Torn-clause-answer : goal.returns-in-Torn-clause-answer
returns-in-Torn-clause-answer c =
    let stands = tail_of_wanted c.args.plan.now c.args.inst.now c.args.tail.now c.in-Item.input c.in-Item.n c.in-Item.ensures c.requires.tail in
    tail_asks_torn c.args.plan.now c.args.inst.now c.args.tail.now c.in-Item.input c.in-Item.n c.in-Torn.end c.in-Item.ensures stands.numbered
    c.in-Torn.ensures.answer
