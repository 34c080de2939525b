use Rattle.std.proofs.Common.{◌∙◌, Ok, sym, subst, arith}
use Rattle.ss_acts.specs.Calls.{Writes}
use Rattle.ss_acts.proofs.Writes.{gap, idle, offered_within, writes}
use Rattle.ss_fail.specs.declared.outcome.Outcome.{Outcome}
use Rattle.ss_meaning.specs.Meaning.{meaning}
use Rattle.ss_plan.specs.Plan.{vertices_of}
use Rattle.ss_acts.proofs.writing.act_write.Goals as goal

pub returns-then-next-end-clause-answer : goal.returns-then-next-end-clause-answer
returns-then-next-end-clause-answer c =
    let inst = c.args.inst.now in
    let numbered = c.act_facts.ensures.numbered inst c.requires.stands in
    let up = sym c.is_up.ensures ∙ c.if-not-is_up.false in
    let is = c.next.ensures in
    let past = c.if-next-end.true in
    gap c.args.plan.now inst c.crash.new.self c.args.tail.now c.end-end.result numbered up (sym c.in-None.ensures.first) c.end-end.ensures.end
    (omega (arith, is, past)) c.crash.ensures.crashed

pub returns-else-next-end-clause-answer : goal.returns-else-next-end-clause-answer
returns-else-next-end-clause-answer c =
    let inst = c.args.inst.now in
    let numbered = c.act_facts.ensures.numbered inst c.requires.stands in
    let up = sym c.is_up.ensures ∙ c.if-not-is_up.false in
    let is = c.next.ensures in
    let within = c.if-next-end.false in
    idle c.args.plan.now inst c.args.tail.now c.end-end.result numbered up (sym c.in-None.ensures.first) c.end-end.ensures.end
    (omega (arith, is, within))

pub returns-in-Ok-clause-tail : goal.returns-in-Ok-clause-tail
returns-in-Ok-clause-tail c =
    let inst = c.args.inst.now in
    let plan = c.args.plan.now in
    let within = offered_within plan inst c.in-Some.n c.in-Some.x c.requires.stands (sym c.in-Some.ensures.first) in
    c.write.ensures.standing (meaning (vertices_of plan) inst.v) plan.job.max_elements c.requires.tail
    (c.in-Some.ensures.meant plan c.act_facts.ensures.of_plan.is c.requires.stands) within.1

pub returns-in-Ok-clause-answer : goal.returns-in-Ok-clause-answer
returns-in-Ok-clause-answer c =
    let inst = c.args.inst.now in
    let plan = c.args.plan.now in
    let numbered = c.act_facts.ensures.numbered inst c.requires.stands in
    subst (λ (o : Outcome). Writes plan inst c.args.tail.now (Ok o) c.wrote_one.new.inst c.write.new.self) (sym c.wrote_one.ensures.outcome)
    (writes plan inst c.wrote_one.new.inst c.args.tail.now c.write.new.self c.in-Some.n c.in-Some.x c.in-Ok.wrote numbered
    (sym c.in-Some.ensures.first) c.in-Ok.ensures.answer c.wrote_one.ensures.inst c.in-Ok.ensures.written)
