use Rattle.std.proofs.Common.{◌∙◌, ◌++◌, ℕ, Ok, Err, length, sym, ap, subst, arith}
use Rattle.ss_acts.specs.Calls.{FlushesTail}
use Rattle.ss_acts.specs.Told.{tail_flushed}
use Rattle.ss_acts.specs.declared.fault.EngineFault.{EngineFault}
use Rattle.ss_acts.proofs.Flushes.{batch_end, fails, flushes, made_at, stored_within, told_within}
use Rattle.ss_fail.specs.declared.outcome.Outcome.{Outcome}
use Rattle.ss_frames.specs.Plans.{plan_numbers}
use Rattle.ss_meaning.specs.Meaning.{meaning}
use Rattle.ss_plan.specs.Plan.{vertices_of}
use Rattle.ss_vault.specs.Told.{VaultTold, numbers_of}
use Rattle.ss_acts.proofs.flushing.act_flush.Goals as goal

pub flush-requires-clause-elements : goal.flush-requires-clause-elements
flush-requires-clause-elements g c =
    c.batch-batch.ensures.standing (meaning (vertices_of c.args.plan.now) c.args.v) c.args.plan.now.job.max_elements c.requires.tail

pub returns-in-Ok-clause-tail : goal.returns-in-Ok-clause-tail
returns-in-Ok-clause-tail g c =
    let v = c.args.vault.now in
    let s : VaultTold = record { held = v.numbers; halted = v.halted; started = v.started; depot = g.D.Depot.told v.depot; outputs = g.O.Outputs.told v.outputs } in
    let plan = c.args.plan.now in
    let tail = c.args.tail.now in
    let from = c.batch-batch.result.from in
    let count = length (c.batch-batch.result.first.now ++ c.batch-batch.result.rest.now) in
    let stored = stored_within plan c.act_facts.ensures.of_plan s c.args.v c.requires.sound c.requires.stream in
    let end = batch_end plan c.args.v c.args.count tail c.requires.tail in
    let is_from = c.batch-batch.ensures.from in
    let is_count = c.batch-batch.ensures.count in
    let within = end.0 in
    let limit = end.1 in
    c.tell.ensures.standing (meaning (vertices_of plan) c.args.v) plan.job.max_elements c.requires.tail
    (told_within (plan_numbers plan) (numbers_of s) c.args.v from count (length (meaning (vertices_of plan) c.args.v)) c.in-Ok.answer
    c.in-Ok.ensures.answer.0 stored.0 (omega (arith, is_from, is_count, within)))
    (told_within (plan_numbers plan) (numbers_of s) c.args.v from count plan.job.max_elements c.in-Ok.answer c.in-Ok.ensures.answer.0 stored.1
    (omega (arith, is_from, is_count, limit)))

pub returns-in-Ok-clause-answer : goal.returns-in-Ok-clause-answer
returns-in-Ok-clause-answer g c =
    let v = c.args.vault.now in
    let s : VaultTold = record { held = v.numbers; halted = v.halted; started = v.started; depot = g.D.Depot.told v.depot; outputs = g.O.Outputs.told v.outputs } in
    let w = c.flush.new.self in
    let u : VaultTold = record { held = w.numbers; halted = w.halted; started = w.started; depot = g.D.Depot.told w.depot; outputs = g.O.Outputs.told w.outputs } in
    let plan = c.args.plan.now in
    let tail = c.args.tail.now in
    let made = made_at plan c.args.v c.batch-batch.result.from (length (c.batch-batch.result.first.now ++ c.batch-batch.result.rest.now)) c.args.count tail s u (Ok c.in-Ok.answer)
    c.batch-batch.ensures.from c.batch-batch.ensures.count c.in-Ok.ensures.answer in
    let told = c.tell.ensures.told ∙ ap (λ (b : ℕ). tail_flushed tail b c.in-Ok.answer) c.base-base.ensures in
    subst (λ (o : Outcome). FlushesTail plan c.args.v c.args.count tail s (Ok o) c.tell.new.tail u) (sym c.tell.ensures.outcome)
    (flushes plan c.args.v c.args.count tail c.tell.new.tail s u c.in-Ok.answer made told)

pub returns-in-Err-clause-answer : goal.returns-in-Err-clause-answer
returns-in-Err-clause-answer g c =
    let v = c.args.vault.now in
    let s : VaultTold = record { held = v.numbers; halted = v.halted; started = v.started; depot = g.D.Depot.told v.depot; outputs = g.O.Outputs.told v.outputs } in
    let w = c.flush.new.self in
    let u : VaultTold = record { held = w.numbers; halted = w.halted; started = w.started; depot = g.D.Depot.told w.depot; outputs = g.O.Outputs.told w.outputs } in
    let plan = c.args.plan.now in
    let tail = c.args.tail.now in
    let made = made_at plan c.args.v c.batch-batch.result.from (length (c.batch-batch.result.first.now ++ c.batch-batch.result.rest.now)) c.args.count tail s u (Err c.in-Err.fault)
    c.batch-batch.ensures.from c.batch-batch.ensures.count c.in-Err.ensures.answer in
    subst (λ (f : EngineFault). FlushesTail plan c.args.v c.args.count tail s (Err f) tail u) (sym c.of_vault.ensures)
    (fails plan c.args.v c.args.count tail s u c.in-Err.fault made)
