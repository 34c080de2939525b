use Rattle.std.proofs.Common.{◌≡◌, ◌∙◌, ℕ, Ok, sym, ap, subst}
use Rattle.ss_acts.specs.Parts.{vertex_of}
use Rattle.ss_acts.proofs.Replies.{may_take, reads_vault, stream_read}
use Rattle.ss_frames.specs.Plans.{plan_numbers}
use Rattle.ss_state.specs.Numbers.{IsStream, input}
use Rattle.ss_vault.specs.Calls.{Reads}
use Rattle.ss_vault.specs.Told.{VaultTold}
use Rattle.ss_acts.proofs.reading.act_read_kept.Goals as goal

pub read-requires-clause-stream : goal.read-requires-clause-stream
read-requires-clause-stream g c =
    let is : c.stream_read-u.result ≡ input (vertex_of c.args.plan.now c.args.inst.now.v) c.in-Item.input =
    c.stream_read-u.ensures ∙ ap (λ (n : ℕ). input (vertex_of c.args.plan.now n) c.in-Item.input) c.v.ensures in
    subst (λ (n : ℕ). IsStream (plan_numbers c.args.plan.now) n) (sym is)
    (stream_read c.args.plan.now c.act_facts.ensures c.args.inst.now c.in-Item.input c.in-Item.n c.requires.operator c.in-Item.ensures)

pub take_read-requires-clause-element : goal.take_read-requires-clause-element
take_read-requires-clause-element g c =
    let v = c.args.vault.now in
    let s : VaultTold = record { held = v.numbers; halted = v.halted; started = v.started; depot = g.D.Depot.told v.depot; outputs = g.O.Outputs.told v.outputs } in
    let w = c.read.new.self in
    let u : VaultTold = record { held = w.numbers; halted = w.halted; started = w.started; depot = g.D.Depot.told w.depot; outputs = g.O.Outputs.told w.outputs } in
    let is : c.stream_read-u.result ≡ input (vertex_of c.args.plan.now c.args.inst.now.v) c.in-Item.input =
    c.stream_read-u.ensures ∙ ap (λ (n : ℕ). input (vertex_of c.args.plan.now n) c.in-Item.input) c.v.ensures in
    let plan = c.args.plan.now in
    let inst = c.args.inst.now in
    may_take plan c.act_facts.ensures inst c.in-Item.input c.in-Item.n s u c.in-Ok.read c.requires.operator
    (c.act_facts.ensures.numbered inst c.requires.stands) c.in-Item.ensures c.requires.sound
    (subst (λ (n : ℕ). Reads plan n c.in-Item.n s (Ok c.in-Ok.read) u) is c.in-Ok.ensures.answer)

pub returns-in-Ok-clause-answer : goal.returns-in-Ok-clause-answer
returns-in-Ok-clause-answer g c =
    let v = c.args.vault.now in
    let s : VaultTold = record { held = v.numbers; halted = v.halted; started = v.started; depot = g.D.Depot.told v.depot; outputs = g.O.Outputs.told v.outputs } in
    let w = c.read.new.self in
    let u : VaultTold = record { held = w.numbers; halted = w.halted; started = w.started; depot = g.D.Depot.told w.depot; outputs = g.O.Outputs.told w.outputs } in
    let is : c.stream_read-u.result ≡ input (vertex_of c.args.plan.now c.args.inst.now.v) c.in-Item.input =
    c.stream_read-u.ensures ∙ ap (λ (n : ℕ). input (vertex_of c.args.plan.now n) c.in-Item.input) c.v.ensures in
    let plan = c.args.plan.now in
    let inst = c.args.inst.now in
    reads_vault plan inst c.take_read.new.inst c.in-Item.input c.in-Item.n s u c.in-Ok.read c.take_read.result c.in-Item.ensures
    (subst (λ (n : ℕ). Reads plan n c.in-Item.n s (Ok c.in-Ok.read) u) is c.in-Ok.ensures.answer) c.take_read.ensures.answer
