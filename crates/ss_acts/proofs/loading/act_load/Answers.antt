use Rattle.std.proofs.Common.{◌≡◌, ◌∙◌, ℕ, max, sym, ap, ap₂}
use Rattle.ss_acts.specs.Coming.{begun_behind}
use Rattle.ss_acts.proofs.Loads.{loads}
use Rattle.ss_vault.specs.Told.{VaultTold, durable_of}
use Rattle.ss_acts.proofs.loading.act_load.Goals as goal

pub returns-in-Ok-clause-answer : goal.returns-in-Ok-clause-answer
returns-in-Ok-clause-answer g c =
    let v = c.args.vault.now in
    let s : VaultTold = record { held = v.numbers; halted = v.halted; started = v.started; depot = g.D.Depot.told v.depot; outputs = g.O.Outputs.told v.outputs } in
    let w = c.come_up.new.vault in
    let u : VaultTold = record { held = w.numbers; halted = w.halted; started = w.started; depot = g.D.Depot.told w.depot; outputs = g.O.Outputs.told w.outputs } in
    let plan = c.args.plan.now in
    let inst = c.args.inst.now in
    let tail = c.args.tail.now in
    let dur : c.dur-dur.result ≡ (durable_of s inst.v).dur = c.dur-dur.ensures ∙ ap (λ (n : ℕ). (durable_of s n).dur) c.v.ensures in
    let is : c.max-end.result ≡ max tail.numbers.end (durable_of s inst.v).dur = c.max-end.ensures ∙ ap₂ (λ (a b : ℕ). max a b) c.end.ensures.end dur in
    loads plan inst c.come_up.new.inst tail c.begin.new.tail s u c.max-end.result c.n.result (sym c.is_up.ensures ∙ c.if-is_up.false) is
    c.in-Ok.ensures.answer (c.begin.ensures.begun ∙ ap (λ (n : ℕ). begun_behind tail n) dur) c.n.ensures
