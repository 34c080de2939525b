use Rattle.std.proofs.Common.{◌≡◌, ◌∙◌, ℕ, true, false, Ok, sym, ap, subst}
use Rattle.ss_acts.specs.Calls.{Snaps}
use Rattle.ss_acts.specs.Parts.{vertex_of}
use Rattle.ss_acts.proofs.Snaps.{down, idle, is_pending, pending, snaps}
use Rattle.ss_fail.specs.declared.outcome.Outcome.{Outcome}
use Rattle.ss_state.specs.Numbers.{is_inner}
use Rattle.ss_vault.specs.Calls.{Keeps}
use Rattle.ss_vault.specs.Told.{VaultTold}
use Rattle.ss_acts.proofs.snapping.act_snap.Goals as goal

pub returns-then-not-is_operator-clause-answer : goal.returns-then-not-is_operator-clause-answer
returns-then-not-is_operator-clause-answer g c =
    let v = c.args.vault.now in
    let s : VaultTold = record { held = v.numbers; halted = v.halted; started = v.started; depot = g.D.Depot.told v.depot; outputs = g.O.Outputs.told v.outputs } in
    let source : is_inner (vertex_of c.args.plan.now c.args.inst.now.v).kind ≡ false =
    ap (λ (n : ℕ). is_inner (vertex_of c.args.plan.now n).kind) (sym c.v.ensures) ∙ sym c.is_operator.ensures ∙ c.if-not-is_operator.true in
    idle c.args.plan.now c.args.inst.now s source

pub returns-then-not-is_up-clause-answer : goal.returns-then-not-is_up-clause-answer
returns-then-not-is_up-clause-answer g c =
    let v = c.args.vault.now in
    let s : VaultTold = record { held = v.numbers; halted = v.halted; started = v.started; depot = g.D.Depot.told v.depot; outputs = g.O.Outputs.told v.outputs } in
    let operator : is_inner (vertex_of c.args.plan.now c.args.inst.now.v).kind ≡ true =
    ap (λ (n : ℕ). is_inner (vertex_of c.args.plan.now n).kind) (sym c.v.ensures) ∙ sym c.is_operator.ensures ∙ c.if-not-is_operator.false in
    down c.args.plan.now c.args.inst.now s operator (sym c.is_up.ensures ∙ c.if-not-is_up.true)

pub returns-in-Ok-keep-clause-answer : goal.returns-in-Ok-keep-clause-answer
returns-in-Ok-keep-clause-answer g c =
    let v = c.args.vault.now in
    let s : VaultTold = record { held = v.numbers; halted = v.halted; started = v.started; depot = g.D.Depot.told v.depot; outputs = g.O.Outputs.told v.outputs } in
    let w = c.keep.new.self in
    let u : VaultTold = record { held = w.numbers; halted = w.halted; started = w.started; depot = g.D.Depot.told w.depot; outputs = g.O.Outputs.told w.outputs } in
    let plan = c.args.plan.now in
    let inst = c.args.inst.now in
    let frame = c.in-Ok.frame in
    let operator : is_inner (vertex_of plan inst.v).kind ≡ true =
    ap (λ (n : ℕ). is_inner (vertex_of plan n).kind) (sym c.v.ensures) ∙ sym c.is_operator.ensures ∙ c.if-not-is_operator.false in
    let made = subst (λ (n : ℕ). Keeps plan n frame.n s (Ok c.in-Ok-keep.kept) u) c.in-Ok.ensures.place.0 c.in-Ok-keep.ensures.answer in
    subst (λ (o : Outcome). Snaps plan inst s (Ok o) u) (sym c.told.ensures)
    (snaps plan inst s u frame.n c.in-Ok-keep.kept operator (sym c.is_up.ensures ∙ c.if-not-is_up.false) c.in-Ok.ensures.none_left
    c.in-Ok.ensures.place.1 made)

pub returns-in-Pending-clause-answer : goal.returns-in-Pending-clause-answer
returns-in-Pending-clause-answer g c =
    let v = c.args.vault.now in
    let s : VaultTold = record { held = v.numbers; halted = v.halted; started = v.started; depot = g.D.Depot.told v.depot; outputs = g.O.Outputs.told v.outputs } in
    let operator : is_inner (vertex_of c.args.plan.now c.args.inst.now.v).kind ≡ true =
    ap (λ (n : ℕ). is_inner (vertex_of c.args.plan.now n).kind) (sym c.v.ensures) ∙ sym c.is_operator.ensures ∙ c.if-not-is_operator.false in
    let some = is_pending c.args.inst.now c.in-Err.fault c.in-Pending.left c.in-Pending.is c.in-Err.ensures.fault in
    pending c.args.plan.now c.args.inst.now s c.in-Pending.left operator (sym c.is_up.ensures ∙ c.if-not-is_up.false) some.0 some.1
