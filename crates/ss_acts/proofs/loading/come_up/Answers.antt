use Rattle.std.proofs.Common.{◌≡◌, ◌∙◌, ℕ, true, sym, ap, subst}
use Rattle.ss_acts.specs.Parts.{vertex_of}
use Rattle.ss_acts.proofs.Loads.{frame_at, loaded, operator_up}
use Rattle.ss_frames.specs.Frames.{frame_of}
use Rattle.ss_frames.specs.Plans.{plan_numbers}
use Rattle.ss_state.specs.Numbers.{IsOperator, is_inner}
use Rattle.ss_vault.specs.Answers.{fetched}
use Rattle.ss_vault.specs.Told.{VaultTold, numbers_of}
use Rattle.ss_vertex.specs.Calls.{FitsVertex}
use Rattle.ss_acts.proofs.loading.come_up.Goals as goal

pub load-requires-clause-vertex : goal.load-requires-clause-vertex
load-requires-clause-vertex g c =
    let v = c.args.vault.now in
    let s : VaultTold = record { held = v.numbers; halted = v.halted; started = v.started; depot = g.D.Depot.told v.depot; outputs = g.O.Outputs.told v.outputs } in
    let plan = c.args.plan.now in
    let inst = c.args.inst.now in
    let kind : is_inner (vertex_of plan inst.v).kind ≡ true =
    ap (λ (n : ℕ). is_inner (vertex_of plan n).kind) (sym c.v-v.ensures) ∙ sym c.is_operator.ensures ∙ c.if-not-is_operator.false in
    let operator : IsOperator (plan_numbers plan) inst.v = (((c.act_facts.ensures.streams inst.v).0 c.requires.stands.stream).0, kind) in
    let is : c.in-Ok.frame ≡ frame_of plan inst.v (fetched (plan_numbers plan) (numbers_of s).ledger inst.v c.args.end) =
    c.in-Ok.ensures.answer.0 ∙ ap (λ (n : ℕ). frame_of plan n (fetched (plan_numbers plan) (numbers_of s).ledger n c.args.end)) c.v-v.ensures in
    let at = frame_at c.frames_have_codes.ensures.meant plan c.act_facts.ensures s inst.v c.args.end c.in-Ok.frame c.requires.sound operator is in
    subst (λ (n : ℕ). FitsVertex plan n c.in-Ok.frame) at.vertex (c.act_facts.ensures.snapshots c.in-Ok.frame c.in-Ok.ensures.snapshot).0

pub returns-in-Ok-load-clause-replica : goal.returns-in-Ok-load-clause-replica
returns-in-Ok-load-clause-replica g c =
    record {
      vertex = (loaded c.args.plan.now c.in-Ok.frame c.args.inst.now c.load.new.self c.in-Ok-load.ensures.ok).1;
      stands = c.in-Ok-load.ensures.stands c.in-Ok.ensures.snapshot c.requires.stands;
    }

pub returns-in-Ok-load-clause-answer : goal.returns-in-Ok-load-clause-answer
returns-in-Ok-load-clause-answer g c =
    let v = c.args.vault.now in
    let s : VaultTold = record { held = v.numbers; halted = v.halted; started = v.started; depot = g.D.Depot.told v.depot; outputs = g.O.Outputs.told v.outputs } in
    let w = c.fetch.new.self in
    let u : VaultTold = record { held = w.numbers; halted = w.halted; started = w.started; depot = g.D.Depot.told w.depot; outputs = g.O.Outputs.told w.outputs } in
    let plan = c.args.plan.now in
    let inst = c.args.inst.now in
    let kind : is_inner (vertex_of plan inst.v).kind ≡ true =
    ap (λ (n : ℕ). is_inner (vertex_of plan n).kind) (sym c.v-v.ensures) ∙ sym c.is_operator.ensures ∙ c.if-not-is_operator.false in
    let operator : IsOperator (plan_numbers plan) inst.v = (((c.act_facts.ensures.streams inst.v).0 c.requires.stands.stream).0, kind) in
    let is : c.in-Ok.frame ≡ frame_of plan inst.v (fetched (plan_numbers plan) (numbers_of s).ledger inst.v c.args.end) =
    c.in-Ok.ensures.answer.0 ∙ ap (λ (n : ℕ). frame_of plan n (fetched (plan_numbers plan) (numbers_of s).ledger n c.args.end)) c.v-v.ensures in
    let at = frame_at c.frames_have_codes.ensures.meant plan c.act_facts.ensures s inst.v c.args.end c.in-Ok.frame c.requires.sound operator is in
    operator_up plan c.in-Ok.frame inst c.load.new.self c.args.end s u kind c.in-Ok-load.ensures.ok at.number c.in-Ok.ensures.answer.1
