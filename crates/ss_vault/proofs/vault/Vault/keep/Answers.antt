use Rattle.std.proofs.Common.{◌≡◌, ◌∙◌, ℕ, None, false, ap, sym, subst, arith}
use Rattle.ss_frames.specs.Plans.{plan_numbers}
use Rattle.ss_state.specs.Journal.{is_one_of}
use Rattle.ss_state.specs.LowWater.{low}
use Rattle.ss_state.specs.Numbers.{IsOperator, vertex}
use Rattle.ss_state.specs.State.{VaultNumbers}
use Rattle.ss_vault.specs.Answers.{keep_answer}
use Rattle.ss_vault.specs.NumbersHeld.{greatest_within, snaps_held}
use Rattle.ss_vault.specs.Told.{VaultTold, durable_of}
use Rattle.ss_vault.specs.declared.answers.Keep.TheVariants as keep_variant
use Rattle.ss_vault.proofs.Answering.{keep_due, keep_old, low_found}
use Rattle.ss_vault.proofs.Behind.{keeps_behind, none_of, same_enters}
use Rattle.ss_vault.proofs.Looking.{placed}
use Rattle.ss_vault.proofs.Starts.{sound_rise, sound_start}
use Rattle.ss_vault.proofs.vault.Vault.keep.Goals as goal

pub within-low-requires-clause-rise : goal.within-low-requires-clause-rise
within-low-requires-clause-rise g c =
    let v = c.args.self.now in
    let s : VaultTold = record { held = v.numbers; halted = v.halted; started = v.started; depot = g.D.Depot.told v.depot; outputs = g.O.Outputs.told v.outputs } in
    let plan = c.args.plan.now in
    let going : s.halted ≡ None = none_of s.halted (sym c.is_some.ensures ∙ c.if-is_some.false) in
    let f = c.args.f.now in
    let operator : IsOperator (plan_numbers plan) f.v = c.snapshot_facts.ensures.operator f c.requires.snapshot in
    sound_rise plan c.snapshot_facts.ensures s f.v c.requires.sound operator

pub within-low-requires-clause-start : goal.within-low-requires-clause-start
within-low-requires-clause-start g c =
    let v = c.args.self.now in
    let s : VaultTold = record { held = v.numbers; halted = v.halted; started = v.started; depot = g.D.Depot.told v.depot; outputs = g.O.Outputs.told v.outputs } in
    let plan = c.args.plan.now in
    let going : s.halted ≡ None = none_of s.halted (sym c.is_some.ensures ∙ c.if-is_some.false) in
    let f = c.args.f.now in
    let operator : IsOperator (plan_numbers plan) f.v = c.snapshot_facts.ensures.operator f c.requires.snapshot in
    sound_start plan c.snapshot_facts.ensures s f.v c.dur.result c.requires.sound operator (let e = c.dur.ensures in omega (arith, e))

pub returns-then-f-low-clause-answer : goal.returns-then-f-low-clause-answer
returns-then-f-low-clause-answer g c =
    let v = c.args.self.now in
    let s : VaultTold = record { held = v.numbers; halted = v.halted; started = v.started; depot = g.D.Depot.told v.depot; outputs = g.O.Outputs.told v.outputs } in
    let plan = c.args.plan.now in
    let going : s.halted ≡ None = none_of s.halted (sym c.is_some.ensures ∙ c.if-is_some.false) in
    let f = c.args.f.now in
    let operator : IsOperator (plan_numbers plan) f.v = c.snapshot_facts.ensures.operator f c.requires.snapshot in
    let mark : c.within-low.result ≡ low (vertex (plan_numbers plan) f.v) (durable_of s f.v) =
    c.within-low.ensures ∙ ap (λ (n : ℕ). greatest_within (snaps_held s.held f.v) n) c.dur.ensures
    ∙ low_found plan c.snapshot_facts.ensures s f.v c.requires.sound operator in
    let new : is_one_of f.n (durable_of s f.v).snaps ≡ false = sym c.has_snap.ensures ∙ c.if-has_snap.false in
    (keep_old plan s f.v f.n c.within-low.result new mark c.if-f-low.true, same_enters plan s going)

pub add-requires-clause-sound : goal.add-requires-clause-sound
add-requires-clause-sound g c =
    let v = c.args.self.now in
    let s : VaultTold = record { held = v.numbers; halted = v.halted; started = v.started; depot = g.D.Depot.told v.depot; outputs = g.O.Outputs.told v.outputs } in
    let plan = c.args.plan.now in
    let going : s.halted ≡ None = none_of s.halted (sym c.is_some.ensures ∙ c.if-is_some.false) in
    let f = c.args.f.now in
    let operator : IsOperator (plan_numbers plan) f.v = c.snapshot_facts.ensures.operator f c.requires.snapshot in
    let first = placed plan s c.reserve_keep.new.self c.requires.sound going c.reserve_keep.ensures.numbers c.reserve_keep.ensures.snaps c.reserve_keep.ensures.ended in
    first.0

pub add-requires-clause-due : goal.add-requires-clause-due
add-requires-clause-due g c =
    let v = c.args.self.now in
    let s : VaultTold = record { held = v.numbers; halted = v.halted; started = v.started; depot = g.D.Depot.told v.depot; outputs = g.O.Outputs.told v.outputs } in
    let plan = c.args.plan.now in
    let going : s.halted ≡ None = none_of s.halted (sym c.is_some.ensures ∙ c.if-is_some.false) in
    let f = c.args.f.now in
    let operator : IsOperator (plan_numbers plan) f.v = c.snapshot_facts.ensures.operator f c.requires.snapshot in
    let mark : c.within-low.result ≡ low (vertex (plan_numbers plan) f.v) (durable_of s f.v) =
    c.within-low.ensures ∙ ap (λ (n : ℕ). greatest_within (snaps_held s.held f.v) n) c.dur.ensures
    ∙ low_found plan c.snapshot_facts.ensures s f.v c.requires.sound operator in
    let new : is_one_of f.n (durable_of s f.v).snaps ≡ false = sym c.has_snap.ensures ∙ c.if-has_snap.false in
    subst (λ (x : VaultNumbers). keep_answer (plan_numbers plan) x.ledger f.v f.n ≡ keep_variant.Kept) (sym c.reserve_keep.ensures.numbers)
    (keep_due plan s f.v f.n c.within-low.result new mark c.if-f-low.false)

pub returns-clause-answer : goal.returns-clause-answer
returns-clause-answer g c =
    let v = c.args.self.now in
    let s : VaultTold = record { held = v.numbers; halted = v.halted; started = v.started; depot = g.D.Depot.told v.depot; outputs = g.O.Outputs.told v.outputs } in
    let plan = c.args.plan.now in
    let going : s.halted ≡ None = none_of s.halted (sym c.is_some.ensures ∙ c.if-is_some.false) in
    let f = c.args.f.now in
    let operator : IsOperator (plan_numbers plan) f.v = c.snapshot_facts.ensures.operator f c.requires.snapshot in
    let first = placed plan s c.reserve_keep.new.self c.requires.sound going c.reserve_keep.ensures.numbers c.reserve_keep.ensures.snaps c.reserve_keep.ensures.ended in
    keeps_behind plan f.v f.n s _ _ c.add.result first.1 c.add.ensures.answer
