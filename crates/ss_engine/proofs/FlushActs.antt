-- Flushes: what their function says of the parts, said of the job.
use Rattle.std.proofs.Common.{◌≡◌, ◌≢◌, ℕ, ◌+◌, ◌-◌, max, ◌<◌, ◌≤◌, nat_lt, Bool, true, false, Option, Some, None, Result, Ok, Err, ap, ◌∙◌, sym, refl, arith, inl, inr, ⊎_elim, eq-eqb, ne_eqb, if◌then◌else◌}
use Rattle.std.specs.Prelude.{is_ok}
use Rattle.std.proofs.lemmas.Bool.{cases_eq}
use Rattle.ss_acts.specs.Calls.{FlushesTail}
use Rattle.ss_acts.specs.Leaves.{AsksVault, Goes}
use Rattle.ss_acts.specs.Parts.{IsTailOf}
use Rattle.ss_acts.specs.declared.fault.EngineFault.{EngineFault}
use Rattle.ss_acts.specs.declared.fault.EngineFault.TheVariants as fault
use Rattle.ss_fail.specs.declared.act.Act.TheVariants as act
use Rattle.ss_fail.specs.declared.outcome.Outcome.{Outcome}
use Rattle.ss_fail.specs.declared.outcome.Outcome.TheVariants as outcome
use Rattle.ss_frames.specs.Plans.{plan_numbers}
use Rattle.ss_state.specs.Acts.{TailAndVaultStep, flush_act, flush_entry, flushed_tail}
use Rattle.ss_state.specs.Journal.{enter}
use Rattle.ss_state.specs.Numbers.{JobNumbers}
use Rattle.ss_state.specs.State.{State, TailNumbers, VaultNumbers, row_at, tail_at}
use Rattle.ss_state.specs.Step.{LeftByFlush, MayAct, step}
use Rattle.ss_state.specs.Tails.{batch_from, batch_len, restarted}
use Rattle.ss_state.specs.declared.entry.Entry.{Entry}
use Rattle.ss_state.specs.declared.entry.Entry.TheVariants as entry
use Rattle.ss_tail.specs.Held.{TailHeld}
use Rattle.ss_vault.specs.Answers.{flush_answer}
use Rattle.ss_vault.specs.Sound.{Sound}
use Rattle.ss_vault.specs.Told.{VaultTold, numbers_of}
use Rattle.ss_vault.specs.declared.answers.Flush.TheVariants as flush
use Rattle.ss_vault.specs.declared.fault.VaultFault.TheVariants as vault
use Rattle.ss_engine.specs.Applies.{AppliesJointly}
use Rattle.ss_engine.specs.Laws.{ActLaws}
use Rattle.ss_engine.specs.Joint.{Joint}
use Rattle.ss_engine.specs.Told.{PlantTold, state_of, tail_of}
use Rattle.ss_engine.proofs.Made.{puts_nothing, puts_to_none}
use Rattle.ss_engine.proofs.Parts.{tail_is}
use Rattle.ss_engine.proofs.Steps.{tail_and_vault_made, tail_and_vault_met, replace_tail_and_vault}

-- where the vault would store something, the flush would have said so
by_tests : (past apart : Bool) (since from dur count to all d : ℕ) (due begun made : TailAndVaultStep) → made.outcome ≡ outcome.Flushed count
    → (if past then flush.PassDue since else (if apart then flush.Apart from dur else flush.Flushed count to)) ≡ flush.Flushed all d
    → (if past then due else (if apart then begun else made)).outcome ≡ outcome.Flushed all
by_tests true apart since from dur count to all d due begun made is e = cc
by_tests false true since from dur count to all d due begun made is e = cc
by_tests false false since from dur count to all d due begun made is e =
    let same : count ≡ all = cc in
    is ∙ ap outcome.Flushed same

would_flush : (job : JobNumbers) (v most : ℕ) (tail : TailNumbers) (vault : VaultNumbers) (all d : ℕ)
    → flush_answer job vault.ledger v (batch_from tail) (batch_len tail most) ≡ flush.Flushed all d
    → (flush_act job v most tail vault).outcome ≡ outcome.Flushed all
unfolding flush_act
would_flush job v most tail vault all d e =
    let row = row_at vault.ledger v in
    let from = batch_from tail in
    let to = max row.dur (from + batch_len tail most) in
    let due : TailAndVaultStep = record { tail = tail; vault = vault; outcome = outcome.PassDue vault.ledger.since } in
    let begun : TailAndVaultStep = record { tail = restarted tail row.dur; vault = vault; outcome = outcome.Apart from row.dur } in
    let made : TailAndVaultStep = record {
      tail = flushed_tail tail most row;
      vault = enter job vault (flush_entry v (to - row.dur));
      outcome = outcome.Flushed (to - row.dur);
    } in
    by_tests (nat_lt job.collect_every (vault.ledger.since + batch_len tail most)) (nat_lt row.dur from) vault.ledger.since from row.dur (to - row.dur)
    to all d due begun made refl e

-- the entry of so many elements
no_entry : (v some : ℕ) → some ≡ 0 → flush_entry v some ≡ None
no_entry v some e = ap (λ (b : Bool). if b then None else Some (entry.Flushed v some)) (eq-eqb some 0 e)

an_entry : (v some : ℕ) → some ≢ 0 → flush_entry v some ≡ Some (entry.Flushed v some)
an_entry v some e = ap (λ (b : Bool). if b then None else Some (entry.Flushed v some)) (ne_eqb some 0 e)

-- what a flush has left that had stored some elements, or none
left_some : (p : PlantTold) (v count some all d : ℕ) (u : VaultTold)
    → flush_answer (plan_numbers p.plan) (numbers_of p.vault).ledger v (batch_from (tail_of p v).numbers) (batch_len (tail_of p v).numbers count) ≡ flush.Flushed all d
    → some < all → numbers_of u ≡ enter (plan_numbers p.plan) (numbers_of p.vault) (flush_entry v some)
    → LeftByFlush (plan_numbers p.plan) (state_of p) v count (record (state_of p) { vault = numbers_of u })
left_some p v count some all d u is few e =
    let job : JobNumbers = plan_numbers p.plan in
    let s : State = state_of p in
    let beside : VaultNumbers → State = λ n. record s { vault = n } in
    let made : (step job s (act.Flush v count)).outcome ≡ outcome.Flushed all =
    ap (λ (t : TailNumbers). (flush_act job v count t s.vault).outcome) (tail_is p v)
    ∙ would_flush job v count (tail_of p v).numbers (numbers_of p.vault) all d is in
    ⊎_elim
    (λ (none : some ≡ 0). inl (ap beside (e ∙ ap (λ (o : Option Entry). enter job s.vault o) (no_entry v some none))))
    (λ (one : some ≢ 0).
    let least : 1 ≤ some = omega arith in
    inr (some, all, least, few, made, ap beside (e ∙ ap (λ (o : Option Entry). enter job s.vault o) (an_entry v some one))))
    (cases_eq some 0)

pub flush_applies : ActLaws → (p : PlantTold) (v count : ℕ) (rest : TailHeld) (u : VaultTold)
    (result : Result Outcome EngineFault)
    → Joint p → MayAct (plan_numbers p.plan) (act.Flush v count) → IsTailOf p.plan v rest → Sound p.plan u
    → FlushesTail p.plan v count (tail_of p v) p.vault result rest u → AsksVault true p.vault (is_ok result) u → u.outputs ≡ p.vault.outputs
    → AppliesJointly p (act.Flush v count) result (replace_tail_and_vault p v rest u)
flush_applies laws p v count rest u (Ok o) joint may tail sound left asks outputs =
    let job : JobNumbers = plan_numbers p.plan in
    let s : State = state_of p in
    tail_and_vault_made laws p v (act.Flush v count) rest u o (flush_act job v count (tail_at s v) s.vault) joint may.0 may refl refl
    (ap (λ (t : TailNumbers). flush_act job v count t s.vault) (tail_is p v) ∙ left.0)
    tail sound left.1 asks (puts_nothing p.plan p.vault u outputs)
flush_applies laws p v count rest u (Err (fault.Vault vault.Halted)) joint may tail sound left asks outputs =
    let beside : VaultTold → State = λ w. record (state_of p) { vault = numbers_of w } in
    tail_and_vault_met laws p v (act.Flush v count) rest u (fault.Vault vault.Halted) joint may.0 may (ap beside left.0.1)
    (ap (λ (t : TailHeld). t.numbers) left.1) tail sound (None, left.0) asks (puts_to_none p.plan _ p.vault u outputs)
flush_applies laws p v count rest u (Err (fault.Vault (vault.Store faults))) joint may tail sound left asks outputs =
    let some : ℕ = left.0.0 in
    let all : ℕ = left.0.1 in
    let stops = left.0.5 in
    tail_and_vault_met laws p v (act.Flush v count) rest u (fault.Vault (vault.Store faults)) joint may.0 may
    (left_some p v count some all left.0.2 u left.0.3 left.0.4 stops.2.numbers)
    (ap (λ (t : TailHeld). t.numbers) left.1) tail sound (flush_entry v some, (tt, stops)) asks (puts_to_none p.plan _ p.vault u outputs)
flush_applies laws p v count rest u (Err (fault.Vault (vault.Output faults))) joint may tail sound left asks outputs = absurd left.0
flush_applies laws p v count rest u (Err (fault.Vault (vault.Damaged w n))) joint may tail sound left asks outputs = absurd left.0
flush_applies laws p v count rest u (Err (fault.Vault vault.Memory)) joint may tail sound left asks outputs = absurd left.0
flush_applies laws p v count rest u (Err (fault.Full w reached)) joint may tail sound left asks outputs = absurd left.0
flush_applies laws p v count rest u (Err fault.Memory) joint may tail sound left asks outputs =
    let some : ℕ = left.0.0 in
    let all : ℕ = left.0.1 in
    let enters = left.0.5 in
    let goes : Goes p.vault u = record { halted = enters.halted ∙ sym enters.going; started = enters.started; counts = enters.counts } in
    tail_and_vault_met laws p v (act.Flush v count) rest u fault.Memory joint may.0 may
    (left_some p v count some all left.0.2 u left.0.3 left.0.4 enters.numbers)
    (ap (λ (t : TailHeld). t.numbers) left.1) tail sound (refl, λ quiet. refl, goes) asks (puts_to_none p.plan _ p.vault u outputs)
