-- Acts of collection: what their functions say of the vault, said of the job.
use Rattle.std.proofs.Common.{◌≡◌, ℕ, true, Some, None, Result, Ok, Err, ap, ◌∙◌, sym, subst, refl, le_refl}
use Rattle.std.specs.Prelude.{is_ok}
use Rattle.ss_acts.specs.Calls.{CollectsStream, PassesAll, TrimsVertex}
use Rattle.ss_acts.specs.Faults.{FailsToDrop}
use Rattle.ss_acts.specs.Leaves.{AsksVault, Goes}
use Rattle.ss_acts.specs.declared.fault.EngineFault.{EngineFault}
use Rattle.ss_acts.specs.declared.fault.EngineFault.TheVariants as fault
use Rattle.ss_fail.specs.declared.act.Act.TheVariants as act
use Rattle.ss_fail.specs.declared.outcome.Outcome.{Outcome}
use Rattle.ss_frames.specs.Plans.{plan_numbers}
use Rattle.ss_outside.specs.Depot.{DepotTold}
use Rattle.ss_outside.specs.Told.{OutputsTold}
use Rattle.ss_plan.specs.Plan.{PlanText}
use Rattle.ss_state.specs.Acts.{collect_act, pass_act, trim_act}
use Rattle.ss_state.specs.Numbers.{IsStream}
use Rattle.ss_state.specs.State.{State, VaultNumbers}
use Rattle.ss_state.specs.declared.entry.Entry.TheVariants as entry
use Rattle.ss_vault.specs.Calls.{IsOfDrop, KeepsAllButPlaces}
use Rattle.ss_vault.specs.Counts.{NoneFell, counts_told}
use Rattle.ss_vault.specs.Sound.{Sound}
use Rattle.ss_vault.specs.Told.{VaultTold, counts_of, numbers_of}
use Rattle.ss_vault.specs.declared.counts.Counts.{Counts}
use Rattle.ss_vault.specs.declared.fault.VaultFault.TheVariants as vault
use Rattle.ss_engine.specs.Applies.{AppliesJointly, IsCause}
use Rattle.ss_engine.specs.Laws.{ActLaws}
use Rattle.ss_engine.specs.Joint.{Joint}
use Rattle.ss_engine.specs.Told.{PlantTold, state_of}
use Rattle.ss_engine.proofs.Causes.{fails_keeps}
use Rattle.ss_engine.proofs.Made.{met, puts_nothing, puts_to_none}
use Rattle.ss_engine.proofs.Parts.{parts_with_vault, replace_vault}
use Rattle.ss_engine.proofs.Steps.{vault_made, vault_met}

-- a vault of which at most a place was reserved goes on
same_counts : (s u : VaultTold) → KeepsAllButPlaces s u → counts_of u ≡ counts_of s
same_counts s u same =
    ap (λ (o : OutputsTold). counts_told o u.depot) same.outputs ∙ ap (λ (d : DepotTold). counts_told s.outputs d) same.depot

goes_with_places : (s u : VaultTold) → KeepsAllButPlaces s u → Goes s u
goes_with_places s u same = record {
  halted = same.halted;
  started = same.started;
  counts = subst (λ (c : Counts). NoneFell (counts_of s) c) (sym (same_counts s u same))
      (record { faults = le_refl _; output_faults = le_refl _; shorts = le_refl _ });
}

-- a collect or a trim that isn't made leaves the numbers as they were
drop_keeps : (plan : PlanText) (s u : VaultTold) (f : EngineFault) → FailsToDrop plan s f u → numbers_of u ≡ numbers_of s
drop_keeps plan s u (fault.Vault f) h = fails_keeps IsOfDrop plan s u (fault.Vault f) h
drop_keeps plan s u (fault.Full v reached) h = absurd h
drop_keeps plan s u fault.Memory h = h.numbers

collect_cause : (p q : PlantTold) (v : ℕ) (f : EngineFault) → FailsToDrop p.plan p.vault f q.vault → IsCause p (act.Collect v) q f
collect_cause p q v (fault.Vault f) h = (None, h)
collect_cause p q v (fault.Full w reached) h = absurd h
collect_cause p q v fault.Memory h = (refl, λ quiet. refl, goes_with_places p.vault q.vault h)

trim_cause : (p q : PlantTold) (v : ℕ) (f : EngineFault) → FailsToDrop p.plan p.vault f q.vault → IsCause p (act.Trim v) q f
trim_cause p q v (fault.Vault f) h = (None, h)
trim_cause p q v (fault.Full w reached) h = absurd h
trim_cause p q v fault.Memory h = (refl, λ quiet. refl, goes_with_places p.vault q.vault h)

pub collect_applies : ActLaws → (p : PlantTold) (v : ℕ) (u : VaultTold) (result : Result Outcome EngineFault)
    → Joint p → IsStream (plan_numbers p.plan) v → Sound p.plan u
    → CollectsStream p.plan v p.vault result u → AsksVault true p.vault (is_ok result) u → u.outputs ≡ p.vault.outputs
    → AppliesJointly p (act.Collect v) result (replace_vault p u)
collect_applies laws p v u (Ok o) joint stream sound left asks outputs =
    vault_made laws p (act.Collect v) u o (collect_act (plan_numbers p.plan) v (state_of p).vault) joint stream refl refl left.0 sound left.1 asks
    (puts_nothing p.plan p.vault u outputs)
collect_applies laws p v u (Err f) joint stream sound left asks outputs =
    vault_met laws p (act.Collect v) u f joint stream (λ end e. e) sound (drop_keeps p.plan p.vault u f left)
    (collect_cause p (replace_vault p u) v f left) asks (puts_to_none p.plan _ p.vault u outputs)

pub trim_applies : ActLaws → (p : PlantTold) (v : ℕ) (u : VaultTold) (result : Result Outcome EngineFault)
    → Joint p → IsStream (plan_numbers p.plan) v → Sound p.plan u
    → TrimsVertex p.plan v p.vault result u → AsksVault true p.vault (is_ok result) u → u.outputs ≡ p.vault.outputs
    → AppliesJointly p (act.Trim v) result (replace_vault p u)
trim_applies laws p v u (Ok o) joint stream sound left asks outputs =
    vault_made laws p (act.Trim v) u o (trim_act (plan_numbers p.plan) v (state_of p).vault) joint stream refl refl left.0 sound left.1 asks
    (puts_nothing p.plan p.vault u outputs)
trim_applies laws p v u (Err f) joint stream sound left asks outputs =
    vault_met laws p (act.Trim v) u f joint stream (λ end e. e) sound (drop_keeps p.plan p.vault u f left)
    (trim_cause p (replace_vault p u) v f left) asks (puts_to_none p.plan _ p.vault u outputs)

pub pass_applies : ActLaws → (p : PlantTold) (u : VaultTold) (result : Result Outcome EngineFault)
    → Joint p → Sound p.plan u → PassesAll p.plan p.vault result u → AsksVault true p.vault (is_ok result) u → u.outputs ≡ p.vault.outputs
    → AppliesJointly p act.Pass result (replace_vault p u)
pass_applies laws p u (Ok o) joint sound left asks outputs =
    vault_made laws p act.Pass u o (pass_act (plan_numbers p.plan) (state_of p).vault) joint tt refl refl left.0 sound left.1 asks
    (puts_nothing p.plan p.vault u outputs)
pass_applies laws p u (Err (fault.Vault (vault.Store count))) joint sound left asks outputs =
    let halves : ℕ = left.0 in
    let stops = left.2 in
    let beside : VaultNumbers → State = λ n. record (state_of p) { vault = n } in
    met laws p (replace_vault p u) act.Pass (fault.Vault (vault.Store count)) joint tt (parts_with_vault p u joint.parts sound) refl
    (halves, left.1, ap beside stops.2.numbers) (Some (entry.Pass halves), (tt, stops)) asks (puts_to_none p.plan _ p.vault u outputs)
pass_applies laws p u (Err (fault.Vault (vault.Output count))) joint sound left asks outputs = absurd left
pass_applies laws p u (Err (fault.Vault (vault.Damaged v n))) joint sound left asks outputs = absurd left
pass_applies laws p u (Err (fault.Vault vault.Halted)) joint sound left asks outputs =
    vault_met laws p act.Pass u (fault.Vault vault.Halted) joint tt (λ end e. e) sound (ap (λ (w : VaultTold). numbers_of w) left.1)
    (None, left) asks (puts_to_none p.plan _ p.vault u outputs)
pass_applies laws p u (Err (fault.Vault vault.Memory)) joint sound left asks outputs = absurd left
pass_applies laws p u (Err (fault.Full v reached)) joint sound left asks outputs = absurd left
pass_applies laws p u (Err fault.Memory) joint sound left asks outputs =
    vault_met laws p act.Pass u fault.Memory joint tt (λ end e. e) sound left.numbers
    (refl, λ quiet. refl, goes_with_places p.vault u left) asks (puts_to_none p.plan _ p.vault u outputs)
