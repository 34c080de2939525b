-- Why acts of a list weren't all made.
use Rattle.std.proofs.Common.{◌≡◌, ℕ, ◌<◌, ◌≤◌, zero, suc, true, List, [], ◌∷◌, Option, Some, None, sym, subst, inl, inr, arith, take}
use Rattle.std.specs.Prelude.{IsSome}
use Rattle.std.proofs.lemmas.Bool.{ltb-true}
use Rattle.ss_acts.specs.Faults.{Fails, made_by}
use Rattle.ss_acts.specs.declared.fault.EngineFault.{EngineFault}
use Rattle.ss_acts.specs.declared.fault.EngineFault.TheVariants as fault
use Rattle.ss_engine.specs.Applies.{CanMeet, IsCause, IsFullAt}
use Rattle.ss_engine.specs.Plays.{PlaysUpTo, StopsAt, TraceTold}
use Rattle.ss_engine.specs.Told.{PlantTold, state_of}
use Rattle.ss_fail.specs.declared.act.Act.{Act}
use Rattle.ss_fail.specs.declared.act.Act.TheVariants as act
use Rattle.ss_frames.specs.Plans.{plan_numbers}
use Rattle.ss_outside.specs.Faults.{Rose}
use Rattle.ss_plan.specs.Plan.{PlanText}
use Rattle.ss_state.specs.Numbers.{VertexNumbers, JobNumbers, out, size, sum_of, vertex}
use Rattle.ss_state.specs.State.{InstNumbers}
use Rattle.ss_state.specs.Step.{has_passed, read_at}
use Rattle.ss_state.specs.declared.entry.Entry.{Entry}
use Rattle.ss_vault.specs.Counts.{NoneFell}
use Rattle.ss_vault.specs.Told.{counts_of}
use Rattle.ss_vault.specs.declared.fault.VaultFault.{VaultFault}
use Rattle.ss_vault.specs.declared.fault.VaultFault.TheVariants as vault
use Rattle.ss_serial.specs.Ends.{IsExcuse}

rose_before : (a b c : ℕ) → a ≤ b → Rose b c → Rose a c
rose_before a b c le rose = omega (arith, le, rose)

-- ---- a stream that is too long

sum_of_taken : (n : ℕ) (xs : List ℕ) → sum_of (take n xs) ≤ sum_of xs
sum_of_taken zero xs = omega arith
sum_of_taken (suc n) [] = omega arith
sum_of_taken (suc n) (x ∷ xs) = let behind = sum_of_taken n xs in omega (arith, behind)

out_within : (x : VertexNumbers) (n : ℕ) → out x n ≤ size x
unfolding out size
out_within x n = sum_of_taken n x.given

passed : (most : ℕ) (x : VertexNumbers) (inst : Option InstNumbers) → has_passed most x inst ≡ true
    → (most < made_by x inst) × (most < size x)
passed most x None e = absurd cc
passed most x (Some up) e =
    let more = ltb-true most (out x up.n) e in
    let within = out_within x up.n in
    (more, omega (arith, more, within))

full : (p : PlantTold) (a : Act) (v reached : ℕ) → IsFullAt p a v reached
    → ((plan_numbers p.plan).max_elements < reached) × ((plan_numbers p.plan).max_elements < size (vertex (plan_numbers p.plan) v))
full p (act.Read w r) v reached is =
    let job : JobNumbers = plan_numbers p.plan in
    let more = passed job.max_elements (vertex job w) (read_at job (state_of p) w r).inst is.2 in (
      subst (λ (n : ℕ). job.max_elements < n) (sym is.1) more.0,
      subst (λ (u : ℕ). job.max_elements < size (vertex job u)) (sym is.0) more.1,
    )
full p (act.Write w r) v reached is = absurd is
full p (act.Snap w r) v reached is = absurd is
full p (act.Crash w r) v reached is = absurd is
full p (act.Load w r) v reached is = absurd is
full p (act.Lose w) v reached is = absurd is
full p (act.Flush w count) v reached is = absurd is
full p (act.Take k) v reached is = absurd is
full p (act.Collect w) v reached is = absurd is
full p (act.Trim w) v reached is = absurd is
full p act.Pass v reached is = absurd is

-- ---- one act

of_vault : (p : PlantTold) (a : Act) (entry : Option Entry) (q : PlantTold) (f : VaultFault)
    → Fails (CanMeet p a) p.plan p.vault entry (fault.Vault f) q.vault → IsExcuse p (fault.Vault f) q
of_vault p a entry q (vault.Store count) fails = (fails.1.0, fails.1.1)
of_vault p a entry q (vault.Output count) fails = (fails.1.0, fails.1.1)
of_vault p a entry q (vault.Damaged v n) fails = fails.1.0
of_vault p a entry q vault.Halted fails = fails.0
of_vault p a entry q vault.Memory fails = absurd fails

of_act : (p : PlantTold) (a : Act) (q : PlantTold) (f : EngineFault) → IsCause p a q f → IsExcuse p f q
of_act p a q (fault.Vault f) cause = of_vault p a cause.0 q f cause.1
of_act p a q (fault.Full v reached) cause = full p a v reached cause.0
of_act p a q fault.Memory cause = tt

of_stop : (p : PlantTold) (a : Act) (q : PlantTold) (f : EngineFault) → StopsAt p a q f → IsExcuse p f q
of_stop p a q f (inl meets) = of_act p a q f meets.cause
of_stop p a q f (inr none) = subst (λ (g : EngineFault). IsExcuse p g q) (sym none.0) tt

-- ---- a list of acts

excused_before : (p q r : PlantTold) (f : EngineFault) → q.plan ≡ p.plan → q.vault.halted ≡ p.vault.halted
    → NoneFell (counts_of p.vault) (counts_of q.vault) → IsExcuse q f r → IsExcuse p f r
excused_before p q r (fault.Vault (vault.Store count)) same halted fell is =
    (is.0, rose_before p.vault.depot.faults q.vault.depot.faults r.vault.depot.faults fell.faults is.1)
excused_before p q r (fault.Vault (vault.Output count)) same halted fell is =
    (is.0, rose_before p.vault.outputs.faults q.vault.outputs.faults r.vault.outputs.faults fell.output_faults is.1)
excused_before p q r (fault.Vault (vault.Damaged v n)) same halted fell is =
    rose_before p.vault.depot.shorts q.vault.depot.shorts r.vault.depot.shorts fell.shorts is
excused_before p q r (fault.Vault vault.Halted) same halted fell is = subst (λ (h : Option VaultFault). IsSome h) halted is
excused_before p q r (fault.Vault vault.Memory) same halted fell is = is
excused_before p q r (fault.Full v reached) same halted fell is =
    subst (λ (plan : PlanText). ((plan_numbers plan).max_elements < reached) × ((plan_numbers plan).max_elements < size (vertex (plan_numbers plan) v)))
    same is
excused_before p q r fault.Memory same halted fell is = tt

pub excuses : (p q : PlantTold) (acts : List Act) (before after : TraceTold) (f : EngineFault) → PlaysUpTo p acts before f q after
    → IsExcuse p f q
excuses p q acts before after f plays =
    excused_before p plays.between q f plays.runs.plan plays.runs.goes.halted plays.runs.goes.counts
    (of_stop plays.between plays.next q f plays.stops)
