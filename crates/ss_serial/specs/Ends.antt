-- How it ends that a job is brought to its end.
use Rattle.std.specs.Prelude.{◌≡◌, ℕ, ◌<◌, IsSome}
use Rattle.ss_acts.specs.declared.fault.EngineFault.{EngineFault}
use Rattle.ss_acts.specs.declared.fault.EngineFault.TheVariants as fault
use Rattle.ss_frames.specs.Plans.{plan_numbers}
use Rattle.ss_outside.specs.Faults.{Rose}
use Rattle.ss_state.specs.Numbers.{IsSink, input, size, vertex}
use Rattle.ss_state.specs.State.{durable_at}
use Rattle.ss_vault.specs.declared.fault.VaultFault.TheVariants as vault
use Rattle.ss_engine.specs.Told.{PlantTold, state_of}

-- every sink has put all lines of its stream
abbrev pub AllPut : PlantTold → Type 0
AllPut p =
    (k : ℕ) → IsSink (plan_numbers p.plan) k
    → (durable_at (state_of p) k).taken
    ≡ size (vertex (plan_numbers p.plan) (input (vertex (plan_numbers p.plan) k) 0))

-- Why it ends before that: the count of a device rose meanwhile, or the job was halted before, or a stream is longer
-- than a stream may be; want of memory needs no reason, and is never told as one of the vault.
abbrev pub IsExcuse : PlantTold → EngineFault → PlantTold → Type 0
IsExcuse p (fault.Vault (vault.Store count)) q =
    (count ≡ q.vault.depot.faults) × Rose p.vault.depot.faults q.vault.depot.faults
IsExcuse p (fault.Vault (vault.Output count)) q =
    (count ≡ q.vault.outputs.faults) × Rose p.vault.outputs.faults q.vault.outputs.faults
IsExcuse p (fault.Vault (vault.Damaged v n)) q = Rose p.vault.depot.shorts q.vault.depot.shorts
IsExcuse p (fault.Vault vault.Halted) q = IsSome p.vault.halted
IsExcuse p (fault.Vault vault.Memory) q = ⊥
IsExcuse p (fault.Full v reached) q =
    let job = plan_numbers p.plan in
    (job.max_elements < reached) × (job.max_elements < size (vertex job v))
IsExcuse p fault.Memory q = Unit {0}
