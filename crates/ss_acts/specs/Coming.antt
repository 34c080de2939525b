-- What a load does to the parts that it touches.
use Rattle.std.specs.Prelude.{◌≡◌, ℕ, nat_lt, if◌then◌else◌, Some, None, Result, Ok, Err}
use Rattle.ss_acts.specs.Faults.{Fails}
use Rattle.ss_acts.specs.Leaves.{Keeps}
use Rattle.ss_acts.specs.Parts.{vertex_of}
use Rattle.ss_acts.specs.declared.fault.EngineFault.{EngineFault}
use Rattle.ss_frames.specs.Plans.{plan_numbers}
use Rattle.ss_plan.specs.Plan.{PlanText}
use Rattle.ss_state.specs.LowWater.{snap_within}
use Rattle.ss_state.specs.Numbers.{VertexNumbers, is_inner}
use Rattle.ss_state.specs.State.{InstNumbers, LedgerRow}
use Rattle.ss_tail.specs.Held.{TailHeld, begun_at}
use Rattle.ss_vault.specs.Answers.{fetched}
use Rattle.ss_vault.specs.Calls.{IsOfLook}
use Rattle.ss_vault.specs.Told.{VaultTold, numbers_of, durable_of}
use Rattle.ss_vertex.specs.Inst.{InstState, inst_numbers}

-- the tail, where so many elements of its stream are stored
abbrev pub begun_behind : TailHeld → ℕ → TailHeld
begun_behind tail dur = if nat_lt tail.numbers.end dur then begun_at tail dur else tail

-- the replica, where its tail ends at `end`
abbrev pub up_behind : VertexNumbers → ℕ → LedgerRow → InstNumbers
up_behind x end row = record { n = if is_inner x.kind then snap_within x row.snaps end else end; left = 0 }

-- it comes up so, or stays as it is
abbrev pub ComesUp
    : PlanText → InstState → ℕ → VaultTold → Result (Unit {0}) EngineFault → InstState → VaultTold → Type 0
ComesUp plan inst end s (Ok done) new u =
    (inst_numbers new ≡ Some (up_behind (vertex_of plan inst.v) end (durable_of s inst.v))) × Keeps s u
ComesUp plan inst end s (Err f) new u =
    Fails (IsOfLook inst.v (fetched (plan_numbers plan) (numbers_of s).ledger inst.v end)) plan s None f u
    × (new ≡ inst)
