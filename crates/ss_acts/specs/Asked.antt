-- What a replica asks for where it reads, and what comes of an element that it accepts.
use Rattle.std.specs.Prelude.{◌≡◌, ℕ, ◌<◌, false, Some, None, Result, Ok, Err}
use Rattle.ss_acts.specs.Faults.{RefusesRead}
use Rattle.ss_acts.specs.Leaves.{LeavesInst}
use Rattle.ss_acts.specs.Parts.{vertex_of}
use Rattle.ss_acts.specs.Readings.{is_ready}
use Rattle.ss_acts.specs.declared.asking.Asked.{Asked}
use Rattle.ss_acts.specs.declared.asking.Asked.TheVariants.{Nothing, Item}
use Rattle.ss_acts.specs.declared.fault.EngineFault.{EngineFault}
use Rattle.ss_fail.specs.declared.outcome.Outcome.{Outcome}
use Rattle.ss_fail.specs.declared.outcome.Outcome.TheVariants as outcome
use Rattle.ss_plan.specs.Plan.{PlanText, vertices_of}
use Rattle.ss_state.specs.Acts.{InstStep, got, read_act}
use Rattle.ss_state.specs.Numbers.{mlen, wanted_input, wanted_number}
use Rattle.ss_state.specs.State.{InstNumbers}
use Rattle.ss_vault.specs.declared.answers.Read.{Read}
use Rattle.ss_vault.specs.declared.answers.Read.TheVariants as read
use Rattle.ss_vertex.specs.Arriving.{wanted}
use Rattle.ss_vertex.specs.Calls.{IsElementAt}
use Rattle.ss_vertex.specs.Inst.{InstState, inst_numbers, n_of}

-- a replica that has accepted n elements and has nothing left to write
abbrev pub idle_at : ℕ → InstNumbers
idle_at n = record { n = n; left = 0 }

-- a replica is ready to read, and wants element n of its input i
pub record Wants (plan : PlanText) (inst : InstState) (i n : ℕ) : Type 0 where
  pub ready : inst_numbers inst ≡ Some (idle_at (n_of inst))
  pub more : n_of inst < mlen (vertex_of plan inst.v)
  pub input : i ≡ wanted_input (vertex_of plan inst.v) (n_of inst)
  pub number : n ≡ wanted_number (vertex_of plan inst.v) (n_of inst)
  pub place : wanted (vertices_of plan) inst.v (n_of inst) ≡ Some (i, n)

-- whatever its wanted element would come to, a read of it comes to this and leaves it as it is
abbrev pub ComesTo : PlanText → InstState → Outcome → Type 0
ComesTo plan inst outcome =
    (answer : ℕ → InstStep) → LeavesInst (read_act (vertex_of plan inst.v) (inst_numbers inst) answer) inst outcome

abbrev pub IsAsked : PlanText → InstState → Asked → Type 0
IsAsked plan inst (Nothing outcome) =
    (is_ready (vertex_of plan inst.v) (inst_numbers inst) ≡ false) × ComesTo plan inst outcome
IsAsked plan inst (Item i n) = Wants plan inst i n

-- the replica got element n of its input i, or is refused it
abbrev pub Accepts : PlanText → InstState → ℕ → ℕ → Result Outcome EngineFault → InstState → Type 0
Accepts plan inst i n (Ok outcome) new = LeavesInst (got (vertex_of plan inst.v) (n_of inst) i n) new outcome
Accepts plan inst i n (Err f) new =
    RefusesRead plan inst (got (vertex_of plan inst.v) (n_of inst) i n) f × (new ≡ inst)

-- what the vault gave as that element is it
abbrev pub MayTake : PlanText → InstState → ℕ → ℕ → Read → Type 0
MayTake plan inst i n (read.Gone base) = Unit {0}
MayTake plan inst i n (read.NotYet dur) = Unit {0}
MayTake plan inst i n (read.Item x) = IsElementAt plan inst.v (i, n) x

-- the replica got what the vault gave as that element, goes down where it is stored no more, or waits for it
abbrev pub TakesRead : PlanText → InstState → ℕ → ℕ → Read → Result Outcome EngineFault → InstState → Type 0
TakesRead plan inst i n (read.Gone base) result new =
    (result ≡ Ok (outcome.Gone i n)) × (inst_numbers new ≡ None)
TakesRead plan inst i n (read.NotYet dur) result new = (result ≡ Ok (outcome.Wait i n)) × (new ≡ inst)
TakesRead plan inst i n (read.Item x) result new = Accepts plan inst i n result new
