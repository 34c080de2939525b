-- What the readers of a vault ask and answer.
use Rattle.std.specs.Prelude.{◌≡◌, ℕ, ◌<◌, length}
use Rattle.ss_frames.specs.Plans.{plan_numbers}
use Rattle.ss_plan.specs.Limit.{IsPlan}
use Rattle.ss_plan.specs.Plan.{PlanText}
use Rattle.ss_state.specs.Numbers.{IsOperator, IsSink, vertex, input, size}
use Rattle.ss_vault.specs.Sound.{Sound}
use Rattle.ss_vault.specs.Told.{VaultTold, numbers_of, durable_of}

-- the vault is one of a job that has vertex v
abbrev pub HasRow : VaultTold → ℕ → Type 0
HasRow vault v = v < length (numbers_of vault).ledger.rows

-- v is an operator of this plan, of which the vault is one
pub record IsOperatorIn (plan : PlanText) (vault : VaultTold) (v : ℕ) : Type 0 where
  pub is : IsPlan plan
  pub sound : Sound plan vault
  pub operator : IsOperator (plan_numbers plan) v

-- v is an operator of a plan of which the vault is one
abbrev pub IsOperatorOf : VaultTold → ℕ → Type 0
IsOperatorOf vault v = (plan : PlanText) × IsOperatorIn plan vault v

-- each sink has put the whole stream that it puts
abbrev pub HaveAllEnded : PlanText → VaultTold → Type 0
HaveAllEnded plan vault =
    (k : ℕ) → IsSink (plan_numbers plan) k
    → (durable_of vault k).taken ≡ size (vertex (plan_numbers plan) (input (vertex (plan_numbers plan) k) 0))
