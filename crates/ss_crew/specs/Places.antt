-- In which slot each part of a running job stands: the tails by vertex, behind them the replicas by vertex, last the
-- vault.
use Rattle.std.specs.Prelude.{ℕ, ◌+◌, length, sum_by, take}
use Rattle.ss_state.specs.Numbers.{JobNumbers}

-- how many replicas the first v vertices have
abbrev pub replicas_before : JobNumbers → ℕ → ℕ
replicas_before job v = sum_by (λ x. x.replicas) (take v job.vertices)

-- the slot of replica r of vertex v
abbrev pub inst_place : JobNumbers → ℕ → ℕ → ℕ
inst_place job v r = length job.vertices + (replicas_before job v + r)

-- the slot of the vault
abbrev pub vault_place : JobNumbers → ℕ
vault_place job = length job.vertices + sum_by (λ x. x.replicas) job.vertices
