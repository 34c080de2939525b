-- How an operator is kept safe.
use Rattle.std.specs.Prelude.{◌≡◌, true}
use Rattle.ss_job.specs.declared.policy.Policy.{Policy}
use Rattle.ss_state.specs.Numbers.{VertexNumbers, is_inner}

-- the numbers of an operator say so
pub record IsPolicyOf (x : VertexNumbers) (policy : Policy) : Type 0 where
  pub inner : is_inner x.kind ≡ true
  pub every : x.every ≡ policy.every
  pub replay : x.replay ≡ policy.replay
