-- The least that the readers of a stream want, and the marks that it makes.
use Rattle.std.specs.Prelude.{◌≡◌, ℕ, ◌≤◌, ◌⊎◌, true}
use Rattle.ss_water.specs.declared.node.Kind.TheVariants.{Sink}
use Rattle.ss_state.specs.Numbers.{JobNumbers, IsStream, is_inner, vertex, pos}
use Rattle.ss_state.specs.State.{Ledger, row_at}
use Rattle.ss_state.specs.LowWater.{taken_at, start_at}
use Rattle.ss_state.specs.IsNumbers.{Reads}

-- n is the least of what the readers of v want, where each operator starts so and each sink has taken so much
pub record IsLeastWanted (job : JobNumbers) (start taken : ℕ → ℕ) (v n : ℕ) : Type 0 where
  pub readers : (w i : ℕ) → Reads job v w i → is_inner (vertex job w).kind ≡ true → n ≤ pos (vertex job w) (start w) i
  pub sinks : (k : ℕ) → Reads job v k 0 → (vertex job k).kind ≡ Sink → n ≤ taken k
  -- one of them wants it
  pub one : ((w i : ℕ) × Reads job v w i × (is_inner (vertex job w).kind ≡ true) × (n ≡ pos (vertex job w) (start w) i))
      ⊎ ((k : ℕ) × Reads job v k 0 × ((vertex job k).kind ≡ Sink) × (n ≡ taken k))

-- of each stream so much is wanted where each vertex begins so, and each begins as what is wanted of it allows
pub record AreMarks (job : JobNumbers) (l : Ledger) (wanted begin : ℕ → ℕ) : Type 0 where
  pub least : (v : ℕ) → IsStream job v → IsLeastWanted job begin (taken_at l) v (wanted v)
  pub begins : (v : ℕ) → IsStream job v → begin v ≡ start_at (vertex job v) (row_at l v) (wanted v)
