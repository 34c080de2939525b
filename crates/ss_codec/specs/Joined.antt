-- Bytes and what stands behind them.
use Rattle.std.specs.Prelude.{◌≡◌, ℕ, List, ◌++◌}
use Rattle.std.specs.Borrow.{Bor}
use Rattle.std.specs.List.{flat_map}

-- texts one behind another
abbrev pub joined : List (Bor (List ℕ)) → List ℕ
joined texts = flat_map (λ text. text.now) texts

-- bytes are others and perhaps more
abbrev pub Extends : List ℕ → List ℕ → Type 0
Extends front whole = (more : List ℕ) × (whole ≡ front ++ more)
