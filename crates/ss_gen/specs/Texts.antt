-- Texts one behind another.
use Rattle.std.specs.Prelude.{◌≡◌, ℕ, List, ◌++◌}
use Rattle.std.specs.Borrow.{Bor}
use Rattle.std.specs.List.{flat_map}

-- texts one behind another
abbrev pub texts_joined : List (Bor (List ℕ)) → List ℕ
texts_joined texts = flat_map (λ text. text.now) texts

-- a text that is as another and may go on
abbrev pub Extends : List ℕ → List ℕ → Type 0
Extends old new = (more : List ℕ) × (new ≡ old ++ more)
