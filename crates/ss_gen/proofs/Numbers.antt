-- Numbers that are drawn one after the other.
use Rattle.std.proofs.Common.{◌≡◌, ◌∙◌, ℕ, suc, ◌+◌, ap, sym}
use Rattle.ss_gen.specs.Draws.{draw, drawn, next_state, state_after}

-- one draw more
pub one_more : (seed n m x y : ℕ) → x ≡ state_after seed n → y ≡ next_state x → m ≡ suc n → y ≡ state_after seed m
one_more seed n m x y at next is = next ∙ ap next_state at ∙ ap (state_after seed) (sym is)

-- what it gives
pub number_is : (seed n most x r : ℕ) → x ≡ state_after seed (n + 1) → r ≡ drawn x most → suc n ≡ n + 1 → r ≡ draw seed n most
number_is seed n most x r at gives same =
    gives ∙ ap (λ (s : ℕ). drawn s most) (at ∙ ap (state_after seed) (sym same))
