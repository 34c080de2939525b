use Rattle.std.proofs.Common.{◌≡◌, ℕ, ◌<◌, ◌≤◌, false}
use Rattle.std.specs.Prelude.{slice_get, IfSome}
use Rattle.ss_manager.specs.Fired.{fires}
use Rattle.ss_manager.proofs.fired.next_fired.Given as goal

-- none of those before it is for this write
abbrev pub invariant-loop-i : goal.invariant-loop-i
invariant-loop-i l =
    (j : ℕ) → l.start ≤ j → j < l.i → IfSome (slice_get l.triggers j) (λ t. fires t l.v l.stored ≡ false)
