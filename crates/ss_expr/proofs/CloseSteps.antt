-- Closing frames one by one.
use Rattle.std.proofs.Common.{◌≡◌, ◌≤◌, ℕ, true, false, List, [], ◌∷◌, refl, ap, ◌∙◌, IfSome, arith}
use Rattle.std.proofs.lemmas.Bool.{cond-true, cond-false}
use Rattle.ss_expr.specs.Reading.{binds, close, holding, over, frame_levels}
use Rattle.ss_expr.specs.Stacks.{first}
use Rattle.ss_expr.specs.Tree.{Tree}
use Rattle.ss_expr.specs.declared.frame.Frame.{Frame}
use Rattle.ss_expr.specs.declared.frame.Frame.TheVariants.{Open, Prefix, Left}

pub close_on : (stack below : List Frame) (frame : Frame) (least : ℕ) (e : Tree) → stack ≡ frame ∷ below → binds frame least ≡ true → close stack least e ≡ close below least (over frame e)
close_on stack below frame least e is h =
    ap (λ (fs : List Frame). close fs least e) is ∙ cond-true (binds frame least) (close below least (over frame e)) (holding (frame ∷ below) e) h

pub close_stops : (stack : List Frame) (least : ℕ) (e : Tree) → IfSome (first stack) (λ frame. binds frame least ≡ false) → close stack least e ≡ holding stack e
close_stops [] least e h = refl
close_stops (frame ∷ below) least e h = cond-false (binds frame least) (close below least (over frame e)) (holding (frame ∷ below) e) h

pub ruleset closing = (close_on, close_stops)

pub frame_levels-le : (frame : Frame) → frame_levels frame ≤ 1
frame_levels-le Open = omega arith
frame_levels-le (Prefix op at) = omega arith
frame_levels-le (Left op at l) = omega arith

pub ruleset levels = (frame_levels-le)
