-- What `of` says of the plan, at the first value.
use Rattle.std.proofs.Common.{ap, ◌∙◌}
use Rattle.std.specs.List.{slice_get}
use Rattle.tests_outside.proofs.turns.two_threads_count_in_the_same_slots.Goals as goal

pub count_up_beside-first-requires-clause-first : goal.count_up_beside-first-requires-clause-first
count_up_beside-first-requires-clause-first g c =
    let plan = c.in-Ok.ensures.plan 0 record { place = 0; count = 0 } (ap (λ xs. slice_get xs 0) c.in_ok-values.ensures) in
    let kept = c.in_ok-second.ensures.view in
    (c.in_ok-second.ensures.pass, ap (λ v. v.has) kept ∙ ap (λ v. v.has) c.in-Ok.ensures.view, ap (λ v. v.plan) kept ∙ plan)

pub count_up_beside-first-requires-clause-second : goal.count_up_beside-first-requires-clause-second
count_up_beside-first-requires-clause-second g c =
    let plan = c.in-Ok.ensures.plan 0 record { place = 0; count = 0 } (ap (λ xs. slice_get xs 0) c.in_ok-values.ensures) in
    let new = c.in_ok-second.ensures.new in
    (new.0, ap (λ v. v.has) new.1, ap (λ v. v.plan) new.1 ∙ plan)
