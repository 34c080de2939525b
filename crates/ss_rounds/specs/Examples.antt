-- Worked examples: the total of a small job before and after acts, by hand.
use Rattle.std.specs.Prelude.{◌≡◌, ℕ, true, List, [], ◌∷◌, ◌++◌}
use Rattle.ss_fail.specs.declared.act.Act.{Act}
use Rattle.ss_fail.specs.declared.act.Act.TheVariants.{Read, Write, Crash, Flush, Take, Pass}
use Rattle.ss_fail.specs.declared.trigger.Trigger.{Trigger}
use Rattle.ss_state.specs.Step.{step}
use Rattle.ss_state.specs.State.{first_state}
use Rattle.ss_state.specs.Examples.{job_of_three, job_of_four, before_the_pass, state_after, after_write}
use Rattle.ss_rounds.specs.Measure.{total_left}
use Rattle.ss_rounds.specs.Whole.{is_wait}

-- what is left after these acts on the job of three vertices
abbrev pub left_after : List Trigger → List Act → ℕ
left_after ts acts = total_left job_of_three ts (state_after job_of_three acts)

-- At the start 8 is far of each stream and 4 of the sink, and 16 is near at each of the first two vertices, where at
-- most 54 + 54 + 6 can be: in all 20 * 115 + 32. A read and a write lower what is near by 2 each, and a flush of one
-- element what is far by 2.
abbrev pub ActsLowerIt : Type 0
ActsLowerIt =
    let made : List Act = Read 0 0 ∷ Write 0 0 ∷ [] in
    (left_after [] [] ≡ 2332) × (left_after [] (Read 0 0 ∷ []) ≡ 2330) × (left_after [] made ≡ 2328)
    × (left_after [] (made ++ Flush 0 1 ∷ []) ≡ 2098)

-- a trigger that waits counts 10 more of what is far, and the crash that it makes raises what is near by 6 alone
abbrev pub CrashRaisesLess : Type 0
CrashRaisesLess =
    let ts = after_write 1 (Crash 0 0) ∷ [] in
    (left_after ts [] ≡ 3482) × (left_after ts (Read 0 0 ∷ Write 0 0 ∷ []) ≡ 2328)
    × (left_after ts (Read 0 0 ∷ Write 0 0 ∷ Crash 0 0 ∷ []) ≡ 2334)

-- Three streams of four elements of which the first three are made, and of the last one stored. 22 is far and 12 near:
-- in all 22 * 169 + 12. A pass raises what is stored of the other two streams, which lowers what is far to 12. The
-- flush behind it stores nothing, but tells the first tail of that, which lowers what is far to 11.
abbrev pub PassLowersIt : Type 0
PassLowersIt =
    let left : List Act → ℕ = λ acts. total_left job_of_four [] (state_after job_of_four (before_the_pass ++ acts)) in
    (left [] ≡ 3730) × (left (Pass ∷ []) ≡ 2040) × (left (Pass ∷ Flush 0 1 ∷ []) ≡ 1871)

-- an operator whose input has given nothing waits, and a sink whose stream has nothing stored takes nothing
abbrev pub WaitsChangeNothingHere : Type 0
WaitsChangeNothingHere =
    let s = first_state job_of_three in
    (is_wait (step job_of_three s (Read 1 0)).outcome ≡ true) × ((step job_of_three s (Read 1 0)).state ≡ s)
    × ((step job_of_three s (Take 2)).state ≡ s)
