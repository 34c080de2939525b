-- That the numbers of a job are those of its meaning.
use Rattle.std.specs.Prelude.{ℕ, ◌<◌, List, length}
use Rattle.ss_meaning.specs.Meaning.{Vertex}
use Rattle.ss_meaning.specs.Jobs.{IsJob}
use Rattle.ss_state.specs.Numbers.{vertex}
use Rattle.ss_state.specs.IsNumbers.{IsNumbers}
use Rattle.ss_state.specs.NumbersOfMeaning.{Policy, Limits, job_numbers, IsMeant, IsRunnable}

-- positions, outputs, lengths and entries of each vertex are those of its meaning
abbrev pub NumbersAreMeant : Type 0
NumbersAreMeant =
    (job : List Vertex) (policies : List Policy) (limits : Limits) → IsJob job → (v : ℕ) → v < length job
    → IsMeant job v (vertex (job_numbers job policies limits) v)

-- the numbers of a job that can be run are such as the other laws ask
abbrev pub RunnableHasNumbers : Type 0
RunnableHasNumbers =
    (job : List Vertex) (policies : List Policy) (limits : Limits) → IsRunnable job policies limits
    → IsNumbers (job_numbers job policies limits)
