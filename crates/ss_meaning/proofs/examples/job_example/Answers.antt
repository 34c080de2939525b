-- The four vertices may stand where they do.
use Rattle.std.proofs.Common.{ℕ, zero, suc, ◌<◌, ◌^◌, [], ◌∷◌, refl, arith}
use Rattle.std.proofs.lemmas.List.Elements.{All-from_recursion}
use Rattle.ss_elem.specs.declared.element.Element.TheVariants.{Cti, End}
use Rattle.ss_meaning.specs.Meaning.{vertex}
use Rattle.ss_meaning.specs.Jobs.{IsBefore, MayStand}
use Rattle.ss_meaning.specs.Examples.{k, row, job_of_four}
use Rattle.ss_meaning.proofs.examples.job_example.Goals as goal

each_of_four : (v : ℕ) → v < 4 → MayStand v (vertex job_of_four v)
each_of_four zero h =
    (refl, All-from_recursion (IsBefore (2 ^ 62)) (row 1 4 k 1 9 ∷ Cti 2 ∷ End ∷ []) ((omega arith, omega arith), (omega arith, (tt, tt))))
each_of_four (suc zero) h = (refl, All-from_recursion (λ (input : ℕ). input < 1) (0 ∷ []) (omega arith, tt))
each_of_four (suc (suc zero)) h = (refl, All-from_recursion (λ (input : ℕ). input < 2) (0 ∷ 1 ∷ []) (omega arith, (omega arith, tt)))
each_of_four (suc (suc (suc zero))) h = omega arith
each_of_four (suc (suc (suc (suc v)))) h = absurd (omega arith)

pub returns-clause-is_job : goal.returns-clause-is_job
returns-clause-is_job c = record { few = omega arith; each = each_of_four }
