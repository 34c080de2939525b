-- What is put for the vertices of a job, one after the other.
use Rattle.std.proofs.Common.{◌≡◌, ℕ, zero, suc, ◌+◌, ◌<◌, ◌⊎◌, inl, inr, List, [], ◌++◌, length, refl, sym, ap, ◌∙◌, subst, append_assoc, add-one, arith}
use Rattle.std.proofs.lemmas.List.{append-nil}
use Rattle.ss_job.specs.JobText.{JobText}
use Rattle.ss_job.specs.Sound.{IsJob}
use Rattle.ss_water.specs.declared.node.Node.{Node}
use Rattle.ss_command.specs.Output.{vertex_lines, line_of_vertex, puts_below, sink_puts, Streams}
use Rattle.ss_command.specs.Puts.{Put}

-- the count of a job's graph is that of its vertices
pub count_is : (job : JobText) (graph : List Node) (n : ℕ) → IsJob job → graph ≡ job.graph → n ≡ length graph → n ≡ length job.vertices
count_is job graph n sound same counted = counted ∙ ap (λ (nodes : List Node). length nodes) same ∙ sym sound.vertices

pub vertex_lines-more : (job : JobText) (v : ℕ) → vertex_lines job (v + 1) ≡ vertex_lines job v ++ line_of_vertex job v
vertex_lines-more job v = rw add-one refl

pub puts_below-more : (job : JobText) (streams : Streams) (v : ℕ) → puts_below job streams (v + 1) ≡ puts_below job streams v ++ sink_puts job streams v
puts_below-more job streams v = rw add-one refl

-- the last or an earlier one
pub last_or_earlier : (v n : ℕ) → v < suc n → (v ≡ n) ⊎ (v < n)
last_or_earlier zero zero h = inl refl
last_or_earlier zero (suc n) h = inr (omega arith)
last_or_earlier (suc v) zero h = absurd (omega (arith, h))
last_or_earlier (suc v) (suc n) h = elim (last_or_earlier v n (omega (arith, h))) [ inl e ↦ inl (ap suc e) | inr less ↦ inr (omega (arith, less)) ]

pub puts_below-split : (job : JobText) (streams : Streams) (v n : ℕ) → v < n →
    (rest : List Put) × (puts_below job streams n ≡ (puts_below job streams v ++ sink_puts job streams v) ++ rest)
puts_below-split job streams v zero h = absurd (omega (arith, h))
puts_below-split job streams v (suc n) h = elim (last_or_earlier v n h) [
  | inl last ↦ ([], subst (λ (w : ℕ). puts_below job streams (suc n) ≡ (puts_below job streams w ++ sink_puts job streams w) ++ []) (sym last) (sym (append-nil (puts_below job streams (suc n)))))
  | inr less ↦ let (rest, e) = puts_below-split job streams v n less in
      (rest ++ sink_puts job streams n, ap (λ (p : List Put). p ++ sink_puts job streams n) e ∙ append_assoc (puts_below job streams v ++ sink_puts job streams v) rest (sink_puts job streams n))
]
