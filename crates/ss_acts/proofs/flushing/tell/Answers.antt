use Rattle.std.proofs.Common.{◌≤◌, ℕ, length, ap, subst}
use Rattle.ss_acts.specs.Told.{dur_told}
use Rattle.ss_vault.specs.declared.answers.Flush.{Flush}
use Rattle.ss_acts.proofs.flushing.tell.Goals as goal

pub returns-in-Flushed-clause-standing : goal.returns-in-Flushed-clause-standing
returns-in-Flushed-clause-standing c list most stands within limit =
    let is = ap (λ (f : Flush). dur_told f) c.in-Flushed.is in
    c.trim.ensures.standing list most
    (c.note.ensures.standing list most stands (subst (λ (d : ℕ). d ≤ length list) is within) (subst (λ (d : ℕ). d ≤ most) is limit))
