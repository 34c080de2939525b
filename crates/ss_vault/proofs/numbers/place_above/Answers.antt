use Rattle.std.proofs.Common.{◌∙◌, ℕ, length, ap, arith, Option}
use Rattle.std.specs.Prelude.{unwrap_or}
use Rattle.ss_vault.proofs.Rows.{place_within}
use Rattle.ss_vault.proofs.numbers.place_above.Goals as goal

pub returns-clause-place : goal.returns-clause-place
returns-clause-place c =
    c.unwrap_or.ensures ∙ ap (λ (o : Option ℕ). unwrap_or o (length c.args.snaps.now)) c.first_above.ensures

pub returns-clause-within : goal.returns-clause-within
returns-clause-within c =
    let is = c.unwrap_or.ensures ∙ ap (λ (o : Option ℕ). unwrap_or o (length c.args.snaps.now)) c.first_above.ensures in
    let within = place_within c.args.n c.args.snaps.now in
    omega (arith, is, within)
