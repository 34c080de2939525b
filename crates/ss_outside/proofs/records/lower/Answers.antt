use Rattle.std.proofs.Common.{◌≡◌, ℕ, ◌-◌, ◌<◌, length, get_or, set, ap, ◌∙◌, arith}
use Rattle.std.proofs.lemmas.List.{get_or_default}
use Rattle.std.proofs.lemmas.List.Edits.{map_over_more}
use Rattle.ss_outside.proofs.records.lower.Goals as goal

pub loop-number-preserved : goal.loop-number-preserved
loop-number-preserved c =
    let place = c.loop-number.number-index in
    let all = c.args.numbers.now in
    let now = c.loop-number.numbers in
    let number : ℕ = get_or now place 0 in
    let within : place < length all = omega arith in
    let lowered : c.saturating_sub.result ≡ number - c.args.by = c.saturating_sub.ensures in
    ap (λ (n : ℕ). set now place n) lowered
    ∙ map_over_more (λ number. number - c.args.by) all now place number within c.loop-number.invariant
    (get_or_default now place 0 number (omega arith))
