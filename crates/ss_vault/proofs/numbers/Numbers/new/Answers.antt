use Rattle.std.proofs.Common.{◌≡◌, ◌∙◌, ℕ, List, ap, replicate}
use Rattle.ss_vault.specs.Numbers.{Columns}
use Rattle.ss_vault.proofs.FirstRows.{AreZeros, first_held, zero_numbers}
use Rattle.ss_vault.proofs.numbers.Numbers.new.Goals as goal

pub invariant_of-result : goal.invariant_of-result
invariant_of-result c =
    let k : Columns = record { base = c.in_ok-base.base.items; dur = c.in_ok-dur.dur.items; mark = c.in_ok-mark.mark.items; taken = c.in_ok-taken.taken.items; ended = c.in_ok-ended.ended.items; snaps = c.in_ok-snaps.snaps.items } in
    let all = λ (xs : List ℕ) (e : xs ≡ replicate c.count-count.result 0). e ∙ ap (λ (n : ℕ). replicate n 0) c.count-count.ensures.count in
    zero_numbers c.args.graph.now k (record {
      base = all k.base c.in_ok-base.ensures;
      dur = all k.dur c.in_ok-dur.ensures;
      mark = all k.mark c.in_ok-mark.ensures;
      taken = all k.taken c.in_ok-taken.ensures;
      ended = c.in_ok-ended.ensures;
      snaps = c.in_ok-snaps.ensures;
    })

pub returns : goal.returns
returns c =
    let k : Columns = record { base = c.in_ok-base.base.items; dur = c.in_ok-dur.dur.items; mark = c.in_ok-mark.mark.items; taken = c.in_ok-taken.taken.items; ended = c.in_ok-ended.ended.items; snaps = c.in_ok-snaps.snaps.items } in
    let all = λ (xs : List ℕ) (e : xs ≡ replicate c.count-count.result 0). e ∙ ap (λ (n : ℕ). replicate n 0) c.count-count.ensures.count in
    let zero : AreZeros c.args.graph.now k = record {
      base = all k.base c.in_ok-base.ensures;
      dur = all k.dur c.in_ok-dur.ensures;
      mark = all k.mark c.in_ok-mark.ensures;
      taken = all k.taken c.in_ok-taken.ensures;
      ended = c.in_ok-ended.ensures;
      snaps = c.in_ok-snaps.ensures;
    } in
    first_held c.args.graph.now k c.new.result zero c.new.ensures.items
