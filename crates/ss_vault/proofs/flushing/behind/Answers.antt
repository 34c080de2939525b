use Rattle.std.proofs.Common.{◌≡◌, ◌+◌, ◌-◌, ◌++◌, ℕ, List, length, drop, refl, sym, ap, ◌∙◌, arith}
use Rattle.std.proofs.lemmas.List.{drop-drop, drop_at, take_rest}
use Rattle.ss_elem.specs.declared.element.Element.{Element}
use Rattle.ss_vault.proofs.flushing.behind.Goals as goal

pub returns-else-known-first : goal.returns-else-known-first
returns-else-known-first c =
    let first : List Element = c.args.first.now in
    let rest : List Element = c.args.rest.now in
    let k : ℕ = c.args.known - length first in
    let more = c.if-known-first.false in
    let sum : length first + k ≡ c.args.known = omega (arith, more) in
    take_rest rest k
    ∙ sym (ap (drop k) (drop_at first rest (length first) refl))
    ∙ drop-drop k (length first) (first ++ rest)
    ∙ ap (λ (n : ℕ). drop n (first ++ rest)) sum
