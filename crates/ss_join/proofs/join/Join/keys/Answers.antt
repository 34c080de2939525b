use Rattle.std.proofs.Common.{◌≡◌, ◌+◌, ◌++◌, sym, ap, ◌∙◌, arith}
use Rattle.std.specs.Prelude.{nat_eq}
use Rattle.std.specs.Set.{distinct_count}
use Rattle.std.proofs.lemmas.List.{map-append}
use Rattle.ss_elem.specs.declared.element.Event.{Event}
use Rattle.ss_join.specs.Held.{keys_apart}
use Rattle.ss_join.specs.States.{Sides, key_count, row_keys}
use Rattle.ss_join.proofs.Keys.{keys_joined}
use Rattle.ss_join.proofs.join.Join.keys.Goals as goal

pub returns : goal.returns
returns c =
    let left = c.self.inside.left in
    let right = c.self.inside.right in
    let both : c.keys_beside.result + c.keys.result ≡ distinct_count nat_eq (keys_apart (row_keys right) (row_keys left)) + distinct_count nat_eq (row_keys right) =
    omega (arith, c.keys_beside.ensures.count, c.keys.ensures.count) in
    both
    ∙ (sym (keys_joined (row_keys left) (row_keys right))
    ∙ (ap (distinct_count nat_eq) (sym (map-append (λ (row : Event). row.key) left right))
    ∙ ap (λ (s : Sides). key_count (s.left ++ s.right)) c.self.view_is))
