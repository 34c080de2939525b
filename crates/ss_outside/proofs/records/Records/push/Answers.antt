use Rattle.std.proofs.Common.{ℕ, ◌≤◌, List, [], ◌∷◌, ◌++◌, length, drop, ap, ◌∙◌, arith}
use Rattle.std.proofs.lemmas.List.{drop-append-le}
use Rattle.ss_outside.specs.Pieces.{pieces}
use Rattle.ss_outside.proofs.PieceLists.{length-pieces}
use Rattle.ss_outside.proofs.records.Records.push.Goals as goal

pub returns-clause-pushed : goal.returns-clause-pushed
returns-clause-pushed c =
    let inside = c.self.inside in
    let all = pieces inside.bytes.items 0 inside.ends.items in
    let le : inside.dropped ≤ length all = omega (arith, length-pieces inside.bytes.items inside.ends.items 0, c.self.invariant) in
    ap (drop inside.dropped) c.in_ok-push_piece.ensures.pushed
    ∙ drop-append-le inside.dropped all (c.args.bytes.now ∷ []) le
    ∙ ap (λ (xs : List (List ℕ)). xs ++ c.args.bytes.now ∷ []) c.self.view_is
