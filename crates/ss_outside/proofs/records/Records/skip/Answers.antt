use Rattle.std.proofs.Common.{◌≡◌, ℕ, ◌-◌, length, drop, min, sym, ap, ◌∙◌, arith}
use Rattle.std.proofs.lemmas.List.{drop-drop, drop_min, length-drop}
use Rattle.ss_outside.specs.Pieces.{pieces}
use Rattle.ss_outside.proofs.PieceLists.{length-pieces}
use Rattle.ss_outside.proofs.records.Records.skip.Goals as goal

pub returns : goal.returns
returns c =
    let inside = c.self.inside in
    let all = pieces inside.bytes.items 0 inside.ends.items in
    let held = drop inside.dropped all in
    let count : c.len.result - inside.dropped ≡ length held =
    omega (arith, c.len.ensures, length-pieces inside.bytes.items inside.ends.items 0, length-drop inside.dropped all) in
    sym (drop-drop c.min.result inside.dropped all)
    ∙ ap (λ (n : ℕ). drop n held) (c.min.ensures ∙ ap (min c.args.count) count)
    ∙ drop_min c.args.count held ∙ ap (drop c.args.count) c.self.view_is
