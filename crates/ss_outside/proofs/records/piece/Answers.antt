use Rattle.std.proofs.Common.{◌≡◌, ℕ, length, Some, sym, ap, ◌∙◌, arith}
use Rattle.std.specs.Prelude.{slice_index}
use Rattle.std.specs.List.{slice_range}
use Rattle.ss_outside.specs.Pieces.{start_at}
use Rattle.ss_outside.proofs.PieceLists.{piece-at, place-within}
use Rattle.ss_outside.proofs.records.piece.Goals as goal

pub part-requires : goal.part-requires
part-requires c =
    let within = place-within c.args.ends.now 0 (length c.args.bytes.now) c.args.place c.requires.ends c.requires.place in
    let start : c.start_of.result ≡ start_at 0 c.args.ends.now c.args.place = c.start_of.ensures in
    record { order = omega (arith, start, within.0); within = within.1 }

pub returns : goal.returns
returns c =
    let end : ℕ = slice_index c.args.ends.now c.args.place in
    piece-at c.args.bytes.now c.args.ends.now 0 c.args.place c.requires.place
    ∙ ap (λ (n : ℕ). Some (slice_range c.args.bytes.now n end)) (sym c.start_of.ensures)
    ∙ ap (λ x. Some x) (sym c.part.ensures)
