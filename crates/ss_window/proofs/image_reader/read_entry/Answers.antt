use Rattle.std.proofs.Common.{sym, ap, ◌∙◌, ℤ, to_z, of_z}
use Rattle.std.specs.Int.{w128}
use Rattle.ss_meaning.specs.Entries.{WindowEntry}
use Rattle.ss_window.specs.ImageTests.{is_sum_of}
use Rattle.ss_window.proofs.Passing.{passing_is_held}
use Rattle.ss_window.proofs.image_reader.read_entry.Goals as goal

pub of-requires : goal.of-requires
of-requires c =
    let value : ℤ = to_z w128 (of_z w128 c.i128_at-value.result) in
    let e : WindowEntry = record { end = c.u64_at-end.result; key = c.in_ok-key.key; value = value; rows = c.u64_at-rows.result } in
    passing_is_held c.args.agg e (sym c.if-not-is_count.ensures)
    (ap (λ n. is_sum_of n value) (sym c.summands.ensures) ∙ sym c.if-not-is_sum_of.ensures)
