use Rattle.std.proofs.Common.{◌+◌, ◌^◌, ◌&&◌, nat_lt, nat_le, ap, sym, ◌∙◌, ℤ, to_z, of_z, ltb-true, leb-true}
use Rattle.std.specs.Int.{w128}
use Rattle.std.proofs.lemmas.Bool.{and_parts}
use Rattle.ss_meaning.specs.Session.{SessionEntry}
use Rattle.ss_session.specs.ImageTests.{is_sum_of}
use Rattle.ss_session.proofs.SessionPassing.{passing_is_held}
use Rattle.ss_session.proofs.session_image_reader.read_session.Goals as goal

pub of-entry-requires : goal.of-entry-requires
of-entry-requires c =
    let first = c.u64_at-first.result in
    let last = c.u64_at-last.result in
    let value : ℤ = to_z w128 (of_z w128 c.i128_at-value.result) in
    let e : SessionEntry = record { key = c.in_ok-key.key; first = first; last = last; value = value; rows = c.u64_at-rows.result } in
    let span = and_parts (nat_le first last) (nat_lt last (2 ^ 62 + 2 ^ 60) && nat_lt c.args.low (last + c.args.gap)) (sym c.if-not-is_open_span.ensures) in
    let late = and_parts (nat_lt last (2 ^ 62 + 2 ^ 60)) (nat_lt c.args.low (last + c.args.gap)) span.1 in
    passing_is_held c.args.agg e (leb-true first last span.0) (ltb-true last (2 ^ 62 + 2 ^ 60) late.0) (sym c.if-not-is_count.ensures)
    (ap (λ n. is_sum_of n value) (sym c.summands.ensures) ∙ sym c.if-not-is_sum_of.ensures)
