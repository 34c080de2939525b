use Rattle.std.proofs.Common.{◌≡◌, true, None, Some, sym, ap, ◌∙◌, cond, not}
use Rattle.std.specs.Prelude.{Bool}
use Rattle.ss_elem.specs.Rows.{has_two_values}
use Rattle.ss_codec.specs.RecordTests.{long_row_at, row_tests, value_tests}
use Rattle.ss_codec.specs.Tests.{first_fault, has_value}
use Rattle.ss_codec.specs.declared.fault.CodecFault.TheVariants.{BadValue}
use Rattle.ss_codec.proofs.Seals.{last_fault}
use Rattle.ss_codec.proofs.record_reader.read_long_row.Goals as goal

pub returns-then-has_two_values-clause-fault : goal.returns-then-has_two_values-clause-fault
unfolding value_tests
returns-then-has_two_values-clause-fault c =
    let none : first_fault (row_tests c.args.bytes.now) ≡ None = sym c.in_ok-row.ensures.fault in
    let two : has_two_values (long_row_at c.args.bytes.now) ≡ true =
    ap has_two_values (sym c.in_ok-row.ensures.row) ∙ sym c.has_two_values.ensures ∙ c.if-has_two_values.true in
    sym (
    last_fault (row_tests c.args.bytes.now) (has_value 62 (not (has_two_values (long_row_at c.args.bytes.now)))) none
    ∙ ap (λ (b : Bool). cond (not b) None (Some (BadValue 62))) two
    )
