use Rattle.std.proofs.Common.{◌≡◌, ◌+◌, ◌-◌, ◌*◌, drop}
use Rattle.ss_image.specs.Images.{row_len}
use Rattle.ss_join.specs.ImageTests.{rows_read}
use Rattle.ss_join.proofs.RowReads.{with_front}
use Rattle.ss_join.proofs.image_reader.read_rows.Given as goal

abbrev pub invariant-loop-number : goal.invariant-loop-number
invariant-loop-number l =
    with_front l.rows.items (rows_read l.form l.bound (l.count - l.number) (l.at + row_len l.form * l.number) (drop (row_len l.form * l.number) l.bytes))
    ≡ rows_read l.form l.bound l.count l.at l.bytes
