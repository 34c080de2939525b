use Rattle.std.proofs.Common.{◌≡◌, ◌+◌, ◌-◌, ◌*◌, ◌≤◌, ◌++◌, length, take, vec_len, vec_capacity}
use Rattle.std.specs.List.{flat_map}
use Rattle.ss_image.specs.Images.{row_bytes, row_len}
use Rattle.ss_join.proofs.image_writer.put_rows.Given as goal

abbrev pub invariant-loop-row : goal.invariant-loop-row
invariant-loop-row l = record {
  put : l.out.items ≡ l.initial.out.items ++ flat_map (row_bytes l.form) (take l.row-index l.rows);
  len : vec_len l.out ≡ vec_len l.initial.out + row_len l.form * l.row-index;
  room : vec_len l.out + row_len l.form * (length l.rows - l.row-index) ≤ vec_capacity l.out;
  capacity : vec_capacity l.initial.out ≤ vec_capacity l.out;
}
