use Rattle.std.proofs.Common.{◌≡◌, ◌+◌, ◌*◌, ◌≤◌, ◌++◌, length, vec_len, vec_capacity}
use Rattle.std.specs.List.{flat_map}
use Rattle.ss_image.specs.Images.{entry_bytes}
use Rattle.ss_window.specs.Held.{entries_at}
use Rattle.ss_window.proofs.image_writer.put_pane.Given as goal

abbrev pub invariant-loop-key : goal.invariant-loop-key
invariant-loop-key l = record {
  put : l.out.items ++ flat_map entry_bytes (entries_at l.end l.key-iterator)
      ≡ l.initial.out.items ++ flat_map entry_bytes (entries_at l.end l.pane.entries);
  len : vec_len l.out + 48 * length l.key-iterator ≡ vec_len l.initial.out + 48 * length l.pane.entries;
  room : vec_len l.out + 48 * length l.key-iterator ≤ vec_capacity l.out;
  capacity : vec_capacity l.initial.out ≤ vec_capacity l.out;
}
