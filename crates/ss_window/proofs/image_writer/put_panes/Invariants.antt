use Rattle.std.proofs.Common.{◌≡◌, ◌+◌, ◌*◌, ◌≤◌, ◌++◌, length, vec_len, vec_capacity}
use Rattle.std.specs.List.{flat_map}
use Rattle.ss_image.specs.Images.{entry_bytes}
use Rattle.ss_window.specs.Held.{entries_in}
use Rattle.ss_window.proofs.image_writer.put_panes.Given as goal

abbrev pub invariant-loop-end : goal.invariant-loop-end
invariant-loop-end l = record {
  put : l.out.items ++ flat_map entry_bytes (entries_in l.end-iterator)
      ≡ l.initial.out.items ++ flat_map entry_bytes (entries_in l.by_end.entries);
  room : vec_len l.out + 48 * length (entries_in l.end-iterator) ≤ vec_capacity l.out;
}
