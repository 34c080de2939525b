use Rattle.std.proofs.Common.{◌≡◌, ◌+◌, ◌-◌, ◌*◌, ◌≤◌, ◌++◌, length, take, vec_len, vec_capacity}
use Rattle.std.specs.List.{flat_map}
use Rattle.ss_image.specs.Images.{session_bytes}
use Rattle.ss_session.proofs.session_image_writer.put_entries.Given as goal

abbrev pub invariant-loop-entry : goal.invariant-loop-entry
invariant-loop-entry l = record {
  put : l.out.items ≡ l.initial.out.items ++ flat_map session_bytes (take l.entry-index l.entries);
  room : vec_len l.out + 56 * (length l.entries - l.entry-index) ≤ vec_capacity l.out;
}
