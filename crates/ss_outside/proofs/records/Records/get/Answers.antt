use Rattle.std.proofs.Common.{◌≤◌, length, drop, sym, arith}
use Rattle.std.proofs.lemmas.List.{length-drop}
use Rattle.std.proofs.lemmas.Option.{slice_get_past}
use Rattle.ss_outside.specs.Pieces.{pieces}
use Rattle.ss_outside.proofs.PieceLists.{length-pieces}
use Rattle.ss_outside.proofs.records.Records.get.Goals as goal

pub returns-else-place-len : goal.returns-else-place-len
returns-else-place-len c =
    let inside = c.self.inside in
    let all = pieces inside.bytes.items 0 inside.ends.items in
    let past : length (drop inside.dropped all) ≤ c.args.place =
    omega (arith, c.len.ensures, length-pieces inside.bytes.items inside.ends.items 0, length-drop inside.dropped all, c.if-place-len.false) in
    rw (← c.self.view_is) (sym (slice_get_past (drop inside.dropped all) c.args.place past))
