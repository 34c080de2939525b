use Rattle.std.proofs.Common.{◌≡◌, ◌∙◌, ℕ, List, length, nat_lt, true, ap, arith, is_ok, if◌then◌else◌, Bool}
use Rattle.std.specs.List.{insert, position}
use Rattle.std.specs.Prelude.{unwrap_or}
use Rattle.ss_water.specs.declared.snap_row.SnapRow.{SnapRow}
use Rattle.ss_vault.proofs.Rows.{put_placed}
use Rattle.ss_vault.proofs.numbers.put_in_place.Goals as goal

pub returns : goal.returns
returns c =
    let items : List SnapRow = c.args.snaps.now.items in
    let room = c.requires in
    let ok : is_ok c.insert.result ≡ true = c.insert.ensures.succeeds (omega (arith, room)) in
    c.insert.ensures.items
    ∙ ap (λ (b : Bool). if b then insert items c.place_above-place.result c.args.snap else items) ok
    ∙ ap (λ (k : ℕ). insert items k c.args.snap)
    (c.place_above-place.ensures.place
    ∙ ap (λ (xs : List SnapRow). unwrap_or (position (λ s. nat_lt c.args.snap.n s.n) xs) (length xs)) c.as_slice.ensures.value)
    ∙ put_placed c.args.snap items
