use Rattle.std.proofs.Common.{◌≡◌, ◌==◌, ◌∙◌, ◌<◌, ℕ, List, [], get_or, length, map, set, ap, ap₂, arith, if◌then◌else◌}
use Rattle.ss_state.specs.Journal.{put_in}
use Rattle.ss_state.specs.State.{LedgerRow}
use Rattle.ss_water.specs.declared.snap_row.SnapRow.{SnapRow}
use Rattle.ss_vault.specs.Numbers.{Columns, row_from, snaps_from}
use Rattle.ss_vault.specs.NumbersHeld.{NumbersHeld, put_snap, snaps_held}
use Rattle.ss_vault.proofs.Rows.{changed_rows, held_since, here, ledger_with, put_numbers, snaps_read, snaps_set, with_snaps}
use Rattle.ss_vault.proofs.numbers.Numbers.kept.Goals as goal
use Rattle.std.proofs.Common.{refl}

pub returns-clause-ledger : goal.returns-clause-ledger
returns-clause-ledger c =
    let k : Columns = record { base = c.self.inside.base.items; dur = c.self.inside.dur.items; mark = c.self.inside.mark.items; taken = c.self.inside.taken.items; ended = c.self.inside.ended.items; snaps = c.self.inside.snaps.items } in
    let within = here k c.self.inside.since c.self.inside.journal c.args.self.now c.args.v c.self.view_is c.requires.vertex in
    let inside : c.args.v < length k.snaps = omega (arith, within, c.self.invariant) in
    let had : c.index_mut-snaps.result.now.items ≡ get_or (snaps_from k) c.args.v [] = snaps_read k.snaps c.args.v c.index_mut-snaps.result.now c.index_mut-snaps.result.now.items inside c.index_mut-snaps.ensures.value refl in
    ap₂ (λ (rows : List LedgerRow) (since : ℕ). ledger_with since rows)
    (changed_rows k (record k { snaps = set k.snaps c.args.v c.put_in_place.new.snaps }) c.self.inside.since c.self.inside.journal c.args.self.now c.args.v
    (record (row_from k c.args.v) { snaps = map (λ (s : SnapRow). s.n) c.put_in_place.new.snaps.items })
    (λ (r : LedgerRow). record r { snaps = put_in c.args.snap.n r.snaps }) c.self.view_is c.requires.vertex
    (with_snaps k c.args.v c.put_in_place.new.snaps within c.self.invariant.snaps)
    (ap (λ (ns : List ℕ). record (row_from k c.args.v) { snaps = ns })
    (ap (map (λ (s : SnapRow). s.n)) (c.put_in_place.ensures ∙ ap (put_snap c.args.snap) had) ∙ put_numbers c.args.snap (get_or (snaps_from k) c.args.v []))))
    (held_since k c.self.inside.since c.self.inside.journal c.args.self.now c.self.view_is)

pub returns-clause-snaps : goal.returns-clause-snaps
returns-clause-snaps c w =
    let k : Columns = record { base = c.self.inside.base.items; dur = c.self.inside.dur.items; mark = c.self.inside.mark.items; taken = c.self.inside.taken.items; ended = c.self.inside.ended.items; snaps = c.self.inside.snaps.items } in
    let within = here k c.self.inside.since c.self.inside.journal c.args.self.now c.args.v c.self.view_is c.requires.vertex in
    let inside : c.args.v < length k.snaps = omega (arith, within, c.self.invariant) in
    let had : c.index_mut-snaps.result.now.items ≡ get_or (snaps_from k) c.args.v [] = snaps_read k.snaps c.args.v c.index_mut-snaps.result.now c.index_mut-snaps.result.now.items inside c.index_mut-snaps.ensures.value refl in
    snaps_set k.snaps c.args.v w c.put_in_place.new.snaps inside
    ∙ ap (λ (xs : List SnapRow). if w == c.args.v then xs else get_or (snaps_from k) w []) (c.put_in_place.ensures ∙ ap (put_snap c.args.snap) had)
    ∙ ap (λ (h : NumbersHeld). if w == c.args.v then put_snap c.args.snap (snaps_held h c.args.v) else snaps_held h w) c.self.view_is
