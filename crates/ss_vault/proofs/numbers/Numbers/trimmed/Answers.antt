use Rattle.std.proofs.Common.{◌≡◌, ◌==◌, ◌∙◌, ◌<◌, ℕ, List, [], filter, get_or, length, map, nat_le, set, ap, ap₂, arith, refl, if◌then◌else◌}
use Rattle.ss_state.specs.State.{LedgerRow}
use Rattle.ss_water.specs.declared.snap_row.SnapRow.{SnapRow}
use Rattle.ss_vault.specs.Numbers.{Columns, row_from, snaps_from}
use Rattle.ss_vault.specs.NumbersHeld.{NumbersHeld, snaps_from_number, snaps_held}
use Rattle.ss_vault.proofs.Rows.{changed_rows, dropped_numbers, held_since, here, ledger_with, snaps_read, snaps_set, with_snaps}
use Rattle.ss_vault.proofs.numbers.Numbers.trimmed.Goals as goal

pub index_mut-snaps-requires : goal.index_mut-snaps-requires
index_mut-snaps-requires c =
    let k : Columns = record { base = c.self.inside.base.items; dur = c.self.inside.dur.items; mark = c.self.inside.mark.items; taken = c.self.inside.taken.items; ended = c.self.inside.ended.items; snaps = c.self.inside.snaps.items } in
    let within = here k c.self.inside.since c.self.inside.journal c.args.self.now c.args.v c.self.view_is c.requires in
    omega (arith, within, c.self.inside.snaps.ok.0, c.self.invariant)

pub returns-clause-ledger : goal.returns-clause-ledger
returns-clause-ledger c =
    let k : Columns = record { base = c.self.inside.base.items; dur = c.self.inside.dur.items; mark = c.self.inside.mark.items; taken = c.self.inside.taken.items; ended = c.self.inside.ended.items; snaps = c.self.inside.snaps.items } in
    let within = here k c.self.inside.since c.self.inside.journal c.args.self.now c.args.v c.self.view_is c.requires in
    let inside : c.args.v < length k.snaps = omega (arith, within, c.self.invariant) in
    let had : c.index_mut-snaps.result.now.items ≡ get_or (snaps_from k) c.args.v [] = snaps_read k.snaps c.args.v c.index_mut-snaps.result.now c.index_mut-snaps.result.now.items inside c.index_mut-snaps.ensures.value refl in
    ap₂ (λ (rows : List LedgerRow) (since : ℕ). ledger_with since rows)
    (changed_rows k (record k { snaps = set k.snaps c.args.v c.drop_below.new.snaps }) c.self.inside.since c.self.inside.journal c.args.self.now c.args.v
    (record (row_from k c.args.v) { snaps = map (λ (s : SnapRow). s.n) c.drop_below.new.snaps.items })
    (λ (r : LedgerRow). record r { snaps = filter (λ m. nat_le c.args.low m) r.snaps }) c.self.view_is c.requires
    (with_snaps k c.args.v c.drop_below.new.snaps within c.self.invariant.snaps)
    (ap (λ (ns : List ℕ). record (row_from k c.args.v) { snaps = ns })
    (ap (map (λ (s : SnapRow). s.n)) (c.drop_below.ensures ∙ ap (snaps_from_number c.args.low) had) ∙ dropped_numbers c.args.low (get_or (snaps_from k) c.args.v []))))
    (held_since k c.self.inside.since c.self.inside.journal c.args.self.now c.self.view_is)

pub returns-clause-snaps : goal.returns-clause-snaps
returns-clause-snaps c w =
    let k : Columns = record { base = c.self.inside.base.items; dur = c.self.inside.dur.items; mark = c.self.inside.mark.items; taken = c.self.inside.taken.items; ended = c.self.inside.ended.items; snaps = c.self.inside.snaps.items } in
    let within = here k c.self.inside.since c.self.inside.journal c.args.self.now c.args.v c.self.view_is c.requires in
    let inside : c.args.v < length k.snaps = omega (arith, within, c.self.invariant) in
    let had : c.index_mut-snaps.result.now.items ≡ get_or (snaps_from k) c.args.v [] = snaps_read k.snaps c.args.v c.index_mut-snaps.result.now c.index_mut-snaps.result.now.items inside c.index_mut-snaps.ensures.value refl in
    snaps_set k.snaps c.args.v w c.drop_below.new.snaps inside
    ∙ ap (λ (xs : List SnapRow). if w == c.args.v then xs else get_or (snaps_from k) w []) (c.drop_below.ensures ∙ ap (snaps_from_number c.args.low) had)
    ∙ ap (λ (h : NumbersHeld). if w == c.args.v then snaps_from_number c.args.low (snaps_held h c.args.v) else snaps_held h w) c.self.view_is
