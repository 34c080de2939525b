use Rattle.std.proofs.Common.{◌∙◌, ◌<◌, List, length, map, ap, arith, sym}
use Rattle.ss_state.specs.State.{LedgerRow}
use Rattle.ss_water.specs.declared.snap_row.SnapRow.{SnapRow}
use Rattle.ss_vault.specs.Numbers.{Columns}
use Rattle.ss_vault.specs.NumbersHeld.{NumbersHeld, snaps_held}
use Rattle.ss_vault.proofs.Rows.{here, row_read, snaps_read}
use Rattle.ss_vault.proofs.numbers.Numbers.snaps.Goals as goal

pub index-requires : goal.index-requires
index-requires c =
    let k : Columns = record { base = c.self.inside.base.items; dur = c.self.inside.dur.items; mark = c.self.inside.mark.items; taken = c.self.inside.taken.items; ended = c.self.inside.ended.items; snaps = c.self.inside.snaps.items } in
    let within = here k c.self.inside.since c.self.inside.journal c.args.self.now c.args.v c.self.view_is c.requires in
    omega (arith, within, c.self.inside.snaps.ok.0, c.self.invariant)

pub returns-clause-snaps : goal.returns-clause-snaps
returns-clause-snaps c =
    let k : Columns = record { base = c.self.inside.base.items; dur = c.self.inside.dur.items; mark = c.self.inside.mark.items; taken = c.self.inside.taken.items; ended = c.self.inside.ended.items; snaps = c.self.inside.snaps.items } in
    let within = here k c.self.inside.since c.self.inside.journal c.args.self.now c.args.v c.self.view_is c.requires in
    let inside : c.args.v < length k.snaps = omega (arith, within, c.self.invariant) in
    snaps_read k.snaps c.args.v c.index.result.now c.as_slice.result.now inside c.index.ensures c.as_slice.ensures.value
    ∙ ap (λ (h : NumbersHeld). snaps_held h c.args.v) c.self.view_is

pub returns-clause-numbers : goal.returns-clause-numbers
returns-clause-numbers c =
    let k : Columns = record { base = c.self.inside.base.items; dur = c.self.inside.dur.items; mark = c.self.inside.mark.items; taken = c.self.inside.taken.items; ended = c.self.inside.ended.items; snaps = c.self.inside.snaps.items } in
    let within = here k c.self.inside.since c.self.inside.journal c.args.self.now c.args.v c.self.view_is c.requires in
    let inside : c.args.v < length k.snaps = omega (arith, within, c.self.invariant) in
    ap (λ (rows : List SnapRow). map (λ (snap : SnapRow). snap.n) rows)
    (snaps_read k.snaps c.args.v c.index.result.now c.as_slice.result.now inside c.index.ensures c.as_slice.ensures.value)
    ∙ sym (ap (λ (r : LedgerRow). r.snaps) (row_read k c.self.inside.since c.self.inside.journal c.args.self.now c.args.v c.self.view_is c.requires))
