use Rattle.std.proofs.Common.{◌∙◌, ◌<◌, ◌≤◌, ◌+◌, get_or, length, map, ap, refl, arith, vec_len, vec_capacity}
use Rattle.ss_vault.specs.Numbers.{Columns, spare}
use Rattle.ss_vault.specs.NumbersHeld.{NumbersHeld}
use Rattle.ss_vault.proofs.Flushed.{chosen_same}
use Rattle.ss_vault.proofs.Rows.{at_place, here, on_ok, same_snaps, same_rows}
use Rattle.ss_vault.proofs.numbers.Numbers.reserve_snap.Goals as goal

pub index_mut-snaps-requires : goal.index_mut-snaps-requires
index_mut-snaps-requires c =
    let k : Columns = record { base = c.self.inside.base.items; dur = c.self.inside.dur.items; mark = c.self.inside.mark.items; taken = c.self.inside.taken.items; ended = c.self.inside.ended.items; snaps = c.self.inside.snaps.items } in
    let within = here k c.self.inside.since c.self.inside.journal c.args.self.now c.args.v c.self.view_is c.requires in
    omega (arith, within, c.self.inside.snaps.ok.0, c.self.invariant)

pub returns-clause-place : goal.returns-clause-place
returns-clause-place c =
    let k : Columns = record { base = c.self.inside.base.items; dur = c.self.inside.dur.items; mark = c.self.inside.mark.items; taken = c.self.inside.taken.items; ended = c.self.inside.ended.items; snaps = c.self.inside.snaps.items } in
    let within = here k c.self.inside.since c.self.inside.journal c.args.self.now c.args.v c.self.view_is c.requires in
    let inside : c.args.v < length k.snaps = omega (arith, within, c.self.invariant) in
    on_ok c.reserve.result (vec_len c.reserve.new.self + 1 ≤ vec_capacity c.reserve.new.self) _
    (λ room.
    let is = at_place (λ row. spare row) k.snaps c.args.v c.args.v c.reserve.new.self (spare c.reserve.new.self) 0 inside refl
    ∙ chosen_same c.args.v (spare c.reserve.new.self) (get_or (map (λ row. spare row) k.snaps) c.args.v 0) in
    omega (arith, room, is))
    c.reserve.ensures.ok

pub returns-clause-numbers : goal.returns-clause-numbers
returns-clause-numbers c =
    let k : Columns = record { base = c.self.inside.base.items; dur = c.self.inside.dur.items; mark = c.self.inside.mark.items; taken = c.self.inside.taken.items; ended = c.self.inside.ended.items; snaps = c.self.inside.snaps.items } in
    same_rows k c.self.inside.since c.self.inside.journal c.args.self.now c.args.v c.index_mut-snaps.result.now c.reserve.new.self c.self.view_is c.index_mut-snaps.ensures.value c.reserve.ensures.items

pub returns-clause-snaps : goal.returns-clause-snaps
returns-clause-snaps c =
    let k : Columns = record { base = c.self.inside.base.items; dur = c.self.inside.dur.items; mark = c.self.inside.mark.items; taken = c.self.inside.taken.items; ended = c.self.inside.ended.items; snaps = c.self.inside.snaps.items } in
    same_snaps k.snaps c.args.v c.index_mut-snaps.result.now c.reserve.new.self c.index_mut-snaps.ensures.value c.reserve.ensures.items
    ∙ ap (λ (h : NumbersHeld). h.snaps) c.self.view_is
