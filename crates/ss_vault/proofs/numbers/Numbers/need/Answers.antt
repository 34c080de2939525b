use Rattle.std.proofs.Common.{◌≡◌, ap, map, subst, sym, List, Vec}
use Rattle.std.specs.declared.alloc.Global.{Global}
use Rattle.ss_water.specs.Needs.{AreStored, IsNeed, Stored}
use Rattle.ss_water.specs.declared.snap_row.SnapRow.{SnapRow}
use Rattle.ss_vault.specs.Numbers.{Columns}
use Rattle.ss_vault.specs.NumbersHeld.{stored_of}
use Rattle.ss_vault.proofs.Rows.{are_stored, stored_is}
use Rattle.ss_vault.proofs.numbers.Numbers.need.Goals as goal

pub need-requires-clause-stored : goal.need-requires-clause-stored
need-requires-clause-stored c =
    let k : Columns = record { base = c.self.inside.base.items; dur = c.self.inside.dur.items; mark = c.self.inside.mark.items; taken = c.self.inside.taken.items; ended = c.self.inside.ended.items; snaps = c.self.inside.snaps.items } in
    let s : Stored = record { rows = map (λ snaps. snaps.items) c.as_slice.result.now; dur = c.as_slice-2.result.now; taken = c.as_slice-3.result.now } in
    let is : s ≡ stored_of c.args.self.now = stored_is k c.self.inside.since c.self.inside.journal c.args.self.now c.self.invariant c.self.view_is s
    (ap (λ (xs : List (Vec SnapRow Global)). map (λ snaps. snaps.items) xs) c.as_slice.ensures.value) c.as_slice-2.ensures.value c.as_slice-3.ensures.value in
    subst (λ (x : Stored). AreStored c.args.graph.now x) (sym is)
    (are_stored k c.self.inside.since c.self.inside.journal c.args.self.now c.args.graph.now c.self.invariant c.self.view_is c.requires.count c.requires.recovered)

pub returns : goal.returns
returns c =
    let k : Columns = record { base = c.self.inside.base.items; dur = c.self.inside.dur.items; mark = c.self.inside.mark.items; taken = c.self.inside.taken.items; ended = c.self.inside.ended.items; snaps = c.self.inside.snaps.items } in
    let s : Stored = record { rows = map (λ snaps. snaps.items) c.as_slice.result.now; dur = c.as_slice-2.result.now; taken = c.as_slice-3.result.now } in
    let is : s ≡ stored_of c.args.self.now = stored_is k c.self.inside.since c.self.inside.journal c.args.self.now c.self.invariant c.self.view_is s
    (ap (λ (xs : List (Vec SnapRow Global)). map (λ snaps. snaps.items) xs) c.as_slice.ensures.value) c.as_slice-2.ensures.value c.as_slice-3.ensures.value in
    subst (λ (x : Stored). IsNeed c.args.graph.now x c.args.v c.need.result) is c.need.ensures
