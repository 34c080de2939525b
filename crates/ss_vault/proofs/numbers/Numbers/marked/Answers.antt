use Rattle.std.proofs.Common.{◌≡◌, ℕ, List, set, ap, ap₂, arith}
use Rattle.std.specs.Prelude.{slice_index}
use Rattle.std.proofs.lemmas.List.{get_or_read}
use Rattle.ss_state.specs.State.{LedgerRow}
use Rattle.ss_vault.specs.Numbers.{Columns, row_from}
use Rattle.ss_vault.proofs.Rows.{changed_rows, held_since, here, ledger_with, with_mark}
use Rattle.ss_vault.proofs.numbers.Numbers.marked.Goals as goal

pub index-requires : goal.index-requires
index-requires c =
    let k : Columns = record { base = c.self.inside.base.items; dur = c.self.inside.dur.items; mark = c.self.inside.mark.items; taken = c.self.inside.taken.items; ended = c.self.inside.ended.items; snaps = c.self.inside.snaps.items } in
    let within = here k c.self.inside.since c.self.inside.journal c.args.self.now c.args.v c.self.view_is c.requires in
    omega (arith, within, c.self.inside.dur.ok.0, c.self.invariant)

pub index_mut-requires : goal.index_mut-requires
index_mut-requires c =
    let k : Columns = record { base = c.self.inside.base.items; dur = c.self.inside.dur.items; mark = c.self.inside.mark.items; taken = c.self.inside.taken.items; ended = c.self.inside.ended.items; snaps = c.self.inside.snaps.items } in
    let within = here k c.self.inside.since c.self.inside.journal c.args.self.now c.args.v c.self.view_is c.requires in
    omega (arith, within, c.self.inside.mark.ok.0, c.self.invariant)

pub returns-clause-ledger : goal.returns-clause-ledger
returns-clause-ledger c =
    let k : Columns = record { base = c.self.inside.base.items; dur = c.self.inside.dur.items; mark = c.self.inside.mark.items; taken = c.self.inside.taken.items; ended = c.self.inside.ended.items; snaps = c.self.inside.snaps.items } in
    let within = here k c.self.inside.since c.self.inside.journal c.args.self.now c.args.v c.self.view_is c.requires in
    let value : c.index.result.now ≡ slice_index k.dur c.args.v =
    get_or_read k.dur c.args.v c.index.result.now (omega (arith, within, c.self.invariant)) c.index.ensures 0 in
    let x : ℕ = c.index.result.now in
    ap₂ (λ (rows : List LedgerRow) (since : ℕ). ledger_with since rows)
    (changed_rows k (record k { mark = set k.mark c.args.v x }) c.self.inside.since c.self.inside.journal c.args.self.now c.args.v (record (row_from k c.args.v) { mark = x })
    (λ (r : LedgerRow). record r { mark = r.dur }) c.self.view_is c.requires
    (with_mark k c.args.v x within c.self.invariant.mark) (ap (λ (n : ℕ). record (row_from k c.args.v) { mark = n }) value))
    (held_since k c.self.inside.since c.self.inside.journal c.args.self.now c.self.view_is)
