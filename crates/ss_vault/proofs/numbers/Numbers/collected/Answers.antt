use Rattle.std.proofs.Common.{◌≡◌, ◌∙◌, ℕ, List, set, ap, ap₂, arith, length, max, sym}
use Rattle.std.specs.Prelude.{slice_index}
use Rattle.std.proofs.lemmas.List.{get_or_read, length-set}
use Rattle.ss_state.specs.State.{LedgerRow}
use Rattle.ss_vault.specs.Numbers.{Columns, row_from, rows_from}
use Rattle.ss_vault.proofs.Rows.{changed_rows, held_since, here, ledger_with, stored_set, with_base_and_dur}
use Rattle.ss_vault.proofs.numbers.Numbers.collected.Goals as goal

pub index_mut-requires : goal.index_mut-requires
index_mut-requires c =
    let k : Columns = record { base = c.self.inside.base.items; dur = c.self.inside.dur.items; mark = c.self.inside.mark.items; taken = c.self.inside.taken.items; ended = c.self.inside.ended.items; snaps = c.self.inside.snaps.items } in
    let within = here k c.self.inside.since c.self.inside.journal c.args.self.now c.args.v c.self.view_is c.requires in
    omega (arith, within, c.self.inside.base.ok.0, c.self.invariant)

pub index-requires : goal.index-requires
index-requires c =
    let k : Columns = record { base = c.self.inside.base.items; dur = c.self.inside.dur.items; mark = c.self.inside.mark.items; taken = c.self.inside.taken.items; ended = c.self.inside.ended.items; snaps = c.self.inside.snaps.items } in
    let within = here k c.self.inside.since c.self.inside.journal c.args.self.now c.args.v c.self.view_is c.requires in
    omega (arith, within, c.self.inside.dur.ok.0, c.self.invariant)

pub index_mut-requires-2 : goal.index_mut-requires-2
index_mut-requires-2 c =
    let k : Columns = record { base = c.self.inside.base.items; dur = c.self.inside.dur.items; mark = c.self.inside.mark.items; taken = c.self.inside.taken.items; ended = c.self.inside.ended.items; snaps = c.self.inside.snaps.items } in
    let within = here k c.self.inside.since c.self.inside.journal c.args.self.now c.args.v c.self.view_is c.requires in
    omega (arith, within, c.self.inside.dur.ok.0, c.self.invariant)

pub invariant_of-self : goal.invariant_of-self
invariant_of-self c =
    let k : Columns = record { base = c.self.inside.base.items; dur = c.self.inside.dur.items; mark = c.self.inside.mark.items; taken = c.self.inside.taken.items; ended = c.self.inside.ended.items; snaps = c.self.inside.snaps.items } in
    let within = here k c.self.inside.since c.self.inside.journal c.args.self.now c.args.v c.self.view_is c.requires in
    let value : c.index.result.now ≡ slice_index k.dur c.args.v =
    get_or_read k.dur c.args.v c.index.result.now (omega (arith, within, c.self.invariant)) c.index.ensures 0 in
    let x : ℕ = c.args.base in
    let y : ℕ = c.max.result in
    let rows : List LedgerRow = rows_from (record k { base = set k.base c.args.v x; dur = set k.dur c.args.v y }) in
    let sums = stored_set k rows c.args.v (record (row_from k c.args.v) { base = x; dur = y }) within (with_base_and_dur k c.args.v x y within c.self.invariant.dur) in
    let had = c.self.invariant.since in
    let most = c.max.ensures in
    let base : length (set k.base c.args.v x) ≡ length k.base = length-set k.base c.args.v x in
    record {
      dur = length-set k.dur c.args.v y ∙ c.self.invariant.dur ∙ sym base;
      mark = c.self.invariant.mark ∙ sym base;
      taken = c.self.invariant.taken ∙ sym base;
      ended = c.self.invariant.ended ∙ sym base;
      snaps = c.self.invariant.snaps ∙ sym base;
      since = omega (arith, sums, had, value, most);
    }

pub returns-clause-ledger : goal.returns-clause-ledger
returns-clause-ledger c =
    let k : Columns = record { base = c.self.inside.base.items; dur = c.self.inside.dur.items; mark = c.self.inside.mark.items; taken = c.self.inside.taken.items; ended = c.self.inside.ended.items; snaps = c.self.inside.snaps.items } in
    let within = here k c.self.inside.since c.self.inside.journal c.args.self.now c.args.v c.self.view_is c.requires in
    let value : c.index.result.now ≡ slice_index k.dur c.args.v =
    get_or_read k.dur c.args.v c.index.result.now (omega (arith, within, c.self.invariant)) c.index.ensures 0 in
    let x : ℕ = c.args.base in
    let y : ℕ = c.max.result in
    let most : y ≡ max (slice_index k.dur c.args.v) x = omega (arith, value, c.max.ensures) in
    ap₂ (λ (rows : List LedgerRow) (since : ℕ). ledger_with since rows)
    (changed_rows k (record k { base = set k.base c.args.v x; dur = set k.dur c.args.v y }) c.self.inside.since c.self.inside.journal c.args.self.now c.args.v
    (record (row_from k c.args.v) { base = x; dur = y }) (λ (r : LedgerRow). record r { base = x; dur = max r.dur x }) c.self.view_is c.requires
    (with_base_and_dur k c.args.v x y within c.self.invariant.dur) (ap (λ (n : ℕ). record (row_from k c.args.v) { base = x; dur = n }) most))
    (held_since k c.self.inside.since c.self.inside.journal c.args.self.now c.self.view_is)
