use Rattle.std.proofs.Common.{◌≡◌, ◌∙◌, ◌+◌, ℕ, List, set, ap, ap₂, arith}
use Rattle.std.specs.Prelude.{slice_index}
use Rattle.std.proofs.lemmas.List.{get_or_read, length-set}
use Rattle.ss_state.specs.State.{LedgerRow}
use Rattle.ss_vault.specs.Numbers.{Columns, row_from, rows_from}
use Rattle.ss_vault.specs.NumbersHeld.{NumbersHeld, all_stored}
use Rattle.ss_vault.proofs.Rows.{changed_rows, held_since, here, ledger_with, stored_one, stored_set, with_dur}
use Rattle.ss_vault.proofs.numbers.Numbers.flushed.Goals as goal

pub index_mut-requires : goal.index_mut-requires
index_mut-requires c =
    let k : Columns = record { base = c.self.inside.base.items; dur = c.self.inside.dur.items; mark = c.self.inside.mark.items; taken = c.self.inside.taken.items; ended = c.self.inside.ended.items; snaps = c.self.inside.snaps.items } in
    let within = here k c.self.inside.since c.self.inside.journal c.args.self.now c.args.v c.self.view_is c.requires.vertex in
    omega (arith, within, c.self.inside.dur.ok.0, c.self.invariant)

pub overflow_add-index_mut : goal.overflow_add-index_mut
overflow_add-index_mut c =
    let k : Columns = record { base = c.self.inside.base.items; dur = c.self.inside.dur.items; mark = c.self.inside.mark.items; taken = c.self.inside.taken.items; ended = c.self.inside.ended.items; snaps = c.self.inside.snaps.items } in
    let within = here k c.self.inside.since c.self.inside.journal c.args.self.now c.args.v c.self.view_is c.requires.vertex in
    let value : c.index_mut.result.now ≡ slice_index k.dur c.args.v =
    get_or_read k.dur c.args.v c.index_mut.result.now (omega (arith, within, c.self.invariant)) c.index_mut.ensures.value 0 in
    let one = stored_one k c.args.v within in
    let few = c.requires.few in
    let all = ap (λ (h : NumbersHeld). all_stored h.numbers.ledger) c.self.view_is in
    omega (arith, value, one, few, all)

pub invariant_of-self : goal.invariant_of-self
invariant_of-self c =
    let k : Columns = record { base = c.self.inside.base.items; dur = c.self.inside.dur.items; mark = c.self.inside.mark.items; taken = c.self.inside.taken.items; ended = c.self.inside.ended.items; snaps = c.self.inside.snaps.items } in
    let within = here k c.self.inside.since c.self.inside.journal c.args.self.now c.args.v c.self.view_is c.requires.vertex in
    let value : c.index_mut.result.now ≡ slice_index k.dur c.args.v =
    get_or_read k.dur c.args.v c.index_mut.result.now (omega (arith, within, c.self.invariant)) c.index_mut.ensures.value 0 in
    let x : ℕ = c.index_mut.result.now + c.args.count in
    let rows : List LedgerRow = rows_from (record k { dur = set k.dur c.args.v x }) in
    let sums = stored_set k rows c.args.v (record (row_from k c.args.v) { dur = x }) within (with_dur k c.args.v x within c.self.invariant.dur) in
    let had = c.self.invariant.since in
    record {
      dur = length-set k.dur c.args.v x ∙ c.self.invariant.dur;
      mark = c.self.invariant.mark;
      taken = c.self.invariant.taken;
      ended = c.self.invariant.ended;
      snaps = c.self.invariant.snaps;
      since = omega (arith, sums, had, value);
    }

pub returns-clause-ledger : goal.returns-clause-ledger
returns-clause-ledger c =
    let k : Columns = record { base = c.self.inside.base.items; dur = c.self.inside.dur.items; mark = c.self.inside.mark.items; taken = c.self.inside.taken.items; ended = c.self.inside.ended.items; snaps = c.self.inside.snaps.items } in
    let within = here k c.self.inside.since c.self.inside.journal c.args.self.now c.args.v c.self.view_is c.requires.vertex in
    let value : c.index_mut.result.now ≡ slice_index k.dur c.args.v =
    get_or_read k.dur c.args.v c.index_mut.result.now (omega (arith, within, c.self.invariant)) c.index_mut.ensures.value 0 in
    let x : ℕ = c.index_mut.result.now + c.args.count in
    ap₂ (λ (rows : List LedgerRow) (since : ℕ). ledger_with (since + c.args.count) rows)
    (changed_rows k (record k { dur = set k.dur c.args.v x }) c.self.inside.since c.self.inside.journal c.args.self.now c.args.v (record (row_from k c.args.v) { dur = x })
    (λ (r : LedgerRow). record r { dur = r.dur + c.args.count }) c.self.view_is c.requires.vertex
    (with_dur k c.args.v x within c.self.invariant.dur) (ap (λ (n : ℕ). record (row_from k c.args.v) { dur = n + c.args.count }) value))
    (held_since k c.self.inside.since c.self.inside.journal c.args.self.now c.self.view_is)
