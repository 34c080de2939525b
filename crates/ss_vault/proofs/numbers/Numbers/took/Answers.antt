use Rattle.std.proofs.Common.{◌≡◌, ◌==◌, ◌∙◌, ◌+◌, ℕ, true, List, get_or, set, ap, ap₂, arith, if◌then◌else◌}
use Rattle.std.specs.Prelude.{slice_index}
use Rattle.std.proofs.lemmas.List.{get_or_read}
use Rattle.ss_state.specs.State.{LedgerRow}
use Rattle.ss_vault.specs.Numbers.{Columns, row_from}
use Rattle.ss_vault.specs.NumbersHeld.{NumbersHeld}
use Rattle.ss_vault.proofs.Rows.{changed_rows, held_since, here, ledger_with, row_read, set_at, with_taken}
use Rattle.ss_vault.proofs.numbers.Numbers.took.Goals as goal

pub index_mut-requires : goal.index_mut-requires
index_mut-requires c =
    let k : Columns = record { base = c.self.inside.base.items; dur = c.self.inside.dur.items; mark = c.self.inside.mark.items; taken = c.self.inside.taken.items; ended = c.self.inside.ended.items; snaps = c.self.inside.snaps.items } in
    let within = here k c.self.inside.since c.self.inside.journal c.args.self.now c.args.k c.self.view_is c.requires.vertex in
    omega (arith, within, c.self.inside.taken.ok.0, c.self.invariant)

pub index_mut-requires-2 : goal.index_mut-requires-2
index_mut-requires-2 c =
    let k : Columns = record { base = c.self.inside.base.items; dur = c.self.inside.dur.items; mark = c.self.inside.mark.items; taken = c.self.inside.taken.items; ended = c.self.inside.ended.items; snaps = c.self.inside.snaps.items } in
    let within = here k c.self.inside.since c.self.inside.journal c.args.self.now c.args.k c.self.view_is c.requires.vertex in
    omega (arith, within, c.self.inside.ended.ok.0, c.self.invariant)

pub overflow_add-index_mut : goal.overflow_add-index_mut
overflow_add-index_mut c =
    let k : Columns = record { base = c.self.inside.base.items; dur = c.self.inside.dur.items; mark = c.self.inside.mark.items; taken = c.self.inside.taken.items; ended = c.self.inside.ended.items; snaps = c.self.inside.snaps.items } in
    let within = here k c.self.inside.since c.self.inside.journal c.args.self.now c.args.k c.self.view_is c.requires.vertex in
    let value : c.index_mut.result.now ≡ slice_index k.taken c.args.k =
    get_or_read k.taken c.args.k c.index_mut.result.now (omega (arith, within, c.self.invariant)) c.index_mut.ensures.value 0 in
    let row = ap (λ (r : LedgerRow). r.taken) (row_read k c.self.inside.since c.self.inside.journal c.args.self.now c.args.k c.self.view_is c.requires.vertex) in
    let few = c.requires.few in
    omega (arith, value, row, few)

pub returns-clause-ledger : goal.returns-clause-ledger
returns-clause-ledger c =
    let k : Columns = record { base = c.self.inside.base.items; dur = c.self.inside.dur.items; mark = c.self.inside.mark.items; taken = c.self.inside.taken.items; ended = c.self.inside.ended.items; snaps = c.self.inside.snaps.items } in
    let within = here k c.self.inside.since c.self.inside.journal c.args.self.now c.args.k c.self.view_is c.requires.vertex in
    let value : c.index_mut.result.now ≡ slice_index k.taken c.args.k =
    get_or_read k.taken c.args.k c.index_mut.result.now (omega (arith, within, c.self.invariant)) c.index_mut.ensures.value 0 in
    let x : ℕ = c.index_mut.result.now + 1 in
    ap₂ (λ (rows : List LedgerRow) (since : ℕ). ledger_with since rows)
    (changed_rows k (record k { taken = set k.taken c.args.k x }) c.self.inside.since c.self.inside.journal c.args.self.now c.args.k (record (row_from k c.args.k) { taken = x })
    (λ (r : LedgerRow). record r { taken = r.taken + 1 }) c.self.view_is c.requires.vertex
    (with_taken k c.args.k x within c.self.invariant.taken) (ap (λ (n : ℕ). record (row_from k c.args.k) { taken = n + 1 }) value))
    (held_since k c.self.inside.since c.self.inside.journal c.args.self.now c.self.view_is)

pub returns-clause-ended : goal.returns-clause-ended
returns-clause-ended c w =
    let k : Columns = record { base = c.self.inside.base.items; dur = c.self.inside.dur.items; mark = c.self.inside.mark.items; taken = c.self.inside.taken.items; ended = c.self.inside.ended.items; snaps = c.self.inside.snaps.items } in
    let within = here k c.self.inside.since c.self.inside.journal c.args.self.now c.args.k c.self.view_is c.requires.vertex in
    set_at k.ended c.args.k w c.args.ended true (omega (arith, within, c.self.invariant))
    ∙ ap (λ (h : NumbersHeld). if w == c.args.k then c.args.ended else get_or h.ended w true) c.self.view_is
