use Rattle.std.proofs.Common.{◌∙◌, ap, arith, sym}
use Rattle.std.proofs.lemmas.List.{get_or_read}
use Rattle.ss_state.specs.State.{LedgerRow}
use Rattle.ss_vault.specs.Numbers.{Columns}
use Rattle.ss_vault.proofs.Rows.{here, row_read}
use Rattle.ss_vault.proofs.numbers.Numbers.base.Goals as goal

pub index-requires : goal.index-requires
index-requires c =
    let k : Columns = record { base = c.self.inside.base.items; dur = c.self.inside.dur.items; mark = c.self.inside.mark.items; taken = c.self.inside.taken.items; ended = c.self.inside.ended.items; snaps = c.self.inside.snaps.items } in
    let within = here k c.self.inside.since c.self.inside.journal c.args.self.now c.args.v c.self.view_is c.requires in
    omega (arith, within, c.self.inside.base.ok.0, c.self.invariant)

pub returns : goal.returns
returns c =
    let k : Columns = record { base = c.self.inside.base.items; dur = c.self.inside.dur.items; mark = c.self.inside.mark.items; taken = c.self.inside.taken.items; ended = c.self.inside.ended.items; snaps = c.self.inside.snaps.items } in
    let within = here k c.self.inside.since c.self.inside.journal c.args.self.now c.args.v c.self.view_is c.requires in
    get_or_read k.base c.args.v c.index.result.now (omega (arith, within, c.self.invariant)) c.index.ensures 0
    ∙ sym (ap (λ (r : LedgerRow). r.base) (row_read k c.self.inside.since c.self.inside.journal c.args.self.now c.args.v c.self.view_is c.requires))
