use Rattle.std.proofs.Common.{◌∙◌, true, ap, arith}
use Rattle.std.proofs.lemmas.List.{get_or_read}
use Rattle.ss_vault.specs.Numbers.{Columns}
use Rattle.ss_vault.specs.NumbersHeld.{NumbersHeld, ended_held}
use Rattle.ss_vault.proofs.Rows.{here}
use Rattle.ss_vault.proofs.numbers.Numbers.ended.Goals as goal

pub index-requires : goal.index-requires
index-requires c =
    let k : Columns = record { base = c.self.inside.base.items; dur = c.self.inside.dur.items; mark = c.self.inside.mark.items; taken = c.self.inside.taken.items; ended = c.self.inside.ended.items; snaps = c.self.inside.snaps.items } in
    let within = here k c.self.inside.since c.self.inside.journal c.args.self.now c.args.k c.self.view_is c.requires in
    omega (arith, within, c.self.inside.ended.ok.0, c.self.invariant)

pub returns : goal.returns
returns c =
    let k : Columns = record { base = c.self.inside.base.items; dur = c.self.inside.dur.items; mark = c.self.inside.mark.items; taken = c.self.inside.taken.items; ended = c.self.inside.ended.items; snaps = c.self.inside.snaps.items } in
    let within = here k c.self.inside.since c.self.inside.journal c.args.self.now c.args.k c.self.view_is c.requires in
    get_or_read k.ended c.args.k c.index.result.now (omega (arith, within, c.self.invariant)) c.index.ensures true
    ∙ ap (λ (h : NumbersHeld). ended_held h c.args.k) c.self.view_is
