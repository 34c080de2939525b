use Rattle.std.proofs.Common.{◌∙◌, Bool, List, ap}
use Rattle.std.specs.List.{list_all}
use Rattle.ss_vault.specs.Numbers.{Columns}
use Rattle.ss_vault.proofs.Rows.{all_ended}
use Rattle.ss_vault.proofs.numbers.Numbers.all_ended.Goals as goal

pub returns : goal.returns
returns c =
    let k : Columns = record { base = c.self.inside.base.items; dur = c.self.inside.dur.items; mark = c.self.inside.mark.items; taken = c.self.inside.taken.items; ended = c.self.inside.ended.items; snaps = c.self.inside.snaps.items } in
    all_ended k c.self.inside.since c.self.inside.journal c.args.self.now c.have_ended.result c.self.invariant.ended c.self.view_is
    (c.have_ended.ensures ∙ ap (λ (xs : List Bool). list_all (λ b. b) xs) c.as_slice.ensures.value)
