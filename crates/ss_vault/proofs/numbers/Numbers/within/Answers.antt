use Rattle.std.proofs.Common.{◌∙◌, List, ap, sym, subst}
use Rattle.ss_water.specs.Starts.{RisesInN}
use Rattle.ss_water.specs.declared.snap_row.SnapRow.{SnapRow}
use Rattle.ss_vault.specs.NumbersHeld.{greatest_within}
use Rattle.ss_vault.proofs.Starts.{greatest_is, n_read}
use Rattle.ss_vault.proofs.numbers.Numbers.within.Goals as goal

pub returns : goal.returns
returns c =
    let rows : List SnapRow = c.snaps-snaps.result.now in
    let rises : RisesInN rows = subst RisesInN (sym c.snaps-snaps.ensures.snaps) c.requires.rise in
    n_read rows c.start_of.result _ c.start_of.ensures.within
    ∙ greatest_is rows c.args.limit c.start_of.result c.start_of.ensures.within c.start_of.ensures.given (c.start_of.ensures.greatest rises)
    ∙ ap (λ (r : List SnapRow). greatest_within r c.args.limit) c.snaps-snaps.ensures.snaps
