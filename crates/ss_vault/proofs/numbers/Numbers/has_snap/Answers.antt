use Rattle.std.proofs.Common.{◌∙◌, ap, sym}
use Rattle.ss_state.specs.Journal.{is_one_of}
use Rattle.ss_vault.proofs.Rows.{any_map}
use Rattle.ss_vault.proofs.numbers.Numbers.has_snap.Goals as goal

pub returns : goal.returns
returns c =
    c.is_among.ensures ∙ sym (any_map c.args.n c.snaps.result.now) ∙ ap (is_one_of c.args.n) c.snaps.ensures.numbers
