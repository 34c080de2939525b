use Rattle.std.proofs.Common.{◌∷◌, [], All, sym, subst}
use Rattle.ss_join.specs.ImageLaws.{HasEarlyTimes}
use Rattle.ss_meaning.specs.Except.{is_alone}
use Rattle.ss_session.proofs.AloneRows.{all_kept}
use Rattle.ss_session.proofs.except.Except.take_right.Goals as goal

pub invariant_of-self-2 : goal.invariant_of-self-2
invariant_of-self-2 c =
    subst (All HasEarlyTimes) (sym c.remove_matches.ensures) (all_kept HasEarlyTimes (is_alone (c.args.row.now ∷ [])) c.self.inside.left c.self.invariant)
