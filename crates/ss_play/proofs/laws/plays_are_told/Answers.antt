use Rattle.ss_play.proofs.PlayEnds.{all_told, refusals_told, stops_told}
use Rattle.ss_play.proofs.laws.plays_are_told.Goals as goal

pub returns-clause-all : goal.returns-clause-all
returns-clause-all c = all_told

pub returns-clause-stops : goal.returns-clause-stops
returns-clause-stops c = stops_told

pub returns-clause-refusals : goal.returns-clause-refusals
returns-clause-refusals c = refusals_told
