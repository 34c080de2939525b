use Rattle.ss_play.proofs.playing.tell.Goals as goal

pub returns-clause-tells : goal.returns-clause-tells
returns-clause-tells g c = record { text = c.in_ok-text.ensures; marks = c.in_ok-marks.ensures }
