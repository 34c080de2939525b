use Rattle.ss_frames.proofs.Codes.{frames_have_codes}
use Rattle.ss_frames.proofs.Operators.{frames_are_meant}
use Rattle.ss_frames.proofs.laws.frames_have_codes.Goals as goal

pub returns-clause-meant : goal.returns-clause-meant
returns-clause-meant c = frames_are_meant c.vertices_by_number.ensures

pub returns-clause-codes : goal.returns-clause-codes
returns-clause-codes c =
    frames_have_codes
    (record {
      means = c.plans_mean_jobs.ensures;
      vertices = c.vertices_by_number.ensures;
      whole = c.meaning_is_whole.ensures;
      keeps = c.merge_keeps_each_input.ensures.all;
    })
    (record {
      window = c.images_have_lengths.ensures.window;
      join = c.images_have_lengths.ensures.short;
      session = c.images_have_lengths.ensures.session;
      frame = c.frames_have_lengths.ensures;
    })
    c.entries_are_few.ensures
