use Rattle.ss_frames.proofs.Accepting.{within_is_may_accept}
use Rattle.ss_frames.proofs.laws.within_is_may_accept.Goals as goal

pub returns : goal.returns
returns c =
    within_is_may_accept
    (record {
      means = c.plans_mean_jobs.ensures;
      vertices = c.vertices_by_number.ensures;
      whole = c.meaning_is_whole.ensures;
      keeps = c.merge_keeps_each_input.ensures.all;
    })
    c.plans_have_numbers.ensures.meant
