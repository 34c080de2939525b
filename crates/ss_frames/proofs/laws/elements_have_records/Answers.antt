use Rattle.ss_frames.proofs.Records.{elements_have_records}
use Rattle.ss_frames.proofs.laws.elements_have_records.Goals as goal

pub returns : goal.returns
returns c =
    elements_have_records
    (record {
      job = record {
        means = c.plans_mean_jobs.ensures;
        vertices = c.vertices_by_number.ensures;
        whole = c.meaning_is_whole.ensures;
        keeps = c.merge_keeps_each_input.ensures.all;
      };
      made = c.meaning_is_made_of_the_inputs.ensures;
      sessions = c.sessions_are_of_rows.ensures;
    })
