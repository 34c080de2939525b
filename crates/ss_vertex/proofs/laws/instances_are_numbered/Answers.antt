use Rattle.ss_vertex.proofs.Numbered.{instances_numbered}
use Rattle.ss_vertex.proofs.laws.instances_are_numbered.Goals as goal

pub returns : goal.returns
returns c =
    instances_numbered c.numbers_are_meant.ensures c.meaning_is_made_of_the_inputs.ensures c.output_only_grows.ensures.step
    c.plans_mean_jobs.ensures c.vertices_by_number.ensures
