use Rattle.ss_frames.proofs.Numbers as plans
use Rattle.ss_frames.proofs.laws.plans_have_numbers.Goals as goal

pub returns-clause-runnable : goal.returns-clause-runnable
returns-clause-runnable c = plans.plans_are_runnable c.plans_mean_jobs.ensures c.vertices_by_number.ensures

pub returns-clause-numbers : goal.returns-clause-numbers
returns-clause-numbers c =
    plans.plans_have_numbers c.plans_mean_jobs.ensures c.vertices_by_number.ensures c.runnable_has_numbers.ensures

pub returns-clause-meant : goal.returns-clause-meant
returns-clause-meant c =
    plans.numbers_are_meant c.plans_mean_jobs.ensures c.vertices_by_number.ensures c.numbers_are_meant.ensures
    c.meaning_is_made_of_the_inputs.ensures

pub returns-clause-inputs : goal.returns-clause-inputs
returns-clause-inputs c = plans.inputs_of_nodes c.vertices_by_number.ensures
