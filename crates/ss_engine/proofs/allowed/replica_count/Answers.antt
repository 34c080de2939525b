use Rattle.std.proofs.Common.{◌≡◌, ◌∙◌, ap, ⊎_elim}
use Rattle.ss_job.specs.JobText.{JobText}
use Rattle.ss_water.specs.Graph.{is_sink}
use Rattle.ss_engine.proofs.StartVertices.{role_at, sink_of_role, stream_of_role}
use Rattle.ss_engine.proofs.allowed.replica_count.Goals as goal

pub returns-in-Source : goal.returns-in-Source
returns-in-Source c =
    let plan = c.args.plan.now in
    let roles : c.roles.result.now ≡ plan.job.roles = c.roles.ensures ∙ ap (λ (j : JobText). j.roles) c.job.ensures.job in
    let at = role_at plan c.act_facts.ensures c.args.v c.roles.result.now c.index-roles-v.result c.requires roles c.index-roles-v.is in
    let is = stream_of_role plan c.act_facts.ensures c.args.v c.index-roles-v.result c.requires at (⊎_elim (ap is_sink) (ap is_sink) c.in-Source.is) in
    record { count = is.0; stream = λ some. is.1 }

pub returns-in-Sink-clause-count : goal.returns-in-Sink-clause-count
returns-in-Sink-clause-count c =
    let plan = c.args.plan.now in
    let roles : c.roles.result.now ≡ plan.job.roles = c.roles.ensures ∙ ap (λ (j : JobText). j.roles) c.job.ensures.job in
    let at = role_at plan c.act_facts.ensures c.args.v c.roles.result.now c.index-roles-v.result c.requires roles c.index-roles-v.is in
    sink_of_role plan c.act_facts.ensures c.args.v c.index-roles-v.result c.requires at c.in-Sink.is
