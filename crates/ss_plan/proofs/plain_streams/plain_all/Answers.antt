-- All streams are wanted.
use Rattle.std.proofs.Common.{◌≡◌, ℕ, ◌≤◌, List, length, ap, ◌∙◌, arith}
use Rattle.ss_job.specs.JobText.{JobText}
use Rattle.ss_plan.specs.Plan.{lists_of}
use Rattle.ss_plan.proofs.Everything.{all_closed, all_streams, none_long, fault_of_all}
use Rattle.ss_plan.proofs.plain_streams.plain_all.Goals as goal

pub streams_wanted-requires-clause-closed : goal.streams_wanted-requires-clause-closed
streams_wanted-requires-clause-closed c =
    let count : c.count-count.result ≡ length c.args.plan.now.job.graph =
    c.count-count.ensures.count ∙ ap length (c.graph.ensures.graph ∙ ap (λ (job : JobText). job.graph) c.job.ensures.job) in
    let limit = c.count-count.ensures.graph.count in
    let most : c.count-count.result ≤ 32 = omega (arith, c.count-count.ensures.count) in
    all_closed c.args.plan.now c.job.result.now c.count-count.result c.job.ensures.job c.graph.ensures.sound c.job.ensures.lists count most

pub returns-in-Ok-clause-streams : goal.returns-in-Ok-clause-streams
returns-in-Ok-clause-streams c =
    let count : c.count-count.result ≡ length c.args.plan.now.job.graph =
    c.count-count.ensures.count ∙ ap length (c.graph.ensures.graph ∙ ap (λ (job : JobText). job.graph) c.job.ensures.job) in
    let limit = c.count-count.ensures.graph.count in
    let most : c.count-count.result ≤ 32 = omega (arith, c.count-count.ensures.count) in
    all_streams c.args.plan.now c.job.result.now c.count-count.result (lists_of c.in-Ok.streams.items) c.job.ensures.job
    c.graph.ensures.sound count most c.in-Ok.ensures.streams

pub returns-in-Ok-clause-within : goal.returns-in-Ok-clause-within
returns-in-Ok-clause-within c =
    let count : c.count-count.result ≡ length c.args.plan.now.job.graph =
    c.count-count.ensures.count ∙ ap length (c.graph.ensures.graph ∙ ap (λ (job : JobText). job.graph) c.job.ensures.job) in
    let limit = c.count-count.ensures.graph.count in
    let most : c.count-count.result ≤ 32 = omega (arith, c.count-count.ensures.count) in
    none_long c.args.plan.now c.job.result.now c.count-count.result c.job.ensures.job c.graph.ensures.sound count most c.in-Ok.ensures.within

pub returns-in-Err-clause-fault : goal.returns-in-Err-clause-fault
returns-in-Err-clause-fault c =
    let count : c.count-count.result ≡ length c.args.plan.now.job.graph =
    c.count-count.ensures.count ∙ ap length (c.graph.ensures.graph ∙ ap (λ (job : JobText). job.graph) c.job.ensures.job) in
    let limit = c.count-count.ensures.graph.count in
    let most : c.count-count.result ≤ 32 = omega (arith, c.count-count.ensures.count) in
    fault_of_all c.args.plan.now c.count-count.result c.in-Err.fault most c.in-Err.ensures.fault
