use Rattle.std.proofs.Common.{◌≡◌, ◌∙◌, Some, List, ap, sym}
use Rattle.std.specs.Prelude.{slice_get}
use Rattle.ss_frames.specs.Plans.{plan_numbers}
use Rattle.ss_job.specs.JobText.{JobText}
use Rattle.ss_state.specs.Numbers.{is_inner, vertex}
use Rattle.ss_vault.specs.Told.{durable_of, vault_told}
use Rattle.ss_water.specs.Graph.{is_sink}
use Rattle.ss_water.specs.declared.node.Node.{Node}
use Rattle.ss_crew.proofs.VaultRows.{low_source, stored_sink, stored_stream}
use Rattle.ss_crew.proofs.rows.stored.Goals as goal

pub low-requires : goal.low-requires
low-requires g c =
    let plan = c.args.plan.now in
    let graph : c.graph.result.now ≡ plan.job.graph = c.graph.ensures.graph ∙ ap (λ (j : JobText). j.graph) c.job.ensures.job in
    let at : slice_get plan.job.graph c.args.v ≡ Some c.node.result = ap (λ (nodes : List Node). slice_get nodes c.args.v) (sym graph) ∙ c.node.ensures.node in
    let kind = c.plan_facts.ensures.kinds c.args.v c.node.result at ∙ c.in-Inner.is in
    (plan, record { is = c.plan_facts.ensures.is; sound = c.requires.sound; operator = (c.requires.vertex, ap is_inner kind) })

pub returns-in-Source : goal.returns-in-Source
returns-in-Source g c =
    let plan = c.args.plan.now in
    let graph : c.graph.result.now ≡ plan.job.graph = c.graph.ensures.graph ∙ ap (λ (j : JobText). j.graph) c.job.ensures.job in
    let at : slice_get plan.job.graph c.args.v ≡ Some c.node.result = ap (λ (nodes : List Node). slice_get nodes c.args.v) (sym graph) ∙ c.node.ensures.node in
    let kind = c.plan_facts.ensures.kinds c.args.v c.node.result at ∙ c.in-Source.is in
    let x = vertex (plan_numbers plan) c.args.v in
    let row = durable_of (vault_told g.O.Outputs.told g.D.Depot.told c.args.vault.now) c.args.v in
    stored_stream x row c.base.result c.dur.result c.mark.result (ap is_sink kind) c.base.ensures c.dur.ensures
    (c.mark.ensures ∙ sym (low_source x row kind))

pub returns-in-Inner : goal.returns-in-Inner
returns-in-Inner g c =
    let plan = c.args.plan.now in
    let graph : c.graph.result.now ≡ plan.job.graph = c.graph.ensures.graph ∙ ap (λ (j : JobText). j.graph) c.job.ensures.job in
    let at : slice_get plan.job.graph c.args.v ≡ Some c.node.result = ap (λ (nodes : List Node). slice_get nodes c.args.v) (sym graph) ∙ c.node.ensures.node in
    let kind = c.plan_facts.ensures.kinds c.args.v c.node.result at ∙ c.in-Inner.is in
    let x = vertex (plan_numbers plan) c.args.v in
    let row = durable_of (vault_told g.O.Outputs.told g.D.Depot.told c.args.vault.now) c.args.v in
    stored_stream x row c.base-in-Inner.result c.dur-in-Inner.result c.low.result (ap is_sink kind) c.base-in-Inner.ensures c.dur-in-Inner.ensures
    (c.low.ensures plan (record { is = c.plan_facts.ensures.is; sound = c.requires.sound; operator = (c.requires.vertex, ap is_inner kind) }))

pub returns-in-Sink : goal.returns-in-Sink
returns-in-Sink g c =
    let plan = c.args.plan.now in
    let graph : c.graph.result.now ≡ plan.job.graph = c.graph.ensures.graph ∙ ap (λ (j : JobText). j.graph) c.job.ensures.job in
    let at : slice_get plan.job.graph c.args.v ≡ Some c.node.result = ap (λ (nodes : List Node). slice_get nodes c.args.v) (sym graph) ∙ c.node.ensures.node in
    let kind = c.plan_facts.ensures.kinds c.args.v c.node.result at ∙ c.in-Sink.is in
    let x = vertex (plan_numbers plan) c.args.v in
    let row = durable_of (vault_told g.O.Outputs.told g.D.Depot.told c.args.vault.now) c.args.v in
    stored_sink x row c.taken.result kind c.taken.ensures
