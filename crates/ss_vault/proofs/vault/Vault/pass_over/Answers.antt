use Rattle.std.proofs.Common.{◌≡◌, ◌∙◌, List, Some, ap, subst, sym}
use Rattle.std.specs.Prelude.{slice_get}
use Rattle.ss_frames.specs.Plans.{plan_numbers}
use Rattle.ss_state.specs.Numbers.{IsStream}
use Rattle.ss_water.specs.Graph.{is_sink}
use Rattle.ss_water.specs.declared.node.Node.{Node}
use Rattle.ss_vault.specs.Told.{VaultTold}
use Rattle.ss_vault.proofs.Passed.{passes_both, passes_half, passes_none, passes_stopped}
use Rattle.ss_vault.proofs.vault.Vault.pass_over.Goals as goal

pub returns-then-is_sink-clause-passes : goal.returns-then-is_sink-clause-passes
returns-then-is_sink-clause-passes g c =
    let v = c.args.self.now in
    let s : VaultTold = record { held = v.numbers; halted = v.halted; started = v.started; depot = g.D.Depot.told v.depot; outputs = g.O.Outputs.told v.outputs } in
    let graph : c.graph.result.now ≡ c.args.plan.now.job.graph = c.graph.ensures.graph ∙ ap (λ j. j.graph) c.job.ensures.job in
    let at : slice_get c.args.plan.now.job.graph c.args.v ≡ Some c.node.result = subst (λ (nodes : List Node). slice_get nodes c.args.v ≡ Some c.node.result) graph c.node.ensures.node in
    let kind = c.plan_facts.ensures.kinds c.args.v c.node.result at in
    passes_none c.args.plan.now s c.args.v c.requires.sound c.requires.going (ap is_sink kind ∙ sym c.is_sink.ensures ∙ c.if-is_sink.true)

pub collect_half-requires-clause-stream : goal.collect_half-requires-clause-stream
collect_half-requires-clause-stream g c =
    let graph : c.graph.result.now ≡ c.args.plan.now.job.graph = c.graph.ensures.graph ∙ ap (λ j. j.graph) c.job.ensures.job in
    let at : slice_get c.args.plan.now.job.graph c.args.v ≡ Some c.node.result = subst (λ (nodes : List Node). slice_get nodes c.args.v ≡ Some c.node.result) graph c.node.ensures.node in
    let kind = c.plan_facts.ensures.kinds c.args.v c.node.result at in
    (c.requires.vertex, ap is_sink kind ∙ sym c.is_sink.ensures ∙ c.if-is_sink.false)

pub returns-in-Err-clause-passes : goal.returns-in-Err-clause-passes
returns-in-Err-clause-passes g c =
    let v = c.args.self.now in
    let s : VaultTold = record { held = v.numbers; halted = v.halted; started = v.started; depot = g.D.Depot.told v.depot; outputs = g.O.Outputs.told v.outputs } in
    let graph : c.graph.result.now ≡ c.args.plan.now.job.graph = c.graph.ensures.graph ∙ ap (λ j. j.graph) c.job.ensures.job in
    let at : slice_get c.args.plan.now.job.graph c.args.v ≡ Some c.node.result = subst (λ (nodes : List Node). slice_get nodes c.args.v ≡ Some c.node.result) graph c.node.ensures.node in
    let kind = c.plan_facts.ensures.kinds c.args.v c.node.result at in
    let w = c.collect_half.new.self in
    let m : VaultTold = record { held = w.numbers; halted = w.halted; started = w.started; depot = g.D.Depot.told w.depot; outputs = g.O.Outputs.told w.outputs } in
    let stream : IsStream (plan_numbers c.args.plan.now) c.args.v = (c.requires.vertex, ap is_sink kind ∙ sym c.is_sink.ensures ∙ c.if-is_sink.false) in
    passes_stopped c.args.plan.now s m c.args.v c.in-Err.fault c.requires.sound stream c.in-Err.ensures.half

pub trim_half-requires-clause-stream : goal.trim_half-requires-clause-stream
trim_half-requires-clause-stream g c =
    let graph : c.graph.result.now ≡ c.args.plan.now.job.graph = c.graph.ensures.graph ∙ ap (λ j. j.graph) c.job.ensures.job in
    let at : slice_get c.args.plan.now.job.graph c.args.v ≡ Some c.node.result = subst (λ (nodes : List Node). slice_get nodes c.args.v ≡ Some c.node.result) graph c.node.ensures.node in
    let kind = c.plan_facts.ensures.kinds c.args.v c.node.result at in
    (c.requires.vertex, ap is_sink kind ∙ sym c.is_sink.ensures ∙ c.if-is_sink.false)

pub returns-in-Ok-trim_half-clause-passes : goal.returns-in-Ok-trim_half-clause-passes
returns-in-Ok-trim_half-clause-passes g c =
    let v = c.args.self.now in
    let s : VaultTold = record { held = v.numbers; halted = v.halted; started = v.started; depot = g.D.Depot.told v.depot; outputs = g.O.Outputs.told v.outputs } in
    let graph : c.graph.result.now ≡ c.args.plan.now.job.graph = c.graph.ensures.graph ∙ ap (λ j. j.graph) c.job.ensures.job in
    let at : slice_get c.args.plan.now.job.graph c.args.v ≡ Some c.node.result = subst (λ (nodes : List Node). slice_get nodes c.args.v ≡ Some c.node.result) graph c.node.ensures.node in
    let kind = c.plan_facts.ensures.kinds c.args.v c.node.result at in
    let w = c.collect_half.new.self in
    let m : VaultTold = record { held = w.numbers; halted = w.halted; started = w.started; depot = g.D.Depot.told w.depot; outputs = g.O.Outputs.told w.outputs } in
    let x = c.trim_half.new.self in
    let u : VaultTold = record { held = x.numbers; halted = x.halted; started = x.started; depot = g.D.Depot.told x.depot; outputs = g.O.Outputs.told x.outputs } in
    let stream : IsStream (plan_numbers c.args.plan.now) c.args.v = (c.requires.vertex, ap is_sink kind ∙ sym c.is_sink.ensures ∙ c.if-is_sink.false) in
    passes_both c.args.plan.now s m u c.args.v c.requires.sound stream c.in-Ok.ensures.half.1 c.in-Ok-trim_half.ensures.half.1

pub returns-in-Err-trim_half-clause-passes : goal.returns-in-Err-trim_half-clause-passes
returns-in-Err-trim_half-clause-passes g c =
    let v = c.args.self.now in
    let s : VaultTold = record { held = v.numbers; halted = v.halted; started = v.started; depot = g.D.Depot.told v.depot; outputs = g.O.Outputs.told v.outputs } in
    let graph : c.graph.result.now ≡ c.args.plan.now.job.graph = c.graph.ensures.graph ∙ ap (λ j. j.graph) c.job.ensures.job in
    let at : slice_get c.args.plan.now.job.graph c.args.v ≡ Some c.node.result = subst (λ (nodes : List Node). slice_get nodes c.args.v ≡ Some c.node.result) graph c.node.ensures.node in
    let kind = c.plan_facts.ensures.kinds c.args.v c.node.result at in
    let w = c.collect_half.new.self in
    let m : VaultTold = record { held = w.numbers; halted = w.halted; started = w.started; depot = g.D.Depot.told w.depot; outputs = g.O.Outputs.told w.outputs } in
    let x = c.trim_half.new.self in
    let u : VaultTold = record { held = x.numbers; halted = x.halted; started = x.started; depot = g.D.Depot.told x.depot; outputs = g.O.Outputs.told x.outputs } in
    let stream : IsStream (plan_numbers c.args.plan.now) c.args.v = (c.requires.vertex, ap is_sink kind ∙ sym c.is_sink.ensures ∙ c.if-is_sink.false) in
    passes_half c.args.plan.now s m u c.args.v c.in-Err-trim_half.fault c.requires.sound stream c.in-Ok.ensures.half.1 c.in-Err-trim_half.ensures.half
