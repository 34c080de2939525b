use Rattle.std.proofs.Common.{◌≡◌, ◌∙◌, List, true, refl, sym, ap, subst, arith, length}
use Rattle.ss_frames.specs.Plans.{plan_numbers}
use Rattle.ss_state.specs.LowWater.{need}
use Rattle.ss_water.specs.Graph.{is_stream}
use Rattle.ss_water.specs.Needs.{IsNeed}
use Rattle.ss_water.specs.declared.node.Node.{Node}
use Rattle.ss_vault.specs.NumbersHeld.{CanRecover, stored_of}
use Rattle.ss_vault.specs.Steps.{with_journal}
use Rattle.ss_vault.specs.Told.{VaultTold, numbers_of}
use Rattle.ss_vault.proofs.Halves.{base_below, collected_half}
use Rattle.ss_vault.proofs.Needed.{can_recover, need_is, stream_node}
use Rattle.ss_vault.proofs.vault.Vault.collect_half.Goals as goal

pub need-base-requires-clause-count : goal.need-base-requires-clause-count
need-base-requires-clause-count g c =
    let graph : c.graph.result.now ≡ c.args.plan.now.job.graph = c.graph.ensures.graph ∙ ap (λ j. j.graph) c.job.ensures.job in
    let count = c.plan_facts.ensures.count in
    let rows = c.requires.sound.1.numbers.stands.rows in
    ap length graph ∙ sym count ∙ sym rows

pub need-base-requires-clause-recovered : goal.need-base-requires-clause-recovered
need-base-requires-clause-recovered g c =
    let v = c.args.self.now in
    let s : VaultTold = record { held = v.numbers; halted = v.halted; started = v.started; depot = g.D.Depot.told v.depot; outputs = g.O.Outputs.told v.outputs } in
    let graph : c.graph.result.now ≡ c.args.plan.now.job.graph = c.graph.ensures.graph ∙ ap (λ j. j.graph) c.job.ensures.job in
    let all = can_recover c.args.plan.now c.plan_facts.ensures c.snapshot_facts.ensures (with_journal s c.requires.sound.0) c.requires.sound.1 in
    subst (λ (nodes : List Node). CanRecover nodes s.held) (sym graph)
    (record { rise = all.rise; start = all.start })

pub need-base-requires-clause-stream : goal.need-base-requires-clause-stream
need-base-requires-clause-stream g c =
    let graph : c.graph.result.now ≡ c.args.plan.now.job.graph = c.graph.ensures.graph ∙ ap (λ j. j.graph) c.job.ensures.job in
    subst (λ (nodes : List Node). is_stream nodes c.args.v ≡ true) (sym graph) (stream_node c.args.plan.now c.plan_facts.ensures c.args.v c.requires.stream)

pub cut-requires-clause-forward : goal.cut-requires-clause-forward
cut-requires-clause-forward g c =
    let v = c.args.self.now in
    let s : VaultTold = record { held = v.numbers; halted = v.halted; started = v.started; depot = g.D.Depot.told v.depot; outputs = g.O.Outputs.told v.outputs } in
    let graph : c.graph.result.now ≡ c.args.plan.now.job.graph = c.graph.ensures.graph ∙ ap (λ j. j.graph) c.job.ensures.job in
    let base : c.need-base.result ≡ need (plan_numbers c.args.plan.now) (numbers_of s).ledger c.args.v =
    need_is c.collection_facts.ensures c.args.plan.now c.plan_facts.ensures c.snapshot_facts.ensures (with_journal s c.requires.sound.0) c.args.v c.need-base.result
    c.requires.sound.1 c.requires.stream (subst (λ (nodes : List Node). IsNeed nodes (stored_of s.held) c.args.v c.need-base.result) graph c.need-base.ensures) in
    let first = (c.requires.sound.1.records c.args.v).first in
    let below = base_below c.collection_facts.ensures c.args.plan.now c.plan_facts.ensures s c.args.v c.need-base.result c.requires.sound c.requires.stream base in
    omega (arith, first, below)

pub returns-in-Ok-clause-half : goal.returns-in-Ok-clause-half
returns-in-Ok-clause-half g c =
    let v = c.args.self.now in
    let s : VaultTold = record { held = v.numbers; halted = v.halted; started = v.started; depot = g.D.Depot.told v.depot; outputs = g.O.Outputs.told v.outputs } in
    let graph : c.graph.result.now ≡ c.args.plan.now.job.graph = c.graph.ensures.graph ∙ ap (λ j. j.graph) c.job.ensures.job in
    let base : c.need-base.result ≡ need (plan_numbers c.args.plan.now) (numbers_of s).ledger c.args.v =
    need_is c.collection_facts.ensures c.args.plan.now c.plan_facts.ensures c.snapshot_facts.ensures (with_journal s c.requires.sound.0) c.args.v c.need-base.result
    c.requires.sound.1 c.requires.stream (subst (λ (nodes : List Node). IsNeed nodes (stored_of s.held) c.args.v c.need-base.result) graph c.need-base.ensures) in
    let u : VaultTold = record s { held = c.collected.new.self; depot = g.D.Depot.told c.cut.new.self } in
    let below = base_below c.collection_facts.ensures c.args.plan.now c.plan_facts.ensures s c.args.v c.need-base.result c.requires.sound c.requires.stream base in (
      base,
      collected_half c.run_facts.ensures c.args.plan.now c.plan_facts.ensures s u c.args.v c.need-base.result c.requires.going c.requires.stream base below
          c.collected.ensures.ledger c.collected.ensures.besides c.collected.ensures.snaps c.in-Ok.ensures c.requires.going refl refl,
    )
