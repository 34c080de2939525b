use Rattle.std.proofs.Common.{◌≡◌, ◌∙◌, None, List, refl, ap, subst}
use Rattle.ss_job.specs.JobText.{JobText}
use Rattle.ss_state.specs.State.{VaultNumbers}
use Rattle.ss_water.specs.declared.node.Node.{Node}
use Rattle.ss_vault.specs.NumbersHeld.{AreFirst}
use Rattle.ss_vault.specs.Told.{VaultTold}
use Rattle.ss_vault.proofs.Started.{first_numbers, started_counted, started_sound}
use Rattle.ss_vault.proofs.vault.Vault.start.Goals as goal

pub returns-in-Ok-keep_first_frames-clause-sound : goal.returns-in-Ok-keep_first_frames-clause-sound
returns-in-Ok-keep_first_frames-clause-sound g c =
    let plan = c.args.plan.now in
    let u : VaultTold = record { held = c.in-Ok.numbers; halted = None; started = c.counts_of-started.result; depot = g.D.Depot.told c.keep_first_frames.new.depot; outputs = g.O.Outputs.told c.args.outputs } in
    let graph : c.graph.result.now ≡ plan.job.graph = c.graph.ensures.graph ∙ ap (λ (j : JobText). j.graph) c.job.ensures.job in
    let first : AreFirst plan.job.graph u.held = subst (λ (nodes : List Node). AreFirst nodes u.held) graph c.in-Ok.ensures in
    let fewer = c.in-Ok-keep_first_frames.ensures.1 in
    started_sound c.run_facts.ensures plan c.plan_facts.ensures c.snapshot_facts.ensures u first c.in-Ok-keep_first_frames.ensures.0 c.requires.outputs refl
    (started_counted u.started (g.O.Outputs.told c.args.outputs) (g.D.Depot.told c.args.depot) u.depot c.counts_of-started.ensures fewer)

pub returns-in-Ok-keep_first_frames-clause-begins : goal.returns-in-Ok-keep_first_frames-clause-begins
returns-in-Ok-keep_first_frames-clause-begins g c =
    let plan = c.args.plan.now in
    let u : VaultTold = record { held = c.in-Ok.numbers; halted = None; started = c.counts_of-started.result; depot = g.D.Depot.told c.keep_first_frames.new.depot; outputs = g.O.Outputs.told c.args.outputs } in
    let graph : c.graph.result.now ≡ plan.job.graph = c.graph.ensures.graph ∙ ap (λ (j : JobText). j.graph) c.job.ensures.job in
    let first : AreFirst plan.job.graph u.held = subst (λ (nodes : List Node). AreFirst nodes u.held) graph c.in-Ok.ensures in
    let numbers = first_numbers plan c.plan_facts.ensures u.held first in
    record {
      ledger = ap (λ (n : VaultNumbers). n.ledger) numbers;
      journal = ap (λ (n : VaultNumbers). n.journal) numbers;
      halted = refl;
      started = c.counts_of-started.ensures;
      outputs = refl;
    }
