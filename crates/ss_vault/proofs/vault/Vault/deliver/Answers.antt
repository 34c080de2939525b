use Rattle.std.proofs.Common.{◌≡◌, ◌∙◌, ◌==◌, ℕ, Bool, Some, Ok, refl, ap, sym, subst, arith, if◌then◌else◌}
use Rattle.std.specs.Prelude.{IsSome}
use Rattle.ss_frames.specs.Plans.{plan_numbers}
use Rattle.ss_job.specs.JobText.{JobText, file_of}
use Rattle.ss_vault.specs.Calls.{Delivers, Takes}
use Rattle.ss_vault.specs.NumbersHeld.{ended_held}
use Rattle.ss_vault.specs.Sound.{sink_file}
use Rattle.ss_vault.specs.Told.{VaultTold}
use Rattle.ss_vault.specs.declared.answers.Take.TheVariants as take_variant
use Rattle.ss_vault.proofs.Changes.{took_enters}
use Rattle.ss_vault.proofs.Delivered.{Puttings, has_file, is_file, put_done, put_failed, taken_few}
use Rattle.ss_vault.proofs.vault.Vault.deliver.Goals as goal

pub file-file-requires : goal.file-file-requires
file-file-requires g c =
    subst (λ (j : JobText). IsSome (file_of j c.args.k)) (sym c.job.ensures.job)
    (has_file c.args.plan.now c.args.k (c.plan_facts.ensures.file c.args.k c.requires.sink))

pub took-requires-clause-few : goal.took-requires-clause-few
took-requires-clause-few g c =
    let v = c.args.self.now in
    let s : VaultTold = record { held = v.numbers; halted = v.halted; started = v.started; depot = g.D.Depot.told v.depot; outputs = g.O.Outputs.told v.outputs } in
    let few = taken_few c.args.plan.now c.plan_facts.ensures s c.args.k c.args.x.now c.requires.sound c.requires.next in
    omega (arith, few)

pub returns-in-Ok-clause-sound : goal.returns-in-Ok-clause-sound
returns-in-Ok-clause-sound g c =
    let v = c.args.self.now in
    let s : VaultTold = record { held = v.numbers; halted = v.halted; started = v.started; depot = g.D.Depot.told v.depot; outputs = g.O.Outputs.told v.outputs } in
    let facts = c.plan_facts.ensures in
    let is_job : c.args.plan.now.job ≡ c.job.result.now = sym c.job.ensures.job in
    let named : sink_file c.args.plan.now c.args.k ≡ Some c.file-file.result.now =
    is_file c.args.plan.now c.args.k c.file-file.result.now (facts.file c.args.k c.requires.sink)
    (ap (λ (j : JobText). file_of j c.args.k) is_job ∙ c.file-file.ensures) in
    let u : VaultTold = record s { held = c.took.new.self; outputs = g.O.Outputs.told c.put_line.new.outputs } in
    let all = put_done c.run_facts.ensures c.args.plan.now facts s u c.args.k c.file-file.result.now c.args.x.now c.requires.sound c.requires.going
    c.requires.sink c.requires.next named c.in-Ok.ensures
    (took_enters (plan_numbers c.args.plan.now) s.held.numbers c.took.new.self.numbers c.args.k c.took.ensures.ledger c.took.ensures.journal)
    c.took.ensures.snaps
    (λ w. c.took.ensures.ended w ∙ ap (λ (b : Bool). if w == c.args.k then b else ended_held s.held w) c.is_end.ensures)
    refl refl c.requires.going in
    all.0

pub returns-in-Ok-clause-answer : goal.returns-in-Ok-clause-answer
returns-in-Ok-clause-answer g c =
    let v = c.args.self.now in
    let s : VaultTold = record { held = v.numbers; halted = v.halted; started = v.started; depot = g.D.Depot.told v.depot; outputs = g.O.Outputs.told v.outputs } in
    let facts = c.plan_facts.ensures in
    let is_job : c.args.plan.now.job ≡ c.job.result.now = sym c.job.ensures.job in
    let named : sink_file c.args.plan.now c.args.k ≡ Some c.file-file.result.now =
    is_file c.args.plan.now c.args.k c.file-file.result.now (facts.file c.args.k c.requires.sink)
    (ap (λ (j : JobText). file_of j c.args.k) is_job ∙ c.file-file.ensures) in
    let u : VaultTold = record s { held = c.took.new.self; outputs = g.O.Outputs.told c.put_line.new.outputs } in
    let all = put_done c.run_facts.ensures c.args.plan.now facts s u c.args.k c.file-file.result.now c.args.x.now c.requires.sound c.requires.going
    c.requires.sink c.requires.next named c.in-Ok.ensures
    (took_enters (plan_numbers c.args.plan.now) s.held.numbers c.took.new.self.numbers c.args.k c.took.ensures.ledger c.took.ensures.journal)
    c.took.ensures.snaps
    (λ w. c.took.ensures.ended w ∙ ap (λ (b : Bool). if w == c.args.k then b else ended_held s.held w) c.is_end.ensures)
    refl refl c.requires.going in
    subst (λ (n : ℕ). Takes c.args.plan.now c.args.k s (Ok (take_variant.Took n)) u) (sym c.taken-n.ensures) all.1

pub returns-in-Ok-clause-outputs : goal.returns-in-Ok-clause-outputs
returns-in-Ok-clause-outputs g c =
    let v = c.args.self.now in
    let s : VaultTold = record { held = v.numbers; halted = v.halted; started = v.started; depot = g.D.Depot.told v.depot; outputs = g.O.Outputs.told v.outputs } in
    let facts = c.plan_facts.ensures in
    let is_job : c.args.plan.now.job ≡ c.job.result.now = sym c.job.ensures.job in
    let named : sink_file c.args.plan.now c.args.k ≡ Some c.file-file.result.now =
    is_file c.args.plan.now c.args.k c.file-file.result.now (facts.file c.args.k c.requires.sink)
    (ap (λ (j : JobText). file_of j c.args.k) is_job ∙ c.file-file.ensures) in
    let u : VaultTold = record s { held = c.took.new.self; outputs = g.O.Outputs.told c.put_line.new.outputs } in
    let all = put_done c.run_facts.ensures c.args.plan.now facts s u c.args.k c.file-file.result.now c.args.x.now c.requires.sound c.requires.going
    c.requires.sink c.requires.next named c.in-Ok.ensures
    (took_enters (plan_numbers c.args.plan.now) s.held.numbers c.took.new.self.numbers c.args.k c.took.ensures.ledger c.took.ensures.journal)
    c.took.ensures.snaps
    (λ w. c.took.ensures.ended w ∙ ap (λ (b : Bool). if w == c.args.k then b else ended_held s.held w) c.is_end.ensures)
    refl refl c.requires.going in
    subst (λ (n : ℕ). Delivers c.args.plan.now c.args.k s (Ok (take_variant.Took n)) u) (sym c.taken-n.ensures) all.2

pub returns-in-Err-clause-sound : goal.returns-in-Err-clause-sound
returns-in-Err-clause-sound g c =
    let v = c.args.self.now in
    let s : VaultTold = record { held = v.numbers; halted = v.halted; started = v.started; depot = g.D.Depot.told v.depot; outputs = g.O.Outputs.told v.outputs } in
    let facts = c.plan_facts.ensures in
    let is_job : c.args.plan.now.job ≡ c.job.result.now = sym c.job.ensures.job in
    let named : sink_file c.args.plan.now c.args.k ≡ Some c.file-file.result.now =
    is_file c.args.plan.now c.args.k c.file-file.result.now (facts.file c.args.k c.requires.sink)
    (ap (λ (j : JobText). file_of j c.args.k) is_job ∙ c.file-file.ensures) in
    let u : VaultTold = record s { halted = c.halts-self.result; outputs = g.O.Outputs.told c.put_line.new.outputs } in
    let same : Puttings s u = record { numbers = refl; snaps = refl; ended = refl; started = refl; depot = refl } in
    let all = put_failed c.args.plan.now facts s u c.args.k c.file-file.result.now c.args.x.now c.in-Err.fault c.output_fault-fault.result c.requires.sound
    c.requires.going c.requires.sink c.requires.next named same c.halts-self.ensures c.output_fault-fault.ensures c.in-Err.ensures in
    all.0

pub returns-in-Err-clause-answer : goal.returns-in-Err-clause-answer
returns-in-Err-clause-answer g c =
    let v = c.args.self.now in
    let s : VaultTold = record { held = v.numbers; halted = v.halted; started = v.started; depot = g.D.Depot.told v.depot; outputs = g.O.Outputs.told v.outputs } in
    let facts = c.plan_facts.ensures in
    let is_job : c.args.plan.now.job ≡ c.job.result.now = sym c.job.ensures.job in
    let named : sink_file c.args.plan.now c.args.k ≡ Some c.file-file.result.now =
    is_file c.args.plan.now c.args.k c.file-file.result.now (facts.file c.args.k c.requires.sink)
    (ap (λ (j : JobText). file_of j c.args.k) is_job ∙ c.file-file.ensures) in
    let u : VaultTold = record s { halted = c.halts-self.result; outputs = g.O.Outputs.told c.put_line.new.outputs } in
    let same : Puttings s u = record { numbers = refl; snaps = refl; ended = refl; started = refl; depot = refl } in
    let all = put_failed c.args.plan.now facts s u c.args.k c.file-file.result.now c.args.x.now c.in-Err.fault c.output_fault-fault.result c.requires.sound
    c.requires.going c.requires.sink c.requires.next named same c.halts-self.ensures c.output_fault-fault.ensures c.in-Err.ensures in
    all.1

pub returns-in-Err-clause-outputs : goal.returns-in-Err-clause-outputs
returns-in-Err-clause-outputs g c =
    let v = c.args.self.now in
    let s : VaultTold = record { held = v.numbers; halted = v.halted; started = v.started; depot = g.D.Depot.told v.depot; outputs = g.O.Outputs.told v.outputs } in
    let facts = c.plan_facts.ensures in
    let is_job : c.args.plan.now.job ≡ c.job.result.now = sym c.job.ensures.job in
    let named : sink_file c.args.plan.now c.args.k ≡ Some c.file-file.result.now =
    is_file c.args.plan.now c.args.k c.file-file.result.now (facts.file c.args.k c.requires.sink)
    (ap (λ (j : JobText). file_of j c.args.k) is_job ∙ c.file-file.ensures) in
    let u : VaultTold = record s { halted = c.halts-self.result; outputs = g.O.Outputs.told c.put_line.new.outputs } in
    let same : Puttings s u = record { numbers = refl; snaps = refl; ended = refl; started = refl; depot = refl } in
    let all = put_failed c.args.plan.now facts s u c.args.k c.file-file.result.now c.args.x.now c.in-Err.fault c.output_fault-fault.result c.requires.sound
    c.requires.going c.requires.sink c.requires.next named same c.halts-self.ensures c.output_fault-fault.ensures c.in-Err.ensures in
    all.2
