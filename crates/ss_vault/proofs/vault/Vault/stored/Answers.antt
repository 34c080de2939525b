use Rattle.std.proofs.Common.{Some, refl, ap, sym, ◌∙◌, arith, is_some}
use Rattle.ss_vault.specs.Told.{VaultTold}
use Rattle.ss_vault.proofs.Looking.{Rests, StoredAt, gave, gave_fault, stored_at}
use Rattle.ss_vault.proofs.vault.Vault.stored.Goals as goal

pub fetch_element-requires-clause-vertex : goal.fetch_element-requires-clause-vertex
fetch_element-requires-clause-vertex g c =
    let few = c.plan_facts.ensures.few in
    let within = c.requires.stream.0 in
    omega (arith, few, within)

pub fetch_element-requires-clause-held : goal.fetch_element-requires-clause-held
fetch_element-requires-clause-held g c =
    let v = c.args.self.now in
    let s : VaultTold = record { held = v.numbers; halted = v.halted; started = v.started; depot = g.D.Depot.told v.depot; outputs = g.O.Outputs.told v.outputs } in
    let at : StoredAt c.args.plan.now s c.args.v c.args.n = stored_at c.args.plan.now c.plan_facts.ensures s c.args.v c.args.n c.requires.sound c.requires.stream c.requires.base c.requires.dur in
    ap is_some at.at

pub returns-in-Ok-clause-sound : goal.returns-in-Ok-clause-sound
returns-in-Ok-clause-sound g c =
    let v = c.args.self.now in
    let s : VaultTold = record { held = v.numbers; halted = v.halted; started = v.started; depot = g.D.Depot.told v.depot; outputs = g.O.Outputs.told v.outputs } in
    let u : VaultTold = record s { depot = g.D.Depot.told c.fetch_element.new.depot } in
    let rests : Rests s u = record { numbers = refl; snaps = refl; ended = refl; started = refl; outputs = refl } in
    let at : StoredAt c.args.plan.now s c.args.v c.args.n = stored_at c.args.plan.now c.plan_facts.ensures s c.args.v c.args.n c.requires.sound c.requires.stream c.requires.base c.requires.dur in
    (gave c.args.plan.now s u c.args.v c.args.n at.x c.in-Ok.x c.requires.sound c.requires.going rests c.requires.going (c.in-Ok.ensures.gives at.x at.has at.at)).1

pub returns-in-Ok-clause-answer : goal.returns-in-Ok-clause-answer
returns-in-Ok-clause-answer g c =
    let v = c.args.self.now in
    let s : VaultTold = record { held = v.numbers; halted = v.halted; started = v.started; depot = g.D.Depot.told v.depot; outputs = g.O.Outputs.told v.outputs } in
    let u : VaultTold = record s { depot = g.D.Depot.told c.fetch_element.new.depot } in
    let rests : Rests s u = record { numbers = refl; snaps = refl; ended = refl; started = refl; outputs = refl } in
    let at : StoredAt c.args.plan.now s c.args.v c.args.n = stored_at c.args.plan.now c.plan_facts.ensures s c.args.v c.args.n c.requires.sound c.requires.stream c.requires.base c.requires.dur in
    let all = gave c.args.plan.now s u c.args.v c.args.n at.x c.in-Ok.x c.requires.sound c.requires.going rests c.requires.going (c.in-Ok.ensures.gives at.x at.has at.at) in
    (at.is_item ∙ ap (λ x. Some x) (sym all.0), all.2)

pub returns-in-Err-clause-sound : goal.returns-in-Err-clause-sound
returns-in-Err-clause-sound g c =
    let v = c.args.self.now in
    let s : VaultTold = record { held = v.numbers; halted = v.halted; started = v.started; depot = g.D.Depot.told v.depot; outputs = g.O.Outputs.told v.outputs } in
    let u : VaultTold = record s { halted = c.halts-self.result; depot = g.D.Depot.told c.fetch_element.new.depot } in
    let rests : Rests s u = record { numbers = refl; snaps = refl; ended = refl; started = refl; outputs = refl } in
    let at : StoredAt c.args.plan.now s c.args.v c.args.n = stored_at c.args.plan.now c.plan_facts.ensures s c.args.v c.args.n c.requires.sound c.requires.stream c.requires.base c.requires.dur in
    (gave_fault c.args.plan.now s u c.args.v c.args.n at.x c.in-Err.fault c.requires.sound c.requires.going rests c.halts-self.ensures (c.in-Err.ensures.gives at.x at.has at.at)).0

pub returns-in-Err-clause-answer : goal.returns-in-Err-clause-answer
returns-in-Err-clause-answer g c =
    let v = c.args.self.now in
    let s : VaultTold = record { held = v.numbers; halted = v.halted; started = v.started; depot = g.D.Depot.told v.depot; outputs = g.O.Outputs.told v.outputs } in
    let u : VaultTold = record s { halted = c.halts-self.result; depot = g.D.Depot.told c.fetch_element.new.depot } in
    let rests : Rests s u = record { numbers = refl; snaps = refl; ended = refl; started = refl; outputs = refl } in
    let at : StoredAt c.args.plan.now s c.args.v c.args.n = stored_at c.args.plan.now c.plan_facts.ensures s c.args.v c.args.n c.requires.sound c.requires.stream c.requires.base c.requires.dur in
    let all = gave_fault c.args.plan.now s u c.args.v c.args.n at.x c.in-Err.fault c.requires.sound c.requires.going rests c.halts-self.ensures (c.in-Err.ensures.gives at.x at.has at.at) in
    (all.1, all.2)
