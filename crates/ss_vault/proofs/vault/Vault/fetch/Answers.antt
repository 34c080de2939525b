use Rattle.std.proofs.Common.{◌≡◌, ◌∙◌, ℕ, None, refl, ap, sym, subst, arith, is_some, rules}
use Rattle.ss_codec.specs.declared.frame.Frame.{Frame}
use Rattle.ss_frames.specs.Frames.{frame_of}
use Rattle.ss_frames.specs.Snapshot.{IsSnapshot}
use Rattle.ss_vault.specs.Calls.{IsOfLook}
use Rattle.ss_vault.specs.Told.{VaultTold}
use Rattle.ss_vault.proofs.Fetched.{FetchedAt, fetched_at}
use Rattle.ss_vault.proofs.Looking.{Rests, gave, gave_fault}
use Rattle.ss_vault.proofs.Starts.{sound_rise, sound_start}
use Rattle.ss_vault.proofs.vault.Vault.fetch.Goals as goal

pub within-n-requires-clause-rise : goal.within-n-requires-clause-rise
within-n-requires-clause-rise g c =
    let v = c.args.self.now in
    let s : VaultTold = record { held = v.numbers; halted = v.halted; started = v.started; depot = g.D.Depot.told v.depot; outputs = g.O.Outputs.told v.outputs } in
    sound_rise c.args.plan.now c.snapshot_facts.ensures s c.args.v c.requires.sound c.requires.operator

pub within-n-requires-clause-start : goal.within-n-requires-clause-start
within-n-requires-clause-start g c =
    let v = c.args.self.now in
    let s : VaultTold = record { held = v.numbers; halted = v.halted; started = v.started; depot = g.D.Depot.told v.depot; outputs = g.O.Outputs.told v.outputs } in
    sound_start c.args.plan.now c.snapshot_facts.ensures s c.args.v c.args.limit c.requires.sound c.requires.operator c.requires.limit

pub load_frame-requires-clause-vertex : goal.load_frame-requires-clause-vertex
load_frame-requires-clause-vertex g c =
    let few = c.plan_facts.ensures.few in
    let within = c.requires.operator.0 in
    omega (arith, few, within)

pub load_frame-requires-clause-held : goal.load_frame-requires-clause-held
load_frame-requires-clause-held g c =
    let v = c.args.self.now in
    let s : VaultTold = record { held = v.numbers; halted = v.halted; started = v.started; depot = g.D.Depot.told v.depot; outputs = g.O.Outputs.told v.outputs } in
    let at : FetchedAt c.args.plan.now s c.args.v c.args.limit c.within-n.result = fetched_at c.args.plan.now c.snapshot_facts.ensures s c.args.v c.args.limit c.within-n.result c.requires.sound c.requires.operator c.requires.limit c.within-n.ensures in
    let f : Frame = frame_of c.args.plan.now c.args.v c.within-n.result in
    ap is_some at.held

pub returns-in-Ok-clause-sound : goal.returns-in-Ok-clause-sound
returns-in-Ok-clause-sound g c =
    let v = c.args.self.now in
    let s : VaultTold = record { held = v.numbers; halted = v.halted; started = v.started; depot = g.D.Depot.told v.depot; outputs = g.O.Outputs.told v.outputs } in
    let going : s.halted ≡ None = search rules in
    let u : VaultTold = record s { depot = g.D.Depot.told c.load_frame.new.depot } in
    let rests : Rests s u = record { numbers = refl; snaps = refl; ended = refl; started = refl; outputs = refl } in
    let at : FetchedAt c.args.plan.now s c.args.v c.args.limit c.within-n.result = fetched_at c.args.plan.now c.snapshot_facts.ensures s c.args.v c.args.limit c.within-n.result c.requires.sound c.requires.operator c.requires.limit c.within-n.ensures in
    let f : Frame = frame_of c.args.plan.now c.args.v c.within-n.result in
    (gave c.args.plan.now s u c.args.v c.within-n.result f c.in-Ok.f c.requires.sound going rests going (c.in-Ok.ensures f at.coded.is_frame at.coded.of_vertex at.coded.number at.held)).1

pub returns-in-Ok-clause-answer : goal.returns-in-Ok-clause-answer
returns-in-Ok-clause-answer g c =
    let v = c.args.self.now in
    let s : VaultTold = record { held = v.numbers; halted = v.halted; started = v.started; depot = g.D.Depot.told v.depot; outputs = g.O.Outputs.told v.outputs } in
    let going : s.halted ≡ None = search rules in
    let u : VaultTold = record s { depot = g.D.Depot.told c.load_frame.new.depot } in
    let rests : Rests s u = record { numbers = refl; snaps = refl; ended = refl; started = refl; outputs = refl } in
    let at : FetchedAt c.args.plan.now s c.args.v c.args.limit c.within-n.result = fetched_at c.args.plan.now c.snapshot_facts.ensures s c.args.v c.args.limit c.within-n.result c.requires.sound c.requires.operator c.requires.limit c.within-n.ensures in
    let f : Frame = frame_of c.args.plan.now c.args.v c.within-n.result in
    let all = gave c.args.plan.now s u c.args.v c.within-n.result f c.in-Ok.f c.requires.sound going rests going (c.in-Ok.ensures f at.coded.is_frame at.coded.of_vertex at.coded.number at.held) in
    (all.0 ∙ ap (frame_of c.args.plan.now c.args.v) at.is, all.2)

pub returns-in-Ok-clause-snapshot : goal.returns-in-Ok-clause-snapshot
returns-in-Ok-clause-snapshot g c =
    let v = c.args.self.now in
    let s : VaultTold = record { held = v.numbers; halted = v.halted; started = v.started; depot = g.D.Depot.told v.depot; outputs = g.O.Outputs.told v.outputs } in
    let going : s.halted ≡ None = search rules in
    let u : VaultTold = record s { depot = g.D.Depot.told c.load_frame.new.depot } in
    let rests : Rests s u = record { numbers = refl; snaps = refl; ended = refl; started = refl; outputs = refl } in
    let at : FetchedAt c.args.plan.now s c.args.v c.args.limit c.within-n.result = fetched_at c.args.plan.now c.snapshot_facts.ensures s c.args.v c.args.limit c.within-n.result c.requires.sound c.requires.operator c.requires.limit c.within-n.ensures in
    let f : Frame = frame_of c.args.plan.now c.args.v c.within-n.result in
    let all = gave c.args.plan.now s u c.args.v c.within-n.result f c.in-Ok.f c.requires.sound going rests going (c.in-Ok.ensures f at.coded.is_frame at.coded.of_vertex at.coded.number at.held) in
    subst (IsSnapshot c.args.plan.now) (sym all.0) at.snapshot

pub returns-in-Err-clause-sound : goal.returns-in-Err-clause-sound
returns-in-Err-clause-sound g c =
    let v = c.args.self.now in
    let s : VaultTold = record { held = v.numbers; halted = v.halted; started = v.started; depot = g.D.Depot.told v.depot; outputs = g.O.Outputs.told v.outputs } in
    let going : s.halted ≡ None = search rules in
    let u : VaultTold = record s { halted = c.halts-self.result; depot = g.D.Depot.told c.load_frame.new.depot } in
    let rests : Rests s u = record { numbers = refl; snaps = refl; ended = refl; started = refl; outputs = refl } in
    let at : FetchedAt c.args.plan.now s c.args.v c.args.limit c.within-n.result = fetched_at c.args.plan.now c.snapshot_facts.ensures s c.args.v c.args.limit c.within-n.result c.requires.sound c.requires.operator c.requires.limit c.within-n.ensures in
    let f : Frame = frame_of c.args.plan.now c.args.v c.within-n.result in
    (gave_fault c.args.plan.now s u c.args.v c.within-n.result f c.in-Err.fault c.requires.sound going rests c.halts-self.ensures (c.in-Err.ensures f at.coded.is_frame at.coded.of_vertex at.coded.number at.held)).0

pub returns-in-Err-clause-answer : goal.returns-in-Err-clause-answer
returns-in-Err-clause-answer g c =
    let v = c.args.self.now in
    let s : VaultTold = record { held = v.numbers; halted = v.halted; started = v.started; depot = g.D.Depot.told v.depot; outputs = g.O.Outputs.told v.outputs } in
    let going : s.halted ≡ None = search rules in
    let u : VaultTold = record s { halted = c.halts-self.result; depot = g.D.Depot.told c.load_frame.new.depot } in
    let rests : Rests s u = record { numbers = refl; snaps = refl; ended = refl; started = refl; outputs = refl } in
    let at : FetchedAt c.args.plan.now s c.args.v c.args.limit c.within-n.result = fetched_at c.args.plan.now c.snapshot_facts.ensures s c.args.v c.args.limit c.within-n.result c.requires.sound c.requires.operator c.requires.limit c.within-n.ensures in
    let f : Frame = frame_of c.args.plan.now c.args.v c.within-n.result in
    let all = gave_fault c.args.plan.now s u c.args.v c.within-n.result f c.in-Err.fault c.requires.sound going rests c.halts-self.ensures (c.in-Err.ensures f at.coded.is_frame at.coded.of_vertex at.coded.number at.held) in
    (subst (λ (n : ℕ). IsOfLook c.args.v n c.in-Err.fault) at.is all.1, all.2)
