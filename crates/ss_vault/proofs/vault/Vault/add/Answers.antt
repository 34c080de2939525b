use Rattle.std.proofs.Common.{◌≡◌, ◌∙◌, ◌<◌, ◌^◌, Option, Some, refl, ap, sym, subst, arith, length}
use Rattle.ss_codec.specs.Frame.{IsFrame, frame_bytes}
use Rattle.ss_codec.specs.declared.frame.Frame.{Frame}
use Rattle.ss_frames.specs.Frames.{frame_of}
use Rattle.ss_frames.specs.Plans.{plan_numbers}
use Rattle.ss_outside.specs.Depot.{Leaves, with_frame}
use Rattle.ss_state.specs.Journal.{enter}
use Rattle.ss_state.specs.Numbers.{IsOperator}
use Rattle.ss_state.specs.declared.entry.Entry.TheVariants as entry
use Rattle.ss_water.specs.declared.snap_row.SnapRow.{SnapRow}
use Rattle.ss_vault.specs.Counts.{NoneFell}
use Rattle.ss_vault.specs.Sound.{IsCounted, snap_of}
use Rattle.ss_vault.specs.Told.{VaultTold, counts_of, numbers_of}
use Rattle.ss_vault.specs.declared.fault.VaultFault.{VaultFault}
use Rattle.ss_vault.proofs.Changes.{kept_enters}
use Rattle.ss_vault.proofs.Kept.{kept_sound}
use Rattle.ss_vault.proofs.Looking.{Rests, none_fell, only_where, store_fault}
use Rattle.ss_vault.proofs.Moved.{counted_going}
use Rattle.ss_vault.proofs.vault.Vault.add.Goals as goal

pub keep_frame-requires-clause-vertex : goal.keep_frame-requires-clause-vertex
keep_frame-requires-clause-vertex g c =
    let snap_is : c.args.f.now ≡ frame_of c.args.plan.now c.args.f.now.v c.args.f.now.n = c.requires.snapshot.frame in
    let operator : IsOperator (plan_numbers c.args.plan.now) c.args.f.now.v = c.snapshot_facts.ensures.operator c.args.f.now c.requires.snapshot in
    let accepted = c.snapshot_facts.ensures.accepted c.args.f.now c.requires.snapshot in
    let few = c.plan_facts.ensures.few in
    let within = operator.0 in
    omega (arith, few, within)

pub keep_frame-requires-clause-frame : goal.keep_frame-requires-clause-frame
keep_frame-requires-clause-frame g c =
    let snap_is : c.args.f.now ≡ frame_of c.args.plan.now c.args.f.now.v c.args.f.now.n = c.requires.snapshot.frame in
    let operator : IsOperator (plan_numbers c.args.plan.now) c.args.f.now.v = c.snapshot_facts.ensures.operator c.args.f.now c.requires.snapshot in
    let accepted = c.snapshot_facts.ensures.accepted c.args.f.now c.requires.snapshot in
    let coded = c.snapshot_facts.ensures.coded c.args.f.now.v c.args.f.now.n operator accepted in
    subst IsFrame (sym snap_is) coded.is_frame

pub keep_frame-requires-clause-few : goal.keep_frame-requires-clause-few
keep_frame-requires-clause-few g c =
    let snap_is : c.args.f.now ≡ frame_of c.args.plan.now c.args.f.now.v c.args.f.now.n = c.requires.snapshot.frame in
    let operator : IsOperator (plan_numbers c.args.plan.now) c.args.f.now.v = c.snapshot_facts.ensures.operator c.args.f.now c.requires.snapshot in
    let accepted = c.snapshot_facts.ensures.accepted c.args.f.now c.requires.snapshot in
    let coded = c.snapshot_facts.ensures.coded c.args.f.now.v c.args.f.now.n operator accepted in
    subst (λ (f : Frame). length (frame_bytes f) < 2 ^ 32) (sym snap_is) coded.few

pub returns-in-Ok-clause-sound : goal.returns-in-Ok-clause-sound
returns-in-Ok-clause-sound g c =
    let v = c.args.self.now in
    let s : VaultTold = record { held = v.numbers; halted = v.halted; started = v.started; depot = g.D.Depot.told v.depot; outputs = g.O.Outputs.told v.outputs } in
    let snap_is : c.args.f.now ≡ frame_of c.args.plan.now c.args.f.now.v c.args.f.now.n = c.requires.snapshot.frame in
    let operator : IsOperator (plan_numbers c.args.plan.now) c.args.f.now.v = c.snapshot_facts.ensures.operator c.args.f.now c.requires.snapshot in
    let accepted = c.snapshot_facts.ensures.accepted c.args.f.now c.requires.snapshot in
    let snap : SnapRow = record { n = c.args.f.now.n; out = c.args.f.now.out; pos = c.args.f.now.pos } in
    let u : VaultTold = record s { held = c.kept.new.self; depot = g.D.Depot.told c.keep_frame.new.depot } in
    let leaves : Leaves s.depot u.depot (with_frame c.args.f.now.v c.args.f.now.n (frame_bytes c.args.f.now) s.depot.contents) = c.in-Ok.ensures in
    let contents : u.depot.contents ≡ with_frame c.args.f.now.v c.args.f.now.n (frame_bytes (frame_of c.args.plan.now c.args.f.now.v c.args.f.now.n)) s.depot.contents =
    leaves.contents ∙ ap (λ (f : Frame). with_frame c.args.f.now.v c.args.f.now.n (frame_bytes f) s.depot.contents) snap_is in
    let fell : NoneFell (counts_of s) (counts_of u) = none_fell s u refl leaves.faults leaves.shorts in
    let numbers : numbers_of u ≡ enter (plan_numbers c.args.plan.now) (numbers_of s) (Some (entry.Kept c.args.f.now.v c.args.f.now.n)) =
    kept_enters (plan_numbers c.args.plan.now) (numbers_of s) (numbers_of u) c.args.f.now.v c.args.f.now.n c.kept.ensures.ledger c.kept.ensures.journal in
    kept_sound c.run_facts.ensures c.args.plan.now c.plan_facts.ensures c.snapshot_facts.ensures s u c.args.f.now.v c.args.f.now.n snap c.requires.sound
    c.requires.going operator accepted c.requires.snapshot.kept c.requires.due (ap snap_of snap_is) numbers c.kept.ensures.snaps c.kept.ensures.ended contents
    refl c.requires.going (subst (λ (h : Option VaultFault). IsCounted h s.started (counts_of u)) (sym c.requires.going)
    (counted_going s.halted s.started (counts_of s) (counts_of u) c.requires.sound.counted fell))

pub returns-in-Ok-clause-answer : goal.returns-in-Ok-clause-answer
returns-in-Ok-clause-answer g c =
    let v = c.args.self.now in
    let s : VaultTold = record { held = v.numbers; halted = v.halted; started = v.started; depot = g.D.Depot.told v.depot; outputs = g.O.Outputs.told v.outputs } in
    let snap_is : c.args.f.now ≡ frame_of c.args.plan.now c.args.f.now.v c.args.f.now.n = c.requires.snapshot.frame in
    let operator : IsOperator (plan_numbers c.args.plan.now) c.args.f.now.v = c.snapshot_facts.ensures.operator c.args.f.now c.requires.snapshot in
    let accepted = c.snapshot_facts.ensures.accepted c.args.f.now c.requires.snapshot in
    let snap : SnapRow = record { n = c.args.f.now.n; out = c.args.f.now.out; pos = c.args.f.now.pos } in
    let u : VaultTold = record s { held = c.kept.new.self; depot = g.D.Depot.told c.keep_frame.new.depot } in
    let leaves : Leaves s.depot u.depot (with_frame c.args.f.now.v c.args.f.now.n (frame_bytes c.args.f.now) s.depot.contents) = c.in-Ok.ensures in
    let contents : u.depot.contents ≡ with_frame c.args.f.now.v c.args.f.now.n (frame_bytes (frame_of c.args.plan.now c.args.f.now.v c.args.f.now.n)) s.depot.contents =
    leaves.contents ∙ ap (λ (f : Frame). with_frame c.args.f.now.v c.args.f.now.n (frame_bytes f) s.depot.contents) snap_is in
    let fell : NoneFell (counts_of s) (counts_of u) = none_fell s u refl leaves.faults leaves.shorts in
    let numbers : numbers_of u ≡ enter (plan_numbers c.args.plan.now) (numbers_of s) (Some (entry.Kept c.args.f.now.v c.args.f.now.n)) =
    kept_enters (plan_numbers c.args.plan.now) (numbers_of s) (numbers_of u) c.args.f.now.v c.args.f.now.n c.kept.ensures.ledger c.kept.ensures.journal in
    (sym c.requires.due, record { going = c.requires.going; numbers = numbers; halted = c.requires.going; started = refl; counts = fell })

pub returns-in-Err-clause-sound : goal.returns-in-Err-clause-sound
returns-in-Err-clause-sound g c =
    let v = c.args.self.now in
    let s : VaultTold = record { held = v.numbers; halted = v.halted; started = v.started; depot = g.D.Depot.told v.depot; outputs = g.O.Outputs.told v.outputs } in
    let snap_is : c.args.f.now ≡ frame_of c.args.plan.now c.args.f.now.v c.args.f.now.n = c.requires.snapshot.frame in
    let operator : IsOperator (plan_numbers c.args.plan.now) c.args.f.now.v = c.snapshot_facts.ensures.operator c.args.f.now c.requires.snapshot in
    let accepted = c.snapshot_facts.ensures.accepted c.args.f.now c.requires.snapshot in
    let u : VaultTold = record s { halted = c.halts-self.result; depot = g.D.Depot.told c.keep_frame.new.depot } in
    let rests : Rests s u = record { numbers = refl; snaps = refl; ended = refl; started = refl; outputs = refl } in
    let all = store_fault c.args.plan.now s u (with_frame c.args.f.now.v c.args.f.now.n (frame_bytes c.args.f.now) s.depot.contents) c.in-Err.fault
    c.requires.sound c.requires.going rests c.halts-self.ensures c.in-Err.ensures in
    all.0

pub returns-in-Err-clause-answer : goal.returns-in-Err-clause-answer
returns-in-Err-clause-answer g c =
    let v = c.args.self.now in
    let s : VaultTold = record { held = v.numbers; halted = v.halted; started = v.started; depot = g.D.Depot.told v.depot; outputs = g.O.Outputs.told v.outputs } in
    let snap_is : c.args.f.now ≡ frame_of c.args.plan.now c.args.f.now.v c.args.f.now.n = c.requires.snapshot.frame in
    let operator : IsOperator (plan_numbers c.args.plan.now) c.args.f.now.v = c.snapshot_facts.ensures.operator c.args.f.now c.requires.snapshot in
    let accepted = c.snapshot_facts.ensures.accepted c.args.f.now c.requires.snapshot in
    let u : VaultTold = record s { halted = c.halts-self.result; depot = g.D.Depot.told c.keep_frame.new.depot } in
    let rests : Rests s u = record { numbers = refl; snaps = refl; ended = refl; started = refl; outputs = refl } in
    let all = store_fault c.args.plan.now s u (with_frame c.args.f.now.v c.args.f.now.n (frame_bytes c.args.f.now) s.depot.contents) c.in-Err.fault
    c.requires.sound c.requires.going rests c.halts-self.ensures c.in-Err.ensures in
    (all.1, only_where _ c.in-Err.fault c.requires.due, all.2)
