-- Two frames are held until the drop below the second.
use Rattle.std.proofs.Common.{◌≡◌, ℕ, ◌≤◌, IsSome, IsNone, ap, sym, subst, ◌∙◌, refl}
use Rattle.ss_outside.specs.Depot.{Contents, DepotTold, next_number, no_contents, record_at, with_frame, with_record}
use Rattle.ss_outside.specs.Depot.{without_frames_below}
use Rattle.ss_outside.specs.MemDepot.{contents_held, mem_depot_told}
use Rattle.tests_outside.proofs.Depots.{changed, discards-refused}
use Rattle.tests_outside.proofs.depot.a_listed_drop_fails.Goals as goal

pub keep-requires-clause-absent : goal.keep-requires-clause-absent
keep-requires-clause-absent g c =
    subst (λ (h : Contents). IsNone (h.frames 3 7)) (sym c.new-depot.ensures.empty) refl

pub keep-requires-2-clause-absent : goal.keep-requires-2-clause-absent
keep-requires-2-clause-absent g c =
    let seven = changed (with_frame 3 7 _) (contents_held c.keep.new.self) (contents_held c.new-depot.result) no_contents
    c.in_ok-keep.ensures.adds.contents c.new-depot.ensures.empty in
    subst (λ (h : Contents). IsNone (h.frames 3 8)) (sym seven) refl

pub load-requires-clause-held : goal.load-requires-clause-held
load-requires-clause-held g c =
    let seven = changed (with_frame 3 7 _) (contents_held c.keep.new.self) (contents_held c.new-depot.result) no_contents
    c.in_ok-keep.ensures.adds.contents c.new-depot.ensures.empty in
    let both = changed (with_frame 3 8 _) (contents_held c.keep-2.new.self) (contents_held c.keep.new.self) _
    c.in_ok-keep-2.ensures.adds.contents seven in
    let listed = ap (λ (t : DepotTold). t.contents) c.in_ok-fail.ensures.others.told ∙ both in
    let undropped = discards-refused (mem_depot_told c.fail.new.self) (mem_depot_told c.drop_below.new.self)
    (without_frames_below 3 8 (contents_held c.fail.new.self)) c.drop_below.result c.in_ok-refused.ensures
    c.drop_below.ensures.drops ∙ listed in
    subst (λ (h : Contents). IsSome (h.frames 3 7)) (sym undropped) refl

pub load-requires-2-clause-held : goal.load-requires-2-clause-held
load-requires-2-clause-held g c =
    let seven = changed (with_frame 3 7 _) (contents_held c.keep.new.self) (contents_held c.new-depot.result) no_contents
    c.in_ok-keep.ensures.adds.contents c.new-depot.ensures.empty in
    let both = changed (with_frame 3 8 _) (contents_held c.keep-2.new.self) (contents_held c.keep.new.self) _
    c.in_ok-keep-2.ensures.adds.contents seven in
    let listed = ap (λ (t : DepotTold). t.contents) c.in_ok-fail.ensures.others.told ∙ both in
    let undropped = discards-refused (mem_depot_told c.fail.new.self) (mem_depot_told c.drop_below.new.self)
    (without_frames_below 3 8 (contents_held c.fail.new.self)) c.drop_below.result c.in_ok-refused.ensures
    c.drop_below.ensures.drops ∙ listed in
    let given = c.in_ok-load.ensures.loads.1.contents ∙ undropped in
    let dropped = changed (without_frames_below 3 8) (contents_held c.drop_below-2.new.self) (contents_held c.load.new.self) _
    c.in_ok-drop_below.ensures.drops.contents given in
    subst (λ (h : Contents). IsSome (h.frames 3 8)) (sym dropped) refl
