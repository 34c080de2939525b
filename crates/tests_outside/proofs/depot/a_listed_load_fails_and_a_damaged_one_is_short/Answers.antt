-- One frame is held from the keep on.
use Rattle.std.proofs.Common.{◌≡◌, ℕ, ◌≤◌, IsSome, IsNone, ap, sym, subst, ◌∙◌, refl}
use Rattle.ss_outside.specs.Depot.{Contents, DepotTold, next_number, no_contents, record_at, with_frame, with_record}
use Rattle.ss_outside.specs.Depot.{without_frames_below}
use Rattle.ss_outside.specs.MemDepot.{contents_held, mem_depot_told}
use Rattle.tests_outside.proofs.Depots.{changed}
use Rattle.tests_outside.proofs.depot.a_listed_load_fails_and_a_damaged_one_is_short.Goals as goal

pub keep-requires-clause-absent : goal.keep-requires-clause-absent
keep-requires-clause-absent g c =
    subst (λ (h : Contents). IsNone (h.frames 3 7)) (sym c.new-depot.ensures.empty) refl

pub load-requires-clause-held : goal.load-requires-clause-held
load-requires-clause-held g c =
    let seven = changed (with_frame 3 7 _) (contents_held c.keep.new.self) (contents_held c.new-depot.result) no_contents
    c.in_ok-keep.ensures.adds.contents c.new-depot.ensures.empty in
    let listed = ap (λ (t : DepotTold). t.contents) c.in_ok-damage.ensures.others.told
    ∙ ap (λ (t : DepotTold). t.contents) c.in_ok-fail.ensures.others.told ∙ seven in
    subst (λ (h : Contents). IsSome (h.frames 3 7)) (sym listed) refl

pub load-requires-2-clause-held : goal.load-requires-2-clause-held
load-requires-2-clause-held g c =
    let seven = changed (with_frame 3 7 _) (contents_held c.keep.new.self) (contents_held c.new-depot.result) no_contents
    c.in_ok-keep.ensures.adds.contents c.new-depot.ensures.empty in
    let listed = ap (λ (t : DepotTold). t.contents) c.in_ok-damage.ensures.others.told
    ∙ ap (λ (t : DepotTold). t.contents) c.in_ok-fail.ensures.others.told ∙ seven in
    let unread = (rw c.in_ok-failed.ensures at c.load.ensures.loads).1.0.contents ∙ listed in
    subst (λ (h : Contents). IsSome (h.frames 3 7)) (sym unread) refl
