-- Nothing is held until the second keep.
use Rattle.std.proofs.Common.{◌≡◌, ℕ, ◌≤◌, IsSome, IsNone, ap, sym, subst, ◌∙◌, refl}
use Rattle.ss_outside.specs.Depot.{Contents, DepotTold, next_number, no_contents, record_at, with_frame, with_record}
use Rattle.ss_outside.specs.Depot.{without_frames_below}
use Rattle.ss_outside.specs.MemDepot.{contents_held, mem_depot_told}
use Rattle.tests_outside.proofs.Depots.{changed}
use Rattle.tests_outside.proofs.depot.a_listed_keep_fails.Goals as goal

pub keep-requires-clause-absent : goal.keep-requires-clause-absent
keep-requires-clause-absent g c =
    let none = ap (λ (t : DepotTold). t.contents) c.in_ok-fail.ensures.others.told ∙ c.new-depot.ensures.empty in
    subst (λ (h : Contents). IsNone (h.frames 3 7)) (sym none) refl

pub keep-requires-2-clause-absent : goal.keep-requires-2-clause-absent
keep-requires-2-clause-absent g c =
    let none = ap (λ (t : DepotTold). t.contents) c.in_ok-fail.ensures.others.told ∙ c.new-depot.ensures.empty in
    let still = (rw c.in_ok-failed.ensures at c.keep.ensures.adds).0.contents ∙ none in
    subst (λ (h : Contents). IsNone (h.frames 3 7)) (sym still) refl

pub load-requires-clause-held : goal.load-requires-clause-held
load-requires-clause-held g c =
    let none = ap (λ (t : DepotTold). t.contents) c.in_ok-fail.ensures.others.told ∙ c.new-depot.ensures.empty in
    let still = (rw c.in_ok-failed.ensures at c.keep.ensures.adds).0.contents ∙ none in
    let seven = changed (with_frame 3 7 _) (contents_held c.keep-2.new.self) (contents_held c.keep.new.self) no_contents
    c.in_ok-keep.ensures.adds.contents still in
    subst (λ (h : Contents). IsSome (h.frames 3 7)) (sym seven) refl
