-- Two records are held from the second append on.
use Rattle.std.proofs.Common.{◌≡◌, ℕ, ◌≤◌, IsSome, IsNone, ap, sym, subst, ◌∙◌, refl}
use Rattle.ss_outside.specs.Depot.{Contents, DepotTold, next_number, no_contents, record_at, with_frame, with_record}
use Rattle.ss_outside.specs.Depot.{without_frames_below}
use Rattle.ss_outside.specs.MemDepot.{contents_held, mem_depot_told}
use Rattle.tests_outside.proofs.Depots.{changed}
use Rattle.tests_outside.proofs.depot.a_damaged_fetch_is_short.Goals as goal

pub append-requires-clause-next : goal.append-requires-clause-next
append-requires-clause-next g c = sym (ap (λ (h : Contents). next_number h 3) c.new-depot.ensures.empty)

pub append-requires-2-clause-next : goal.append-requires-2-clause-next
append-requires-2-clause-next g c =
    let one = changed (with_record 3 _) (contents_held c.append.new.self) (contents_held c.new-depot.result) no_contents
    c.in_ok-append.ensures.appends.contents c.new-depot.ensures.empty in
    sym (ap (λ (h : Contents). next_number h 3) one)

pub fetch-requires-clause-held : goal.fetch-requires-clause-held
fetch-requires-clause-held g c =
    let one = changed (with_record 3 _) (contents_held c.append.new.self) (contents_held c.new-depot.result) no_contents
    c.in_ok-append.ensures.appends.contents c.new-depot.ensures.empty in
    let two = changed (with_record 3 _) (contents_held c.append-2.new.self) (contents_held c.append.new.self) _
    c.in_ok-append-2.ensures.appends.contents one in
    let listed = ap (λ (t : DepotTold). t.contents) c.in_ok-damage-2.ensures.others.told
    ∙ ap (λ (t : DepotTold). t.contents) c.in_ok-damage.ensures.others.told ∙ two in
    subst (λ (h : Contents). IsSome (record_at h 3 0)) (sym listed) refl

pub fetch-requires-2-clause-held : goal.fetch-requires-2-clause-held
fetch-requires-2-clause-held g c =
    let one = changed (with_record 3 _) (contents_held c.append.new.self) (contents_held c.new-depot.result) no_contents
    c.in_ok-append.ensures.appends.contents c.new-depot.ensures.empty in
    let two = changed (with_record 3 _) (contents_held c.append-2.new.self) (contents_held c.append.new.self) _
    c.in_ok-append-2.ensures.appends.contents one in
    let listed = ap (λ (t : DepotTold). t.contents) c.in_ok-damage-2.ensures.others.told
    ∙ ap (λ (t : DepotTold). t.contents) c.in_ok-damage.ensures.others.told ∙ two in
    let given = c.in_ok-fetch.ensures.fetches.1.contents ∙ listed in
    subst (λ (h : Contents). IsSome (record_at h 3 1)) (sym given) refl

pub fetch-requires-3-clause-held : goal.fetch-requires-3-clause-held
fetch-requires-3-clause-held g c =
    let one = changed (with_record 3 _) (contents_held c.append.new.self) (contents_held c.new-depot.result) no_contents
    c.in_ok-append.ensures.appends.contents c.new-depot.ensures.empty in
    let two = changed (with_record 3 _) (contents_held c.append-2.new.self) (contents_held c.append.new.self) _
    c.in_ok-append-2.ensures.appends.contents one in
    let listed = ap (λ (t : DepotTold). t.contents) c.in_ok-damage-2.ensures.others.told
    ∙ ap (λ (t : DepotTold). t.contents) c.in_ok-damage.ensures.others.told ∙ two in
    let given = c.in_ok-fetch.ensures.fetches.1.contents ∙ listed in
    let again = c.in_ok-fetch-2.ensures.fetches.1.contents ∙ given in
    subst (λ (h : Contents). IsSome (record_at h 3 0)) (sym again) refl
