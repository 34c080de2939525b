-- Nothing is held until the second append.
use Rattle.std.proofs.Common.{◌≡◌, ℕ, ◌≤◌, IsSome, IsNone, ap, sym, subst, ◌∙◌, refl, arith}
use Rattle.ss_outside.specs.Depot.{Contents, DepotTold, cut_to, next_number, no_contents, record_at, with_frame, with_record, without_frames_below}
use Rattle.ss_outside.specs.MemDepot.{contents_held, mem_depot_told}
use Rattle.tests_outside.proofs.Depots.{changed, discards-refused}
use Rattle.tests_outside.proofs.depot.a_listed_append_fails.Goals as goal

pub append-requires-clause-next : goal.append-requires-clause-next
append-requires-clause-next g c =
    let first : contents_held c.fail.new.self ≡ no_contents =
    ap (λ (t : DepotTold). t.contents) c.in_ok-fail.ensures.others.told ∙ c.new-depot.ensures.empty in
    sym (ap (λ (h : Contents). next_number h 3) first)

pub append-requires-2-clause-next : goal.append-requires-2-clause-next
append-requires-2-clause-next g c =
    let first : contents_held c.fail.new.self ≡ no_contents =
    ap (λ (t : DepotTold). t.contents) c.in_ok-fail.ensures.others.told ∙ c.new-depot.ensures.empty in
    let answer = rw c.in_ok-failed.ensures at c.append.ensures.appends in
    let second : contents_held c.append.new.self ≡ no_contents = answer.0.contents ∙ first in
    sym (ap (λ (h : Contents). next_number h 3) second)

pub fetch-requires-clause-held : goal.fetch-requires-clause-held
fetch-requires-clause-held g c =
    let first : contents_held c.fail.new.self ≡ no_contents =
    ap (λ (t : DepotTold). t.contents) c.in_ok-fail.ensures.others.told ∙ c.new-depot.ensures.empty in
    let answer = rw c.in_ok-failed.ensures at c.append.ensures.appends in
    let second : contents_held c.append.new.self ≡ no_contents = answer.0.contents ∙ first in
    let third = changed (with_record 3 _) (contents_held c.append-2.new.self) (contents_held c.append.new.self) no_contents
    c.in_ok-append.ensures.appends.contents second in
    subst (λ (h : Contents). IsSome (record_at h 3 0)) (sym third) refl
