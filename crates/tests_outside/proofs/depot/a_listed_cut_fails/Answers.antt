-- One record is held until the cut past it.
use Rattle.std.proofs.Common.{◌≡◌, ℕ, ◌≤◌, IsSome, IsNone, ap, sym, subst, ◌∙◌, refl, arith}
use Rattle.ss_outside.specs.Depot.{Contents, DepotTold, cut_to, next_number, no_contents, record_at, with_frame, with_record, without_frames_below}
use Rattle.ss_outside.specs.MemDepot.{contents_held, mem_depot_told}
use Rattle.tests_outside.proofs.Depots.{changed, discards-refused}
use Rattle.tests_outside.proofs.depot.a_listed_cut_fails.Goals as goal

pub append-requires-clause-next : goal.append-requires-clause-next
append-requires-clause-next g c =
    let none = ap (λ (t : DepotTold). t.contents) c.in_ok-fail.ensures.others.told ∙ c.new-depot.ensures.empty in
    sym (ap (λ (h : Contents). next_number h 3) none)

pub cut-requires-clause-forward : goal.cut-requires-clause-forward
cut-requires-clause-forward g c =
    let none = ap (λ (t : DepotTold). t.contents) c.in_ok-fail.ensures.others.told ∙ c.new-depot.ensures.empty in
    let one = changed (with_record 3 _) (contents_held c.append.new.self) (contents_held c.fail.new.self) no_contents
    c.in_ok-append.ensures.appends.contents none in
    subst (λ (h : Contents). h.first 3 ≤ 1) (sym one) (omega arith)

pub cut-requires-2-clause-forward : goal.cut-requires-2-clause-forward
cut-requires-2-clause-forward g c =
    let none = ap (λ (t : DepotTold). t.contents) c.in_ok-fail.ensures.others.told ∙ c.new-depot.ensures.empty in
    let one = changed (with_record 3 _) (contents_held c.append.new.self) (contents_held c.fail.new.self) no_contents
    c.in_ok-append.ensures.appends.contents none in
    let kept = discards-refused (mem_depot_told c.append.new.self) (mem_depot_told c.cut.new.self) (cut_to 3 1 (contents_held c.append.new.self))
    c.cut.result c.in_ok-refused.ensures c.cut.ensures.cuts ∙ one in
    subst (λ (h : Contents). h.first 3 ≤ 9) (sym kept) (omega arith)

pub append-requires-2-clause-next : goal.append-requires-2-clause-next
append-requires-2-clause-next g c =
    let none = ap (λ (t : DepotTold). t.contents) c.in_ok-fail.ensures.others.told ∙ c.new-depot.ensures.empty in
    let one = changed (with_record 3 _) (contents_held c.append.new.self) (contents_held c.fail.new.self) no_contents
    c.in_ok-append.ensures.appends.contents none in
    let kept = discards-refused (mem_depot_told c.append.new.self) (mem_depot_told c.cut.new.self) (cut_to 3 1 (contents_held c.append.new.self))
    c.cut.result c.in_ok-refused.ensures c.cut.ensures.cuts ∙ one in
    let gone = changed (cut_to 3 9) (contents_held c.cut-2.new.self) (contents_held c.cut.new.self) _ c.in_ok-cut.ensures.cuts.contents kept in
    sym (ap (λ (h : Contents). next_number h 3) gone)

pub fetch-requires-clause-held : goal.fetch-requires-clause-held
fetch-requires-clause-held g c =
    let none = ap (λ (t : DepotTold). t.contents) c.in_ok-fail.ensures.others.told ∙ c.new-depot.ensures.empty in
    let one = changed (with_record 3 _) (contents_held c.append.new.self) (contents_held c.fail.new.self) no_contents
    c.in_ok-append.ensures.appends.contents none in
    let kept = discards-refused (mem_depot_told c.append.new.self) (mem_depot_told c.cut.new.self) (cut_to 3 1 (contents_held c.append.new.self))
    c.cut.result c.in_ok-refused.ensures c.cut.ensures.cuts ∙ one in
    let gone = changed (cut_to 3 9) (contents_held c.cut-2.new.self) (contents_held c.cut.new.self) _ c.in_ok-cut.ensures.cuts.contents kept in
    let ten = changed (with_record 3 _) (contents_held c.append-2.new.self) (contents_held c.cut-2.new.self) _
    c.in_ok-append-2.ensures.appends.contents gone in
    subst (λ (h : Contents). IsSome (record_at h 3 9)) (sym ten) refl
