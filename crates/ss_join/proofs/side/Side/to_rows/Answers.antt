use Rattle.std.proofs.Common.{◌≡◌, ◌∙◌}
use Rattle.std.proofs.lemmas.Result.{IfOk-weaker}
use Rattle.std.specs.BTreeMap.{values}
use Rattle.ss_join.proofs.Listings.{sorted_rows}
use Rattle.ss_join.proofs.side.Side.to_rows.Goals as goal

pub returns : goal.returns
returns c =
    let now = c.self.inside in
    let sorted = c.in_ok-sorted.sorted in
    let rows = sorted_rows sorted now.rows now.ends now.next c.self.invariant c.in_ok-sorted.ensures.ordered c.in_ok-sorted.ensures.same in
    IfOk-weaker c.listed.result (λ list. list.items ≡ values sorted) (λ list. list.items ≡ c.args.self.now) (λ list h. h ∙ (rows ∙ c.self.view_is)) c.listed.ensures
