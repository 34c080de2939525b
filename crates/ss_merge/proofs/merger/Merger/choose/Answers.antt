-- What the law says of the bounds after p, it says of these.
use Rattle.std.proofs.Common.{ℕ, ap, sym, ◌∙◌}
use Rattle.ss_meaning.specs.Inputs.{bounds, next_input}
use Rattle.ss_merge.specs.Merging.{MergerState}
use Rattle.ss_merge.proofs.Walks.{next_within_all, none_where_ended}
use Rattle.ss_merge.proofs.merger.Merger.choose.Goals as goal

pub returns-clause-next : goal.returns-clause-next
returns-clause-next c inputs p rest whole count e stands =
    c.next_of.ensures
    ∙ ap (λ (s : MergerState). next_input s.bounds) (c.self.view_is ∙ stands)
    ∙ ap (λ (n : ℕ). next_input (bounds n p)) (sym count)
    ∙ c.bounds_tell_what_is_next.ensures.next inputs whole p rest e

pub returns-clause-within : goal.returns-clause-within
returns-clause-within c = next_within_all c.args.self.now.bounds c.next_of.result (c.next_of.ensures ∙ ap (λ (s : MergerState). next_input s.bounds) c.self.view_is)

pub returns-clause-ended : goal.returns-clause-ended
returns-clause-ended c = none_where_ended c.args.self.now.bounds c.next_of.result (c.next_of.ensures ∙ ap (λ (s : MergerState). next_input s.bounds) c.self.view_is)
