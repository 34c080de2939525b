use Rattle.std.proofs.Common.{◌≡◌, ◌-◌, ◌++◌, max, ℕ, List, length, take, drop, sym, ap, ◌∙◌}
use Rattle.ss_elem.specs.declared.element.Element.{Element}
use Rattle.ss_state.specs.Tails.{batch_from}
use Rattle.ss_tail.specs.Held.{TailHeld, batch_items, part}
use Rattle.ss_tail.proofs.Standing.{batch_stands}
use Rattle.ss_tail.proofs.tail.Tail.batch.Goals as goal

pub returns-clause-standing : goal.returns-clause-standing
returns-clause-standing c = λ list limit stands.
    let tail : TailHeld = c.args.self.now in
    let both : List Element = c.slices.result.0.now ++ c.slices.result.1.now in
    let from_is : c.max-from.result ≡ batch_from tail.numbers =
    c.max-from.ensures ∙ ap (λ (n : ℕ). max c.self.inside.seen n) c.from.ensures ∙ ap (λ (t : TailHeld). batch_from t.numbers) c.self.view_is in
    let items_are : both ≡ batch_items tail c.args.most =
    c.slices.ensures ∙ ap (λ (t : TailHeld). take c.args.most (drop (c.max-from.result - t.numbers.from) t.items)) c.self.view_is
    ∙ ap (λ (n : ℕ). take c.args.most (drop (n - tail.numbers.from) tail.items)) from_is in
    items_are ∙ batch_stands list limit tail c.args.most stands
    ∙ ap (λ (n : ℕ). part n (length (batch_items tail c.args.most)) list) (sym from_is)
    ∙ ap (λ (t : List Element). part c.max-from.result (length t) list) (sym items_are)
