use Rattle.std.proofs.Common.{◌≡◌, ◌-◌, sym, ap, ◌∙◌, arith}
use Rattle.std.specs.Prelude.{slice_get}
use Rattle.ss_tail.specs.Held.{TailHeld}
use Rattle.ss_tail.proofs.Standing.{held_is_of, past_is}
use Rattle.ss_tail.proofs.tail.Tail.read.Goals as goal

pub returns-then-n-end-clause-standing : goal.returns-then-n-end-clause-standing
returns-then-n-end-clause-standing c = λ list most stands.
    let n = c.args.n in
    let from : c.self.inside.pages.from ≡ c.args.self.now.numbers.from = ap (λ (t : TailHeld). t.numbers.from) c.self.view_is in
    let seen = c.from-from.ensures in
    let above = c.if-n-from.false in
    held_is_of list most c.args.self.now n c.get.result stands (omega (arith, from, seen, above))
    (ap (λ (t : TailHeld). slice_get t.items (n - t.numbers.from)) (sym c.self.view_is) ∙ c.get.ensures)

pub returns-clause-answer : goal.returns-clause-answer
returns-clause-answer c =
    let n = c.args.n in
    let from : c.self.inside.pages.from ≡ c.args.self.now.numbers.from = ap (λ (t : TailHeld). t.numbers.from) c.self.view_is in
    let seen = c.from-from.ensures in
    let above = c.if-n-from.false in
    let end = c.end.ensures.end in
    let past = c.if-n-end.false in
    c.past_end.ensures ∙ past_is c.args.self.now n c.end.ensures.numbered (omega (arith, from, seen, above)) (omega (arith, end, past))
