use Rattle.std.proofs.Common.{◌≤◌, sym, ap, ◌∙◌}
use Rattle.std.proofs.lemmas.Bool.{leb-true}
use Rattle.ss_meaning.specs.Entries.{rows_ending_above}
use Rattle.ss_join.specs.Held.{rows_held, first_reached}
use Rattle.ss_join.proofs.Holding.{forgot_one, forgot_all, forgot}
use Rattle.ss_join.proofs.side.Side.forget.Goals as goal

pub loop-self-preserved-in-Some : goal.loop-self-preserved-in-Some
loop-self-preserved-in-Some c =
    let now = c.loop-self.self-inside in
    let first = c.in-Some.first in
    let reached : first.0 ≤ c.args.bound =
    leb-true first.0 c.args.bound (sym (ap (first_reached c.args.bound) c.in-Some.ensures.removal) ∙ (sym c.is_first_reached.ensures ∙ c.loop-self-test.true)) in
    let step =
    forgot_one now.rows c.remove.new.self now.ends c.pop_first.new.self now.next c.args.bound first c.loop-self.invariant.held c.in-Some.ensures.member reached
    c.remove.ensures.entries c.in-Some.ensures.updates.0 c.remove.ensures.updates.0 c.remove.ensures.ordered c.pop_first.ensures.ordered in
    record { held = step.0; same = step.1 ∙ c.loop-self.invariant.same; next = c.loop-self.invariant.next }

pub returns : goal.returns
returns c =
    let now = c.loop-self.self-inside in
    let old = c.self.inside in
    let all = forgot_all now.rows now.ends now.next c.args.bound c.loop-self.invariant.held (sym c.is_first_reached.ensures ∙ c.loop-self-test.false) in
    ap (λ n. rows_held n now.rows) c.loop-self.invariant.next
    ∙ (forgot old.rows now.rows old.next c.args.bound c.loop-self.invariant.same all ∙ ap (rows_ending_above c.args.bound) c.self.view_is)
