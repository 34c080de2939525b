use Rattle.std.proofs.Common.{◌+◌, ◌-◌, ◌/◌, ◌^◌, ◌<◌, ◌≤◌, All, sym, subst, arith}
use Rattle.std.proofs.lemmas.List.Elements.{All-weaker}
use Rattle.ss_meaning.specs.Entries.{WindowEntry}
use Rattle.ss_window.specs.States.{State, CountsFew}
use Rattle.ss_window.proofs.Spans.{few_ends, last_end}
use Rattle.ss_window.proofs.window.Window.take_row.Goals as goal

pub put_all-requires-clause-near : goal.put_all-requires-clause-near
put_all-requires-clause-near c =
    last_end c.self.inside.hop c.args.row.now.start c.self.inside.size c.self.invariant.most_hop c.self.invariant.most_size c.requires.early

pub put_all-requires-clause-ends : goal.put_all-requires-clause-ends
put_all-requires-clause-ends c =
    let few = few_ends c.self.inside.hop c.args.row.now.start c.self.inside.size c.self.invariant.least_hop c.self.invariant.most_size in
    omega (arith, few)

pub put_all-requires-clause-few : goal.put_all-requires-clause-few
put_all-requires-clause-few c =
    let few_of = few_ends c.self.inside.hop c.args.row.now.start c.self.inside.size c.self.invariant.least_hop c.self.invariant.most_size in
    let left = (c.args.row.now.start + c.self.inside.size) / c.self.inside.hop + 1 - (c.args.row.now.start / c.self.inside.hop + 1) in
    let ends : left ≤ 64 = omega (arith, few_of) in
    let few : All CountsFew c.self.inside.panes = subst (λ (s : State). All CountsFew s.entries) (sym c.self.view_is) c.requires.few in
    All-weaker CountsFew (λ (e : WindowEntry). e.rows + left < 2 ^ 63) (λ e k. omega (arith, k, ends)) c.self.inside.panes few
