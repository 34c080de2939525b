use Rattle.std.proofs.Common.{◌≡◌, ℕ, ◌+◌, ◌<◌, ◌≤◌, ◌^◌, List, ◌∷◌, [], ◌++◌, get_or, take, sym, ap, subst, ◌∙◌, arith}
use Rattle.ss_meaning.specs.Jobs.{IsBefore}
use Rattle.ss_meaning.specs.Low.{low}
use Rattle.ss_meaning.specs.Merge.{Arrival}
use Rattle.ss_session.specs.States.{Settings, arrival}
use Rattle.ss_join.specs.States.{MayFollow}
use Rattle.ss_plan.specs.Steps.{NeverFalls}
use Rattle.ss_plan.proofs.SessionSteps.{IsAfter, session_more, first_follows}
use Rattle.ss_plan.proofs.WindowSteps.{take_arrival}
use Rattle.ss_plan.proofs.sessions.session_output.Goals as goal

pub loop-x-preserved : goal.loop-x-preserved
loop-x-preserved c =
    let i = c.loop-x.x-index in
    let all : List Arrival = c.args.arrived.now in
    let y : Arrival = record { input = c.x.inside.input; element = c.x.inside.element } in
    let seen : y ≡ get_or all i y = c.x.view_is ∙ (c.x-item.is ∙ ap (get_or all i) (sym c.x.view_is)) in
    let p : List Arrival = take i all in
    let s : Settings = record { gap = c.args.gap; agg = c.args.agg; field = c.args.of } in
    let within : y.input < 1 =
    subst (λ n. y.input < n) c.requires.one (subst (λ (x : Arrival). x.input < c.args.width) (sym seen) (c.requires.inputs i y c.loop-x-test.true)) in
    let early : IsBefore (2 ^ 63) y.element = subst (λ (x : Arrival). IsBefore (2 ^ 63) x.element) (sym seen) (c.requires.early i y c.loop-x-test.true) in
    let more : take (i + 1) all ≡ p ++ arrival y.element ∷ [] = take_arrival all i y c.loop-x-test.true seen within in
    let rises : low 1 p ≤ low 1 (p ++ arrival y.element ∷ []) =
    subst (λ q. low 1 p ≤ low 1 q) more (subst (λ n. NeverFalls n all) c.requires.one c.requires.rises i) in
    let follow : MayFollow p (arrival y.element) = first_follows p y within (subst (MayFollow p) (sym seen) (c.requires.follow i y c.loop-x-test.true)) in
    subst (IsAfter s c.step.new.self c.push_rise.new.out.elements c.bound_behind-next.result) (sym more)
    (session_more c.output_only_grows.ensures.step s c.loop-x.session c.step.new.self c.loop-x.out.elements c.step.new.out.elements
    c.push_rise.new.out.elements p y.element c.loop-x.bound c.bound_behind-next.result c.loop-x.invariant early rises follow
    c.bound_behind-next.ensures c.step.ensures.settings c.in_ok-step.ensures.ok c.push_rise.ensures)
