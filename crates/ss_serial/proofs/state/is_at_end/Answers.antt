use Rattle.std.proofs.Common.{◌∙◌, ℕ, sym, ap, arith}
use Rattle.std.specs.Prelude.{Option, is_some}
use Rattle.std.proofs.lemmas.Bool.{le-ltb, lt-ltb}
use Rattle.ss_frames.specs.Plans.{plan_numbers}
use Rattle.ss_state.specs.Numbers.{vertex}
use Rattle.ss_vertex.specs.Inst.{left_of, n_of}
use Rattle.ss_serial.proofs.Over.{down_ends_not, ends, left_ends_not}
use Rattle.ss_serial.proofs.state.is_at_end.Goals as goal

pub returns-then-not-is_up : goal.returns-then-not-is_up
returns-then-not-is_up c =
    down_ends_not (vertex (plan_numbers c.args.plan.now) c.args.inst.now.v) c.args.inst.now (sym c.is_up.ensures ∙ c.if-not-is_up.true)

pub returns-then-left-gt0 : goal.returns-then-left-gt0
returns-then-left-gt0 c =
    let inst = c.args.inst.now in
    left_ends_not (vertex (plan_numbers c.args.plan.now) inst.v) inst (lt-ltb 0 (left_of inst) (omega (arith, c.left.ensures, c.if-left-gt0.true)))

pub returns : goal.returns
returns c =
    let plan = c.args.plan.now in
    let inst = c.args.inst.now in
    let numbered = c.is_numbered.ensures.numbered in
    ends (vertex (plan_numbers plan) inst.v) inst c.is_none.result (is_some c.wants.result) (sym c.is_up.ensures ∙ c.if-not-is_up.false)
    (le-ltb 0 (left_of inst) (omega (arith, c.left.ensures, c.if-left-gt0.false))) c.is_none.ensures
    (ap (λ (w : Option (ℕ × ℕ)). is_some w) (c.wants.ensures plan c.max_elements.ensures.plan c.requires ∙ numbered.wanted (n_of inst) numbered.reached))
