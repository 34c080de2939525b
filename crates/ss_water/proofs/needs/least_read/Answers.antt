use Rattle.std.proofs.Common.{◌≡◌, ◌+◌, ◌∙◌, ℕ, Option, arith, subst, sym}
use Rattle.ss_water.specs.Needs.{IsAtInput, IsLeastIfAny}
use Rattle.ss_water.proofs.Least.{input_not_read, input_read}
use Rattle.ss_water.proofs.needs.least_read.Goals as goal
use Rattle.ss_water.proofs.needs.least_read.Goals.{then-node-i, else-node-i}

pub loop-i-preserved : goal.loop-i-preserved
loop-i-preserved c =
    let node = c.args.node.now in
    let positions = c.args.positions.now in
    let Told = λ (o : Option ℕ). IsLeastIfAny (IsAtInput node positions c.args.j (c.loop-i.i + 1)) o in
    elim c.if-node-i.branch [
      | then-node-i w ↦ subst Told (sym (w.least-is ∙ w.lesser-least.ensures))
          (input_read node positions c.args.j c.loop-i.i c.loop-i.least c.loop-i.invariant w.if-node-i.true)
      | else-node-i w ↦ subst Told (sym w.least-is)
          (input_not_read node positions c.args.j c.loop-i.i c.loop-i.least c.loop-i.invariant w.if-node-i.false)
    ]

pub returns : goal.returns
returns c =
    let all : c.loop-i.i ≡ c.args.node.now.width = omega arith in
    subst (λ (k : ℕ). IsLeastIfAny (IsAtInput c.args.node.now c.args.positions.now c.args.j k) c.loop-i.least) all c.loop-i.invariant
