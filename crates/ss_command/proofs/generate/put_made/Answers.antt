use Rattle.std.proofs.Common.{◌≡◌, ◌∙◌, ℕ, List, subst}
use Rattle.std.specs.Prelude.{IfOk}
use Rattle.ss_outside.specs.Told.{Puts}
use Rattle.ss_command.proofs.Wrote.{wrote-one}
use Rattle.ss_command.proofs.generate.put_made.Goals as goal

pub returns : goal.returns
returns g c = λ text made.
    let old = g.O.Outputs.told c.args.outputs.now in
    let new = g.O.Outputs.told c.put.new.self in
    let is : c.as_slice.result.now ≡ text = c.as_slice.ensures.value ∙ subst (λ r. IfOk r (λ bytes. bytes.items ≡ text)) c.in-Ok.is made in
    wrote-one old new c.args.name.now text c.put.result (subst (λ (t : List ℕ). Puts old new c.args.name.now t c.put.result) is c.put.ensures)
