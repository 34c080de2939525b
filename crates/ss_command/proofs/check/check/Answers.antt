use Rattle.std.proofs.Common.{◌≡◌, ◌∙◌, codes, subst, ℕ, List, Err}
use Rattle.ss_outside.specs.Told.{Puts}
use Rattle.ss_command.specs.Output.{check_text}
use Rattle.ss_command.proofs.Wrote.{wrote-one}
use Rattle.ss_command.proofs.check.check.Goals as goal

pub returns : goal.returns
returns g c =
    let old = g.O.Outputs.told c.args.outputs.now in
    let new = g.O.Outputs.told c.put.new.self in
    let text = check_text c.args.job.now in
    let is : c.as_slice.result.now ≡ text = c.as_slice.ensures.value ∙ c.in-Ok.ensures in
    wrote-one old new (codes "-") text (Err c.in-Err.fault) (subst (λ (t : List ℕ). Puts old new (codes "-") t (Err c.in-Err.fault)) is c.in-Err.ensures)
