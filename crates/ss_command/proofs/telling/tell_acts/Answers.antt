use Rattle.std.proofs.Common.{ℕ, List, Err, codes, subst}
use Rattle.ss_outside.specs.Told.{Puts}
use Rattle.ss_command.proofs.Wrote.{wrote-one}
use Rattle.ss_command.proofs.telling.tell_acts.Goals as goal

pub returns-in-Err-clause-wrote : goal.returns-in-Err-clause-wrote
returns-in-Err-clause-wrote g c =
    let old = g.O.Outputs.told c.args.outputs.now in
    let new = g.O.Outputs.told c.put.new.self in
    wrote-one old new (codes "-") c.args.report.now.text.items (Err c.in-Err.fault)
    (subst (λ (t : List ℕ). Puts old new (codes "-") t (Err c.in-Err.fault)) c.as_slice.ensures.value c.in-Err.ensures)
