use Rattle.std.proofs.Common.{ℕ, List, Option, Ok, Err, option_map, sym, subst}
use Rattle.std.specs.Borrow.{Bor}
use Rattle.ss_command.specs.Puts.{Wrote}
use Rattle.ss_command.specs.Working.{text_puts}
use Rattle.ss_command.proofs.Wrote.{wrote-one}
use Rattle.ss_command.proofs.telling.put_text.Goals as goal

pub returns-in-Ok : goal.returns-in-Ok
returns-in-Ok g c =
    let old = g.O.Outputs.told c.args.outputs.now in
    let new = g.O.Outputs.told c.put.new.self in
    subst (λ (o : Option (Bor (List ℕ))). Wrote old new (text_puts (option_map (λ name. name.now) o) c.args.text.now) (Ok tt)) (sym c.in-Some.is)
    (wrote-one old new c.in-Some.name.now c.args.text.now (Ok tt) c.in-Ok.ensures)

pub returns-in-Err : goal.returns-in-Err
returns-in-Err g c =
    let old = g.O.Outputs.told c.args.outputs.now in
    let new = g.O.Outputs.told c.put.new.self in
    subst (λ (o : Option (Bor (List ℕ))). Wrote old new (text_puts (option_map (λ name. name.now) o) c.args.text.now) (Err c.in-Err.fault)) (sym c.in-Some.is)
    (wrote-one old new c.in-Some.name.now c.args.text.now (Err c.in-Err.fault) c.in-Err.ensures)
