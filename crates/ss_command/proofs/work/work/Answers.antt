use Rattle.std.proofs.Common.{sym, subst}
use Rattle.ss_words.specs.Answers.{command_text}
use Rattle.ss_words.specs.declared.command.Command.{Command}
use Rattle.ss_command.specs.Ends.{EndsBy}
use Rattle.ss_command.specs.Order.{order_for}
use Rattle.ss_command.specs.Seen.{seen}
use Rattle.ss_command.proofs.work.work.Goals as goal

pub returns-in-Check : goal.returns-in-Check
returns-in-Check g c =
    let before = seen g.I.Inputs.told g.O.Outputs.told g.D.Depot.told c.args.outside in
    let after = seen g.I.Inputs.told g.O.Outputs.told g.D.Depot.told c.on_check.result.outside in
    subst (λ (x : Command). EndsBy (order_for (command_text x)) before after c.on_check.result.status) (sym c.in-Check.is) c.on_check.ensures

pub returns-in-Plain : goal.returns-in-Plain
returns-in-Plain g c =
    let before = seen g.I.Inputs.told g.O.Outputs.told g.D.Depot.told c.args.outside in
    let after = seen g.I.Inputs.told g.O.Outputs.told g.D.Depot.told c.on_plain.result.outside in
    subst (λ (x : Command). EndsBy (order_for (command_text x)) before after c.on_plain.result.status) (sym c.in-Plain.is) c.on_plain.ensures

pub returns-in-Run : goal.returns-in-Run
returns-in-Run g c =
    let before = seen g.I.Inputs.told g.O.Outputs.told g.D.Depot.told c.args.outside in
    let after = seen g.I.Inputs.told g.O.Outputs.told g.D.Depot.told c.on_run.result.outside in
    subst (λ (x : Command). EndsBy (order_for (command_text x)) before after c.on_run.result.status) (sym c.in-Run.is) c.on_run.ensures

pub returns-in-Play : goal.returns-in-Play
returns-in-Play g c =
    let before = seen g.I.Inputs.told g.O.Outputs.told g.D.Depot.told c.args.outside in
    let after = seen g.I.Inputs.told g.O.Outputs.told g.D.Depot.told c.on_play.result.outside in
    subst (λ (x : Command). EndsBy (order_for (command_text x)) before after c.on_play.result.status) (sym c.in-Play.is) c.on_play.ensures

pub returns-in-Gen : goal.returns-in-Gen
returns-in-Gen g c =
    let before = seen g.I.Inputs.told g.O.Outputs.told g.D.Depot.told c.args.outside in
    let after = seen g.I.Inputs.told g.O.Outputs.told g.D.Depot.told c.make.result.outside in
    subst (λ (x : Command). EndsBy (order_for (command_text x)) before after c.make.result.status) (sym c.in-Gen.is) c.make.ensures
