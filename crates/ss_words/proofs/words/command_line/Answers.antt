use Rattle.std.proofs.Common.{ap, ap₂, ◌∙◌}
use Rattle.std.proofs.lemmas.Result.{IfOk-weaker}
use Rattle.clap.specs.Simple.{app_of_fields}
use Rattle.clap.specs.Words.{with_rule}
use Rattle.ss_words.specs.Words.{command_line, without_name}
use Rattle.ss_words.proofs.words.command_line.Goals as goal

pub returns : goal.returns
unfolding command_line
returns c =
    let start_is = ap app_of_fields c.no_binary_name.ensures ∙ ap without_name c.new.ensures.app in
    let action = c.required_word-action.ensures in
    let subject = c.required_word-subject.ensures in
    let schedule = c.option_with_value-schedule.ensures in
    let failures = c.option_with_value-failures.ensures in
    let trace = c.option_with_value-trace.ensures in
    let workers = c.option_with_value-workers.ensures in
    let one_is = c.in_ok-arg.ensures.shape action.local ∙ ap₂ with_rule start_is action.rule in
    let two_are = c.in_ok-arg-2.ensures.shape subject.local ∙ ap₂ with_rule one_is subject.rule in
    let three_are = c.in_ok-arg-3.ensures.shape schedule.local ∙ ap₂ with_rule two_are schedule.rule in
    let four_are = c.in_ok-arg-4.ensures.shape failures.local ∙ ap₂ with_rule three_are failures.rule in
    let five_are = c.in_ok-arg-5.ensures.shape trace.local ∙ ap₂ with_rule four_are trace.rule in
    IfOk-weaker c.arg-6.result _ _ (λ line added. added.shape workers.local ∙ ap₂ with_rule five_are workers.rule)
    c.arg-6.ensures
