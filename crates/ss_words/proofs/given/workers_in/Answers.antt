use Rattle.std.proofs.Common.{◌≡◌, ◌∙◌, sym, true}
use Rattle.std.specs.Char.{is_ascii_digit}
use Rattle.std.specs.List.{list_all}
use Rattle.ss_words.proofs.Workers.{refused}
use Rattle.ss_words.proofs.given.workers_in.Goals as goal

pub returns-in-Err : goal.returns-in-Err
returns-in-Err c =
    let digits : list_all is_ascii_digit c.args.word.now ≡ true = sym c.is_decimal.ensures ∙ c.if-not-is_decimal.false in
    refused c.args.word.now digits c.in-Err.ensures.value.0
