use Rattle.std.proofs.Common.{◌≡◌, ◌∙◌, sym, true}
use Rattle.std.specs.Char.{is_ascii_digit}
use Rattle.std.specs.List.{list_all}
use Rattle.ss_words.proofs.Seeds.{refused, taken}
use Rattle.ss_words.proofs.given.seed_in.Goals as goal

pub returns-in-Ok : goal.returns-in-Ok
returns-in-Ok c =
    let digits : list_all is_ascii_digit c.args.word.now ≡ true = sym c.is_decimal.ensures ∙ c.if-not-is_decimal.false in
    taken c.args.word.now c.in-Ok.seed digits c.in-Ok.ensures.value.0

pub returns-in-Err : goal.returns-in-Err
returns-in-Err c =
    let digits : list_all is_ascii_digit c.args.word.now ≡ true = sym c.is_decimal.ensures ∙ c.if-not-is_decimal.false in
    refused c.args.word.now digits c.in-Err.ensures.value.0
