-- What `clap` answers, by the command that it was given.
use Rattle.std.proofs.Common.{map, string_bytes, sym, subst, Err}
use Rattle.clap.specs.Words.{app_of, found_of, rows_of}
use Rattle.ss_words.specs.Answers.{AnswersReading}
use Rattle.ss_words.specs.Words.{rows_in}
use Rattle.ss_words.proofs.Reading.{refused, taken}
use Rattle.ss_words.proofs.words.matches_of.Goals as goal

pub returns-in-Ok-try_get_matches_from : goal.returns-in-Ok-try_get_matches_from
returns-in-Ok-try_get_matches_from c =
    let parse = c.in-Ok-try_get_matches_from in
    taken (app_of c.in-Ok.command_line) (map string_bytes c.args.words.now) parse.matches c.in-Ok.ensures
    parse.ensures.kinds parse.ensures.matches

pub returns-in-Err : goal.returns-in-Err
returns-in-Err c =
    let refusal = refused (λ matches. rows_of (found_of matches)) (app_of c.in-Ok.command_line)
    (map string_bytes c.args.words.now) c.in-Err.error c.in-Ok.ensures c.in-Err.ensures.kinds in
    subst (λ fault. AnswersReading (λ matches. rows_of (found_of matches)) (Err fault) (rows_in (map string_bytes c.args.words.now)))
    (sym c.fault_of.ensures) refusal
