-- What the reader of the words answers.
use Rattle.std.specs.Prelude.{◌≡◌, Option, Some, None, Result, Ok, Err, option_map}
use Rattle.clap.specs.declared.error.kind.ErrorKind.{ErrorKind}
use Rattle.clap.specs.declared.error.kind.ErrorKind.TheVariants.{OutOfMemory}
use Rattle.ss_words.specs.Words.{CommandText, Given, RunText, check_job, plain_job, run_job, play_job, gen_from}
use Rattle.ss_words.specs.declared.command.Command.{Command}
use Rattle.ss_words.specs.declared.command.Command.TheVariants.{Check, Plain, Run, Play, Gen}
use Rattle.ss_words.specs.declared.command.RunOptions.{RunOptions}
use Rattle.ss_words.specs.declared.given.Given as values
use Rattle.ss_words.specs.declared.words.WordsFault.{WordsFault}
use Rattle.ss_words.specs.declared.words.WordsFault.TheVariants.{Usage, Memory}

-- the values of options
abbrev pub given_text : values.Given → Given
given_text given = record {
  schedule = option_map (λ word. word.now) given.schedule;
  failures = option_map (λ word. word.now) given.failures;
  trace = option_map (λ word. word.now) given.trace;
  workers = option_map (λ word. word.now) given.workers;
}

-- how a job is run
abbrev pub run_text : RunOptions → RunText
run_text run = record {
  failures = option_map (λ file. file.now) run.failures;
  trace = option_map (λ name. name.now) run.trace;
  workers = run.workers;
}

-- what a command says
abbrev pub command_text : Command → CommandText
command_text (Check job) = check_job job.now
command_text (Plain job) = plain_job job.now
command_text (Run job run) = run_job job.now (run_text run)
command_text (Play job schedule) = play_job job.now schedule.now
command_text (Gen seed) = gen_from seed

-- the fault that is told for a kind of `clap`'s errors
abbrev pub fault_of_kind : ErrorKind → WordsFault
fault_of_kind OutOfMemory = Memory
fault_of_kind _ = Usage

-- an answer, seen by view, is what the words say: this, or nothing. Want of memory may come at any words
abbrev pub AnswersReading : {X Y : Type 0} → (X → Y) → Result X WordsFault → Option Y → Type 0
AnswersReading view (Ok x) said = said ≡ Some (view x)
AnswersReading view (Err Usage) said = said ≡ None
AnswersReading view (Err Memory) said = Unit {0}
