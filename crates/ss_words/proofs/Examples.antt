-- Words worked out: the commands that they say.
use Rattle.std.proofs.Common.{◌≡◌, ℕ, List, [], ◌∷◌, Some, None, codes, refl, replicate}
use Rattle.ss_words.proofs.OnLiterals.{words_on_literals}
use Rattle.ss_words.specs.Words.{CommandText, RunText, check_job, command_of, gen_from, play_job, run_job}

-- nothing is said but the job
abbrev no_options : RunText
no_options = record { failures = None; trace = None; workers = None }

abbrev run_plainly : List ℕ → CommandText
run_plainly job = run_job job no_options

run-a-job : command_of (codes "run" ∷ codes "job.toml" ∷ []) ≡ Some (run_plainly (codes "job.toml"))
unfolding words_on_literals
run-a-job = refl

check-a-job : command_of (codes "check" ∷ codes "job.toml" ∷ []) ≡ Some (check_job (codes "job.toml"))
unfolding words_on_literals
check-a-job = refl

-- `--` ends the options, and is no subject itself
behind-two-hyphens : command_of (codes "run" ∷ codes "--" ∷ codes "job.toml" ∷ []) ≡ Some (run_plainly (codes "job.toml"))
unfolding words_on_literals
behind-two-hyphens = refl

-- before the action too, and behind the subject
two-hyphens-first : command_of (codes "--" ∷ codes "run" ∷ codes "job.toml" ∷ []) ≡ Some (run_plainly (codes "job.toml"))
unfolding words_on_literals
two-hyphens-first = refl

two-hyphens-last : command_of (codes "run" ∷ codes "job.toml" ∷ codes "--" ∷ []) ≡ Some (run_plainly (codes "job.toml"))
unfolding words_on_literals
two-hyphens-last = refl

no-subject-behind-two : command_of (codes "run" ∷ codes "--" ∷ []) ≡ None
unfolding words_on_literals
no-subject-behind-two = refl

-- behind it a word may begin with a hyphen
hyphen-behind-two : command_of (codes "run" ∷ codes "--" ∷ codes "-x" ∷ []) ≡ Some (run_plainly (codes "-x"))
unfolding words_on_literals
hyphen-behind-two = refl

-- a hyphen alone names a file
hyphen-alone : command_of (codes "run" ∷ codes "-" ∷ []) ≡ Some (run_plainly (codes "-"))
unfolding words_on_literals
hyphen-alone = refl

subject-of-200-bytes : command_of (codes "run" ∷ replicate 200 97 ∷ []) ≡ Some (run_plainly (replicate 200 97))
unfolding words_on_literals
subject-of-200-bytes = refl

subject-of-201-bytes : command_of (codes "run" ∷ replicate 201 97 ∷ []) ≡ None
unfolding words_on_literals
subject-of-201-bytes = refl

empty-subject : command_of (codes "run" ∷ [] ∷ []) ≡ None
unfolding words_on_literals
empty-subject = refl

no-words : command_of [] ≡ None
unfolding words_on_literals
no-words = refl

no-subject : command_of (codes "run" ∷ []) ≡ None
unfolding words_on_literals
no-subject = refl

unknown-action : command_of (codes "walk" ∷ codes "job.toml" ∷ []) ≡ None
unfolding words_on_literals
unknown-action = refl

three-words : command_of (codes "run" ∷ codes "job.toml" ∷ codes "x" ∷ []) ≡ None
unfolding words_on_literals
three-words = refl

help-behind-an-action : command_of (codes "run" ∷ codes "--help" ∷ []) ≡ None
unfolding words_on_literals
help-behind-an-action = refl

-- no option is abbreviated
cut-short : command_of (codes "run" ∷ codes "--hel" ∷ []) ≡ None
unfolding words_on_literals
cut-short = refl

help : command_of (codes "--help" ∷ []) ≡ None
unfolding words_on_literals
help = refl

version : command_of (codes "--version" ∷ []) ≡ None
unfolding words_on_literals
version = refl

unknown-short-option : command_of (codes "run" ∷ codes "-x" ∷ []) ≡ None
unfolding words_on_literals
unknown-short-option = refl

unknown-option : command_of (codes "run" ∷ codes "job.toml" ∷ codes "--speed" ∷ codes "2" ∷ []) ≡ None
unfolding words_on_literals
unknown-option = refl

unknown-option-with-a-value : command_of (codes "run" ∷ codes "job.toml" ∷ codes "--speed=2" ∷ []) ≡ None
unfolding words_on_literals
unknown-option-with-a-value = refl

-- a schedule stands behind the option, or in the same word behind `=`, and the option in any place
play-a-job : command_of (codes "play" ∷ codes "job.toml" ∷ codes "--schedule" ∷ codes "s.txt" ∷ [])
    ≡ Some (play_job (codes "job.toml") (codes "s.txt"))
unfolding words_on_literals
play-a-job = refl

schedule-in-one-word : command_of (codes "play" ∷ codes "job.toml" ∷ codes "--schedule=s.txt" ∷ [])
    ≡ Some (play_job (codes "job.toml") (codes "s.txt"))
unfolding words_on_literals
schedule-in-one-word = refl

schedule-first : command_of (codes "--schedule" ∷ codes "s.txt" ∷ codes "play" ∷ codes "job.toml" ∷ [])
    ≡ Some (play_job (codes "job.toml") (codes "s.txt"))
unfolding words_on_literals
schedule-first = refl

schedule-between : command_of (codes "play" ∷ codes "--schedule=s.txt" ∷ codes "--" ∷ codes "-x" ∷ [])
    ≡ Some (play_job (codes "-x") (codes "s.txt"))
unfolding words_on_literals
schedule-between = refl

-- a value begins behind the first `=`
schedule-with-two-signs : command_of (codes "play" ∷ codes "job.toml" ∷ codes "--schedule=a=b" ∷ [])
    ≡ Some (play_job (codes "job.toml") (codes "a=b"))
unfolding words_on_literals
schedule-with-two-signs = refl

schedule-of-a-hyphen : command_of (codes "play" ∷ codes "job.toml" ∷ codes "--schedule" ∷ codes "-" ∷ [])
    ≡ Some (play_job (codes "job.toml") (codes "-"))
unfolding words_on_literals
schedule-of-a-hyphen = refl

-- a word that begins with a hyphen and has more bytes is no value, but it may stand behind `=`
schedule-like-an-option : command_of (codes "play" ∷ codes "job.toml" ∷ codes "--schedule" ∷ codes "-x" ∷ []) ≡ None
unfolding words_on_literals
schedule-like-an-option = refl

schedule-of-two-hyphens : command_of (codes "play" ∷ codes "job.toml" ∷ codes "--schedule" ∷ codes "--" ∷ []) ≡ None
unfolding words_on_literals
schedule-of-two-hyphens = refl

hyphen-behind-the-sign : command_of (codes "play" ∷ codes "job.toml" ∷ codes "--schedule=-x" ∷ [])
    ≡ Some (play_job (codes "job.toml") (codes "-x"))
unfolding words_on_literals
hyphen-behind-the-sign = refl

schedule-of-200-bytes : command_of (codes "play" ∷ codes "job.toml" ∷ codes "--schedule" ∷ replicate 200 97 ∷ [])
    ≡ Some (play_job (codes "job.toml") (replicate 200 97))
unfolding words_on_literals
schedule-of-200-bytes = refl

schedule-of-201-bytes : command_of (codes "play" ∷ codes "job.toml" ∷ codes "--schedule" ∷ replicate 201 97 ∷ []) ≡ None
unfolding words_on_literals
schedule-of-201-bytes = refl

empty-schedule : command_of (codes "play" ∷ codes "job.toml" ∷ codes "--schedule=" ∷ []) ≡ None
unfolding words_on_literals
empty-schedule = refl

empty-schedule-in-a-word : command_of (codes "play" ∷ codes "job.toml" ∷ codes "--schedule" ∷ [] ∷ []) ≡ None
unfolding words_on_literals
empty-schedule-in-a-word = refl

no-schedule : command_of (codes "play" ∷ codes "job.toml" ∷ []) ≡ None
unfolding words_on_literals
no-schedule = refl

schedule-without-a-value : command_of (codes "play" ∷ codes "job.toml" ∷ codes "--schedule" ∷ []) ≡ None
unfolding words_on_literals
schedule-without-a-value = refl

two-schedules : command_of (codes "play" ∷ codes "job.toml" ∷ codes "--schedule=s" ∷ codes "--schedule=s" ∷ []) ≡ None
unfolding words_on_literals
two-schedules = refl

schedule-cut-short : command_of (codes "play" ∷ codes "job.toml" ∷ codes "--sched" ∷ codes "s.txt" ∷ []) ≡ None
unfolding words_on_literals
schedule-cut-short = refl

short-schedule : command_of (codes "play" ∷ codes "job.toml" ∷ codes "-s" ∷ codes "s.txt" ∷ []) ≡ None
unfolding words_on_literals
short-schedule = refl

-- behind the word that ends the options there is no option
schedule-behind-two-hyphens : command_of (codes "play" ∷ codes "job.toml" ∷ codes "--" ∷ codes "--schedule=s.txt" ∷ []) ≡ None
unfolding words_on_literals
schedule-behind-two-hyphens = refl

-- a schedule is refused with every other action, also an empty one
run-with-a-schedule : command_of (codes "run" ∷ codes "job.toml" ∷ codes "--schedule" ∷ codes "s.txt" ∷ []) ≡ None
unfolding words_on_literals
run-with-a-schedule = refl

run-with-an-empty-schedule : command_of (codes "run" ∷ codes "job.toml" ∷ codes "--schedule=" ∷ []) ≡ None
unfolding words_on_literals
run-with-an-empty-schedule = refl

check-with-a-schedule : command_of (codes "--schedule=s.txt" ∷ codes "check" ∷ codes "job.toml" ∷ []) ≡ None
unfolding words_on_literals
check-with-a-schedule = refl

plain-with-a-schedule : command_of (codes "plain" ∷ codes "--schedule=s.txt" ∷ codes "job.toml" ∷ []) ≡ None
unfolding words_on_literals
plain-with-a-schedule = refl

-- a run may be told a file of failures, and a name for its trace
run-with-failures : command_of (codes "run" ∷ codes "job.toml" ∷ codes "--failures" ∷ codes "f.txt" ∷ [])
    ≡ Some (run_job (codes "job.toml") (record { failures = Some (codes "f.txt"); trace = None; workers = None }))
unfolding words_on_literals
run-with-failures = refl

run-with-a-trace : command_of (codes "--trace=-" ∷ codes "run" ∷ codes "job.toml" ∷ [])
    ≡ Some (run_job (codes "job.toml") (record { failures = None; trace = Some (codes "-"); workers = None }))
unfolding words_on_literals
run-with-a-trace = refl

run-with-both : command_of (codes "run" ∷ codes "--trace" ∷ codes "t" ∷ codes "job.toml" ∷ codes "--failures=f" ∷ [])
    ≡ Some (run_job (codes "job.toml") (record { failures = Some (codes "f"); trace = Some (codes "t"); workers = None }))
unfolding words_on_literals
run-with-both = refl

trace-of-201-bytes : command_of (codes "run" ∷ codes "job.toml" ∷ codes "--trace" ∷ replicate 201 97 ∷ []) ≡ None
unfolding words_on_literals
trace-of-201-bytes = refl

empty-failures : command_of (codes "run" ∷ codes "job.toml" ∷ codes "--failures=" ∷ []) ≡ None
unfolding words_on_literals
empty-failures = refl

two-traces : command_of (codes "run" ∷ codes "job.toml" ∷ codes "--trace=t" ∷ codes "--trace=t" ∷ []) ≡ None
unfolding words_on_literals
two-traces = refl

two-failures : command_of (codes "run" ∷ codes "job.toml" ∷ codes "--failures=f" ∷ codes "--failures=g" ∷ []) ≡ None
unfolding words_on_literals
two-failures = refl

-- or a number of workers, with leading zeros or without
run-with-workers : command_of (codes "run" ∷ codes "job.toml" ∷ codes "--workers" ∷ codes "8" ∷ [])
    ≡ Some (run_job (codes "job.toml") (record { failures = None; trace = None; workers = Some 8 }))
unfolding words_on_literals
run-with-workers = refl

workers-with-zeros : command_of (codes "run" ∷ codes "job.toml" ∷ codes "--workers=08" ∷ [])
    ≡ Some (run_job (codes "job.toml") (record { failures = None; trace = None; workers = Some 8 }))
unfolding words_on_literals
workers-with-zeros = refl

workers-and-failures : command_of (codes "run" ∷ codes "job.toml" ∷ codes "--workers=1" ∷ codes "--failures=f" ∷ [])
    ≡ Some (run_job (codes "job.toml") (record { failures = Some (codes "f"); trace = None; workers = Some 1 }))
unfolding words_on_literals
workers-and-failures = refl

no-workers : command_of (codes "run" ∷ codes "job.toml" ∷ codes "--workers" ∷ codes "0" ∷ []) ≡ None
unfolding words_on_literals
no-workers = refl

nine-workers : command_of (codes "run" ∷ codes "job.toml" ∷ codes "--workers" ∷ codes "9" ∷ []) ≡ None
unfolding words_on_literals
nine-workers = refl

workers-with-a-sign : command_of (codes "run" ∷ codes "job.toml" ∷ codes "--workers" ∷ codes "+1" ∷ []) ≡ None
unfolding words_on_literals
workers-with-a-sign = refl

workers-behind-a-space : command_of (codes "run" ∷ codes "job.toml" ∷ codes "--workers" ∷ codes " 1" ∷ []) ≡ None
unfolding words_on_literals
workers-behind-a-space = refl

empty-workers : command_of (codes "run" ∷ codes "job.toml" ∷ codes "--workers=" ∷ []) ≡ None
unfolding words_on_literals
empty-workers = refl

two-workers : command_of (codes "run" ∷ codes "job.toml" ∷ codes "--workers=1" ∷ codes "--workers=1" ∷ []) ≡ None
unfolding words_on_literals
two-workers = refl

workers-with-a-trace : command_of (codes "run" ∷ codes "job.toml" ∷ codes "--workers=1" ∷ codes "--trace=t" ∷ []) ≡ None
unfolding words_on_literals
workers-with-a-trace = refl

-- other actions take none of these
play-with-failures : command_of (codes "play" ∷ codes "job.toml" ∷ codes "--schedule=s" ∷ codes "--failures=f" ∷ []) ≡ None
unfolding words_on_literals
play-with-failures = refl

play-with-a-trace : command_of (codes "play" ∷ codes "job.toml" ∷ codes "--schedule=s" ∷ codes "--trace=t" ∷ []) ≡ None
unfolding words_on_literals
play-with-a-trace = refl

plain-with-workers : command_of (codes "plain" ∷ codes "job.toml" ∷ codes "--workers=1" ∷ []) ≡ None
unfolding words_on_literals
plain-with-workers = refl

check-with-a-trace : command_of (codes "check" ∷ codes "job.toml" ∷ codes "--trace=t" ∷ []) ≡ None
unfolding words_on_literals
check-with-a-trace = refl

-- a seed has decimal digits, as many as may be, and a value below 2 ^ 64
gen-from-zeros : command_of (codes "gen" ∷ codes "007" ∷ []) ≡ Some (gen_from 7)
unfolding words_on_literals
gen-from-zeros = refl

gen-with-plus : command_of (codes "gen" ∷ codes "+1" ∷ []) ≡ None
unfolding words_on_literals
gen-with-plus = refl

gen-from-the-last : command_of (codes "gen" ∷ codes "18446744073709551615" ∷ []) ≡ Some (gen_from 18446744073709551615)
unfolding words_on_literals
gen-from-the-last = refl

gen-from-too-much : command_of (codes "gen" ∷ codes "18446744073709551616" ∷ []) ≡ None
unfolding words_on_literals
gen-from-too-much = refl

gen-with-a-trace : command_of (codes "gen" ∷ codes "1" ∷ codes "--trace=t" ∷ []) ≡ None
unfolding words_on_literals
gen-with-a-trace = refl
