-- Which command the words after the program's name say.
use Rattle.std.specs.Prelude.{ℕ, ◌&&◌, ◌||◌, not, nat_le, nat_lt, ◌^◌, Bool, true, List, [], ◌∷◌, length, Option, Some, None}
use Rattle.std.specs.Prelude.{option_and_then, option_map, is_some, if◌then◌else◌, codes, bytes_eq, ⊤}
use Rattle.std.specs.Char.{is_ascii_digit}
use Rattle.std.specs.List.{list_all}
use Rattle.std.specs.Str.Parse.{digits_value}
use Rattle.clap.specs.Simple.{on_top}
use Rattle.clap.specs.Words.{App, Kinds, Row, Rule, fault_of, first_of, matches_of, new_app, new_rule, with_rule}

infixl 10 ◌>>=◌
abbrev pub ◌>>=◌ : {A B : Type 0} → Option A → (A → Option B) → Option B
o >>= f = option_and_then f o

infixl 10 ◌>>◌
abbrev pub ◌>>◌ : {A B : Type 0} → Option A → Option B → Option B
o >> p = option_and_then (λ _. p) o

-- goes on where the test holds
abbrev pub check : Bool → Option ⊤
check test = if test then Some tt else None

-- how a job is run, besides its file
pub record RunText : Type 0 where
  -- the file that lists the failures
  pub failures : Option (List ℕ)
  -- the name that the trace is put to
  pub trace : Option (List ℕ)
  pub workers : Option ℕ

-- what a command says: what is done, and the names of the files that it is done with
pub data CommandText : Type 0 where
  -- of a job file
  check_job : List ℕ → CommandText
  plain_job : List ℕ → CommandText
  run_job : List ℕ → RunText → CommandText
  -- of a job file and a schedule
  play_job : List ℕ → List ℕ → CommandText
  -- a job with large event files is made, from a seed
  gen_from : ℕ → CommandText

-- a word that has to be given
abbrev pub required_word : List ℕ → Rule
required_word name = record (new_rule name) { required = true }

-- an option with one value, which may be given once
abbrev pub option_with_value : List ℕ → Rule
option_with_value name = record (new_rule name) { long = Some name }

-- no word stands for the program's name
abbrev pub without_name : App → App
without_name = on_top (λ top. record top { no_binary_name = true })

-- these rules behind those that there are
abbrev pub with_rules : App → List Rule → App
with_rules app [] = app
with_rules app (rule ∷ rules) = with_rules (with_rule app rule) rules

-- the command as `clap` knows it: an action and then a subject, and the options in any place
unfoldable pub command_line : App
command_line =
    with_rules (without_name (new_app (codes "streamscope")))
    (required_word (codes "ACTION") ∷ required_word (codes "SUBJECT") ∷ option_with_value (codes "schedule")
    ∷ option_with_value (codes "failures") ∷ option_with_value (codes "trace")
    ∷ option_with_value (codes "workers") ∷ [])

-- what `clap` finds, where it refuses by no kind of error
abbrev pub unless_refused : Kinds → List Row → Option (List Row)
unless_refused [] rows = Some rows
unless_refused (kind ∷ kinds) rows = None

-- what `clap` finds in the words, where it takes them
abbrev pub rows_in : List (List ℕ) → Option (List Row)
rows_in words = unless_refused (fault_of command_line words) (matches_of command_line words)

-- a word that may name a file: 1 to 200 bytes
abbrev pub is_file_word : List ℕ → Bool
is_file_word word = nat_le 1 (length word) && nat_le (length word) 200

-- the number that a word says where it says a number of workers: decimal digits, with a value of 1 to 8
abbrev pub workers_in : List ℕ → Option ℕ
workers_in word =
    if list_all is_ascii_digit word && nat_le 1 (digits_value 10 word) && nat_le (digits_value 10 word) 8
    then Some (digits_value 10 word) else None

-- the number that a word says where it says a seed: decimal digits, with a value below 2 ^ 64
abbrev pub seed_in : List ℕ → Option ℕ
seed_in word =
    if nat_le 1 (length word) && list_all is_ascii_digit word && nat_lt (digits_value 10 word) (2 ^ 64)
    then Some (digits_value 10 word) else None

-- the values of the options, where they are given
pub record Given : Type 0 where
  pub schedule : Option (List ℕ)
  pub failures : Option (List ℕ)
  pub trace : Option (List ℕ)
  pub workers : Option (List ℕ)

abbrev pub given_in : List Row → Given
given_in rows = record {
  schedule = first_of (codes "schedule") rows;
  failures = first_of (codes "failures") rows;
  trace = first_of (codes "trace") rows;
  workers = first_of (codes "workers") rows;
}

-- none but the schedule is given
abbrev pub gives_no_run : Given → Bool
gives_no_run given = not (is_some given.failures || is_some given.trace || is_some given.workers)

-- the file of an option that may be left out
abbrev pub file_given : Option (List ℕ) → Option (Option (List ℕ))
file_given None = Some None
file_given (Some word) = if is_file_word word then Some (Some word) else None

-- and its number of workers
abbrev pub workers_given : Option (List ℕ) → Option (Option ℕ)
workers_given None = Some None
workers_given (Some word) = option_map (λ workers. Some workers) (workers_in word)

-- a command that takes no option
abbrev pub alone : CommandText → Given → Option CommandText
alone command given = if gives_no_run given && not (is_some given.schedule) then Some command else None

-- how a job is run: with workers there is no trace
abbrev pub run_given : Given → Option RunText
run_given given = do
  check (not (is_some given.schedule || (is_some given.trace && is_some given.workers)))
  failures ← file_given given.failures
  trace ← file_given given.trace
  workers ← workers_given given.workers
  Some (record { failures = failures; trace = trace; workers = workers })

-- the schedule that is played
abbrev pub schedule_given : Given → Option (List ℕ)
schedule_given given = do
  check (gives_no_run given)
  schedule ← given.schedule
  if is_file_word schedule then Some schedule else None

-- a job is made from the seed that a word says
abbrev pub gen_given : List ℕ → Given → Option CommandText
gen_given word given = do
  seed ← seed_in word
  alone (gen_from seed) given

-- the command of an action with a job file and options
abbrev pub command_with_job : List ℕ → List ℕ → Given → Option CommandText
command_with_job action job given =
    if bytes_eq action (codes "check") then alone (check_job job) given
    else (if bytes_eq action (codes "plain") then alone (plain_job job) given
    else (if bytes_eq action (codes "run") then option_map (run_job job) (run_given given)
    else (if bytes_eq action (codes "play") then option_map (play_job job) (schedule_given given) else None)))

-- the command of an action with a subject and options: the subject is a seed for `gen`, and otherwise names a file
abbrev pub command_for : List ℕ → List ℕ → Given → Option CommandText
command_for action subject given =
    if bytes_eq action (codes "gen") then gen_given subject given
    else (if is_file_word subject then command_with_job action subject given else None)

-- the command that words say in which `clap` finds this: subject and options are given as the action takes them
abbrev pub command_in : List Row → Option CommandText
command_in rows = do
  action ← first_of (codes "ACTION") rows
  subject ← first_of (codes "SUBJECT") rows
  command_for action subject (given_in rows)

-- the command that the words after the program's name say
unfoldable pub command_of : List (List ℕ) → Option CommandText
command_of words = rows_in words >>= command_in
