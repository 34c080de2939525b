-- Worked examples: what a vault of a small job answers.
use Rattle.std.specs.Prelude.{◌≡◌, ◌∷◌, []}
use Rattle.ss_state.specs.Examples.{job_of_three}
use Rattle.ss_state.specs.State.{Ledger, empty_row}
use Rattle.ss_vault.specs.Answers.{flush_answer, keep_answer, take_answer, trim_answer}
use Rattle.ss_vault.specs.declared.answers.Flush.TheVariants as flush
use Rattle.ss_vault.specs.declared.answers.Keep.TheVariants as keep
use Rattle.ss_vault.specs.declared.answers.Take.TheVariants as take

-- of a source 3 elements are stored, of an operator 2 and the snapshots 0 and 2, and a sink has put one line
abbrev pub some_stored : Ledger
some_stored = record {
  rows =
      record empty_row { dur = 3 }
      ∷ record empty_row { dur = 2; snaps = 0 ∷ 2 ∷ [] }
      ∷ record empty_row { taken = 1 }
      ∷ [];
  since = 5;
}

-- the sink has put both lines
abbrev pub both_put : Ledger
both_put = record {
  rows = record empty_row { dur = 3 } ∷ record empty_row { dur = 2 } ∷ record empty_row { taken = 2 } ∷ [];
  since = 5;
}

-- all four elements of the operator are stored, and the sink has put their lines
abbrev pub all_put : Ledger
all_put = record {
  rows = record empty_row { dur = 4 } ∷ record empty_row { dur = 4 } ∷ record empty_row { taken = 4 } ∷ [];
  since = 8;
}

-- a batch of two elements from number 2 on, of one that is stored, and of one behind the next; and the first of them
-- where no more than 6 may be stored between two passes
abbrev pub FlushAnswers : Type 0
FlushAnswers =
    (flush_answer job_of_three some_stored 0 2 2 ≡ flush.Flushed 1 4)
    × (flush_answer job_of_three some_stored 0 1 1 ≡ flush.Flushed 0 3)
    × (flush_answer job_of_three some_stored 0 4 1 ≡ flush.Apart 4 3)
    × (flush_answer (record job_of_three { collect_every = 6 }) some_stored 0 2 2 ≡ flush.PassDue 5)

-- a stored snapshot, one below the low-water mark, and one above it
abbrev pub KeepAnswers : Type 0
KeepAnswers =
    (keep_answer job_of_three some_stored 1 2 ≡ keep.Known)
    × (keep_answer job_of_three some_stored 1 1 ≡ keep.Old 2)
    × (keep_answer job_of_three some_stored 1 3 ≡ keep.Kept)

-- an operator's low-water mark, and a source's mark
abbrev pub TrimAnswers : Type 0
TrimAnswers = (trim_answer job_of_three some_stored 1 ≡ 2) × (trim_answer job_of_three some_stored 0 ≡ 3)

-- a line that is stored, one that isn't yet, and none that is left
abbrev pub TakeAnswers : Type 0
TakeAnswers =
    (take_answer job_of_three some_stored 2 ≡ take.Took 1)
    × (take_answer job_of_three both_put 2 ≡ take.NotYet 2)
    × (take_answer job_of_three all_put 2 ≡ take.Ended)
