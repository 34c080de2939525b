-- Readings of the acts that are wrong, each with a state on which it differs from the right one.
use Rattle.std.specs.Prelude.{◌≡◌, ℕ, ◌+◌, ◌==◌, nat_lt, nat_le, if◌then◌else◌, Option, Some, None, List, [], ◌∷◌}
use Rattle.std.specs.Prelude.{◌++◌, map, filter, flat_map}
use Rattle.ss_fail.specs.declared.act.Act.TheVariants.{Read, Write, Snap, Crash, Load, Lose, Flush, Collect, Trim}
use Rattle.ss_fail.specs.declared.act.Act.TheVariants.{Pass}
use Rattle.ss_fail.specs.declared.outcome.Outcome.TheVariants as outcome
use Rattle.ss_state.specs.Numbers.{VertexNumbers, JobNumbers, vertex, vertices, streams, pos}
use Rattle.ss_state.specs.State.{TailNumbers, InstNumbers, LedgerRow, Ledger, State, row_at, put_row, put_tail}
use Rattle.ss_state.specs.State.{tail_at, insts_at, durable_at}
use Rattle.ss_state.specs.Tails.{appended, restarted}
use Rattle.ss_state.specs.LowWater.{greatest_where, least_of, inputs_from}
use Rattle.ss_state.specs.Journal.{passed_over, all_halves, replay}
use Rattle.ss_state.specs.Acts.{InstAndTailStep, with_one_written, offer}
use Rattle.ss_state.specs.Step.{step}
use Rattle.ss_state.specs.Examples.{job_of_three, job_of_four, state_after, pairs, collected_ahead}

-- wrong: a lose lowers dur to what the tail was last told
abbrev pub lose_lowering_dur : State → ℕ → State
lose_lowering_dur s v =
    let row = record (durable_at s v) { dur = (tail_at s v).seen } in
    let lost = put_tail s v (restarted (tail_at s v) (tail_at s v).seen) in
    record lost { vault = record s.vault { ledger = put_row s.vault.ledger v row } }

-- with it the ledger isn't what the journal tells: a collect has raised dur, of which the tail wasn't told
abbrev pub LoweringDurDiffers : Type 0
LoweringDurDiffers =
    let s = state_after job_of_three (pairs 3 0 0 ++ pairs 3 1 0 ++ Snap 1 0 ∷ Flush 1 3 ∷ Collect 0 ∷ []) in
    ((durable_at (lose_lowering_dur s 0) 0).dur ≡ 0) × ((row_at (replay job_of_three s.vault.journal) 0).dur ≡ 3)
    × ((step job_of_three s (Lose 0)).state.vault.ledger ≡ replay job_of_three s.vault.journal)

-- where the replicas of w that are up stand in stream u
abbrev pub stands_in : VertexNumbers → ℕ → Option InstNumbers → List ℕ
stands_in x u None = []
stands_in x u (Some up) = map (pos x up.n) (inputs_from x u)

-- wrong: a collect drops what every replica has read
abbrev pub need_of_insts : JobNumbers → State → ℕ → ℕ
need_of_insts job s u = least_of (flat_map (λ w. flat_map (stands_in (vertex job w) u) (insts_at s w)) (vertices job))

-- with it elements are dropped that a replica needs which comes up again from its stored snapshot
abbrev pub CollectingByInstsDiffers : Type 0
CollectingByInstsDiffers =
    let s = state_after job_of_three (pairs 3 0 0 ++ pairs 3 1 0 ++ pairs 3 1 1 ++ Flush 0 3 ∷ []) in
    (need_of_insts job_of_three s 0 ≡ 3) × ((step job_of_three s (Collect 0)).outcome ≡ outcome.Base 0)

-- wrong: a trim keeps the newest snapshot alone
abbrev pub newest_alone : LedgerRow → LedgerRow
newest_alone row = record row { snaps = filter (λ n. greatest_where (λ m. nat_lt n m) row.snaps == 0) row.snaps }

-- with it no snapshot is left whose elements are all stored
abbrev pub TrimmingToTheNewestDiffers : Type 0
TrimmingToTheNewestDiffers =
    let s = state_after job_of_three (pairs 3 0 0 ++ pairs 3 1 0 ++ Snap 1 0 ∷ []) in
    ((newest_alone (durable_at s 1)).snaps ≡ 3 ∷ [])
    × ((durable_at (step job_of_three s (Trim 1)).state 1).snaps ≡ 0 ∷ 3 ∷ [])

-- wrong: a pass goes from the first declared stream to the last
abbrev pub pass_from_sources : JobNumbers → Ledger → Ledger
pass_from_sources job l = passed_over job l (streams job) (all_halves job)

-- with it a stream is collected before its reader's mark has risen, and keeps what nobody needs
abbrev pub PassingFromSourcesDiffers : Type 0
PassingFromSourcesDiffers =
    let s = state_after job_of_four (pairs 3 0 0 ++ pairs 3 1 0 ++ pairs 3 2 0
    ++ Snap 1 0 ∷ Snap 2 0 ∷ Flush 2 3 ∷ []) in
    ((row_at (pass_from_sources job_of_four s.vault.ledger) 0).base ≡ 0)
    × ((durable_at (step job_of_four s Pass).state 0).base ≡ 3)

-- wrong: a write above the end of the tail stores the element there
abbrev pub fills_holes : InstNumbers → ℕ → TailNumbers → InstAndTailStep
fills_holes up n tail =
    if nat_le tail.end n
    then record {
      inst = Some (with_one_written up);
      tail = record (appended tail) { end = n + 1 };
      outcome = outcome.Stored n;
    }
    else offer up n tail

-- with it a lost tail has numbers without elements
abbrev pub FillingHolesDiffers : Type 0
FillingHolesDiffers =
    let s = state_after job_of_three (pairs 3 0 0 ++ Flush 0 1 ∷ Lose 0 ∷ Read 0 0 ∷ []) in
    ((fills_holes (record { n = 4; left = 1 }) 3 (tail_at s 0)).outcome ≡ outcome.Stored 3)
    × ((step job_of_three s (Write 0 0)).outcome ≡ outcome.Gap 1)

-- wrong: a replica that comes up begins from the oldest stored snapshot
abbrev pub load_oldest : LedgerRow → InstNumbers
load_oldest row = record { n = least_of row.snaps; left = 0 }

-- with it, it wants elements that are gone
abbrev pub LoadingTheOldestDiffers : Type 0
LoadingTheOldestDiffers =
    let s = state_after job_of_three (collected_ahead ++ Crash 1 1 ∷ []) in
    ((load_oldest (durable_at s 1)).n ≡ 0) × ((durable_at s 0).base ≡ 3)
    × ((step job_of_three s (Load 1 1)).outcome ≡ outcome.Loaded 3)
