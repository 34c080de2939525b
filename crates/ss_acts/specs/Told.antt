-- What an act comes to, from what a part answered.
use Rattle.std.specs.Prelude.{ℕ, Bool, true, false}
use Rattle.ss_fail.specs.declared.outcome.Outcome.{Outcome}
use Rattle.ss_fail.specs.declared.outcome.Outcome.TheVariants as outcome
use Rattle.ss_tail.specs.Held.{TailHeld, begun_at, noted, trimmed}
use Rattle.ss_tail.specs.declared.answers.Wrote.{Wrote}
use Rattle.ss_tail.specs.declared.answers.Wrote.TheVariants as wrote
use Rattle.ss_vault.specs.declared.answers.Flush.{Flush}
use Rattle.ss_vault.specs.declared.answers.Flush.TheVariants as flush
use Rattle.ss_vault.specs.declared.answers.Keep.{Keep}
use Rattle.ss_vault.specs.declared.answers.Keep.TheVariants as keep
use Rattle.ss_vault.specs.declared.answers.Take.{Take}
use Rattle.ss_vault.specs.declared.answers.Take.TheVariants as take
use Rattle.ss_vertex.specs.Inst.{InstState, crashed, with_one_done}

-- of a flush
abbrev pub flush_outcome : Flush → Outcome
flush_outcome (flush.PassDue since) = outcome.PassDue since
flush_outcome (flush.Apart from dur) = outcome.Apart from dur
flush_outcome (flush.Flushed count dur) = outcome.Flushed count

-- the tail that was flushed, told what is stored of its stream, where the stored elements begin at `base`
abbrev pub tail_flushed : TailHeld → ℕ → Flush → TailHeld
tail_flushed tail base (flush.PassDue since) = tail
tail_flushed tail base (flush.Apart from dur) = begun_at tail dur
tail_flushed tail base (flush.Flushed count dur) = trimmed (noted tail dur) base

-- the first element that isn't stored, as far as a flush tells it
abbrev pub dur_told : Flush → ℕ
dur_told (flush.PassDue since) = 0
dur_told (flush.Apart from dur) = dur
dur_told (flush.Flushed count dur) = dur

-- of element n that was offered to a tail
abbrev pub write_outcome : ℕ → Wrote → Outcome
write_outcome n wrote.Stored = outcome.Stored n
write_outcome n wrote.Known = outcome.Known n
write_outcome n wrote.Old = outcome.Old n
write_outcome n (wrote.Gap end) = outcome.Gap end

-- the replica that offered it: it is done with the element, or goes down before a gap
abbrev pub inst_written : InstState → Wrote → InstState
inst_written inst wrote.Stored = with_one_done inst
inst_written inst wrote.Known = with_one_done inst
inst_written inst wrote.Old = with_one_done inst
inst_written inst (wrote.Gap end) = crashed inst

-- of snapshot n
abbrev pub keep_outcome : ℕ → Keep → Outcome
keep_outcome n keep.Known = outcome.Known n
keep_outcome n (keep.Old low) = outcome.Old low
keep_outcome n keep.Kept = outcome.Kept n

-- of a take
abbrev pub take_outcome : Take → Outcome
take_outcome take.Ended = outcome.Ended
take_outcome (take.NotYet dur) = outcome.WaitDur dur
take_outcome (take.Took n) = outcome.Took n

-- of a trim of an operator, or of a source
abbrev pub trim_outcome : Bool → ℕ → Outcome
trim_outcome true n = outcome.Low n
trim_outcome false n = outcome.Mark n
