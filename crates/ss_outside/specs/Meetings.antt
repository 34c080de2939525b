-- How the meeting of two workers is kept in a word.
use Rattle.std.specs.Prelude.{ℕ}
use Rattle.ss_outside.specs.declared.meeting.Meeting.{Meeting}
use Rattle.ss_outside.specs.declared.meeting.Meeting.TheVariants.{Empty, Arriving, Held, Met, Missed}

abbrev pub meeting_number : Meeting → ℕ
meeting_number Empty = 0
meeting_number Arriving = 1
meeting_number Held = 2
meeting_number Met = 3
meeting_number Missed = 4
