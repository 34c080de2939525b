use Rattle.std.proofs.Common.{◌≡◌, ◌++◌, take}
use Rattle.ss_report.specs.StateText.{snaps_text}
use Rattle.ss_report.proofs.table_lines.write_numbers.Given as goal

-- the numbers of the snapshots passed are appended
abbrev pub invariant-loop-snap : goal.invariant-loop-snap
invariant-loop-snap l = l.out.items ≡ l.fn.out.items ++ snaps_text (take l.snap-index l.snaps)
