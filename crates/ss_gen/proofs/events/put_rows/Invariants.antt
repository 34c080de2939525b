use Rattle.std.proofs.Common.{◌≡◌, ◌++◌, ◌*◌}
use Rattle.ss_gen.specs.Draws.{state_after}
use Rattle.ss_gen.specs.Events.{rows_text}
use Rattle.ss_gen.proofs.events.put_rows.Given as goal

-- the lines of the rows passed are appended, and their draws are made
abbrev pub invariant-loop-i : goal.invariant-loop-i
invariant-loop-i l = record {
  text : l.out.items ≡ l.fn.out.items ++ rows_text l.seed l.i;
  place : l.draws ≡ state_after l.seed (5 * l.i);
}
