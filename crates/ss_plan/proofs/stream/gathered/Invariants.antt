use Rattle.std.proofs.Common.{◌≡◌, map, take}
use Rattle.ss_meaning.specs.Meaning.{streams_at}
use Rattle.ss_plan.specs.Plan.{inputs_read, lists_of}
use Rattle.ss_plan.proofs.stream.gathered.Given as goal

abbrev pub invariant-loop-i : goal.invariant-loop-i
invariant-loop-i l =
    map (λ list. list.now) l.lists.items ≡ streams_at (lists_of l.streams) (take l.i (inputs_read l.node))
