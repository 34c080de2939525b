use Rattle.std.proofs.Common.{◌≡◌, map, take}
use Rattle.ss_vault.specs.NumbersHeld.{first_rows}
use Rattle.ss_vault.proofs.numbers.first_snaps.Given as goal

abbrev pub invariant-loop-v : goal.invariant-loop-v
invariant-loop-v l = map (λ row. row.items) l.snaps.items ≡ map (λ node. first_rows node.kind) (take l.v l.graph)
