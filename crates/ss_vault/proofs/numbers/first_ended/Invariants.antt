use Rattle.std.proofs.Common.{◌≡◌, map, not, take}
use Rattle.ss_water.specs.Graph.{is_sink}
use Rattle.ss_vault.proofs.numbers.first_ended.Given as goal

abbrev pub invariant-loop-v : goal.invariant-loop-v
invariant-loop-v l = l.ended.items ≡ map (λ node. not (is_sink node.kind)) (take l.v l.graph)
