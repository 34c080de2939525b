use Rattle.std.proofs.Common.{◌≡◌, ℕ, ◌<◌, Some, map, true}
use Rattle.std.specs.Prelude.{IsSome, slice_get}
use Rattle.ss_water.specs.Graph.{reads}
use Rattle.ss_water.specs.Needs.{IsLeastIfAny, SomeWant}
use Rattle.ss_water.specs.declared.node.Node.{Node}
use Rattle.ss_water.proofs.needs.need.Given as goal

-- the least that the nodes passed want, and that there is one if any of them reads the stream
abbrev pub invariant-loop-w : goal.invariant-loop-w
invariant-loop-w l = record {
  least : IsLeastIfAny (SomeWant l.graph (record { rows = map (λ snaps. snaps.items) l.rows; dur = l.dur; taken = l.taken }) l.j l.w) l.least;
  some : (u : ℕ) (node : Node) → u < l.w → slice_get l.graph u ≡ Some node → reads node l.j ≡ true → IsSome l.least;
}
