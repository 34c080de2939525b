use Rattle.std.proofs.Common.{nat_le}
use Rattle.std.proofs.lemmas.List.Filters.{FiltersInPlace}
use Rattle.ss_vault.proofs.numbers.drop_below.Given as goal

abbrev pub invariant-loop-place : goal.invariant-loop-place
invariant-loop-place l = FiltersInPlace (λ snap. nat_le l.low snap.n) l.initial.snaps.items l.snaps.items l.kept l.place
