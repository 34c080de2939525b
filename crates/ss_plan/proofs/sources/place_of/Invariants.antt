use Rattle.std.proofs.Common.{◌≡◌}
use Rattle.ss_plan.specs.Plan.{sources_before}
use Rattle.ss_plan.proofs.sources.place_of.Given as goal

abbrev pub invariant-loop-u : goal.invariant-loop-u
invariant-loop-u l = l.place ≡ sources_before l.job l.u
