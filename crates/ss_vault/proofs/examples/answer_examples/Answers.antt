use Rattle.std.proofs.Common.{refl}
use Rattle.ss_state.specs.LowWater.{low, snap_within}
use Rattle.ss_state.specs.Numbers.{out, size}
use Rattle.ss_vault.proofs.examples.answer_examples.Goals as goal

pub returns-clause-flush : goal.returns-clause-flush
returns-clause-flush c = (refl, refl, refl, refl)

pub returns-clause-keep : goal.returns-clause-keep
unfolding low out snap_within
returns-clause-keep c = (refl, refl, refl)

pub returns-clause-take : goal.returns-clause-take
unfolding size
returns-clause-take c = (refl, refl, refl)

pub returns-clause-trim : goal.returns-clause-trim
unfolding low out snap_within
returns-clause-trim c = (refl, refl)
