use Rattle.std.proofs.Common.{refl, arith, inr}
use Rattle.ss_state.specs.Numbers.{pos, out, size, wanted_input}
use Rattle.ss_state.specs.LowWater.{snap_within, low, least_wanted, need}
use Rattle.ss_state.specs.Journal.{change}
use Rattle.ss_state.specs.Acts.{offer, offer_nothing, tail_answer, vault_answer, list_answer, keep, snap_act}
use Rattle.ss_state.specs.Acts.{load_tail, load_inst, flush_act, take_act, collect_act, trim_act, pass_act}
use Rattle.ss_state.specs.Step.{read_at}
use Rattle.ss_state.specs.Rule.{snap_due, rule}
use Rattle.ss_state.proofs.examples.storing_examples.Goals as goal

pub returns-clause-waits_and_old : goal.returns-clause-waits_and_old
unfolding pos out size wanted_input snap_within low least_wanted need change offer offer_nothing tail_answer vault_answer list_answer keep snap_act load_tail load_inst flush_act take_act collect_act trim_act pass_act read_at rule snap_due
returns-clause-waits_and_old c = refl

pub returns-clause-trim : goal.returns-clause-trim
unfolding pos out size wanted_input snap_within low least_wanted need change offer offer_nothing tail_answer vault_answer list_answer keep snap_act load_tail load_inst flush_act take_act collect_act trim_act pass_act read_at rule snap_due
returns-clause-trim c = (refl, refl, refl)

pub returns-clause-fault : goal.returns-clause-fault
unfolding pos out size wanted_input snap_within low least_wanted need change offer offer_nothing tail_answer vault_answer list_answer keep snap_act load_tail load_inst flush_act take_act collect_act trim_act pass_act read_at rule snap_due
returns-clause-fault c = (inr (2, 3, omega arith, omega arith, refl, refl), (2, omega arith, refl), refl)
