use Rattle.std.proofs.Common.{refl}
use Rattle.ss_state.specs.Numbers.{pos, out, size, wanted_input}
use Rattle.ss_state.specs.LowWater.{snap_within, low, least_wanted, need}
use Rattle.ss_state.specs.Journal.{change}
use Rattle.ss_state.specs.Acts.{offer, offer_nothing, tail_answer, vault_answer, list_answer, keep, snap_act}
use Rattle.ss_state.specs.Acts.{load_tail, load_inst, flush_act, take_act, collect_act, trim_act, pass_act}
use Rattle.ss_state.specs.Step.{read_at}
use Rattle.ss_state.specs.Rule.{snap_due}
use Rattle.ss_rounds.specs.Measure.{store_left, floor, work_left, far, near, total_left}
use Rattle.ss_rounds.proofs.examples.total_examples.Goals as goal

pub returns-clause-acts : goal.returns-clause-acts
unfolding pos out size wanted_input snap_within low least_wanted need change offer offer_nothing tail_answer vault_answer list_answer keep snap_act load_tail load_inst flush_act take_act collect_act trim_act pass_act read_at snap_due store_left floor work_left far near total_left
returns-clause-acts c = (refl, refl, refl, refl)

pub returns-clause-crash : goal.returns-clause-crash
unfolding pos out size wanted_input snap_within low least_wanted need change offer offer_nothing tail_answer vault_answer list_answer keep snap_act load_tail load_inst flush_act take_act collect_act trim_act pass_act read_at snap_due store_left floor work_left far near total_left
returns-clause-crash c = (refl, refl, refl)

pub returns-clause-pass : goal.returns-clause-pass
unfolding pos out size wanted_input snap_within low least_wanted need change offer offer_nothing tail_answer vault_answer list_answer keep snap_act load_tail load_inst flush_act take_act collect_act trim_act pass_act read_at snap_due store_left floor work_left far near total_left
returns-clause-pass c = (refl, refl, refl)

pub returns-clause-waits : goal.returns-clause-waits
unfolding pos out size wanted_input snap_within low least_wanted need change offer offer_nothing tail_answer vault_answer list_answer keep snap_act load_tail load_inst flush_act take_act collect_act trim_act pass_act read_at snap_due store_left floor work_left far near total_left
returns-clause-waits c = (refl, refl, refl)
