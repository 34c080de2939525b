use Rattle.std.proofs.Common.{refl}
use Rattle.ss_state.specs.Numbers.{pos, out, size, wanted_input}
use Rattle.ss_state.specs.LowWater.{snap_within, low, least_wanted, need}
use Rattle.ss_state.specs.Journal.{change}
use Rattle.ss_state.specs.Acts.{offer, offer_nothing, tail_answer, vault_answer, list_answer, keep, snap_act}
use Rattle.ss_state.specs.Acts.{load_tail, load_inst, flush_act, take_act, collect_act, trim_act, pass_act}
use Rattle.ss_state.specs.Step.{read_at}
use Rattle.ss_state.proofs.wrong_readings.wrong_readings_differ.Goals as goal

pub returns-clause-lose_lowering_dur : goal.returns-clause-lose_lowering_dur
unfolding pos out size wanted_input snap_within low least_wanted need change offer offer_nothing tail_answer vault_answer list_answer keep snap_act load_tail load_inst flush_act take_act collect_act trim_act pass_act read_at
returns-clause-lose_lowering_dur c = (refl, refl, refl)

pub returns-clause-need_of_insts : goal.returns-clause-need_of_insts
unfolding pos out size wanted_input snap_within low least_wanted need change offer offer_nothing tail_answer vault_answer list_answer keep snap_act load_tail load_inst flush_act take_act collect_act trim_act pass_act read_at
returns-clause-need_of_insts c = (refl, refl)

pub returns-clause-newest_alone : goal.returns-clause-newest_alone
unfolding pos out size wanted_input snap_within low least_wanted need change offer offer_nothing tail_answer vault_answer list_answer keep snap_act load_tail load_inst flush_act take_act collect_act trim_act pass_act read_at
returns-clause-newest_alone c = (refl, refl)

pub returns-clause-pass_from_sources : goal.returns-clause-pass_from_sources
unfolding pos out size wanted_input snap_within low least_wanted need change offer offer_nothing tail_answer vault_answer list_answer keep snap_act load_tail load_inst flush_act take_act collect_act trim_act pass_act read_at
returns-clause-pass_from_sources c = (refl, refl)

pub returns-clause-fills_holes : goal.returns-clause-fills_holes
unfolding pos out size wanted_input snap_within low least_wanted need change offer offer_nothing tail_answer vault_answer list_answer keep snap_act load_tail load_inst flush_act take_act collect_act trim_act pass_act read_at
returns-clause-fills_holes c = (refl, refl)

pub returns-clause-load_oldest : goal.returns-clause-load_oldest
unfolding pos out size wanted_input snap_within low least_wanted need change offer offer_nothing tail_answer vault_answer list_answer keep snap_act load_tail load_inst flush_act take_act collect_act trim_act pass_act read_at
returns-clause-load_oldest c = (refl, refl, refl)
