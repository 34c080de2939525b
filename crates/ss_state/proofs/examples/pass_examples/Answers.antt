use Rattle.std.proofs.Common.{refl}
use Rattle.ss_state.specs.Numbers.{pos, out, size, wanted_input}
use Rattle.ss_state.specs.LowWater.{snap_within, low, least_wanted, need, start_at, start, required}
use Rattle.ss_state.specs.Journal.{change}
use Rattle.ss_state.specs.Acts.{offer, offer_nothing, tail_answer, vault_answer, list_answer, keep, snap_act}
use Rattle.ss_state.specs.Acts.{load_tail, load_inst, flush_act, take_act, collect_act, trim_act, pass_act}
use Rattle.ss_state.specs.Step.{read_at}
use Rattle.ss_state.proofs.examples.pass_examples.Goals as goal

pub returns-clause-due : goal.returns-clause-due
unfolding pos out size wanted_input snap_within low least_wanted need change offer offer_nothing tail_answer vault_answer list_answer keep snap_act load_tail load_inst flush_act take_act collect_act trim_act pass_act read_at start required start_at
returns-clause-due c = refl

pub returns-clause-over_four : goal.returns-clause-over_four
unfolding pos out size wanted_input snap_within low least_wanted need change offer offer_nothing tail_answer vault_answer list_answer keep snap_act load_tail load_inst flush_act take_act collect_act trim_act pass_act read_at start required start_at
returns-clause-over_four c = (refl, refl, refl, refl)
