use Rattle.std.proofs.Common.{refl}
use Rattle.ss_state.specs.Numbers.{pos, out, size, wanted_input}
use Rattle.ss_state.specs.LowWater.{snap_within, low, least_wanted, need}
use Rattle.ss_state.specs.Journal.{change}
use Rattle.ss_state.specs.Acts.{offer, offer_nothing, tail_answer, vault_answer, list_answer, keep, snap_act}
use Rattle.ss_state.specs.Acts.{load_tail, load_inst, flush_act, take_act, collect_act, trim_act, pass_act}
use Rattle.ss_state.specs.Step.{read_at}
use Rattle.ss_state.proofs.examples.collection_examples.Goals as goal

pub returns-clause-ahead : goal.returns-clause-ahead
unfolding pos out size wanted_input snap_within low least_wanted need change offer offer_nothing tail_answer vault_answer list_answer keep snap_act load_tail load_inst flush_act take_act collect_act trim_act pass_act read_at
returns-clause-ahead c = refl

pub returns-clause-ahead_leaves : goal.returns-clause-ahead_leaves
unfolding pos out size wanted_input snap_within low least_wanted need change offer offer_nothing tail_answer vault_answer list_answer keep snap_act load_tail load_inst flush_act take_act collect_act trim_act pass_act read_at
returns-clause-ahead_leaves c = refl

pub returns-clause-slow_replica : goal.returns-clause-slow_replica
unfolding pos out size wanted_input snap_within low least_wanted need change offer offer_nothing tail_answer vault_answer list_answer keep snap_act load_tail load_inst flush_act take_act collect_act trim_act pass_act read_at
returns-clause-slow_replica c = refl
