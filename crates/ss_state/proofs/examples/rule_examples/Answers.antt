use Rattle.std.proofs.Common.{refl, arith, ◌≤◌}
use Rattle.ss_state.specs.Numbers.{pos, out, size, wanted_input}
use Rattle.ss_state.specs.LowWater.{snap_within, low, least_wanted, need}
use Rattle.ss_state.specs.Journal.{change}
use Rattle.ss_state.specs.Acts.{offer, offer_nothing, tail_answer, vault_answer, list_answer, keep, snap_act}
use Rattle.ss_state.specs.Acts.{load_tail, load_inst, flush_act, take_act, collect_act, trim_act, pass_act}
use Rattle.ss_state.specs.Step.{read_at}
use Rattle.ss_state.specs.Rule.{snap_due, rule}
use Rattle.ss_state.proofs.examples.rule_examples.Goals as goal

pub returns-clause-next_acts : goal.returns-clause-next_acts
unfolding pos out size wanted_input snap_within low least_wanted need change offer offer_nothing tail_answer vault_answer list_answer keep snap_act load_tail load_inst flush_act take_act collect_act trim_act pass_act read_at rule snap_due
returns-clause-next_acts c = (refl, refl, refl, refl, refl, refl)

pub returns-clause-replay : goal.returns-clause-replay
unfolding pos out size wanted_input snap_within low least_wanted need change offer offer_nothing tail_answer vault_answer list_answer keep snap_act load_tail load_inst flush_act take_act collect_act trim_act pass_act read_at rule snap_due
returns-clause-replay c = (refl, refl)

pub returns-clause-obeyed : goal.returns-clause-obeyed
unfolding pos out size wanted_input snap_within low least_wanted need change offer offer_nothing tail_answer vault_answer list_answer keep snap_act load_tail load_inst flush_act take_act collect_act trim_act pass_act read_at rule snap_due
returns-clause-obeyed c = (((omega arith, refl), omega arith), refl, (((omega arith, refl), omega arith), refl, (((omega arith, refl), omega arith), refl, (((omega arith, refl), omega arith), refl, tt))))

pub returns-clause-in_order : goal.returns-clause-in_order
unfolding pos out size wanted_input snap_within low least_wanted need change offer offer_nothing tail_answer vault_answer list_answer keep snap_act load_tail load_inst flush_act take_act collect_act trim_act pass_act read_at rule snap_due
returns-clause-in_order c = (((omega arith, refl), omega arith), refl, (((omega arith, refl), omega arith), refl, (((omega arith, refl), omega arith), refl, ((omega arith, refl), refl, ((omega arith, refl), refl, (((omega arith, refl), omega arith), refl, tt))))))

pub returns-clause-left_out : goal.returns-clause-left_out
unfolding pos out size wanted_input snap_within low least_wanted need change offer offer_nothing tail_answer vault_answer list_answer keep snap_act load_tail load_inst flush_act take_act collect_act trim_act pass_act read_at rule snap_due
returns-clause-left_out c = (λ h. cc, λ h. h.2.2)

pub returns-clause-not_by_the_rule : goal.returns-clause-not_by_the_rule
unfolding pos out size wanted_input snap_within low least_wanted need change offer offer_nothing tail_answer vault_answer list_answer keep snap_act load_tail load_inst flush_act take_act collect_act trim_act pass_act read_at rule snap_due
returns-clause-not_by_the_rule c = (λ h. cc, λ h. let few : 1000 ≤ 64 = h.0.2 in omega arith)
