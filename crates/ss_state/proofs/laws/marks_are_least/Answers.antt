use Rattle.ss_state.proofs.Marks.{least_wanted_is_one, need_is_least, required_are_marks, marks_are_one}
use Rattle.ss_state.proofs.laws.marks_are_least.Goals as goal

pub returns : goal.returns
returns c = record { one = least_wanted_is_one; need = need_is_least; required = required_are_marks; no_others = marks_are_one }
