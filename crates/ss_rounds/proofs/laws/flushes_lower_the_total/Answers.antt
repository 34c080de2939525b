use Rattle.ss_rounds.proofs.Flushes.{flushes_lower_the_total, due_flushes_change_nothing}
use Rattle.ss_rounds.proofs.Passes.{passes_raise_nothing, no_pass_is_due_behind_one, pass_and_flush_lower_the_total}
use Rattle.ss_rounds.proofs.laws.flushes_lower_the_total.Goals as goal

pub returns : goal.returns
returns c =
    let keep = c.acts_keep_joint.ensures.made in
    let marks = c.marks_are_least.ensures.required in
    let collects = c.pass_collects_exactly.ensures in
    record {
      flush = flushes_lower_the_total;
      pass = passes_raise_nothing keep marks collects;
      still = due_flushes_change_nothing;
      behind = no_pass_is_due_behind_one collects;
      both = pass_and_flush_lower_the_total keep marks collects;
    }
