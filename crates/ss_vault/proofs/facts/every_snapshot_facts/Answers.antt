use Rattle.ss_vault.proofs.Coded as gathered
use Rattle.ss_vault.proofs.facts.every_snapshot_facts.Goals as goal

pub returns : goal.returns
returns c =
    gathered.snapshot_facts c.plans_have_numbers.ensures.meant c.plans_have_numbers.ensures.inputs c.first_frames_are_empty.ensures
    c.frames_have_codes.ensures.meant c.frames_have_codes.ensures.codes c.within_is_may_accept.ensures
