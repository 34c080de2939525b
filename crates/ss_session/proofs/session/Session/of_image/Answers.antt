use Rattle.std.proofs.Common.{subst, arith}
use Rattle.ss_session.specs.SessionSteps.{NoneCloseBefore}
use Rattle.ss_session.proofs.SessionOneSpelling.{image_read-spelled}
use Rattle.ss_session.proofs.SessionReads.{image_read-open}
use Rattle.ss_session.proofs.session.Session.of_image.Goals as goal

pub returns-clause-spelling : goal.returns-clause-spelling
returns-clause-spelling c =
    image_read-spelled c.numbers_have_one_spelling.ensures c.args.gap c.args.agg _ c.args.bytes.now _
    (λ i. omega (arith, c.type_inv.bytes i)) c.in_ok-entries.ensures.ok

pub invariant_of-result : goal.invariant_of-result
invariant_of-result c = record {
  opened = image_read-open c.args.gap c.args.agg _ _ c.in_ok-entries.entries.items c.requires c.in_ok-entries.ensures.ok;
  late = subst (NoneCloseBefore c.args.gap c.soonest-soonest.result) c.as_slice.ensures.value c.soonest-soonest.ensures;
}
