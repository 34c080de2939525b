use Rattle.std.proofs.Common.{rules, nat_lt}
use Rattle.std.proofs.lemmas.Fn.{filter_same}
use Rattle.ss_meaning.specs.Session.{SessionEntry, closing}
use Rattle.ss_session.proofs.session.forget.Goals as goal

pub returns : goal.returns
returns c = filter_same _ (λ (s : SessionEntry). nat_lt c.args.low (closing c.args.gap s)) _ (λ x b f' r. search rules) _ _ c.retain.ensures.filtered
