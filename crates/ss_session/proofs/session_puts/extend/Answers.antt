use Rattle.std.proofs.Common.{ap, ◌∙◌}
use Rattle.std.proofs.lemmas.List.{get_or_default}
use Rattle.ss_meaning.specs.Session.{SessionEntry}
use Rattle.ss_meaning.specs.SessionLists.{joined_sessions}
use Rattle.ss_session.specs.SessionHeld.{join_of}
use Rattle.ss_session.proofs.SessionExtends.{extended_is}
use Rattle.ss_session.proofs.session_puts.extend.Goals as goal

pub returns : goal.returns
returns c =
    let es = c.args.entries.now.items in
    let s = c.args.session.now in
    let join = join_of c.args.agg in
    let here = c.index.ensures ∙ get_or_default es c.args.at c.index.result.now s c.requires.inside in
    extended_is c.args.gap join s c.args.at es c.joined-joined.result c.absorb-with_second.result c.absorb-with_second.new.entries.items c.requires.inside
    (c.joined-joined.ensures ∙ ap (λ (e : SessionEntry). joined_sessions join e s) here) c.absorb-with_second.ensures.session c.absorb-with_second.ensures.items
