use Rattle.std.proofs.Common.{All, sym, ap, subst, ◌∙◌, arith}
use Rattle.ss_meaning.specs.Session.{SessionEntry}
use Rattle.ss_meaning.specs.SessionLists.{put_session}
use Rattle.ss_session.specs.States.{State, CountsFew}
use Rattle.ss_session.specs.SessionHeld.{join_of}
use Rattle.ss_session.proofs.SessionLate.{put_held}
use Rattle.ss_session.proofs.session.Session.take_row.Goals as goal

pub put-requires-clause-few : goal.put-requires-clause-few
put-requires-clause-few c =
    subst (All CountsFew) (sym c.in_ok-reserve-2.ensures.items)
    (subst (λ (s : State). All CountsFew s.entries) (sym c.self.view_is) c.requires.few)

pub invariant_of-self-2 : goal.invariant_of-self-2
invariant_of-self-2 c =
    let s = c.single-session.result in
    let es = c.self.inside.entries.items in
    let first = ap (λ (t : SessionEntry). t.first) c.single-session.ensures in
    let last = ap (λ (t : SessionEntry). t.last) c.single-session.ensures in
    put_held c.sessions_are_apart.ensures.put c.self.inside.gap (join_of c.self.inside.agg) c.self.inside.soonest c.min-self-inside.result s es
    c.put.new.entries.items (omega (arith, first, last)) (omega (arith, c.min-self-inside.ensures)) (omega (arith, c.min-self-inside.ensures, c.closing.ensures))
    c.self.invariant (c.put.ensures ∙ ap (put_session c.self.inside.gap (join_of c.self.inside.agg) s) c.in_ok-reserve-2.ensures.items)
