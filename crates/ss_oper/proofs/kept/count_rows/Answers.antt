use Rattle.std.proofs.Common.{◌≡◌, ℕ, ◌∷◌, [], ◌++◌, List, length, sym, subst}
use Rattle.ss_elem.specs.declared.element.Element.{Element}
use Rattle.ss_expr.specs.Operators.{aggregate_of, field_of}
use Rattle.ss_meaning.specs.Bound.{rows}
use Rattle.ss_meaning.specs.Low.{low}
use Rattle.ss_meaning.specs.Merge.{from_input}
use Rattle.ss_merge.specs.Merging.{arriving}
use Rattle.ss_oper.specs.Kept.{CountsRows}
use Rattle.ss_oper.specs.declared.kept.Kept.{Kept}
use Rattle.ss_oper.specs.declared.kept.Kept.TheVariants.{InSessions}
use Rattle.ss_oper.proofs.SessionCounts.{closed_count}
use Rattle.ss_oper.proofs.kept.count_rows.Goals as goal

pub returns-in-InSessions-clause-rows : goal.returns-in-InSessions-clause-rows
returns-in-InSessions-clause-rows c =
    let session = c.in-InSessions.session in
    let s = session.settings in
    subst (λ (kept : Kept). CountsRows kept c.args.input c.args.x.now c.args.low c.args.bounds c.due-in-InSessions.result) (sym c.in-InSessions.is)
    (λ inputs p stands may are.
    closed_count c.sessions_close_in_time.ensures.count (record { gap = s.gap; aggregate = aggregate_of s.agg; field = field_of s.field }) (rows (from_input 0 p)) session.entries
    (low inputs p) (low inputs (p ++ arriving c.args.input c.args.x.now ∷ [])) c.args.low c.due-in-InSessions.result stands are.low c.due-in-InSessions.ensures.due)
