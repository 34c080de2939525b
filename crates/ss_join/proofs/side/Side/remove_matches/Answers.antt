use Rattle.std.proofs.Common.{rules, ◌≡◌, ◌+◌, cond, None, [], ◌∷◌, length, refl, sym, ap, ◌∙◌, arith}
use Rattle.std.specs.Option.{is_some}
use Rattle.std.specs.Map.{keys_of}
use Rattle.ss_meaning.specs.Except.{alone}
use Rattle.ss_join.specs.Held.{matched, first_place, rows_held}
use Rattle.ss_join.proofs.Matched.{matched-rise, all_from_zero, rises_all, found_at, one_fewer, taken_away}
use Rattle.ss_join.proofs.side.Side.remove_matches.Goals as goal

pub loop-found-init : goal.loop-found-init
loop-found-init c =
    let now = c.self.inside in
    record {
      held = c.self.invariant;
      same = refl;
      behind = matched-rise c.args.row.now 0 now.next now.rows.entries c.self.invariant.placed c.self.invariant.ordered (all_from_zero c.args.row.now.key (keys_of now.rows.entries));
      within = omega arith;
      next = refl;
    }

pub next_match-requires-clause-behind : goal.next_match-requires-clause-behind
next_match-requires-clause-behind c =
    rises_all c.loop-found.from (matched c.args.row.now c.loop-found.self-inside.rows.entries) c.loop-found.invariant.behind

pub overflow_add-from : goal.overflow_add-from
overflow_add-from c =
    let now = c.loop-found.self-inside in
    let at = found_at c.args.row.now now.rows now.ends now.next c.in-Some.found c.loop-found.invariant.held (sym c.in-Some.ensures) in
    let below = at.below in
    omega (arith, below, c.loop-found.invariant.next)

pub loop-found-smaller : goal.loop-found-smaller
loop-found-smaller c =
    let now = c.loop-found.self-inside in
    let at = found_at c.args.row.now now.rows now.ends now.next c.in-Some.found c.loop-found.invariant.held (sym c.in-Some.ensures) in
    let one : length c.remove-in-Some.new.self.entries + 1 ≡ length now.rows.entries =
    sym (ap (λ o. length c.remove-in-Some.new.self.entries + cond (is_some o) 1 0) (c.remove-in-Some.ensures.value ∙ at.is)) ∙ c.remove-in-Some.ensures.len in
    omega (arith, one)

pub loop-found-preserved : goal.loop-found-preserved
loop-found-preserved c =
    let now = c.loop-found.self-inside in
    let at = found_at c.args.row.now now.rows now.ends now.next c.in-Some.found c.loop-found.invariant.held (sym c.in-Some.ensures) in
    let below = at.below in
    let step =
    one_fewer c.args.row.now now.rows c.remove-in-Some.new.self now.ends c.remove.new.self now.next c.loop-found.from c.in-Some.found c.loop-found.invariant.held (sym c.in-Some.ensures)
    c.loop-found.invariant.behind c.remove-in-Some.ensures.entries c.remove.ensures.updates.0 c.remove-in-Some.ensures.updates.0 c.remove-in-Some.ensures.ordered c.remove.ensures.ordered in
    record {
      held = step.held;
      same = step.same ∙ c.loop-found.invariant.same;
      behind = step.behind;
      within = omega (arith, below);
      next = c.loop-found.invariant.next;
    }

pub returns : goal.returns
returns c =
    let now = c.loop-found.self-inside in
    let old = c.self.inside in
    let none : first_place (matched c.args.row.now now.rows.entries) ≡ None = search rules in
    ap (λ n. rows_held n now.rows) c.loop-found.invariant.next
    ∙ (taken_away c.args.row.now old.rows now.rows old.next c.loop-found.invariant.same none ∙ ap (alone (c.args.row.now ∷ [])) c.self.view_is)
