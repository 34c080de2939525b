use Rattle.std.proofs.Common.{ℕ, ◌<◌, eqb, List, sym, ap, ◌∙◌, subst, arith}
use Rattle.std.specs.List.{position_or_len}
use Rattle.atomic_table.specs.Table.{turned}
use Rattle.ss_turns.specs.View.{times}
use Rattle.ss_turns.specs.Fits.{emptied}
use Rattle.ss_turns.proofs.Rotates.{emptied_rotated, times_rotated, nearer, first_is, some_held}
use Rattle.ss_turns.proofs.pass.bring.Goals as goal

pub index-requires : goal.index-requires
index-requires g c =
    let same = c.turns.invariant.same c.args.slot in
    let held = c.requires.held in
    let some = some_held c.args.slot c.turns.held.items (omega (arith, same, held)) in
    omega (arith, some)

pub rotate_left-requires : goal.rotate_left-requires
rotate_left-requires g c =
    let same = c.turns.invariant.same c.args.slot in
    let held = c.requires.held in
    let some = some_held c.args.slot c.turns.held.items (omega (arith, same, held)) in
    omega (arith, some)

pub turns-smaller : goal.turns-smaller
turns-smaller g c =
    let same = c.turns.invariant.same c.args.slot in
    let held = c.requires.held in
    let before = c.turns.held.items in
    subst (λ (xs : List ℕ). position_or_len (λ x. eqb x c.args.slot) xs < position_or_len (λ x. eqb x c.args.slot) before) (sym c.rotate_left.ensures.items)
    (nearer c.args.slot before c.index.result.now (omega (arith, same, held)) (λ e. c.turns-test.true (c.index.ensures ∙ e)))

pub turns-preserved : goal.turns-preserved
turns-preserved g c =
    let was = c.turns.invariant in
    let before = c.turns.held.items in record {
      table = c.turn.ensures.0 ∙ was.table;
      id = c.turn.ensures.1 ∙ was.id;
      view = ap (λ z. z.0) c.turn.ensures.2 ∙ was.view;
      order = ap (λ z. z.1) c.turn.ensures.2 ∙ (ap turned was.order ∙ (emptied_rotated before ∙ ap emptied (sym c.rotate_left.ensures.items)));
      same = λ k. ap (times k) c.rotate_left.ensures.items ∙ (times_rotated k before ∙ was.same k);
      room = c.rotate_left.ensures.capacity ∙ was.room;
    }

pub returns-clause-first : goal.returns-clause-first
returns-clause-first g c =
    let same = c.turns.invariant.same c.args.slot in
    let held = c.requires.held in
    first_is c.args.slot c.turns.held.items c.index.result.now (omega (arith, same, held)) (sym c.index.ensures ∙ c.turns-test.false)
