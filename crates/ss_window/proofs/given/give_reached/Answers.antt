use Rattle.std.proofs.Common.{◌≡◌, ℕ, ◌+◌, List, ◌++◌, length, map, sym, ap, ◌∙◌, arith}
use Rattle.std.proofs.lemmas.List.{append_assoc, append-nil, map-append, length-append, length-map}
use Rattle.ss_elem.specs.declared.element.Event.{Event}
use Rattle.ss_elem.specs.declared.element.Element.{Element}
use Rattle.ss_elem.specs.declared.element.Element.TheVariants.{Row}
use Rattle.ss_meaning.specs.Entries.{WindowEntry}
use Rattle.ss_meaning.specs.EntryLists.{row_of_entry}
use Rattle.ss_window.specs.Held.{EntryTotal, entries_at}
use Rattle.ss_window.specs.States.{left, reached, rows_of_entries}
use Rattle.ss_window.proofs.Rises.{none_reached, pane_reached}
use Rattle.ss_window.proofs.given.give_reached.Goals as goal

pane_count_of : (end : ℕ) (ts : List (ℕ × EntryTotal)) (es : List WindowEntry) → length (entries_at end ts ++ es) ≡ length ts + length es
pane_count_of end ts es = length-append (entries_at end ts) es ∙ ap (λ n. n + length es) (length-map ts _)

rows_after : (hop : ℕ) (es fs : List WindowEntry) → rows_of_entries hop (es ++ fs) ≡ rows_of_entries hop es ++ rows_of_entries hop fs
rows_after hop es fs =
    ap (map (λ (row : Event). Row row)) (map-append (row_of_entry hop) es fs)
    ∙ map-append (λ (row : Event). Row row) (map (row_of_entry hop) es) (map (row_of_entry hop) fs)

pub give-requires-clause-room : goal.give-requires-clause-room
give-requires-clause-room c =
    let new : List WindowEntry = c.pop_reached.new.self in
    let reach =
    ap (λ (es : List WindowEntry). length (reached c.args.low es)) c.in-Some.ensures.first
    ∙ (ap (λ (es : List WindowEntry). length es) (pane_reached c.args.low c.in-Some.end c.in-Some.pane.entries new c.in-Some.ensures.reached).0
    ∙ pane_count_of c.in-Some.end c.in-Some.pane.entries (reached c.args.low new)) in
    let room = c.loop-end.invariant.room in
    omega (arith, reach, room)

pub loop-end-preserved : goal.loop-end-preserved
loop-end-preserved c =
    let new : List WindowEntry = c.pop_reached.new.self in
    let out : List Element = c.loop-end.out.elements in
    let rows : List WindowEntry → List Element = rows_of_entries c.args.hop in
    let pane : List WindowEntry = entries_at c.in-Some.end c.in-Some.pane.entries in
    let parts = pane_reached c.args.low c.in-Some.end c.in-Some.pane.entries new c.in-Some.ensures.reached in
    let all : reached c.args.low c.loop-end.panes ≡ pane ++ reached c.args.low new = ap (reached c.args.low) c.in-Some.ensures.first ∙ parts.0 in
    let reach = ap (λ (es : List WindowEntry). length es) all ∙ pane_count_of c.in-Some.end c.in-Some.pane.entries (reached c.args.low new) in
    let room = c.loop-end.invariant.room in
    let spare = c.give.ensures.spare in
    record {
      given =
          ap (λ (xs : List Element). xs ++ rows (reached c.args.low new)) c.give.ensures.given
          ∙ (append_assoc out (rows pane) (rows (reached c.args.low new))
          ∙ (ap (λ (xs : List Element). out ++ xs) (sym (ap rows all ∙ rows_after c.args.hop pane (reached c.args.low new))) ∙ c.loop-end.invariant.given));
      left = sym parts.1 ∙ (ap (left c.args.low) (sym c.in-Some.ensures.first) ∙ c.loop-end.invariant.left);
      room = omega (arith, reach, room, spare);
    }

pub returns-clause-given : goal.returns-clause-given
returns-clause-given c =
    let out : List Element = c.loop-end.out.elements in
    let done = none_reached c.args.low c.loop-end.panes c.in_default.ensures.order c.in_default.ensures.none in
    sym (append-nil out) ∙ (ap (λ (es : List WindowEntry). out ++ rows_of_entries c.args.hop es) (sym done.0) ∙ c.loop-end.invariant.given)

pub returns-clause-left : goal.returns-clause-left
returns-clause-left c =
    let done = none_reached c.args.low c.loop-end.panes c.in_default.ensures.order c.in_default.ensures.none in
    c.in_default.ensures.same ∙ (sym done.1 ∙ c.loop-end.invariant.left)
