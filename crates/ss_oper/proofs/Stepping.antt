-- One step of an operator, of what it gives and of how far its inputs have come.
use Rattle.std.proofs.Common.{◌≡◌, ℕ, ◌+◌, List, [], ◌∷◌, ◌++◌, length, get_or, map, sym, ap, ◌∙◌, append_assoc, arith}
use Rattle.std.proofs.lemmas.List.{length-append, length-map}
use Rattle.std.proofs.lemmas.List.FromFn.{get_or-map-range_with_len}
use Rattle.ss_elem.specs.declared.element.Event.{Event}
use Rattle.ss_elem.specs.declared.element.Element.{Element}
use Rattle.ss_elem.specs.declared.element.Element.TheVariants.{Row}
use Rattle.ss_expr.specs.Operators.{operator_of}
use Rattle.ss_expr.specs.declared.stream_operator.Spec.{Spec}
use Rattle.ss_meaning.specs.Bound.{bound}
use Rattle.ss_meaning.specs.Emit.{rows_at}
use Rattle.ss_meaning.specs.Entries.{entries_after}
use Rattle.ss_meaning.specs.Low.{low, advance}
use Rattle.ss_meaning.specs.Merge.{Arrival, from_input}
use Rattle.ss_merge.specs.Merging.{MergerState, StandsAfter, IsLow, arriving}
use Rattle.ss_oper.specs.Kept.{AreBoundsAfter, CountsRows, GivesRows, spec_kept, state_of}
use Rattle.ss_oper.specs.Standing.{CountsGiven, Steps}
use Rattle.ss_oper.specs.declared.kept.Kept.{Kept}

-- what a merger tells of its inputs
bounds_after : (merger : MergerState) (q : List Arrival) (least : ℕ) (all : List ℕ) → StandsAfter merger q → IsLow merger least
    → ((input : ℕ) → get_or all input 0 ≡ get_or merger.bounds input 0) → AreBoundsAfter (length merger.bounds) q least all
bounds_after merger q least all stands is_low same = record {
  low = is_low q stands;
  each = λ input h.
      same input ∙ ap (λ (m : MergerState). get_or m.bounds input 0) stands
      ∙ get_or-map-range_with_len (λ i. bound (from_input i q)) 0 (length merger.bounds) input input 0 h (omega arith);
}

pub steps : (merger : MergerState) (input : ℕ) (x : Element) (old new : Kept) (stood least : ℕ) (all : List ℕ) (before middle after : List Element)
    → IsLow merger least → ((i : ℕ) → get_or all i 0 ≡ get_or merger.bounds i 0) → spec_kept new ≡ spec_kept old
    → GivesRows old new before middle input x least all → after ≡ middle ++ advance stood least
    → Steps merger input x (state_of old stood) (state_of new least) before after
steps merger input x old new stood least all before middle after is_low same same_spec gives told p stands may now =
    let n : ℕ = length merger.bounds in
    let q : List Arrival = p ++ arriving input x ∷ [] in
    let are : AreBoundsAfter n q least all = bounds_after merger q least all now is_low same in
    let given = gives n p stands.entries may are in
    let rows : List Element = map (λ (row : Event). Row row) (rows_at (operator_of (spec_kept old)) n p (arriving input x)) in
    let rise : advance stood least ≡ advance (low n p) (low n q) =
    ap (λ b. advance b least) stands.low ∙ ap (advance (low n p)) are.low in
    record {
      stands = record { low = are.low; entries = given.0 ∙ ap (λ (s : Spec). entries_after (operator_of s) n q) (sym same_spec) };
      given =
          told
          ∙ ap (λ (front : List Element). front ++ advance stood least) given.1
          ∙ append_assoc before rows (advance stood least)
          ∙ ap (λ (back : List Element). before ++ (rows ++ back)) rise;
    }

-- as many rows, and what tells that Low rose
pub counts : (merger : MergerState) (input : ℕ) (x : Element) (kept : Kept) (stood least : ℕ) (all : List ℕ) (rows n : ℕ)
    → IsLow merger least → ((i : ℕ) → get_or all i 0 ≡ get_or merger.bounds i 0) → CountsRows kept input x least all rows → n ≡ rows + length (advance stood least)
    → CountsGiven merger input x (state_of kept stood) n
counts merger input x kept stood least all rows n is_low same gives told p stands may now =
    let m : ℕ = length merger.bounds in
    let q : List Arrival = p ++ arriving input x ∷ [] in
    let are : AreBoundsAfter m q least all = bounds_after merger q least all now is_low same in
    let given = rows_at (operator_of (spec_kept kept)) m p (arriving input x) in
    let count : rows ≡ length given = gives m p stands.entries may are in
    let rise : advance stood least ≡ advance (low m p) (low m q) = ap (λ b. advance b least) stands.low ∙ ap (advance (low m p)) are.low in
    omega (
      arith,
      told,
      count,
      ap (λ (xs : List Element). length xs) rise,
      length-append (map (λ (row : Event). Row row) given) (advance (low m p) (low m q)),
      length-map given (λ (row : Event). Row row),
    )
