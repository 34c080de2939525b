-- What comes of a longer prefix.
use Rattle.std.proofs.Common.{◌≡◌, ℕ, ◌≤◌, List, [], ◌∷◌, ◌++◌, length, take, drop, map, filter, sym, ap, ◌∙◌, append_assoc, append-nil, arith, length-append, take-append-drop, take-take}
use Rattle.std.proofs.lemmas.List.{map-append}
use Rattle.std.proofs.lemmas.List.Elements.{filter-append}
use Rattle.ss_elem.specs.declared.element.Element.{Element}
use Rattle.ss_meaning.specs.Merge.{Arrival, from_input, is_from}
use Rattle.ss_meaning.specs.Emit.{Kind, emit, given_along, output}
use Rattle.ss_meaning.specs.Meaning.{Vertex, Source, Inner, Sink, vertex, merged}
use Rattle.ss_meaning.specs.Positions.{out_of}
use Rattle.ss_meaning.specs.Laws.{PositionsNeverFall, OutNeverFalls, OutputGrowsByEmit, OutputOnlyGrows}

pub from_input-append : (input : ℕ) (p more : List Arrival) → from_input input (p ++ more) ≡ from_input input p ++ from_input input more
from_input-append input p more =
    ap (map (λ (x : Arrival). x.element)) (filter-append (is_from input) p more) ∙ map-append (λ (x : Arrival). x.element) (filter (is_from input) p) (filter (is_from input) more)

pub at_each-append : (give : List Arrival → Arrival → List Element) (p xs ys : List Arrival) → given_along give p (xs ++ ys) ≡ given_along give p xs ++ given_along give (p ++ xs) ys
at_each-append give p [] ys = ap (λ (seen : List Arrival). given_along give seen ys) (sym (append-nil p))
at_each-append give p (x ∷ xs) ys =
    ap (λ (rest : List Element). give p x ++ rest) (at_each-append give (p ++ x ∷ []) xs ys)
    ∙ sym (append_assoc (give p x) (given_along give (p ++ x ∷ []) xs) (given_along give ((p ++ x ∷ []) ++ xs) ys))
    ∙ ap (λ (seen : List Arrival). (give p x ++ given_along give (p ++ x ∷ []) xs) ++ given_along give seen ys) (append_assoc p (x ∷ []) xs)

pub output_only_grows : OutputOnlyGrows
output_only_grows kind inputs p more = (given_along (emit kind inputs) p more, at_each-append (emit kind inputs) [] p more)

pub output_grows_by_emit : OutputGrowsByEmit
output_grows_by_emit kind inputs p x =
    at_each-append (emit kind inputs) [] p (x ∷ []) ∙ ap (λ (back : List Element). output kind inputs p ++ back) (append-nil (emit kind inputs p x))

-- the first n are the first m and some more
pub longer : {A : Type 0} (m n : ℕ) (xs : List A) → m ≤ n → (rest : List A) × (take n xs ≡ take m xs ++ rest)
longer m n xs h = (drop m (take n xs), sym (take-append-drop m (take n xs)) ∙ ap (λ (front : List _). front ++ drop m (take n xs)) (take-take m n xs h))

pub positions_never_fall : PositionsNeverFall
positions_never_fall job v m n input h =
    let more = longer m n (merged job v) h in
    let e = ap (λ (p : List Arrival). length (from_input input p)) more.1 in
    let split = ap length (from_input-append input (take m (merged job v)) more.0) in
    omega (arith, e, split, length-append (from_input input (take m (merged job v))) (from_input input more.0))

outputs_never_fall : (kind : Kind) (inputs m n : ℕ) (xs : List Arrival) → m ≤ n → length (output kind inputs (take m xs)) ≤ length (output kind inputs (take n xs))
outputs_never_fall kind inputs m n xs h =
    let more = longer m n xs h in
    let e = ap (λ (p : List Arrival). length (output kind inputs p)) more.1 in
    let grown = output_only_grows kind inputs (take m xs) more.0 in
    omega (arith, e, ap length grown.1, length-append (output kind inputs (take m xs)) grown.0)

out_never_falls_of : (at : Vertex) (job : List Vertex) (v m n : ℕ) → m ≤ n → out_of at job v m ≤ out_of at job v n
out_never_falls_of (Source list) job v m n h = h
out_never_falls_of (Inner kind inputs) job v m n h = outputs_never_fall kind (length inputs) m n (merged job v) h
out_never_falls_of (Sink input) job v m n h = h

pub out_never_falls : OutNeverFalls
out_never_falls job v m n h = out_never_falls_of (vertex job v) job v m n h
