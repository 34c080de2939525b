-- The streams that a node reads, gathered one by one.
use Rattle.std.proofs.Common.{◌≡◌, ℕ, ◌+◌, ◌<◌, ◌++◌, ◌∷◌, List, [], Vec, Global, Bor, length, get_or, map, take, sym, ap, ◌∙◌}
use Rattle.std.proofs.lemmas.List.{map_more, map-append, get_or-map}
use Rattle.ss_elem.specs.declared.element.Element.{Element}
use Rattle.ss_meaning.specs.Meaning.{streams_at}
use Rattle.ss_plan.specs.Plan.{lists_of}

pub found : (streams : List (Vec Element Global)) (w : ℕ) (list : Vec Element Global) → w < length streams → list ≡ get_or streams w list
    → get_or (lists_of streams) w [] ≡ list.items
found streams w list h is =
    get_or-map (λ (l : Vec Element Global). l.items) streams w list [] h ∙ ap (λ (l : Vec Element Global). l.items) (sym is)

pub gather_more : (streams : List (Vec Element Global)) (ns : List ℕ) (i w : ℕ) (got after : List (Bor (List Element))) (slice : Bor (List Element)) (list : Vec Element Global)
    → i < length ns → get_or ns i 0 ≡ w → w < length streams → list ≡ get_or streams w list → slice.now ≡ list.items
    → map (λ (l : Bor (List Element)). l.now) got ≡ streams_at (lists_of streams) (take i ns) → after ≡ got ++ slice ∷ []
    → map (λ (l : Bor (List Element)). l.now) after ≡ streams_at (lists_of streams) (take (i + 1) ns)
gather_more streams ns i w got after slice list h place within is same so_far grown =
    let now : Bor (List Element) → List Element = λ l. l.now in
    let at : ℕ → List Element = λ n. get_or (lists_of streams) n [] in
    let here : at (get_or ns i 0) ≡ slice.now = ap at place ∙ found streams w list within is ∙ sym same in
    ap (map now) grown ∙ map-append now got (slice ∷ [])
    ∙ ap (λ (front : List (List Element)). front ++ slice.now ∷ []) so_far
    ∙ ap (λ (one : List Element). streams_at (lists_of streams) (take i ns) ++ one ∷ []) (sym here)
    ∙ sym (map_more at ns i 0 h)
