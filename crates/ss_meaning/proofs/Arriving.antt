-- What arrives next, and when all has arrived.
use Rattle.std.proofs.Common.{◌≡◌, ℕ, ◌+◌, ◌<◌, List, [], ◌∷◌, ◌++◌, length, map, refl, sym, ap, ◌∙◌, subst, All, arith, append-nil, take_all, Some}
use Rattle.std.specs.List.{AllByRecursion}
use Rattle.ss_elem.specs.Validity.{top, Whole}
use Rattle.ss_elem.specs.declared.element.Element.{Element}
use Rattle.ss_meaning.specs.Bound.{bound}
use Rattle.ss_meaning.specs.Merge.{Arrival, from_input, merge}
use Rattle.ss_meaning.specs.Low.{low}
use Rattle.ss_meaning.specs.Emit.{output}
use Rattle.ss_meaning.specs.Meaning.{Vertex, Source, Inner, Sink, reads, stream, meaning, vertex, merged}
use Rattle.ss_meaning.specs.Positions.{mlen_of, out_of}
use Rattle.ss_meaning.specs.Laws.{ArrivalsFollow, ArrivalsMayFollow, LowIsTopAtTheEnd, OutAtTheEnd}
use Rattle.ss_meaning.proofs.Each.{each_second}
use Rattle.ss_meaning.proofs.Steps.{Follows, bound_past_is, bound_past-append, follows_below, follows_in, next_bound_is}
use Rattle.ss_meaning.proofs.Merging.{merge-input, merge_keeps_each_input}
use Rattle.ss_meaning.proofs.Lows.{low-le, low-top, merge_whole}
use Rattle.ss_meaning.proofs.Outputs.{from_input-here}
use Rattle.ss_meaning.proofs.Streams.{meaning_by_inputs}

pub arrivals_follow : ArrivalsFollow
arrivals_follow inputs whole p rest x e =
    (from_input x.input rest, sym (merge_keeps_each_input inputs whole x.input) ∙ ap (from_input x.input) e ∙ from_input-here p rest x)

pub x_within : (inputs : List (List Element)) (p rest : List Arrival) (x : Arrival) → merge inputs ≡ p ++ x ∷ rest → x.input < length inputs
x_within inputs p rest x e =
    let P : Arrival → Type 0 = λ y. y.input < 0 + length inputs in
    let within : AllByRecursion P (x ∷ rest) = each_second P p (x ∷ rest) (subst (AllByRecursion P) e (merge-input inputs)) in
    omega (arith, within.0)

pub x_follows : (inputs : List (List Element)) → All Whole inputs → (p rest : List Arrival) (x : Arrival) → merge inputs ≡ p ++ x ∷ rest → Follows (bound (from_input x.input p)) x.element
x_follows inputs whole p rest x e =
    let split = ap (from_input x.input) e ∙ from_input-here p rest x in
    follows_in (from_input x.input p) (from_input x.input rest) x.element (subst Whole split (merge_whole inputs whole x.input (x_within inputs p rest x e)))

pub arrivals_may_follow : ArrivalsMayFollow
arrivals_may_follow inputs whole p rest x e =
    next_bound_is (bound (from_input x.input p)) x.element (x_follows inputs whole p rest x e)
    ∙ ap Some (sym (ap bound (from_input-here p [] x) ∙ bound_past-append 0 (from_input x.input p) (x.element ∷ [])))

-- before an element that is still to come Low is below top
low_below : (inputs : List (List Element)) → All Whole inputs → (p rest : List Arrival) (x : Arrival) → merge inputs ≡ p ++ x ∷ rest → low (length inputs) p < top
low_below inputs whole p rest x e =
    omega (arith, low-le (length inputs) p x.input (x_within inputs p rest x e), follows_below (bound (from_input x.input p)) x.element (x_follows inputs whole p rest x e))

low_at_end : (inputs : List (List Element)) → All Whole inputs → (p rest : List Arrival) → merge inputs ≡ p ++ rest → low (length inputs) p ≡ top → rest ≡ []
low_at_end inputs whole p [] e h = refl
low_at_end inputs whole p (x ∷ rest) e h = absurd (omega (arith, low_below inputs whole p rest x e))

end_at_low : (inputs : List (List Element)) → All Whole inputs → (p rest : List Arrival) → merge inputs ≡ p ++ rest → rest ≡ [] → low (length inputs) p ≡ top
end_at_low inputs whole p rest e h =
    let all : merge inputs ≡ p = e ∙ ap (λ (back : List Arrival). p ++ back) h ∙ append-nil p in
    subst (λ (q : List Arrival). low (length inputs) q ≡ top) all
    (low-top (length inputs) (merge inputs) (λ input k. bound_past_is 0 top (from_input input (merge inputs)) (merge_whole inputs whole input k)))

pub low_is_top_at_the_end : LowIsTopAtTheEnd
low_is_top_at_the_end inputs whole p rest e = (low_at_end inputs whole p rest e, end_at_low inputs whole p rest e)

whole_output : (job : List Vertex) (v : ℕ) (at : Vertex) → vertex job v ≡ at → meaning job v ≡ stream at (map (meaning job) (reads at)) → out_of at job v (mlen_of at job v) ≡ length (meaning job v)
whole_output job v (Source list) e h = refl
whole_output job v (Inner kind inputs) e h =
    let arriving : merged job v ≡ merge (map (meaning job) inputs) = ap (λ (at : Vertex). merge (map (meaning job) (reads at))) e in
    ap (λ (p : List Arrival). length (output kind (length inputs) p)) (take_all (length (merged job v)) (merged job v) (omega arith) ∙ arriving) ∙ ap length (sym h)
whole_output job v (Sink input) e h = refl

pub out_at_the_end : OutAtTheEnd
out_at_the_end job is v k = whole_output job v (vertex job v) refl (meaning_by_inputs job is v k)
