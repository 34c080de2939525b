-- What a vertex has given, and gives at the next element, whatever it is.
use Rattle.std.proofs.Common.{◌≡◌, ℕ, zero, suc, ◌+◌, ◌<◌, Bool, true, false, cond, nat_lt, List, [], ◌∷◌, length, take, map, Option, Some, None, IsSomeAnd, refl, sym, ap, ◌∙◌, arith, add-one, length-append, ltb-true}
use Rattle.std.specs.List.{slice_get}
use Rattle.std.specs.Option.{option_to_list, option_map_or}
use Rattle.ss_elem.specs.declared.element.Element.{Element}
use Rattle.ss_meaning.specs.Emit.{Kind, emit, output}
use Rattle.ss_meaning.specs.Laws.{MeaningByInputs, OutputGrowsByEmit}
use Rattle.ss_meaning.specs.Jobs.{IsJob}
use Rattle.ss_meaning.specs.Meaning.{Vertex, Source, Inner, Sink, reads, vertex, stream, meaning, merged}
use Rattle.ss_meaning.specs.Merge.{Arrival}
use Rattle.ss_meaning.specs.Positions.{mlen, mlen_of, out, out_of}
use Rattle.ss_state.specs.NumbersOfMeaning.{GivesStream, kind_of}
use Rattle.ss_vertex.specs.Arriving.{wanted_by, taken_by, given_at, given_by, last_given}
use Rattle.ss_vertex.specs.Standing.{list_len}
use Rattle.ss_vertex.proofs.Arrives.{more_at}
use Rattle.ss_water.specs.Graph.{is_sink}

pub found_at : {A : Type 0} → (xs : List A) (n : ℕ) → n < length xs → (x : A) × (slice_get xs n ≡ Some x)
found_at [] n h = absurd (omega arith)
found_at (x ∷ xs) zero h = (x, refl)
found_at (x ∷ xs) (suc n) h = found_at xs n (omega arith)

-- the list of a source is its stream
pub source_stream : MeaningByInputs → (J : List Vertex) → IsJob J → (v : ℕ) (list : List Element) → v < length J → vertex J v ≡ Source list
    → meaning J v ≡ list
source_stream law J job v list h e =
    law J job v h ∙ ap (λ (z : Vertex). stream z (map (meaning J) (reads z))) e

one_given : (list : List Element) (n : ℕ) → n < length list → length (option_to_list (slice_get list n)) ≡ 1
one_given list n h = let x = found_at list n h in ap (λ (o : Option Element). length (option_to_list o)) x.1

inner_given : OutputGrowsByEmit → (kind : Kind) (w : ℕ) (all : List Arrival) (n : ℕ) (y : Arrival) → slice_get all n ≡ Some y
    → length (output kind w (take (n + 1) all))
    ≡ length (output kind w (take n all)) + length (option_map_or (emit kind w (take n all)) (slice_get all n) [])
inner_given law kind w all n y e =
    ap (λ (q : List Arrival). length (output kind w q)) (more_at all n y e)
    ∙ ap length (law kind w (take n all) y)
    ∙ length-append (output kind w (take n all)) (emit kind w (take n all) y)
    ∙ ap (λ (o : Option Arrival). length (output kind w (take n all)) + length (option_map_or (emit kind w (take n all)) o [])) (sym e)

given_for : OutputGrowsByEmit → (z : Vertex) (J : List Vertex) (v n : ℕ) → is_sink (kind_of z) ≡ false
    → ((list : List Element) → z ≡ Source list → meaning J v ≡ list) → n < mlen_of z J v
    → out_of z J v (n + 1) ≡ out_of z J v n + length (given_by z J v n)
given_for law (Source list) J v n stream is h =
    let same = ap length (is list refl) in
    let one = one_given list n (omega arith) in
    omega arith
given_for law (Inner kind ins) J v n stream is h =
    let y = found_at (merged J v) n h in
    inner_given law kind (length ins) (merged J v) n y.0 y.1
given_for law (Sink u) J v n stream is h = cc

pub out_given : MeaningByInputs → OutputGrowsByEmit → (J : List Vertex) → IsJob J → (v n : ℕ) → GivesStream J v → n < mlen J v
    → out J v (n + 1) ≡ out J v n + length (given_at J v n)
out_given by_inputs law J job v n gives h =
    given_for law (vertex J v) J v n gives.1 (λ list e. source_stream by_inputs J job v list gives.0 e) h

pub last_next : (J : List Vertex) (v n : ℕ) → last_given J v (n + 1) ≡ given_at J v n
last_next J v n = ap (last_given J v) (add-one n)

-- a vertex with a list is a source, and what it takes next is the next element of the list

pub listing : (z : Vertex) (len : ℕ) → Some len ≡ list_len z → (list : List Element) × (z ≡ Source list) × (len ≡ length list)
listing (Source list) len e = (list, refl, cc)
listing (Inner kind ins) len e = cc
listing (Sink u) len e = cc

pub next_listed : (list : List Element) (J : List Vertex) (v n most : ℕ) (x : Element)
    → IsSomeAnd {T = ℕ × ℕ} (wanted_by (Source list) J v n) (λ place. (slice_get (taken_by (Source list) J place.0) place.1 ≡ Some x) × (place.1 < most))
    → (slice_get list n ≡ Some x) × (n < most) × (n < length list)
next_listed list J v n most x h = by_test (nat_lt n (length list)) refl h
  where
    by_test : (b : Bool) → nat_lt n (length list) ≡ b
        → IsSomeAnd {T = ℕ × ℕ} (cond b (Some (0, n)) None) (λ place. (slice_get list place.1 ≡ Some x) × (place.1 < most))
        → (slice_get list n ≡ Some x) × (n < most) × (n < length list)
    by_test true e k = (k.0, k.1, ltb-true n (length list) e)
    by_test false e k = absurd k
