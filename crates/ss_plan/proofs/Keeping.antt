-- The streams computed so far, and one more.
use Rattle.std.proofs.Common.{◌≡◌, ℕ, zero, suc, ◌+◌, ◌<◌, ◌≤◌, Bool, true, false, List, [], ◌∷◌, ◌++◌, Vec, Global, length, get_or, map, All, refl, sym, ap, ◌∙◌, subst, arith, ⊎_elim, length-append}
use Rattle.std.proofs.lemmas.Bool.{cases_eq}
use Rattle.std.proofs.lemmas.List.{map-append, get_or_append_left, get_or_at, length-map}
use Rattle.ss_elem.specs.declared.element.Element.{Element}
use Rattle.ss_meaning.specs.Meaning.{Vertex, reads, vertex, meaning}
use Rattle.ss_plan.specs.Limit.{IsLongAmong}
use Rattle.ss_plan.specs.Plan.{PlanText, lists_of, vertices_of}
use Rattle.ss_plan.specs.Streams.{is_wanted, IsClosed, AreStreams, HoldInputs}

pub hold_inputs : (job : List Vertex) (wanted : List Bool) (v : ℕ) (streams : List (List Element)) → All (λ w. w < v) (reads (vertex job v))
    → IsClosed job wanted → AreStreams job wanted v streams → is_wanted wanted v ≡ true → HoldInputs job v streams
hold_inputs job wanted v streams earlier closed are e i d h = are.each (get_or (reads (vertex job v)) i d) (earlier i d h) (closed v e i d h)

pub kept_more : (job : List Vertex) (wanted : List Bool) (v : ℕ) (old new : List (Vec Element Global)) (stream : Vec Element Global)
    → (is_wanted wanted v ≡ true → stream.items ≡ meaning job v) → AreStreams job wanted v (lists_of old) → new ≡ old ++ stream ∷ []
    → AreStreams job wanted (v + 1) (lists_of new)
kept_more job wanted v old new stream right are grown = record {
  many = ap length all ∙ length-append (lists_of old) (stream.items ∷ []) ∙ ap (λ n. n + 1) are.many;
  each = λ u h e. subst (λ (ls : List (List Element)). get_or ls u [] ≡ meaning job u) (sym all) (at u h e);
}
  where
    all : lists_of new ≡ lists_of old ++ stream.items ∷ []
    all = ap lists_of grown ∙ map-append (λ (l : Vec Element Global). l.items) old (stream ∷ [])

    at : (u : ℕ) → u < v + 1 → is_wanted wanted u ≡ true → get_or (lists_of old ++ stream.items ∷ []) u [] ≡ meaning job u
    at u h e =
        ⊎_elim
        (λ (last : u ≡ v).
        get_or_at (lists_of old) stream.items [] [] u (are.many ∙ sym last)
        ∙ right (subst (λ n. is_wanted wanted n ≡ true) last e) ∙ ap (meaning job) (sym last))
        (λ (other : u ≡ v → ⊥).
        let before : u < v = omega arith in
        get_or_append_left (lists_of old) (stream.items ∷ []) [] u (omega (arith, before, are.many)) ∙ are.each u before e)
        (cases_eq u v)

pub short_more : (plan : PlanText) (wanted : List Bool) (v : ℕ) (stream : List Element) → (is_wanted wanted v ≡ true → stream ≡ meaning (vertices_of plan) v)
    → length stream ≤ plan.job.max_elements → ((u : ℕ) → u < v → IsLongAmong (is_wanted wanted) plan u → ⊥)
    → (u : ℕ) → u < v + 1 → IsLongAmong (is_wanted wanted) plan u → ⊥
short_more plan wanted v stream right short before u h long =
    ⊎_elim
    (λ (last : u ≡ v).
    let here : IsLongAmong (is_wanted wanted) plan v = subst (IsLongAmong (is_wanted wanted) plan) last long in
    let same = ap length (right here.0) in
    let above = here.1 in
    omega arith)
    (λ (other : u ≡ v → ⊥). before u (omega arith) long)
    (cases_eq u v)

pub long_here : (plan : PlanText) (wanted : List Bool) (v : ℕ) (stream : List Element) (b : Bool) → is_wanted wanted v ≡ b
    → (b ≡ true → stream ≡ meaning (vertices_of plan) v) → (b ≡ false → stream ≡ []) → plan.job.max_elements < length stream
    → IsLongAmong (is_wanted wanted) plan v
long_here plan wanted v stream true e right other long = (e, subst (λ (xs : List Element). plan.job.max_elements < length xs) (right refl) long)
long_here plan wanted v stream false e right other long = let none = ap length (other refl) in absurd (omega arith)
