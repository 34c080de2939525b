-- The numbers of a job are those of its meaning.
use Rattle.std.proofs.Common.{◌≡◌, ℕ, zero, suc, ◌+◌, ◌<◌, ◌≤◌, Bool, true, false, cond, nat_eq, List, [], ◌∷◌, ◌++◌, length, get_or, take, map, filter, refl, sym, ap, ◌∙◌, subst, arith, append-nil, append_assoc}
use Rattle.std.proofs.lemmas.Bool.{false≢true, true≢false}
use Rattle.std.proofs.lemmas.List.{length-map, length-append}
use Rattle.std.proofs.lemmas.List.FromFn.{get_or-map-range_with_len}
use Rattle.ss_elem.specs.declared.element.Element.{Element}
use Rattle.ss_meaning.specs.Merge.{Arrival, is_from, from_input}
use Rattle.ss_meaning.specs.Emit as operator
use Rattle.ss_meaning.specs.Emit.{emit, given_along, output}
use Rattle.ss_meaning.specs.Entries.{held}
use Rattle.ss_meaning.specs.Meaning.{Vertex, Source, Inner, Sink, reads, stream, meaning, merged}
use Rattle.ss_meaning.specs.Meaning as meant
use Rattle.ss_meaning.specs.Positions.{mlen_of, out_of}
use Rattle.ss_meaning.specs.Laws.{MeaningByInputs}
use Rattle.ss_meaning.specs.Jobs.{IsJob}
use Rattle.ss_state.specs.Numbers.{no_vertex, vertex, count_of, sum_of, pos, out, size}
use Rattle.ss_state.specs.NumbersOfMeaning.{Policy, Limits, given_counts, held_counts, source_numbers, operator_numbers, sink_numbers, vertex_numbers, policy_at, job_numbers, kind_of, HoldsAsMeant, IsMeant}
use Rattle.ss_state.specs.MeaningLaws.{NumbersAreMeant}

-- what is given at each element adds up to the output
sum_given : (give : List Arrival → Arrival → List Element) (n : ℕ) (p xs : List Arrival) → sum_of (take n (given_counts give p xs)) ≡ length (given_along give p (take n xs))
sum_given give zero p xs = refl
sum_given give (suc n) p [] = refl
sum_given give (suc n) p (x ∷ xs) =
    ap (λ k. length (give p x) + k) (sum_given give n (p ++ x ∷ []) xs) ∙ sym (length-append (give p x) (given_along give (p ++ x ∷ []) (take n xs)))

sum_all_given : (give : List Arrival → Arrival → List Element) (p xs : List Arrival) → sum_of (given_counts give p xs) ≡ length (given_along give p xs)
sum_all_given give p [] = refl
sum_all_given give p (x ∷ xs) =
    ap (λ k. length (give p x) + k) (sum_all_given give (p ++ x ∷ []) xs) ∙ sym (length-append (give p x) (given_along give (p ++ x ∷ []) xs))

pub length-given : (give : List Arrival → Arrival → List Element) (p xs : List Arrival) → length (given_counts give p xs) ≡ length xs
length-given give p [] = refl
length-given give p (x ∷ xs) = ap suc (length-given give (p ++ x ∷ []) xs)

pub length-held : (hold : List Arrival → ℕ) (p xs : List Arrival) → length (held_counts hold p xs) ≡ length xs + 1
length-held hold p [] = refl
length-held hold p (x ∷ xs) = let rest = length-held hold (p ++ x ∷ []) xs in omega arith

held_at : (hold : List Arrival → ℕ) (n : ℕ) (p xs : List Arrival) → n ≤ length xs → get_or (held_counts hold p xs) n 0 ≡ hold (p ++ take n xs)
held_at hold zero p [] h = ap hold (sym (append-nil p))
held_at hold zero p (x ∷ xs) h = ap hold (sym (append-nil p))
held_at hold (suc n) p [] h = absurd (omega arith)
held_at hold (suc n) p (x ∷ xs) h = held_at hold n (p ++ x ∷ []) xs (omega arith) ∙ ap hold (append_assoc p (x ∷ []) (take n xs))

-- how many came from an input
count_from : (i n : ℕ) (xs : List Arrival) → count_of i (take n (map (λ (x : Arrival). x.input) xs)) ≡ length (from_input i (take n xs))
count_from i zero xs = refl
count_from i (suc n) [] = refl
count_from i (suc n) (x ∷ xs) = by_test (nat_eq x.input i) (count_from i n xs)
  where
    by_test : (b : Bool) → count_of i (take n (map (λ (x : Arrival). x.input) xs)) ≡ length (from_input i (take n xs))
        → cond b (count_of i (take n (map (λ (x : Arrival). x.input) xs)) + 1) (count_of i (take n (map (λ (x : Arrival). x.input) xs)))
        ≡ length (map (λ (y : Arrival). y.element) (cond b (x ∷ filter (is_from i) (take n xs)) (filter (is_from i) (take n xs))))
    by_test true e = omega arith
    by_test false e = e

-- a list gives each element once

sum_ones : (n : ℕ) (xs : List Element) → n ≤ length xs → sum_of (take n (map (λ (x : Element). 1) xs)) ≡ n
sum_ones zero xs h = refl
sum_ones (suc n) [] h = absurd (omega arith)
sum_ones (suc n) (x ∷ xs) h = let rest = sum_ones n xs (omega arith) in omega arith

sum_all_ones : (xs : List Element) → sum_of (map (λ (x : Element). 1) xs) ≡ length xs
sum_all_ones [] = refl
sum_all_ones (x ∷ xs) = let rest = sum_all_ones xs in omega arith

-- the numbers of vertex v
pub vertex_is : (job : List Vertex) (policies : List Policy) (limits : Limits) (v : ℕ) → v < length job
    → vertex (job_numbers job policies limits) v ≡ vertex_numbers (meant.vertex job v) job v (policy_at policies v)
unfolding job_numbers
vertex_is job policies limits v h =
    get_or-map-range_with_len (λ u. vertex_numbers (meant.vertex job u) job u (policy_at policies u)) 0 (length job) v v no_vertex h (omega arith)

source_meant : (job : List Vertex) (v : ℕ) (list : List Element) (policy : Policy) → meant.vertex job v ≡ Source list → meaning job v ≡ list
    → IsMeant job v (source_numbers list policy)
unfolding out size
source_meant job v list policy e same = record {
  kind = ap kind_of (sym e);
  inputs = ap reads (sym e);
  arrivals = λ inner. absurd (false≢true inner);
  mlen = λ stream. length-map list (λ (x : Element). 0) ∙ ap length (sym same) ∙ ap (λ form. mlen_of form job v) (sym e);
  size = λ stream. sum_all_ones list ∙ ap length (sym same);
  out = λ stream n h. sum_ones n list (omega (arith, length-map {B = ℕ} list (λ (x : Element). 0))) ∙ ap (λ form. out_of form job v n) (sym e);
  pos = λ inner. absurd (false≢true inner);
  held = subst (λ form. HoldsAsMeant form job v (source_numbers list policy)) (sym e) tt;
}

operator_meant : (job : List Vertex) (v : ℕ) (kind : operator.Kind) (inputs : List ℕ) (policy : Policy) → meant.vertex job v ≡ Inner kind inputs
    → meaning job v ≡ output kind (length inputs) (merged job v) → IsMeant job v (operator_numbers kind inputs (merged job v) policy)
unfolding out size pos
operator_meant job v kind inputs policy e same =
    let arriving = merged job v in
    let give = emit kind (length inputs) in
    record {
      kind = ap kind_of (sym e);
      inputs = ap reads (sym e);
      arrivals = λ inner. refl;
      mlen = λ stream. length-map arriving (λ (x : Arrival). x.input) ∙ ap (λ form. mlen_of form job v) (sym e);
      size = λ stream. sum_all_given give [] arriving ∙ ap length (sym same);
      out = λ stream n h. sum_given give n [] arriving ∙ ap (λ form. out_of form job v n) (sym e);
      pos = λ inner n i. count_from i n arriving;
      held = subst (λ form. HoldsAsMeant form job v (operator_numbers kind inputs arriving policy)) (sym e)
          (λ n h. held_at (held kind (length inputs)) n [] arriving (omega (arith, length-map {B = ℕ} arriving (λ (x : Arrival). x.input))));
    }

sink_meant : (job : List Vertex) (v input : ℕ) (policy : Policy) → meant.vertex job v ≡ Sink input → IsMeant job v (sink_numbers input policy)
sink_meant job v input policy e = record {
  kind = ap kind_of (sym e);
  inputs = ap reads (sym e);
  arrivals = λ inner. absurd (false≢true inner);
  mlen = λ stream. absurd (true≢false stream);
  size = λ stream. absurd (true≢false stream);
  out = λ stream. absurd (true≢false stream);
  pos = λ inner. absurd (false≢true inner);
  held = subst (λ form. HoldsAsMeant form job v (sink_numbers input policy)) (sym e) tt;
}

form_meant : MeaningByInputs → (job : List Vertex) → IsJob job → (v : ℕ) → v < length job → (policy : Policy) (form : Vertex) → meant.vertex job v ≡ form
    → IsMeant job v (vertex_numbers form job v policy)
form_meant by_inputs job is_job v h policy (Source list) e =
    source_meant job v list policy e (by_inputs job is_job v h ∙ ap (λ form. stream form (map (meaning job) (reads (meant.vertex job v)))) e)
form_meant by_inputs job is_job v h policy (Inner kind inputs) e =
    operator_meant job v kind inputs policy e (by_inputs job is_job v h ∙ ap (λ form. stream form (map (meaning job) (reads (meant.vertex job v)))) e)
form_meant by_inputs job is_job v h policy (Sink input) e = sink_meant job v input policy e

pub numbers_are_meant : MeaningByInputs → NumbersAreMeant
numbers_are_meant by_inputs job policies limits is_job v h =
    subst (IsMeant job v) (sym (vertex_is job policies limits v h))
    (form_meant by_inputs job is_job v h (policy_at policies v) (meant.vertex job v) refl)
