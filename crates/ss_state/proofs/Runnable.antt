-- The numbers of a job that can be run are such as the other laws ask.
use Rattle.std.proofs.Common.{◌≡◌, ℕ, zero, suc, ◌+◌, ◌<◌, ◌≤◌, true, false, List, [], ◌∷◌, length, get_or, map, refl, sym, ap, ◌∙◌, subst, ⊎_elim, arith}
use Rattle.std.specs.List.{AllByRecursion, range_with_len}
use Rattle.std.proofs.lemmas.Bool.{cases_lt, cases_Bool, false≢true, true≢false}
use Rattle.std.proofs.lemmas.List.{length-map, take_all, get_or-map, get_or_past}
use Rattle.std.proofs.lemmas.List.Elements.{recursion_from_All, All-from_recursion}
use Rattle.std.proofs.lemmas.List.FromFn.{length-range_with_len}
use Rattle.ss_elem.specs.declared.element.Element.{Element}
use Rattle.ss_elem.specs.Validity.{Whole}
use Rattle.ss_water.specs.Graph.{is_sink}
use Rattle.ss_water.specs.declared.node.Kind.{Kind}
use Rattle.ss_water.specs.declared.node.Kind.TheVariants as kind
use Rattle.ss_meaning.specs.Merge.{Arrival, from_input}
use Rattle.ss_meaning.specs.Emit.{emit}
use Rattle.ss_meaning.specs.Entries.{held}
use Rattle.ss_meaning.specs.Meaning.{Vertex, Source, Inner, Sink, reads, stream, meaning, merged}
use Rattle.ss_meaning.specs.Meaning as meant
use Rattle.ss_meaning.specs.Positions as position
use Rattle.ss_meaning.specs.Laws.{MergeKeepsEachInput, MeaningByInputs, MeaningIsWhole}
use Rattle.ss_meaning.specs.Jobs.{IsJob, MayStand}
use Rattle.ss_state.specs.Numbers.{VertexNumbers, is_inner, vertex, input, mlen, pos, out, size, wanted_input}
use Rattle.ss_state.specs.IsNumbers.{IsVertex}
use Rattle.ss_state.specs.NumbersOfMeaning.{Policy, Limits, vertex_numbers, policy_at, job_numbers, kind_of, IsMeant, GivesStream, IsRunnable}
use Rattle.ss_state.specs.MeaningLaws.{RunnableHasNumbers}
use Rattle.ss_state.proofs.Counting.{positions_never_fall, out_zero, pos_next_same}
use Rattle.ss_state.proofs.Meant.{length-given, length-held, vertex_is, numbers_are_meant}

length_job : (job : List Vertex) (policies : List Policy) (limits : Limits) → length (job_numbers job policies limits).vertices ≡ length job
unfolding job_numbers
length_job job policies limits =
    length-map (range_with_len 0 (length job)) (λ v. vertex_numbers (meant.vertex job v) job v (policy_at policies v)) ∙ length-range_with_len 0 (length job)

most_of_job : (job : List Vertex) (policies : List Policy) (limits : Limits) → (job_numbers job policies limits).max_elements ≡ limits.max_elements
unfolding job_numbers
most_of_job job policies limits = refl

collects_of_job : (job : List Vertex) (policies : List Policy) (limits : Limits) → (job_numbers job policies limits).collect_every ≡ limits.collect_every
unfolding job_numbers
collects_of_job job policies limits = refl

-- what the vertices of a job read

each_below : (v : ℕ) (names : List ℕ) → AllByRecursion (λ u. u < v) names → (i : ℕ) → i < length names → get_or names i 0 < v
each_below v [] h i k = absurd (omega arith)
each_below v (u ∷ names) h zero k = h.0
each_below v (u ∷ names) h (suc i) k = each_below v names h.1 i (omega arith)

reads_before : (v : ℕ) (form : Vertex) → MayStand v form → (i : ℕ) → i < length (reads form) → get_or (reads form) i 0 < v
reads_before v (Source list) may i h = absurd (omega arith)
reads_before v (Inner kind names) may i h = each_below v names (recursion_from_All (λ u. u < v) names may.1) i h
reads_before v (Sink name) may zero h = may
reads_before v (Sink name) may (suc i) h = absurd (omega arith)

all_whole : MeaningIsWhole → (job : List Vertex) → IsJob job → (names : List ℕ) → ((i : ℕ) → i < length names → get_or names i 0 < length job)
    → AllByRecursion Whole (map (meaning job) names)
all_whole whole job is_job [] h = tt
all_whole whole job is_job (u ∷ names) h =
    ((whole job is_job u (h 0 (omega arith))).0, all_whole whole job is_job names (λ i k. h (suc i) (omega arith)))

-- what arrives in all from an input of an operator
all_from : MergeKeepsEachInput → MeaningIsWhole → (job : List Vertex) → IsJob job → (v : ℕ) → v < length job → (x : VertexNumbers) → IsMeant job v x → is_inner x.kind ≡ true
    → (i : ℕ) → pos x (mlen x) i ≡ length (get_or (map (meaning job) (reads (meant.vertex job v))) i [])
all_from keeps whole job is_job v h x is inner i =
    let names = reads (meant.vertex job v) in
    let before : (j : ℕ) → j < length names → get_or names j 0 < length job =
    λ j k. let earlier = reads_before v (meant.vertex job v) (is_job.each v h) j k in omega arith in
    let inputs = All-from_recursion Whole (map (meaning job) names) (all_whole whole job is_job names before) in
    let as_many : length (merged job v) ≤ mlen x = let e = ap length (is.arrivals inner) ∙ length-map (merged job v) (λ (a : Arrival). a.input) in omega arith in
    is.pos inner (mlen x) i
    ∙ ap (λ p. length (from_input i p)) (take_all (mlen x) (merged job v) as_many)
    ∙ ap length (keeps (map (meaning job) names) inputs i)

comes_from_input : MergeKeepsEachInput → MeaningIsWhole → (job : List Vertex) → IsJob job → (v : ℕ) → v < length job → (x : VertexNumbers) → IsMeant job v x → is_inner x.kind ≡ true
    → (n : ℕ) → n < mlen x → wanted_input x n < length x.inputs
comes_from_input keeps whole job is_job v h x is inner n k =
    let j = wanted_input x n in
    let names = reads (meant.vertex job v) in
    ⊎_elim (λ less. less)
    (λ past.
    let lists : length (map (meaning job) names) ≤ j = omega (arith, length-map names (meaning job), ap length is.inputs) in
    let none = all_from keeps whole job is_job v h x is inner j ∙ ap length (get_or_past (map (meaning job) names) j [] lists) in
    let one = pos_next_same x n k in
    let more = positions_never_fall x (n + 1) (mlen x) j (omega arith) in
    absurd (omega arith))
    (cases_lt j (length x.inputs))

-- facts of each form

given_as_arrives : (form : Vertex) (job : List Vertex) (v : ℕ) (policy : Policy)
    → length (vertex_numbers form job v policy).given ≡ length (vertex_numbers form job v policy).arrivals
given_as_arrives (Source list) job v policy = length-map {B = ℕ} list (λ (x : Element). 1) ∙ sym (length-map {B = ℕ} list (λ (x : Element). 0))
given_as_arrives (Inner kind names) job v policy =
    length-given (emit kind (length names)) [] (merged job v) ∙ sym (length-map (merged job v) (λ (a : Arrival). a.input))
given_as_arrives (Sink name) job v policy = refl

held_as_long : (form : Vertex) (job : List Vertex) (v : ℕ) (policy : Policy) → is_inner (kind_of form) ≡ true
    → length (vertex_numbers form job v policy).held ≡ mlen (vertex_numbers form job v policy) + 1
held_as_long (Source list) job v policy e = absurd (false≢true e)
held_as_long (Inner kind names) job v policy e =
    length-held (held kind (length names)) [] (merged job v) ∙ ap (λ n. n + 1) (sym (length-map (merged job v) (λ (a : Arrival). a.input)))
held_as_long (Sink name) job v policy e = absurd (false≢true e)

out_of_plain : (form : Vertex) (job : List Vertex) (v n : ℕ) → is_inner (kind_of form) ≡ false → position.out_of form job v n ≡ n
out_of_plain (Source list) job v n e = refl
out_of_plain (Inner kind names) job v n e = absurd (true≢false e)
out_of_plain (Sink name) job v n e = refl

sink_has_none : (form : Vertex) (job : List Vertex) (v : ℕ) (policy : Policy) → kind_of form ≡ kind.Sink
    → ((vertex_numbers form job v policy).given ≡ []) × ((vertex_numbers form job v policy).arrivals ≡ []) × ((vertex_numbers form job v policy).replicas ≡ 0)
    × (length (reads form) ≡ 1)
sink_has_none (Source list) job v policy e = cc
sink_has_none (Inner kind names) job v policy e = cc
sink_has_none (Sink name) job v policy e = (refl, refl, refl, refl)

source_reads : (form : Vertex) → kind_of form ≡ kind.Source → (length (reads form) ≡ 0) × ((list : List Element) × (form ≡ Source list))
source_reads (Source list) e = (refl, (list, refl))
source_reads (Inner kind names) e = cc
source_reads (Sink name) e = cc

has_replicas : (form : Vertex) (job : List Vertex) (v : ℕ) (policy : Policy) → is_sink (kind_of form) ≡ false → 0 < policy.replicas
    → 0 < (vertex_numbers form job v policy).replicas
has_replicas (Source list) job v policy e h = h
has_replicas (Inner kind names) job v policy e h = h
has_replicas (Sink name) job v policy e h = absurd (true≢false e)

has_every : (form : Vertex) (job : List Vertex) (v : ℕ) (policy : Policy) → 0 < policy.every → 0 < (vertex_numbers form job v policy).every
has_every (Source list) job v policy h = h
has_every (Inner kind names) job v policy h = h
has_every (Sink name) job v policy h = h

sink_kind : (k : Kind) → is_sink k ≡ true → k ≡ kind.Sink
sink_kind kind.Source e = absurd (false≢true e)
sink_kind kind.Inner e = absurd (false≢true e)
sink_kind kind.Sink e = refl

-- the laws of the meaning that are used
record MeaningLaws : Type 0 where
  keeps : MergeKeepsEachInput
  by_inputs : MeaningByInputs
  whole : MeaningIsWhole

-- vertex v of the numbers, as it is meant
is_meant_at : MeaningLaws → (job : List Vertex) (policies : List Policy) (limits : Limits) → IsJob job → (v : ℕ) → v < length job
    → IsMeant job v (vertex (job_numbers job policies limits) v)
is_meant_at laws job policies limits is_job v h = numbers_are_meant laws.by_inputs job policies limits is_job v h

-- an input that is read, in the numbers
stream_at : MeaningLaws → (job : List Vertex) (policies : List Policy) (limits : Limits) → IsRunnable job policies limits → (u : ℕ) → GivesStream job u
    → (is_sink (vertex (job_numbers job policies limits) u).kind ≡ false) × (size (vertex (job_numbers job policies limits) u) ≡ length (meaning job u))
stream_at laws job policies limits runnable u gives =
    let is = is_meant_at laws job policies limits runnable.means u gives.0 in
    let stream = ap is_sink is.kind ∙ gives.1 in (stream, is.size stream)

vertex_stands : MeaningLaws → (job : List Vertex) (policies : List Policy) (limits : Limits) → IsRunnable job policies limits → (v : ℕ) → v < length job
    → IsVertex (job_numbers job policies limits) v (vertex_numbers (meant.vertex job v) job v (policy_at policies v))
vertex_stands laws job policies limits runnable v h =
    let form = meant.vertex job v in
    let policy = policy_at policies v in
    let y = vertex_numbers form job v policy in
    let jn = job_numbers job policies limits in
    let is = subst (IsMeant job v) (vertex_is job policies limits v h) (is_meant_at laws job policies limits runnable.means v h) in
    let input_is : (i : ℕ) → input y i ≡ get_or (reads form) i 0 = λ i. ap (λ names. get_or names i 0) is.inputs in
    let within : (i : ℕ) → i < length y.inputs → i < length (reads form) = λ i k. let e = ap length is.inputs in omega arith in
    let gives : (i : ℕ) → i < length y.inputs → GivesStream job (get_or (reads form) i 0) =
    λ i k. runnable.streams (get_or (reads form) i 0) v i (record { vertex = h; within = within i k; is = refl }) in
    record {
      earlier = λ i k. let before = reads_before v form (runnable.means.each v h) i (within i k) in let e = input_is i in omega arith;
      streams = λ i k. ap (λ u. is_sink (vertex jn u).kind) (input_is i) ∙ (stream_at laws job policies limits runnable (get_or (reads form) i 0) (gives i k)).0;
      given = given_as_arrives form job v policy;
      every = has_every form job v policy (runnable.every v h);
      replicas = λ e. has_replicas form job v policy (ap is_sink (sym is.kind) ∙ e) (runnable.replicas v h);
      arrivals = λ inner n k. comes_from_input laws.keeps laws.whole job runnable.means v h y is inner n k;
      whole = λ inner i k.
          all_from laws.keeps laws.whole job runnable.means v h y is inner i
          ∙ ap length (get_or-map (meaning job) (reads form) i 0 [] (within i k))
          ∙ sym (ap (λ u. size (vertex jn u)) (input_is i) ∙ (stream_at laws job policies limits runnable (get_or (reads form) i 0) (gives i k)).1);
      held = λ inner. held_as_long form job v policy (ap is_inner (sym is.kind) ∙ inner);
      plain = λ e n k. plain_out y is (λ f. (sink_has_none form job v policy (sym is.kind ∙ f)).1) (ap is_inner (sym is.kind) ∙ e) n k;
      source = λ e. ap length is.inputs ∙ (source_reads form (sym is.kind ∙ e)).0;
      listed = λ e. listed_size y is e;
      sink = λ e. ap length is.inputs ∙ (sink_has_none form job v policy (sym is.kind ∙ e)).3;
      gives_none = λ e. (sink_has_none form job v policy (sym is.kind ∙ e)).0;
      runs_none = λ e. (sink_has_none form job v policy (sym is.kind ∙ e)).2;
    }
  where
    plain_out : (y : VertexNumbers) → IsMeant job v y → (y.kind ≡ kind.Sink → y.arrivals ≡ []) → is_inner (kind_of (meant.vertex job v)) ≡ false
        → (n : ℕ) → n ≤ mlen y → out y n ≡ n
    plain_out y is empty e n k = ⊎_elim
        (λ sink.
        let none = ap length (empty (sink_kind y.kind sink)) in
        let first : n ≡ 0 = omega arith in
        ap (out y) first ∙ out_zero y ∙ sym first)
        (λ stream. is.out stream n k ∙ out_of_plain (meant.vertex job v) job v n e)
        (cases_Bool (is_sink y.kind))

    listed_size : (y : VertexNumbers) → IsMeant job v y → y.kind ≡ kind.Source → size y ≤ (job_numbers job policies limits).max_elements
    listed_size y is e =
        let source = source_reads (meant.vertex job v) (sym is.kind ∙ e) in
        let list = source.1.0 in
        let form_is = source.1.1 in
        let same : meaning job v ≡ list =
        laws.by_inputs job runnable.means v h ∙ ap (λ form. stream form (map (meaning job) (reads (meant.vertex job v)))) form_is in
        let all = is.size (ap is_sink e) ∙ ap length same in
        let few = runnable.listed v list h form_is in
        omega (arith, most_of_job job policies limits)

pub runnable_has_numbers : MergeKeepsEachInput → MeaningByInputs → MeaningIsWhole → RunnableHasNumbers
runnable_has_numbers keeps by_inputs whole job policies limits runnable =
    let laws : MeaningLaws = record { keeps = keeps; by_inputs = by_inputs; whole = whole } in
    let jn = job_numbers job policies limits in
    let many = length_job job policies limits in
    record {
      each = λ v h.
          let less : v < length job = omega arith in
          subst (IsVertex jn v) (sym (vertex_is job policies limits v less)) (vertex_stands laws job policies limits runnable v less);
      read = λ u stream.
          let less : u < length job = omega (arith, stream.0) in
          let is = is_meant_at laws job policies limits runnable.means u less in
          let reader = runnable.read u (less, ap is_sink (sym is.kind) ∙ stream.1) in
          let w = reader.0 in
          let i = reader.1 in
          let r = reader.2 in
          let at_reader = is_meant_at laws job policies limits runnable.means w r.vertex in (
            w,
            i,
            record {
              is_vertex = omega (arith, r.vertex);
              is_input = omega (arith, r.within, ap length at_reader.inputs);
              is_stream = ap (λ names. get_or names i 0) at_reader.inputs ∙ r.is;
            },
          );
      collects = omega (arith, runnable.collects, collects_of_job job policies limits);
    }
