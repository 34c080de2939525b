-- How far a vertex may have come, by its meaning and by its numbers.
use Rattle.std.proofs.Common.{◌≡◌, ℕ, suc, ◌+◌, ◌<◌, ◌≤◌, Bool, true, false, cond, nat_eq, List, [], ◌∷◌, length, get_or, take, drop, map, refl, sym, ap, ◌∙◌, ⊎_elim, arith}
use Rattle.std.proofs.lemmas.Bool.{cases_lt}
use Rattle.std.proofs.lemmas.List.{length-append, length-map, length-take, get_or_past}
use Rattle.ss_expr.specs.declared.stream_operator.Spec.{Spec}
use Rattle.ss_meaning.specs.Meaning.{Vertex, Source, Inner, Sink, reads, meaning, merged}
use Rattle.ss_meaning.specs.Meaning as meant
use Rattle.ss_meaning.specs.Merge.{from_input}
use Rattle.ss_meaning.specs.Positions as position
use Rattle.ss_plan.specs.Limit.{IsPlan}
use Rattle.ss_plan.specs.Plan.{PlanText, vertices_of}
use Rattle.ss_state.specs.Joint.{MayAccept}
use Rattle.ss_state.specs.Numbers.{VertexNumbers, IsStream, is_inner, count_of, mlen, pos, vertex}
use Rattle.ss_state.specs.NumbersOfMeaning.{kind_of, IsMeant}
use Rattle.ss_water.specs.Graph.{is_sink}
use Rattle.ss_frames.specs.Frames.{inputs_at}
use Rattle.ss_frames.specs.Laws.{PlanNumbersAreMeant, WithinIsMayAccept}
use Rattle.ss_frames.specs.Plans.{plan_numbers, AreOfPlan}
use Rattle.ss_frames.specs.Within.{IsWithin}
use Rattle.ss_frames.proofs.Codes.{JobLaws, operator_inputs, merged_is, inputs_count, from_front, some_of}
use Rattle.ss_frames.proofs.Operators.{IsOperatorAt, is_operator}

-- nothing comes from an input that there isn't
past_none : JobLaws → (plan : PlanText) → IsPlan plan → (v n : ℕ) (operator : Spec) → IsOperatorAt plan v operator → (i : ℕ) → inputs_at plan v ≤ i
    → position.pos (vertices_of plan) v n i ≡ 0
past_none laws plan is v n operator o i far =
    let job = vertices_of plan in
    let inputs = operator_inputs laws plan is v operator o in
    let lists = map (meaning job) o.names in
    let none : get_or lists i [] ≡ [] =
    get_or_past lists i [] (omega (arith, far, inputs_count plan v operator o, length-map o.names (meaning job))) in
    let all : from_input i (merged job v) ≡ [] =
    ap (from_input i) (merged_is plan v operator o) ∙ laws.keeps lists inputs.whole i ∙ none in
    let parts = ap length (from_front i n (merged job v) ∙ all) in
    omega (arith, parts, length-append (from_input i (take n (merged job v))) (from_input i (drop n (merged job v))))

count_small : (i : ℕ) (ns : List ℕ) → count_of i ns ≤ length ns
count_small i [] = omega arith
count_small i (n ∷ ns) = by_test (nat_eq n i) (count_small i ns)
  where
    by_test : (b : Bool) → count_of i ns ≤ length ns → cond b (count_of i ns + 1) (count_of i ns) ≤ suc (length ns)
    by_test true h = omega (arith, h)
    by_test false h = omega (arith, h)

pos_small : (x : VertexNumbers) (n i : ℕ) → pos x n i ≤ n
unfolding pos
pos_small x n i = omega (arith, count_small i (take n x.arrivals), length-take n x.arrivals)

-- what both say of an operator's positions
same_positions : JobLaws → (plan : PlanText) → IsPlan plan → AreOfPlan plan (plan_numbers plan) → (v n most : ℕ)
    → IsMeant (vertices_of plan) v (vertex (plan_numbers plan) v) → is_inner (vertex (plan_numbers plan) v).kind ≡ true
    → ((i : ℕ) → i < inputs_at plan v → position.pos (vertices_of plan) v n i ≤ most) → (i : ℕ) → pos (vertex (plan_numbers plan) v) n i ≤ most
same_positions laws plan is of v n most m inner h i = ⊎_elim near far (cases_lt i (inputs_at plan v))
  where
    near : i < inputs_at plan v → pos (vertex (plan_numbers plan) v) n i ≤ most
    near inside = let here = h i inside in omega (arith, m.pos inner n i, here)

    far : inputs_at plan v ≤ i → pos (vertex (plan_numbers plan) v) n i ≤ most
    far past =
        let found = some_of _ ((of.operators v).0 inner) in
        let o = is_operator laws.vertices plan is v found.0 found.1 in
        omega (arith, m.pos inner n i, past_none laws plan is v n found.0 o i past)

-- positions of a vertex by its form
record ArePositions (plan : PlanText) (v n : ℕ) : Type 0 where
  to : position.out (vertices_of plan) v n ≤ plan.job.max_elements
      → ((i : ℕ) → i < inputs_at plan v → position.pos (vertices_of plan) v n i ≤ plan.job.max_elements)
      → (i : ℕ) → pos (vertex (plan_numbers plan) v) n i ≤ plan.job.max_elements
  from : ((i : ℕ) → pos (vertex (plan_numbers plan) v) n i ≤ plan.job.max_elements)
      → (i : ℕ) → i < inputs_at plan v → position.pos (vertices_of plan) v n i ≤ plan.job.max_elements

by_form : JobLaws → (plan : PlanText) → IsPlan plan → AreOfPlan plan (plan_numbers plan) → (v n : ℕ) (form : Vertex)
    → meant.vertex (vertices_of plan) v ≡ form
    → IsMeant (vertices_of plan) v (vertex (plan_numbers plan) v) → is_sink (vertex (plan_numbers plan) v).kind ≡ false
    → ArePositions plan v n
by_form laws plan is of v n (Source list) e m stream = record {
  to = λ given h i.
      let given_is : position.out (vertices_of plan) v n ≡ n = ap (λ (x : Vertex). position.out_of x (vertices_of plan) v n) e in
      omega (arith, pos_small (vertex (plan_numbers plan) v) n i, given, given_is);
  from = λ h i inside. let none : inputs_at plan v ≡ 0 = ap (λ (x : Vertex). length (reads x)) e in absurd (omega (arith, inside, none));
}
by_form laws plan is of v n (Inner form names) e m stream =
    let inner : is_inner (vertex (plan_numbers plan) v).kind ≡ true = ap is_inner (m.kind ∙ ap kind_of e) in
    record {
      to = λ given h. same_positions laws plan is of v n plan.job.max_elements m inner h;
      from = λ h i inside. let here = h i in omega (arith, m.pos inner n i, here);
    }
by_form laws plan is of v n (Sink input) e m stream =
    let sink : true ≡ false = sym (ap is_sink (m.kind ∙ ap kind_of e)) ∙ stream in
    absurd cc

to_numbers : JobLaws → (plan : PlanText) → IsPlan plan → AreOfPlan plan (plan_numbers plan) → (v n : ℕ) → IsStream (plan_numbers plan) v
    → IsMeant (vertices_of plan) v (vertex (plan_numbers plan) v) → ArePositions plan v n → IsWithin plan v n
    → MayAccept (plan_numbers plan).max_elements (vertex (plan_numbers plan) v) n
to_numbers laws plan is of v n stream m positions w =
    let taken = w.taken in
    let given = w.out in
    let within : n ≤ mlen (vertex (plan_numbers plan) v) = omega (arith, taken, m.mlen stream.1) in
    record {
      within = within;
      out = omega (arith, given, m.out stream.1 n within, of.max_elements);
      pos = λ i. let here = positions.to given w.pos i in omega (arith, here, of.max_elements);
    }

from_numbers : JobLaws → (plan : PlanText) → IsPlan plan → AreOfPlan plan (plan_numbers plan) → (v n : ℕ) → IsStream (plan_numbers plan) v
    → IsMeant (vertices_of plan) v (vertex (plan_numbers plan) v) → ArePositions plan v n
    → MayAccept (plan_numbers plan).max_elements (vertex (plan_numbers plan) v) n → IsWithin plan v n
from_numbers laws plan is of v n stream m positions a =
    let taken = a.within in
    let given = a.out in
    record {
      taken = omega (arith, taken, m.mlen stream.1);
      out = omega (arith, given, m.out stream.1 n taken, of.max_elements);
      pos = positions.from (λ i. let here = a.pos i in omega (arith, here, of.max_elements));
    }

pub within_is_may_accept : JobLaws → PlanNumbersAreMeant → WithinIsMayAccept
within_is_may_accept laws law plan is v n stream =
    let of = law plan is in
    let inside = stream.0 in
    let m = of.meant v (omega (arith, inside, of.count)) in
    let positions = by_form laws plan is of v n (meant.vertex (vertices_of plan) v) refl m stream.1 in
    (to_numbers laws plan is of v n stream m positions, from_numbers laws plan is of v n stream m positions)
