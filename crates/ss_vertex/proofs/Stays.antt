-- An instance that stands goes on to stand.
use Rattle.std.proofs.Common.{◌≡◌, ℕ, zero, suc, ◌+◌, ◌<◌, ◌≤◌, true, false, List, [], ◌∷◌, ◌++◌, length, take, drop, map, All, Option, Some, None, option_map, IsSome, IsSomeAnd, IfSome, refl, sym, ap, ◌∙◌, subst, arith, append_assoc, append-nil}
use Rattle.std.specs.Option.{option_map_or}
use Rattle.ss_elem.specs.Rows.{IsKept}
use Rattle.ss_elem.specs.declared.element.Element.{Element}
use Rattle.ss_expr.specs.Operators.{operator_of}
use Rattle.ss_expr.specs.declared.stream_operator.Spec.{Spec}
use Rattle.ss_frames.specs.Frames.{accepted, inputs_at}
use Rattle.ss_frames.specs.Within.{IsWithin, AreKept}
use Rattle.ss_job.specs.JobText.{spec_of, op_of}
use Rattle.ss_job.specs.declared.op.Op.TheVariants as op
use Rattle.ss_meaning.specs.Meaning.{Vertex, Source, Inner, Sink, reads, vertex, meaning}
use Rattle.ss_meaning.specs.Merge.{Arrival, merge}
use Rattle.ss_meaning.specs.Positions.{mlen, mlen_of, out, out_of}
use Rattle.ss_plan.specs.Laws.{PlansMeanJobs, VerticesByNumber}
use Rattle.ss_plan.specs.Limit.{IsPlan}
use Rattle.ss_plan.specs.Plan.{PlanText, vertices_of, source_list}
use Rattle.ss_state.specs.Numbers.{is_inner}
use Rattle.ss_state.specs.NumbersOfMeaning.{GivesStream, kind_of}
use Rattle.ss_vertex.specs.Arriving.{given_at, last_given}
use Rattle.ss_vertex.specs.Calls.{one_more}
use Rattle.ss_vertex.specs.Inst.{Running, InstState, left_of, one_done, with_one_done, crashed, loaded_at}
use Rattle.ss_vertex.specs.Known.{Known}
use Rattle.ss_vertex.specs.Standing.{Stands, InstStands, operator_after, operator_at}
use Rattle.ss_vertex.proofs.Operators.{operator}
use Rattle.ss_vertex.proofs.Streams.{last_next, listing, source_stream}
use Rattle.ss_water.specs.Graph.{is_sink}

pub accepted_stands : (plan : PlanText) (v : ℕ) (up : Running) → Stands plan v up → up.left ≡ [] → IsWithin plan v (up.n + 1)
    → AreKept plan v (up.n + 1)
    → out (vertices_of plan) v (up.n + 1) ≡ out (vertices_of plan) v up.n + length (given_at (vertices_of plan) v up.n)
    → Stands plan v (one_more plan v up)
accepted_stands plan v up h none within kept more =
    let here = h.next in
    let count : length up.left ≡ 0 = ap length none in
    record {
      within = within;
      kept = kept;
      operator = refl;
      left = ([], last_next (vertices_of plan) v up.n);
      next = omega arith;
    }

-- the first output left is done with
done_stands : (plan : PlanText) (v : ℕ) (up : Running) → 0 < length up.left → Stands plan v up → Stands plan v (one_done up)
done_stands plan v up some h =
    let here = h.next in
    let parts = first_of up.left some in
    let x : Element = parts.0 in
    let count : length up.left ≡ 1 + length (drop 1 up.left) = parts.2 in
    record {
      within = h.within;
      kept = h.kept;
      operator = h.operator;
      left = (h.left.0 ++ x ∷ [], h.left.1 ∙ ap (λ (xs : List Element). h.left.0 ++ xs) parts.1 ∙ sym (append_assoc h.left.0 (x ∷ []) (drop 1 up.left)));
      next = omega arith;
    }
  where
    first_of : (xs : List Element) → 0 < length xs → (x : Element) × (xs ≡ x ∷ drop 1 xs) × (length xs ≡ 1 + length (drop 1 xs))
    first_of [] k = absurd (omega arith)
    first_of (y ∷ ys) k = (y, refl, omega arith)

running_done : (plan : PlanText) (v : ℕ) (r : Option Running) → 0 < option_map_or (λ (up : Running). length up.left) r 0 → IfSome r (Stands plan v) → IfSome (option_map one_done r) (Stands plan v)
running_done plan v None some h = tt
running_done plan v (Some up) some h = done_stands plan v up some h

pub inst_done : (plan : PlanText) (inst : InstState) → 0 < left_of inst → InstStands plan inst → InstStands plan (with_one_done inst)
inst_done plan inst some h = record { stream = h.stream; list = h.list; running = running_done plan inst.v inst.running some h.running }

pub inst_crashed : (plan : PlanText) (inst : InstState) → InstStands plan inst → InstStands plan (crashed inst)
inst_crashed plan inst h = record { stream = h.stream; list = h.list; running = tt }

-- the instance of a source

pub source_within : (plan : PlanText) (v n : ℕ) (list : List Element) → vertex (vertices_of plan) v ≡ Source list
    → meaning (vertices_of plan) v ≡ list → n ≤ length list → n ≤ plan.job.max_elements → IsWithin plan v n
source_within plan v n list is stream h most =
    let J = vertices_of plan in
    let all : mlen J v ≡ length list = ap (λ (z : Vertex). mlen_of z J v) is ∙ ap length stream in
    let given : out J v n ≡ n = ap (λ (z : Vertex). out_of z J v n) is in
    let none : inputs_at plan v ≡ 0 = ap (λ (z : Vertex). length (reads z)) is in
    record {
      taken = omega arith;
      out = omega arith;
      pos = λ input k. absurd (omega arith);
    }

-- a source has no operator
source_operator : VerticesByNumber → PlansMeanJobs → (plan : PlanText) → IsPlan plan → (v n : ℕ) (list : List Element)
    → vertex (vertices_of plan) v ≡ Source list → operator_at plan v n ≡ None
source_operator by_number mean plan is_plan v n list is = by_spec (spec_of plan.job v) refl
  where
    by_spec : (q : Option Spec) → spec_of plan.job v ≡ q → operator_at plan v n ≡ None
    by_spec None e = ap (option_map (operator_after (inputs_at plan v) (accepted plan v n))) e
    by_spec (Some s) e =
        let o = operator by_number mean plan is_plan v s e in
        let both : Source list ≡ Inner (operator_of s) (reads (vertex (vertices_of plan) v)) = sym is ∙ o.is in
        cc

nothing_kept : (plan : PlanText) (v n : ℕ) (list : List Element) → vertex (vertices_of plan) v ≡ Source list → AreKept plan v n
nothing_kept plan v n list is =
    let none : accepted plan v n ≡ [] = ap (λ (z : Vertex). take n (merge (map (meaning (vertices_of plan)) (reads z)))) is ∙ take-nil n in
    subst (All (λ (x : Arrival). IsKept x.element)) (sym none) (λ i d k. absurd (omega arith))
  where
    take-nil : (n : ℕ) → take n (merge []) ≡ []
    take-nil zero = refl
    take-nil (suc n) = refl

pub listed_stands : Known → (plan : PlanText) → IsPlan plan → (inst : InstState) (n : ℕ) → IsSomeAnd inst.list (λ len. n ≤ len)
    → InstStands plan inst → InstStands plan (loaded_at inst n)
listed_stands known plan is_plan inst n within h =
    let J = vertices_of plan in
    let v : ℕ = inst.v in
    let len = a_length inst.list n within in
    let found = listing (vertex J v) len.0 (sym len.1 ∙ h.list) in
    let list : List Element = found.0 in
    let is : vertex J v ≡ Source list = found.1 in
    let count : len.0 ≡ length list = found.2 in
    let below : n ≤ len.0 = len.2 in
    let stream : meaning J v ≡ list = source_stream known.streams J (known.jobs plan is_plan.job is_plan.lists) v list h.stream.0 is in
    let short : length list ≤ plan.job.max_elements = (known.runnable plan is_plan).listed v list h.stream.0 is in
    let inside : IsWithin plan v n = source_within plan v n list is stream (omega arith) (omega arith) in
    let given : out J v n ≡ n = ap (λ (z : Vertex). out_of z J v n) is in
    record {
      stream = h.stream;
      list = h.list;
      running = record {
        within = inside;
        kept = nothing_kept plan v n list is;
        operator = sym (source_operator known.vertices known.jobs plan is_plan v n list is);
        left = (last_given J v n, sym (append-nil (last_given J v n)));
        next = omega arith;
      };
    }
  where
    a_length : (q : Option ℕ) (n : ℕ) → IsSomeAnd q (λ len. n ≤ len) → (len : ℕ) × (q ≡ Some len) × (n ≤ len)
    a_length None n h = absurd h
    a_length (Some len) n h = (len, refl, h)

-- what is a stream and has no spec is a source, with its list

pub record IsSource (plan : PlanText) (v : ℕ) : Type 0 where
  pub is : vertex (vertices_of plan) v ≡ Source (source_list plan v)
  pub op : op_of plan.job v ≡ Some op.Source

pub source_of : Known → (plan : PlanText) → IsPlan plan → (v : ℕ) → GivesStream (vertices_of plan) v → spec_of plan.job v ≡ None → IsSource plan v
source_of known plan is_plan v gives none = by_form (vertex (vertices_of plan) v) refl
  where
    by_form : (z : Vertex) → vertex (vertices_of plan) v ≡ z → IsSource plan v
    by_form (Source list) is =
        let all = known.numbers plan is_plan in
        let count = (known.vertices plan is_plan.job).count in
        let gives_it = gives.0 in
        let meant = all.meant v (omega arith) in
        let source = all.sources v (meant.kind ∙ ap kind_of is) in
        let stream = source_stream known.streams (vertices_of plan) (known.jobs plan is_plan.job is_plan.lists) v list gives.0 is in
        record { is = is ∙ ap Source (sym stream ∙ source.1); op = source.0 }
    by_form (Inner form ins) is =
        let all = known.numbers plan is_plan in
        let count = (known.vertices plan is_plan.job).count in
        let gives_it = gives.0 in
        let meant = all.meant v (omega arith) in
        let some : IsSome (spec_of plan.job v) = (all.operators v).0 (ap is_inner meant.kind ∙ ap (λ (z : Vertex). is_inner (kind_of z)) is) in
        let both = subst IsSome none some in
        cc
    by_form (Sink u) is =
        let both : true ≡ false = sym (ap (λ (z : Vertex). is_sink (kind_of z)) is) ∙ gives.1 in
        cc
