-- What the acts of a run say of an instance by its numbers.
use Rattle.std.proofs.Common.{◌≡◌, ℕ, zero, suc, ◌+◌, ◌-◌, ◌<◌, ◌≤◌, true, false, cond, nat_lt, List, [], ◌∷◌, ◌++◌, length, get_or, take, map, Option, Some, None, option_map, IfSome, refl, sym, ap, ◌∙◌, subst, arith, lt-ltb, le-ltb, ⊎_elim}
use Rattle.std.proofs.lemmas.Bool.{cases_lt}
use Rattle.std.proofs.lemmas.List.{length-map, length-drop, get_or-map, take_all}
use Rattle.std.proofs.lemmas.List.FromFn.{get_or-map-range_with_len}
use Rattle.std.proofs.lemmas.Option.{slice_get_past, get_or_from_slice_get}
use Rattle.std.specs.List.{slice_get}
use Rattle.std.specs.Option.{option_to_list, option_map_or, option_and_then, is_some}
use Rattle.ss_elem.specs.declared.element.Element.{Element}
use Rattle.ss_expr.specs.Operators.{operator_of}
use Rattle.ss_expr.specs.declared.stream_operator.Spec.{Spec}
use Rattle.ss_frames.specs.Frames.{accepted, inputs_at}
use Rattle.ss_job.specs.JobText.{VertexText, source, inner, sink, spec_of, spec_of_vertex}
use Rattle.ss_meaning.specs.Emit.{Kind, emit}
use Rattle.ss_meaning.specs.Entries.{held, entry_count}
use Rattle.ss_meaning.specs.Laws.{MeaningByInputs, OutputGrowsByEmit}
use Rattle.ss_meaning.specs.Jobs.{IsJob}
use Rattle.ss_meaning.specs.Meaning.{Vertex, Source, Inner, Sink, reads, vertex, meaning, merged}
use Rattle.ss_meaning.specs.Merge.{Arrival}
use Rattle.ss_meaning.specs.Positions as position
use Rattle.ss_plan.specs.Laws.{PlansMeanJobs, VerticesByNumber}
use Rattle.ss_plan.specs.Limit.{IsPlan}
use Rattle.ss_plan.specs.Plan.{PlanText, vertex_at, vertices_of, source_list}
use Rattle.ss_state.specs.Acts as act
use Rattle.ss_state.specs.MeaningLaws.{NumbersAreMeant}
use Rattle.ss_state.specs.Numbers.{VertexNumbers, JobNumbers, is_inner, mlen, pos, out, wanted_input, wanted_number, count_of}
use Rattle.ss_state.specs.Numbers as table
use Rattle.ss_state.specs.NumbersOfMeaning.{Policy, Limits, job_numbers, numbers_at, vertex_numbers, policy_at, kind_of, IsMeant, GivesStream, HoldsAsMeant, given_counts}
use Rattle.ss_state.specs.State.{InstNumbers, next}
use Rattle.ss_vertex.specs.Arriving.{wanted_by, taken_by, given_at, given_by}
use Rattle.ss_vertex.specs.Calls.{one_more}
use Rattle.ss_vertex.specs.Inst.{OperatorState, Running, running_numbers, n_of, held_running, one_done}
use Rattle.ss_vertex.specs.Laws.{InstancesAreNumbered, wanted_in}
use Rattle.ss_vertex.specs.Standing.{Stands, list_len, operator_after}
use Rattle.ss_vertex.proofs.Operators.{operator}
use Rattle.ss_vertex.proofs.Streams.{found_at, source_stream, out_given}
use Rattle.ss_water.specs.Graph.{is_sink}
use Rattle.ss_water.specs.declared.node.Kind.TheVariants as kind
use Rattle.ss_water.specs.declared.node.Node.{Node}

-- the numbers of a vertex of a table that is made from a job
pub numbers_are : (J : List Vertex) (policies : List Policy) (limits : Limits) (v : ℕ) → v < length J
    → table.vertex (job_numbers J policies limits) v ≡ numbers_at J policies v
unfolding job_numbers
numbers_are J policies limits v h = get_or-map-range_with_len (numbers_at J policies) 0 (length J) v v table.no_vertex h (omega arith)

-- the numbers of a source: each element is of input 0, and one is given at each

abbrev zero_of : Element → ℕ
zero_of x = 0

zeros_under : (list : List Element) (n : ℕ) → get_or (map zero_of list) n 0 ≡ 0
zeros_under [] n = refl
zeros_under (x ∷ xs) zero = refl
zeros_under (x ∷ xs) (suc n) = zeros_under xs n

zeros_counted : (list : List Element) (n : ℕ) → n ≤ length list → count_of 0 (take n (map zero_of list)) ≡ n
zeros_counted list zero h = refl
zeros_counted [] (suc n) h = absurd (omega arith)
zeros_counted (x ∷ xs) (suc n) h = let rest = zeros_counted xs n (omega arith) in omega arith

abbrev place_at : ℕ → ℕ → Option (ℕ × ℕ)
place_at i n = Some (i, n)

source_wanted : (list : List Element) (policy : Policy) (J : List Vertex) (v n : ℕ) → n ≤ length list
    → wanted_by (Source list) J v n ≡ wanted_in (vertex_numbers (Source list) J v policy) n
unfolding wanted_input pos
source_wanted list policy J v n h =
    let zeros : List ℕ = map zero_of list in
    let first : ℕ = get_or zeros n 0 in
    let number : count_of first (take n zeros) ≡ n =
    ap (λ i. count_of i (take n zeros)) (zeros_under list n) ∙ zeros_counted list n h in
    let same : length zeros ≡ length list = length-map list zero_of in
    let pair : place_at 0 n ≡ place_at first (count_of first (take n zeros)) =
    ap (λ i. place_at i n) (sym (zeros_under list n)) ∙ ap (place_at first) (sym number) in
    ap (λ (m : ℕ). cond (nat_lt n m) (place_at 0 n) None) (sym same)
    ∙ ap (λ (o : Option (ℕ × ℕ)). cond (nat_lt n (length zeros)) o None) pair

-- the numbers of an operator: its arrivals have their inputs

inner_wanted : (all : List Arrival) (x : VertexNumbers) (number : ℕ → ℕ) (n : ℕ) → x.arrivals ≡ map (λ (a : Arrival). a.input) all
    → ((i : ℕ) → pos x n i ≡ number i)
    → option_map (λ (y : Arrival). (y.input, number y.input)) (slice_get all n) ≡ wanted_in x n
unfolding wanted_input
inner_wanted all x number n arrivals numbers =
    ⊎_elim (one (ap length arrivals ∙ length-map all (λ (a : Arrival). a.input)))
    (none (ap length arrivals ∙ length-map all (λ (a : Arrival). a.input))) (cases_lt n (length all))
  where
    one : mlen x ≡ length all → n < length all → option_map (λ (y : Arrival). (y.input, number y.input)) (slice_get all n) ≡ wanted_in x n
    one same h =
        let there = found_at all n h in
        let y : Arrival = there.0 in
        let input : wanted_input x n ≡ y.input =
        ap (λ (is : List ℕ). get_or is n 0) arrivals
        ∙ get_or-map (λ (a : Arrival). a.input) all n y 0 h
        ∙ ap (λ (a : Arrival). a.input) (get_or_from_slice_get all n y y there.1) in
        let place : pos x n (wanted_input x n) ≡ number y.input = numbers (wanted_input x n) ∙ ap number input in
        let pair : place_at y.input (number y.input) ≡ place_at (wanted_input x n) (pos x n (wanted_input x n)) =
        ap (λ i. place_at i (number y.input)) (sym input) ∙ ap (place_at (wanted_input x n)) (sym place) in
        ap (option_map (λ (a : Arrival). (a.input, number a.input))) there.1
        ∙ pair
        ∙ sym (ap (λ b. cond b (place_at (wanted_input x n) (pos x n (wanted_input x n))) None) (lt-ltb n (mlen x) (omega arith)))

    none : mlen x ≡ length all → length all ≤ n → option_map (λ (y : Arrival). (y.input, number y.input)) (slice_get all n) ≡ wanted_in x n
    none same h =
        ap (option_map (λ (a : Arrival). (a.input, number a.input))) (slice_get_past all n h)
        ∙ sym (ap (λ b. cond b (place_at (wanted_input x n) (pos x n (wanted_input x n))) None) (le-ltb n (mlen x) (omega arith)))

wanted_for : (z : Vertex) (J : List Vertex) (v n : ℕ) (policy : Policy) (x : VertexNumbers) → vertex J v ≡ z → is_sink (kind_of z) ≡ false
    → x ≡ vertex_numbers z J v policy → IsMeant J v x → ((list : List Element) → z ≡ Source list → n ≤ length list)
    → wanted_by z J v n ≡ wanted_in x n
wanted_for (Source list) J v n policy x is gives numbers meant fits =
    source_wanted list policy J v n (fits list refl) ∙ ap (λ (y : VertexNumbers). wanted_in y n) (sym numbers)
wanted_for (Inner kind ins) J v n policy x is gives numbers meant fits =
    let inner : is_inner x.kind ≡ true = ap (λ (y : VertexNumbers). is_inner y.kind) numbers in
    inner_wanted (merged J v) x (position.pos J v n) n (meant.arrivals inner) (meant.pos inner n)
wanted_for (Sink u) J v n policy x is gives numbers meant fits = cc

-- nothing is given past the end

given_count : (give : List Arrival → Arrival → List Element) (p all : List Arrival) → length (given_counts give p all) ≡ length all
given_count give p [] = refl
given_count give p (x ∷ xs) = ap suc (given_count give (p ++ x ∷ []) xs)

given_length : (z : Vertex) (J : List Vertex) (v : ℕ) (policy : Policy) → length (vertex_numbers z J v policy).given ≡ length (vertex_numbers z J v policy).arrivals
given_length (Source list) J v policy = length-map list (λ (x : Element). 1) ∙ sym (length-map list (λ (x : Element). 0))
given_length (Inner kind ins) J v policy =
    given_count (emit kind (length ins)) [] (merged J v) ∙ sym (length-map (merged J v) (λ (a : Arrival). a.input))
given_length (Sink u) J v policy = refl

out_past : (x : VertexNumbers) (n : ℕ) → length x.given ≤ n → out x (n + 1) ≡ out x n
unfolding out
out_past x n h =
    ap table.sum_of (take_all (n + 1) x.given (omega arith) ∙ sym (take_all n x.given h))

given_past : (z : Vertex) (J : List Vertex) (v n : ℕ) → is_sink (kind_of z) ≡ false → ((list : List Element) → z ≡ Source list → length list ≤ n)
    → ((kind : Kind) (ins : List ℕ) → z ≡ Inner kind ins → length (merged J v) ≤ n)
    → length (given_by z J v n) ≡ 0
given_past (Source list) J v n gives listed all = ap (λ (o : Option Element). length (option_to_list o)) (slice_get_past list n (listed list refl))
given_past (Inner kind ins) J v n gives listed all =
    ap (λ (o : Option Arrival). length (option_map_or (emit kind (length ins) (take n (merged J v))) o [])) (slice_get_past (merged J v) n (all kind ins refl))
given_past (Sink u) J v n gives listed all = cc

-- an operator by its kind has a spec
pub inner_spec : VerticesByNumber → (plan : PlanText) → IsPlan plan → (v : ℕ) → v < length (vertices_of plan)
    → is_inner (kind_of (vertex (vertices_of plan) v)) ≡ true → (s : Spec) × (spec_of plan.job v ≡ Some s)
inner_spec by_number plan is_plan v h inner_is =
    let all = by_number plan is_plan.job in
    let count = all.count in
    let same = is_plan.job.vertices in
    let text = found_at plan.job.vertices v (omega arith) in
    let node = found_at plan.job.graph v (omega arith) in
    by_text node.0 (source_list plan v) text.0 text.1
    (sym (ap (λ (z : Vertex). is_inner (kind_of z)) (all.each v node.0 text.0 node.1 text.1)) ∙ inner_is)
  where
    by_text : (node : Node) (list : List Element) (text : VertexText) → slice_get plan.job.vertices v ≡ Some text
        → is_inner (kind_of (vertex_at node text list)) ≡ true → (s : Spec) × (spec_of plan.job v ≡ Some s)
    by_text node list (source file late) e k = cc
    by_text node list (inner s policy) e k = (s, ap (option_and_then spec_of_vertex) e)
    by_text node list (sink file) e k = cc

reached_by : (plan : PlanText) (v : ℕ) (x : VertexNumbers) (r : Option Running) → mlen x ≡ position.mlen (vertices_of plan) v
    → IfSome r (Stands plan v) → option_map_or (λ (up : Running). up.n) r 0 ≤ mlen x
reached_by plan v x None same h = omega arith
reached_by plan v x (Some up) same h = let taken = h.within.taken in omega arith

next_by : (plan : PlanText) (v : ℕ) (x : VertexNumbers) (r : Option Running) → mlen x ≡ position.mlen (vertices_of plan) v
    → ((n : ℕ) → n ≤ mlen x → out x n ≡ position.out (vertices_of plan) v n)
    → IfSome r (Stands plan v) → IfSome r (λ up. up.next ≡ next x (running_numbers up))
next_by plan v x None same outs h = tt
next_by plan v x (Some up) same outs h =
    let taken = h.within.taken in
    let here = h.next in
    let there = outs up.n (omega arith) in
    omega arith

abbrev numbers_of : ℕ → ℕ → InstNumbers
numbers_of n left = record { n = n; left = left }

numbers_same : (a b : InstNumbers) → a.n ≡ b.n → a.left ≡ b.left → a ≡ b
numbers_same a b n left = ap (λ m. numbers_of m a.left) n ∙ ap (numbers_of b.n) left

accepts_by : (plan : PlanText) (v : ℕ) (x : VertexNumbers) (r : Option Running) → mlen x ≡ position.mlen (vertices_of plan) v
    → ((n : ℕ) → n ≤ mlen x → out x n ≡ position.out (vertices_of plan) v n)
    → ((n : ℕ) → n < mlen x → position.out (vertices_of plan) v (n + 1) ≡ position.out (vertices_of plan) v n + length (given_at (vertices_of plan) v n))
    → ((n : ℕ) → mlen x ≤ n → (out x (n + 1) ≡ out x n) × (length (given_at (vertices_of plan) v n) ≡ 0))
    → IfSome r (Stands plan v)
    → option_map running_numbers (option_map (one_more plan v) r) ≡ option_map (λ (up : Running). act.accepted x up.n) r
accepts_by plan v x None same outs more past h = refl
accepts_by plan v x (Some up) same outs more past h =
    ap (λ (i : InstNumbers). Some i) (numbers_same (running_numbers (one_more plan v up)) (act.accepted x up.n) refl left)
  where
    before : up.n < mlen x → length (given_at (vertices_of plan) v up.n) ≡ out x (up.n + 1) - out x up.n
    before k =
        let one = outs up.n (omega arith) in
        let two = outs (up.n + 1) (omega arith) in
        let grows = more up.n k in
        omega arith

    behind : mlen x ≤ up.n → length (given_at (vertices_of plan) v up.n) ≡ out x (up.n + 1) - out x up.n
    behind k =
        let both = past up.n k in
        let one = both.0 in
        let two = both.1 in
        omega arith

    left : length (given_at (vertices_of plan) v up.n) ≡ out x (up.n + 1) - out x up.n
    left = ⊎_elim before behind (cases_lt up.n (mlen x))

held_by : (plan : PlanText) (v : ℕ) (x : VertexNumbers) (s : Spec) (r : Option Running) → mlen x ≡ position.mlen (vertices_of plan) v
    → spec_of plan.job v ≡ Some s
    → ((n : ℕ) → n ≤ mlen x → get_or x.held n 0 ≡ held (operator_of s) (inputs_at plan v) (accepted plan v n))
    → IfSome r (Stands plan v) → is_some r ≡ true
    → held_running r ≡ get_or x.held (option_map_or (λ (up : Running). up.n) r 0) 0
held_by plan v x s None same spec holds h e = cc
held_by plan v x s (Some up) same spec holds h e =
    let taken = h.within.taken in
    let there : up.operator ≡ Some (operator_after (inputs_at plan v) (accepted plan v up.n) s) =
    h.operator ∙ ap (option_map (operator_after (inputs_at plan v) (accepted plan v up.n))) spec in
    ap (λ (o : Option OperatorState). option_map_or (λ (k : OperatorState). entry_count k.oper.entries) o 0) there
    ∙ sym (holds up.n (omega arith))

-- the list, the streams that are read, and what is written

no_list : (z : Vertex) → is_inner (kind_of z) ≡ true → list_len z ≡ None
no_list (Source list) e = cc
no_list (Inner kind ins) e = refl
no_list (Sink u) e = cc

a_list : (z : Vertex) (most : ℕ) → kind_of z ≡ kind.Source → ((list : List Element) → z ≡ Source list → most ≡ length list) → list_len z ≡ Some most
a_list (Source list) most e h = ap (λ (n : ℕ). Some n) (sym (h list refl))
a_list (Inner kind ins) most e h = cc
a_list (Sink u) most e h = cc

reads_stream : (z : Vertex) (J : List Vertex) (inputs : List ℕ) (i : ℕ) → is_inner (kind_of z) ≡ true → inputs ≡ reads z
    → taken_by z J i ≡ meaning J (get_or inputs i 0)
reads_stream (Source list) J inputs i e same = cc
reads_stream (Inner kind ins) J inputs i e same = ap (λ (us : List ℕ). meaning J (get_or us i 0)) (sym same)
reads_stream (Sink u) J inputs i e same = cc

reads_list : (z : Vertex) (J : List Vertex) (v i : ℕ) → kind_of z ≡ kind.Source → ((list : List Element) → z ≡ Source list → meaning J v ≡ list)
    → taken_by z J i ≡ meaning J v
reads_list (Source list) J v i e h = sym (h list refl)
reads_list (Inner kind ins) J v i e h = cc
reads_list (Sink u) J v i e h = cc

one_written : (r : Option Running) → option_map running_numbers (option_map one_done r) ≡ option_map act.with_one_written (option_map running_numbers r)
one_written None = refl
one_written (Some up) =
    ap (λ (i : InstNumbers). Some i)
    (numbers_same (running_numbers (one_done up)) (act.with_one_written (running_numbers up)) refl (length-drop 1 up.left))

pub instances_numbered : NumbersAreMeant → MeaningByInputs → OutputGrowsByEmit → PlansMeanJobs → VerticesByNumber → InstancesAreNumbered
instances_numbered numbers_law by_inputs grows mean by_number plan policies limits inst is_plan h =
    let J = vertices_of plan in
    let v : ℕ = inst.v in
    let job : IsJob J = mean plan is_plan.job is_plan.lists in
    let gives : GivesStream J v = h.stream in
    let x : VertexNumbers = table.vertex (job_numbers J policies limits) v in
    let policy : Policy = policy_at policies v in
    let numbers : x ≡ vertex_numbers (vertex J v) J v policy = numbers_are J policies limits v gives.0 in
    let meant : IsMeant J v x = numbers_law J policies limits job v gives.0 in
    let stream : is_sink x.kind ≡ false = ap is_sink meant.kind ∙ gives.1 in
    let same : mlen x ≡ position.mlen J v = meant.mlen stream in
    let outs : (n : ℕ) → n ≤ mlen x → out x n ≡ position.out J v n = meant.out stream in
    let more : (n : ℕ) → n < mlen x → position.out J v (n + 1) ≡ position.out J v n + length (given_at J v n) =
    λ n k. out_given by_inputs grows J job v n gives (omega arith) in
    let listed : (list : List Element) → vertex J v ≡ Source list → mlen x ≡ length list =
    λ list e. same ∙ ap (λ (z : Vertex). position.mlen_of z J v) e ∙ ap length (source_stream by_inputs J job v list gives.0 e) in
    let merging : (kind : Kind) (ins : List ℕ) → vertex J v ≡ Inner kind ins → mlen x ≡ length (merged J v) =
    λ kind ins e. same ∙ ap (λ (z : Vertex). position.mlen_of z J v) e in
    let count : length x.given ≡ mlen x =
    ap (λ (y : VertexNumbers). length y.given) numbers ∙ given_length (vertex J v) J v policy ∙ sym (ap mlen numbers) in
    let past : (n : ℕ) → mlen x ≤ n → (out x (n + 1) ≡ out x n) × (length (given_at J v n) ≡ 0) =
    λ n k. (
      out_past x n (omega arith),
      given_past (vertex J v) J v n gives.1 (λ list e. let length_is = listed list e in omega arith)
          (λ kind ins e. let length_is = merging kind ins e in omega arith),
    ) in
    record {
      operator = λ inner. h.list ∙ no_list (vertex J v) (sym (ap is_inner meant.kind) ∙ inner);
      source = λ source. h.list ∙ a_list (vertex J v) (mlen x) (sym meant.kind ∙ source) listed;
      read = λ inner i. reads_stream (vertex J v) J x.inputs i (sym (ap is_inner meant.kind) ∙ inner) meant.inputs;
      listed = λ source i.
          reads_list (vertex J v) J v i (sym meant.kind ∙ source) (λ list e. source_stream by_inputs J job v list gives.0 e);
      given = λ k. sym (outs (n_of inst + 1) (omega arith));
      done = one_written inst.running;
      wanted = λ n k. wanted_for (vertex J v) J v n policy x refl gives.1 numbers meant (λ list e. let length_is = listed list e in omega arith);
      reached = reached_by plan v x inst.running same h.running;
      next = next_by plan v x inst.running same outs h.running;
      accepts = accepts_by plan v x inst.running same outs more past h.running;
      held = λ up inner.
          let kind : is_inner (kind_of (vertex J v)) ≡ true = sym (ap is_inner meant.kind) ∙ inner in
          let spec = inner_spec by_number plan is_plan v gives.0 kind in
          let o = operator by_number mean plan is_plan v spec.0 spec.1 in
          held_by plan v x spec.0 inst.running same spec.1 (subst (λ (z : Vertex). HoldsAsMeant z J v x) o.is meant.held) h.running up;
    }
