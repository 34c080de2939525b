-- Marks on what a vertex is computed from.
use Rattle.std.proofs.Common.{◌≡◌, ℕ, zero, suc, ◌+◌, ◌-◌, ◌<◌, ◌≤◌, Bool, true, false, ◌||◌, ◌==◌, List, [], ◌∷◌, length, get_or, map, All, Some, Vec, Global, refl, sym, ap, ◌∙◌, subst, arith, ◌⊎◌, ⊎_elim, inl, inr, eq-eqb}
use Rattle.std.proofs.Math.ListN.{set}
use Rattle.std.proofs.lemmas.Bool.{cases_eq, cases_Bool, eqb-true, or_cases, or_left, or_right, false_from_ne_true, both_ways}
use Rattle.std.proofs.lemmas.List.Folds.{list_any_at}
use Rattle.std.proofs.lemmas.List.{length-map}
use Rattle.std.proofs.lemmas.Option.{get_or_from_slice_get, slice_get-get_or}
use Rattle.std.specs.List.{list_any, range_with_len, slice_get}
use Rattle.ss_elem.specs.declared.element.Element.{Element}
use Rattle.ss_fail.specs.declared.role.Role.{Role}
use Rattle.ss_job.specs.JobText.{VertexText, source, inner, sink, JobText}
use Rattle.ss_job.specs.Sound.{IsJob, IsVertex}
use Rattle.ss_meaning.specs.Meaning.{Vertex, reads, vertex, meaning}
use Rattle.ss_plan.specs.Dependence.{leads_to, depends_on, IsInput}
use Rattle.ss_plan.specs.Limit.{IsLongAmong, IsStreamsFault}
use Rattle.ss_plan.specs.declared.fault.PlanFault.{PlanFault}
use Rattle.ss_plan.specs.Plan.{PlanText, inputs_read, lists_of, source_list, vertex_at, vertices_of}
use Rattle.ss_plan.specs.Streams.{is_wanted, IsClosed, AreWanted}
use Rattle.ss_plan.proofs.Gathering.{found}
use Rattle.ss_plan.proofs.Vertices.{inputs_count, input_at, no_node, no_text, text_of, vertex_is, vertices_count}
use Rattle.ss_water.specs.declared.node.Kind.TheVariants as kind
use Rattle.ss_water.specs.declared.node.Node.{Node}

-- ---- ways from a vertex to one that it is computed from

any_index : (p : ℕ → Bool) (xs : List ℕ) → list_any p xs ≡ true → (j : ℕ) × (j < length xs) × (p (get_or xs j 0) ≡ true)
any_index p [] e = cc
any_index p (x ∷ xs) e =
    ⊎_elim (λ (here : p x ≡ true). (0, omega arith, here))
    (λ (there : list_any p xs ≡ true). let (j, h, k) = any_index p xs there in (suc j, omega (arith, h), k))
    (or_cases (p x) (list_any p xs) e)

from_here : (n : ℕ) (job : List Vertex) (v : ℕ) → leads_to n job v v ≡ true
from_here zero job v = eq-eqb v v refl
from_here (suc n) job v = or_left (v == v) (list_any (λ w. leads_to n job w v) (reads (vertex job v))) (eq-eqb v v refl)

through : (n : ℕ) (job : List Vertex) (v u i : ℕ) → i < length (reads (vertex job v)) → leads_to n job (get_or (reads (vertex job v)) i 0) u ≡ true
    → leads_to (suc n) job v u ≡ true
through n job v u i h e =
    or_right (v == u) (list_any (λ w. leads_to n job w u) (reads (vertex job v)))
    (list_any_at (λ w. leads_to n job w u) (reads (vertex job v)) i 0 h e)

-- one step more at the end of a way
lead_more : (n : ℕ) (job : List Vertex) (v w u i : ℕ) → leads_to n job v w ≡ true → i < length (reads (vertex job w)) → get_or (reads (vertex job w)) i 0 ≡ u
    → leads_to (suc n) job v u ≡ true
lead_more zero job v w u i e h is =
    let same : w ≡ v = sym (eqb-true v w e) in
    through 0 job v u i (subst (λ y. i < length (reads (vertex job y))) same h)
    (eq-eqb (get_or (reads (vertex job v)) i 0) u (subst (λ y. get_or (reads (vertex job y)) i 0 ≡ u) same is))
lead_more (suc n) job v w u i e h is =
    ⊎_elim
    (λ (here : (v == w) ≡ true).
    let same : w ≡ v = sym (eqb-true v w here) in
    through (suc n) job v u i (subst (λ y. i < length (reads (vertex job y))) same h)
    (subst (λ y. leads_to (suc n) job y u ≡ true) (sym (subst (λ y. get_or (reads (vertex job y)) i 0 ≡ u) same is)) (from_here (suc n) job u)))
    (λ (deep : list_any (λ x. leads_to n job x w) (reads (vertex job v)) ≡ true).
    let (j, k, l) = any_index (λ x. leads_to n job x w) (reads (vertex job v)) deep in
    through (suc n) job v u j k (lead_more n job (get_or (reads (vertex job v)) j 0) w u i l h is))
    (or_cases (v == w) (list_any (λ x. leads_to n job x w) (reads (vertex job v))) e)

lead_longer : (n m : ℕ) (job : List Vertex) (v u : ℕ) → n ≤ m → leads_to n job v u ≡ true → leads_to m job v u ≡ true
lead_longer zero m job v u h e = subst (λ y. leads_to m job v y ≡ true) (eqb-true v u e) (from_here m job v)
lead_longer (suc n) zero job v u h e = absurd (omega (arith, h))
lead_longer (suc n) (suc m) job v u h e =
    ⊎_elim
    (λ (here : (v == u) ≡ true). or_left (v == u) (list_any (λ x. leads_to m job x u) (reads (vertex job v))) here)
    (λ (deep : list_any (λ x. leads_to n job x u) (reads (vertex job v)) ≡ true).
    let (j, k, l) = any_index (λ x. leads_to n job x u) (reads (vertex job v)) deep in
    through m job v u j k (lead_longer n m job (get_or (reads (vertex job v)) j 0) u (omega (arith, h)) l))
    (or_cases (v == u) (list_any (λ x. leads_to n job x u) (reads (vertex job v))) e)

-- marks that are closed are on all that a marked vertex leads to
reached_marked : (n : ℕ) (job : List Vertex) (marked : List Bool) (v u : ℕ) → IsClosed job marked → is_wanted marked v ≡ true → leads_to n job v u ≡ true
    → is_wanted marked u ≡ true
reached_marked zero job marked v u closed here e = subst (λ y. is_wanted marked y ≡ true) (eqb-true v u e) here
reached_marked (suc n) job marked v u closed here e =
    ⊎_elim
    (λ (same : (v == u) ≡ true). subst (λ y. is_wanted marked y ≡ true) (eqb-true v u same) here)
    (λ (deep : list_any (λ x. leads_to n job x u) (reads (vertex job v)) ≡ true).
    let (j, k, l) = any_index (λ x. leads_to n job x u) (reads (vertex job v)) deep in
    reached_marked n job marked (get_or (reads (vertex job v)) j 0) u closed (closed v here j 0 k) l)
    (or_cases (v == u) (list_any (λ x. leads_to n job x u) (reads (vertex job v))) e)

-- ---- the marks so far

-- v is marked, each mark is on what v leads to, and those from number k on are closed
pub record AreMarks (job : List Vertex) (v k : ℕ) (marked : List Bool) : Type 0 where
  pub here : is_wanted marked v ≡ true
  pub led : (u : ℕ) → is_wanted marked u ≡ true → (u ≤ v) × (leads_to (v - u) job v u ≡ true)
  pub closed : (w : ℕ) → k ≤ w → is_wanted marked w ≡ true → All (λ u. is_wanted marked u ≡ true) (reads (vertex job w))

pub set_keeps : (marked : List Bool) (n u : ℕ) → is_wanted marked u ≡ true → is_wanted (set marked n true) u ≡ true
set_keeps [] n u e = e
set_keeps (m ∷ marked) zero zero e = refl
set_keeps (m ∷ marked) zero (suc u) e = e
set_keeps (m ∷ marked) (suc n) zero e = e
set_keeps (m ∷ marked) (suc n) (suc u) e = set_keeps marked n u e

pub set_here : (marked : List Bool) (n : ℕ) → n < length marked → is_wanted (set marked n true) n ≡ true
set_here [] n h = absurd (omega (arith, h))
set_here (m ∷ marked) zero h = refl
set_here (m ∷ marked) (suc n) h = set_here marked n (omega (arith, h))

pub set_only : (marked : List Bool) (n u : ℕ) → is_wanted (set marked n true) u ≡ true → (is_wanted marked u ≡ true) ⊎ (n ≡ u)
set_only [] n u e = inl e
set_only (m ∷ marked) zero zero e = inr refl
set_only (m ∷ marked) zero (suc u) e = inl e
set_only (m ∷ marked) (suc n) zero e = inl e
set_only (m ∷ marked) (suc n) (suc u) e =
    ⊎_elim (λ (old : is_wanted marked u ≡ true). inl old) (λ (same : n ≡ u). inr (ap suc same)) (set_only marked n u e)

none_wanted : (marked : List Bool) (u : ℕ) → All (λ mark. mark ≡ false) marked → is_wanted marked u ≡ true → ⊥
none_wanted [] u none e = cc
none_wanted (m ∷ marked) zero none e = both_ways m (none 0 m (omega arith)) e
none_wanted (m ∷ marked) (suc u) none e =
    none_wanted marked u (λ i d h. none (suc i) d (omega (arith, h))) e

-- the first mark
pub first_mark : (job : List Vertex) (v : ℕ) (marked : List Bool) → v < length marked → All (λ mark. mark ≡ false) marked
    → AreMarks job v (v + 1) (set marked v true)
first_mark job v marked h none = record {
  here = set_here marked v h;
  led = λ u e.
      let same : v ≡ u = only u e in
      (omega (arith, same), subst (λ y. leads_to (v - y) job v y ≡ true) same (lead_longer 0 (v - v) job v v (omega arith) (from_here 0 job v)));
  closed = λ w k e. let same : v ≡ w = only w e in absurd (omega (arith, same, k));
}
  where
    only : (u : ℕ) → is_wanted (set marked v true) u ≡ true → v ≡ u
    only u e =
        ⊎_elim (λ (old : is_wanted marked u ≡ true). absurd (none_wanted marked u none old)) (λ (same : v ≡ u). same) (set_only marked v u e)

-- a vertex that isn't marked
pub mark_none : (job : List Vertex) (v w : ℕ) (marked : List Bool) → AreMarks job v (w + 1) marked → is_wanted marked w ≡ false → AreMarks job v w marked
mark_none job v w marked are off = record {
  here = are.here;
  led = are.led;
  closed = λ x k e.
      ⊎_elim
      (λ (same : w ≡ x). absurd (both_ways (is_wanted marked x) (subst (λ y. is_wanted marked y ≡ false) same off) e))
      (λ (other : w ≡ x → ⊥). are.closed x (omega arith) e)
      (cases_eq w x);
}

-- a marked one, whose inputs are marked then
pub mark_more : (job : List Vertex) (v w : ℕ) (node : Node) (old new : List Bool) → reads (vertex job w) ≡ inputs_read node
    → ((i : ℕ) → i < node.width → get_or node.inputs i 0 < w) → AreMarks job v (w + 1) old → is_wanted old w ≡ true
    → ((u : ℕ) → is_wanted old u ≡ true → is_wanted new u ≡ true) → ((u : ℕ) → IsInput node u → is_wanted new u ≡ true)
    → ((u : ℕ) → is_wanted new u ≡ true → (is_wanted old u ≡ true) ⊎ IsInput node u) → AreMarks job v w new
mark_more job v w node old new reads_are earlier are on kept inputs only = record {
  here = kept v are.here;
  led = λ u e. ⊎_elim (are.led u) (led_input u) (only u e);
  closed = λ x k e.
      ⊎_elim
      (λ (same : w ≡ x). subst (λ y. All (λ u. is_wanted new u ≡ true) (reads (vertex job y))) same closed_here)
      (λ (other : w ≡ x → ⊥). closed_later x (omega arith) (only x e))
      (cases_eq w x);
}
  where
    in_reads : (i : ℕ) → i < node.width → i < length (reads (vertex job w))
    in_reads i h = omega (arith, h, ap length reads_are, inputs_count node)

    read_at : (i d : ℕ) → i < node.width → get_or (reads (vertex job w)) i d ≡ get_or node.inputs i 0
    read_at i d h = ap (λ (ns : List ℕ). get_or ns i d) reads_are ∙ input_at node i d h

    led_input : (u : ℕ) → IsInput node u → (u ≤ v) × (leads_to (v - u) job v u ≡ true)
    led_input u (i, h, is) =
        let way = are.led w on in
        let low : get_or node.inputs i 0 < w = earlier i h in
        let below : u < w = subst (λ y. y < w) is low in
        let above : w ≤ v = way.0 in (
          omega arith,
          lead_longer (suc (v - w)) (v - u) job v u (omega arith) (lead_more (v - w) job v w u i way.1 (in_reads i h) (read_at i 0 h ∙ is)),
        )

    closed_here : All (λ u. is_wanted new u ≡ true) (reads (vertex job w))
    closed_here i d h =
        let inside : i < node.width = omega (arith, h, ap length reads_are, inputs_count node) in
        inputs (get_or (reads (vertex job w)) i d) (i, inside, sym (read_at i d inside))

    closed_later : (x : ℕ) → w + 1 ≤ x → (is_wanted old x ≡ true) ⊎ IsInput node x → All (λ u. is_wanted new u ≡ true) (reads (vertex job x))
    closed_later x k (inl was) = λ i d h. kept (get_or (reads (vertex job x)) i d) (are.closed x k was i d h)
    closed_later x k (inr (i, h, is)) = let low = earlier i h in absurd (omega (arith, low, is, k))

-- all marks
pub marks_closed : (job : List Vertex) (v : ℕ) (marked : List Bool) → AreMarks job v 0 marked → IsClosed job marked
marks_closed job v marked are w e = are.closed w (omega arith) e

pub marks_exact : (job : List Vertex) (v : ℕ) (marked : List Bool) → v < length job → AreMarks job v 0 marked → (u : ℕ) → is_wanted marked u ≡ depends_on job v u
marks_exact job v marked h are u =
    ⊎_elim
    (λ (on : is_wanted marked u ≡ true).
    let way = are.led u on in
    on ∙ sym (lead_longer (v - u) (length job) job v u (omega (arith, h)) way.1))
    (λ (off : is_wanted marked u ≡ false).
    off ∙ sym (false_from_ne_true (depends_on job v u)
    (λ (e : depends_on job v u ≡ true).
    both_ways (is_wanted marked u) off (reached_marked (length job) job marked v u (marks_closed job v marked are) are.here e))))
    (cases_Bool (is_wanted marked u))

-- what a vertex of a plan reads is what its node does

reads_of_text : (role : Role) (node : Node) (text : VertexText) (list : List Element) → IsVertex role node text → reads (vertex_at node text list) ≡ inputs_read node
reads_of_text role node (source file late) list h =
    let most = h.inputs.most_of in
    let none : 0 ≡ node.width = omega (arith, most) in
    ap (λ n. map (λ i. get_or node.inputs i 0) (range_with_len 0 n)) none
reads_of_text role node (inner s policy) list h = refl
reads_of_text role node (sink file) list h =
    let least = h.inputs.least_of in
    let most = h.inputs.most_of in
    let one : 1 ≡ node.width = omega (arith, least, most) in
    ap (λ n. map (λ i. get_or node.inputs i 0) (range_with_len 0 n)) one

pub vertex_reads : (plan : PlanText) (job : JobText) (graph : List Node) (w : ℕ) (node : Node) → job ≡ plan.job → IsJob job → graph ≡ job.graph
    → w < length plan.job.vertices → slice_get graph w ≡ Some node → reads (vertex (vertices_of plan) w) ≡ inputs_read node
vertex_reads plan job graph w node same sound graph_is h found =
    let is : IsJob plan.job = subst IsJob same sound in
    let inside : w < length plan.job.graph = omega (arith, h, is.vertices) in
    let here : slice_get plan.job.graph w ≡ Some node =
    sym (ap (λ (g : List Node). slice_get g w) (graph_is ∙ ap (λ (j : JobText). j.graph) same)) ∙ found in
    let no_role : Role = record { name = []; kind = kind.Sink; replicas = 0 } in
    let in_roles : w < length plan.job.roles = omega (arith, inside, is.roles) in
    let role = get_or plan.job.roles w no_role in
    let node_is : get_or plan.job.graph w no_node ≡ node = get_or_from_slice_get plan.job.graph w node no_node here in
    ap reads (vertex_is plan w is.vertices inside ∙ ap (λ (n : Node). vertex_at n (text_of plan w) (source_list plan w)) node_is)
    ∙ reads_of_text role node (text_of plan w) (source_list plan w)
    (is.each w role node (text_of plan w) (slice_get-get_or plan.job.roles w no_role in_roles) here (slice_get-get_or plan.job.vertices w no_text h))

pub in_vertices : (plan : PlanText) (job : JobText) (v : ℕ) → job ≡ plan.job → IsJob job → v < length plan.job.vertices → v < length (vertices_of plan)
in_vertices plan job v same sound h =
    let is : IsJob plan.job = subst IsJob same sound in
    omega (arith, h, is.vertices, vertices_count plan.job.graph plan.job.vertices plan.lists is.vertices)

-- ---- the streams of all that is marked

wanted_inside : (wanted : List Bool) (u : ℕ) → is_wanted wanted u ≡ true → u < length wanted
wanted_inside [] u e = cc
wanted_inside (m ∷ wanted) zero e = omega arith
wanted_inside (m ∷ wanted) (suc u) e = let rest = wanted_inside wanted u e in omega (arith, rest)

pub within_marks : (plan : PlanText) (v : ℕ) (wanted : List Bool) → ((u : ℕ) → is_wanted wanted u ≡ depends_on (vertices_of plan) v u)
    → ((u : ℕ) → u < length wanted → IsLongAmong (is_wanted wanted) plan u → ⊥) → (u : ℕ) → IsLongAmong (depends_on (vertices_of plan) v) plan u → ⊥
within_marks plan v wanted exact short u long =
    let on : is_wanted wanted u ≡ true = exact u ∙ long.0 in
    short u (wanted_inside wanted u on) (on, long.1)

pub own_stream : (plan : PlanText) (v : ℕ) (wanted : List Bool) (streams : List (Vec Element Global)) (stream : Vec Element Global)
    → ((u : ℕ) → is_wanted wanted u ≡ depends_on (vertices_of plan) v u) → AreWanted plan wanted (lists_of streams)
    → stream ≡ get_or streams v stream → stream.items ≡ meaning (vertices_of plan) v
own_stream plan v wanted streams stream exact are is =
    let job = vertices_of plan in
    let on : is_wanted wanted v ≡ true = exact v ∙ from_here (length job) job v in
    let inside : v < length wanted = wanted_inside wanted v on in
    let within : v < length streams = omega (arith, inside, are.many, length-map streams (λ (list : Vec Element Global). list.items)) in
    sym (found streams v stream within is) ∙ are.each v inside on

pub fault_of_marks : (plan : PlanText) (v : ℕ) (wanted : List Bool) (fault : PlanFault) → ((u : ℕ) → is_wanted wanted u ≡ depends_on (vertices_of plan) v u)
    → IsStreamsFault (is_wanted wanted) plan fault → IsStreamsFault (depends_on (vertices_of plan) v) plan fault
fault_of_marks plan v wanted fault exact h =
    let one : is_wanted wanted ≡ depends_on (vertices_of plan) v = λ i u. exact u i in
    subst (λ (among : ℕ → Bool). IsStreamsFault among plan fault) one h
