-- All streams of a plan at once.
use Rattle.std.proofs.Common.{◌≡◌, ℕ, zero, suc, ◌+◌, ◌<◌, ◌≤◌, Bool, true, false, List, [], ◌∷◌, ◌++◌, Vec, Global, length, get_or, take, replicate, map, All, refl, sym, ap, ◌∙◌, subst, arith, ⊎_elim, ◌⊎◌, length-append}
use Rattle.std.proofs.lemmas.Bool.{cases_lt}
use Rattle.std.proofs.lemmas.List.{ext_get_or, get_or-take, get_or-replicate, get_or_past, length-take}
use Rattle.ss_elem.specs.declared.element.Element.{Element}
use Rattle.ss_job.specs.JobText.{JobText}
use Rattle.ss_job.specs.Sound.{IsJob}
use Rattle.ss_meaning.specs.Meaning.{Vertex, reads, vertex, meaning, stream, streams_at, streams_after}
use Rattle.ss_plan.specs.Limit.{IsFirst, IsLongAmong, IsStreamsFault}
use Rattle.ss_plan.specs.declared.fault.PlanFault.{PlanFault}
use Rattle.ss_plan.specs.declared.fault.PlanFault.TheVariants.{Full, Memory}
use Rattle.ss_plan.specs.Plan.{PlanText, AreSourceLists, lists_of, streams_of, vertices_of}
use Rattle.ss_plan.specs.Streams.{every, is_wanted, IsClosed, AreStreams}
use Rattle.ss_plan.proofs.Reading.{reads_earlier}
use Rattle.ss_plan.proofs.Vertices.{vertices_count, plans_mean_jobs}

-- a vertex reads earlier ones
pub earlier_in : (plan : PlanText) (job : JobText) (v : ℕ) → job ≡ plan.job → IsJob job → AreSourceLists plan.job plan.lists → v < length plan.job.graph
    → All (λ w. w < v) (reads (vertex (vertices_of plan) v))
earlier_in plan job v same sound lists h =
    let is : IsJob plan.job = subst IsJob same sound in
    let count = vertices_count plan.job.graph plan.job.vertices plan.lists is.vertices in
    reads_earlier (vertex (vertices_of plan) v) v ((plans_mean_jobs plan is lists).each v (omega (arith, h, count)))

-- as many as there are, all wanted

abbrev pub all_of : ℕ → List Bool
all_of n = take n (replicate 32 true)

pub all_wanted : (n w : ℕ) → n ≤ 32 → w < n → is_wanted (all_of n) w ≡ true
all_wanted n w most h = get_or-take n (replicate 32 true) w false h ∙ get_or-replicate 32 w true false (omega arith)

wanted_by : (n v : ℕ) → n ≤ 32 → is_wanted (all_of n) v ≡ true → (v < n) ⊎ (n ≤ v) → v < n
wanted_by n v most e o =
    ⊎_elim (λ (h : v < n). h)
    (λ (h : n ≤ v).
    let past : is_wanted (all_of n) v ≡ false = get_or_past (all_of n) v false (omega (arith, length-take n (replicate 32 true))) in
    cc)
    o

pub wanted_within : (n v : ℕ) → n ≤ 32 → is_wanted (all_of n) v ≡ true → v < n
wanted_within n v most e = wanted_by n v most e (cases_lt v n)

pub all_closed : (plan : PlanText) (job : JobText) (n : ℕ) → job ≡ plan.job → IsJob job → AreSourceLists plan.job plan.lists → n ≡ length plan.job.graph → n ≤ 32
    → IsClosed (vertices_of plan) (all_of n)
all_closed plan job n same sound lists count most v e i d h =
    let inside : v < n = wanted_within n v most e in
    let before = earlier_in plan job v same sound lists (omega (arith, inside, count)) i d h in
    all_wanted n (get_or (reads (vertex (vertices_of plan) v)) i d) most (omega (arith, before, inside))

-- the streams by their numbers

after_count : (before : List (List Element)) (vs : List Vertex) → length (streams_after before vs) ≡ length before + length vs
after_count before [] = omega arith
after_count before (v ∷ vs) =
    let mine : List Element = stream v (streams_at before (reads v)) in
    omega (arith, after_count (before ++ mine ∷ []) vs, length-append before (mine ∷ []))

streams_count : (plan : PlanText) (job : JobText) → job ≡ plan.job → IsJob job → length (streams_of plan) ≡ length plan.job.graph
streams_count plan job same sound =
    let is : IsJob plan.job = subst IsJob same sound in
    omega (arith, after_count [] (vertices_of plan), vertices_count plan.job.graph plan.job.vertices plan.lists is.vertices)

pub all_streams : (plan : PlanText) (job : JobText) (n : ℕ) (streams : List (List Element)) → job ≡ plan.job → IsJob job → n ≡ length plan.job.graph → n ≤ 32
    → AreStreams (vertices_of plan) (all_of n) (length (all_of n)) streams → streams ≡ streams_of plan
all_streams plan job n streams same sound count most are =
    let many : length (all_of n) ≡ n = all_count n most in
    let as_many : length streams ≡ length (streams_of plan) = are.many ∙ many ∙ count ∙ sym (streams_count plan job same sound) in
    let right : (u : ℕ) → u < length streams → get_or streams u [] ≡ get_or (streams_of plan) u [] =
    λ u h.
    let inside : u < n = omega (arith, h, are.many, many) in
    are.each u (omega (arith, inside, many)) (all_wanted n u most inside) in
    ext_get_or [] streams (streams_of plan) as_many right
  where
    all_count : (n : ℕ) → n ≤ 32 → length (all_of n) ≡ n
    all_count n most = length-take n (replicate 32 true) ∙ omega arith

-- which is too long, among those wanted and among all

long_within : (plan : PlanText) (job : JobText) (n v : ℕ) → job ≡ plan.job → IsJob job → n ≡ length plan.job.graph
    → plan.job.max_elements < length (meaning (vertices_of plan) v) → (v < n) ⊎ (n ≤ v) → v < n
long_within plan job n v same sound count long o =
    ⊎_elim (λ (h : v < n). h)
    (λ (h : n ≤ v).
    let past : meaning (vertices_of plan) v ≡ [] =
    get_or_past (streams_of plan) v [] (omega (arith, h, count, streams_count plan job same sound)) in
    let none = ap length past in
    absurd (omega arith))
    o

pub none_long : (plan : PlanText) (job : JobText) (n : ℕ) → job ≡ plan.job → IsJob job → n ≡ length plan.job.graph → n ≤ 32
    → ((v : ℕ) → v < length (all_of n) → IsLongAmong (is_wanted (all_of n)) plan v → ⊥) → (v : ℕ) → IsLongAmong every plan v → ⊥
none_long plan job n same sound count most short v long =
    let inside : v < n = long_within plan job n v same sound count long.1 (cases_lt v n) in
    let many : length (all_of n) ≡ n = length-take n (replicate 32 true) ∙ omega arith in
    short v (omega (arith, inside, many)) (all_wanted n v most inside, long.1)

pub first_long : (plan : PlanText) (n v : ℕ) → n ≤ 32 → IsFirst (IsLongAmong (is_wanted (all_of n)) plan) v → IsFirst (IsLongAmong every plan) v
first_long plan n v most first =
    let inside : v < n = wanted_within n v most first.here.0 in
    record {
      here = (refl, first.here.1);
      before = λ u h long. first.before u h (all_wanted n u most (omega (arith, h, inside)), long.1);
    }

pub fault_of_all : (plan : PlanText) (n : ℕ) (fault : PlanFault) → n ≤ 32 → IsStreamsFault (is_wanted (all_of n)) plan fault → IsStreamsFault every plan fault
fault_of_all plan n (Full v reached) most h = (first_long plan n v most h.0, h.1)
fault_of_all plan n Memory most h = tt
