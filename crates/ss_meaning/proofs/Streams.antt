-- The streams of a job's vertices.
use Rattle.std.proofs.Common.{◌≡◌, ℕ, zero, suc, ◌+◌, ◌-◌, ◌*◌, ◌^◌, ◌<◌, ◌≤◌, List, [], ◌∷◌, ◌++◌, length, get_or, refl, sym, ap, ◌∙◌, subst, ⊎_elim, arith, length-append, All}
use Rattle.std.proofs.lemmas.Bool.{cases_eq}
use Rattle.std.proofs.lemmas.List.{length-map, get_or_append_left, get_or_at}
use Rattle.std.proofs.lemmas.List.Elements.{All-from_recursion, recursion_from_All}
use Rattle.std.specs.List.{AllByRecursion}
use Rattle.ss_elem.specs.Validity.{Whole}
use Rattle.ss_elem.specs.declared.element.Element.{Element}
use Rattle.ss_elem.specs.declared.element.Element.TheVariants.{Row, Cti, End}
use Rattle.ss_meaning.specs.Merge.{merge, from_input}
use Rattle.ss_meaning.specs.Emit.{Kind, output}
use Rattle.ss_meaning.specs.Meaning.{Vertex, Source, Inner, Sink, reads, stream, streams_at, streams_after, meaning, vertex}
use Rattle.ss_meaning.specs.Jobs.{IsBefore, Takes, MayStand, IsJob}
use Rattle.ss_meaning.specs.Laws.{MeaningByInputs, MeaningIsWhole, MeaningIsEarly}
use Rattle.ss_meaning.proofs.Each.{each-map, each_weaker}
use Rattle.ss_meaning.proofs.Merging.{merge_keeps_each_input}
use Rattle.ss_meaning.proofs.Outputs.{operator_whole, at_least_one}

-- the streams of the vertices before stay as they are

abbrev reading : List (List Element) → Vertex → List Element
reading before v = stream v (streams_at before (reads v))

streams_kept : (before : List (List Element)) (vs : List Vertex) (u : ℕ) → u < length before → get_or (streams_after before vs) u [] ≡ get_or before u []
streams_kept before [] u h = refl
streams_kept before (v ∷ vs) u h =
    streams_kept (before ++ reading before v ∷ []) vs u (omega (arith, length-append before (reading before v ∷ [])))
    ∙ get_or_append_left before (reading before v ∷ []) [] u h

same_streams : (some others : List (List Element)) (n : ℕ) → ((u : ℕ) → u < n → get_or some u [] ≡ get_or others u []) → (names : List ℕ)
    → AllByRecursion (λ (u : ℕ). u < n) names → streams_at some names ≡ streams_at others names
same_streams some others n h [] k = refl
same_streams some others n h (name ∷ names) k =
    ap (λ (xs : List Element). xs ∷ streams_at some names) (h name k.0) ∙ ap (λ (rest : List (List Element)). get_or others name [] ∷ rest) (same_streams some others n h names k.1)

-- a vertex's stream is made of its inputs' streams

reads_before : (n : ℕ) (v : Vertex) → MayStand n v → AllByRecursion (λ (u : ℕ). u < n) (reads v)
reads_before n (Source list) h = tt
reads_before n (Inner kind inputs) h = recursion_from_All (λ (u : ℕ). u < n) inputs h.1
reads_before n (Sink input) h = (h, tt)

abbrev Standing : ℕ → List Vertex → Type 0
Standing n vs = (j : ℕ) → j < length vs → MayStand (n + j) (vertex vs j)

standing_tail : (n : ℕ) (v : Vertex) (vs : List Vertex) → Standing n (v ∷ vs) → Standing (n + 1) vs
standing_tail n v vs h j k =
    let e : n + suc j ≡ n + 1 + j = omega arith in
    subst (λ m. MayStand m (vertex vs j)) e (h (suc j) (omega arith))

standing_head : (n : ℕ) (v : Vertex) (vs : List Vertex) → Standing n (v ∷ vs) → MayStand n v
standing_head n v vs h =
    let e : n + 0 ≡ n = omega arith in
    subst (λ m. MayStand m v) e (h 0 (omega arith))

by_inputs : (before : List (List Element)) (vs : List Vertex) (n j : ℕ) → length before ≡ n → Standing n vs → j < length vs
    → get_or (streams_after before vs) (n + j) [] ≡ reading (streams_after before vs) (vertex vs j)
by_inputs before [] n j e h k = absurd (omega arith)
by_inputs before (v ∷ vs) n zero e h k =
    let mine = reading before v in
    let place : n + 0 ≡ n = omega arith in
    ap (λ u. get_or (streams_after before (v ∷ vs)) u []) place
    ∙ streams_kept (before ++ mine ∷ []) vs n (omega (arith, length-append before (mine ∷ [])))
    ∙ get_or_at before mine [] [] n e
    ∙ ap (stream v) (sym (same_streams (streams_after before (v ∷ vs)) before n (λ u l. streams_kept before (v ∷ vs) u (omega arith)) (reads v) (reads_before n v (standing_head n v vs h))))
by_inputs before (v ∷ vs) n (suc j) e h k =
    let mine = reading before v in
    let place : n + suc j ≡ n + 1 + j = omega arith in
    ap (λ u. get_or (streams_after before (v ∷ vs)) u []) place
    ∙ by_inputs (before ++ mine ∷ []) vs (n + 1) j (omega (arith, length-append before (mine ∷ []))) (standing_tail n v vs h) (omega arith)

standing_job : (job : List Vertex) → IsJob job → Standing 0 job
standing_job job h j k =
    let e : j ≡ 0 + j = omega arith in
    subst (λ m. MayStand m (vertex job j)) e (h.each j k)

pub meaning_by_inputs : MeaningByInputs
meaning_by_inputs job h v k =
    let place : v ≡ 0 + v = omega arith in
    ap (λ u. meaning job u) place ∙ by_inputs [] job 0 v refl (standing_job job h) k

-- each stream is whole, and its times are below a limit that rises with the vertex

abbrev limit : ℕ → ℕ
limit v = 2 ^ 62 + 2 ^ 47 * v

abbrev IsFine : ℕ → List Element → Type 0
IsFine v xs = Whole xs × AllByRecursion (IsBefore (limit v)) xs

later : (s t : ℕ) (x : Element) → s ≤ t → IsBefore s x → IsBefore t x
later s t (Row row) h k = (omega arith, omega arith)
later s t (Cti time) h k = omega arith
later s t End h k = tt

all_later : (s t : ℕ) (xs : List Element) → s ≤ t → AllByRecursion (IsBefore s) xs → AllByRecursion (IsBefore t) xs
all_later s t xs h k = each_weaker (IsBefore s) (IsBefore t) (λ x early. later s t x h early) xs k

abbrev AllFine : List (List Element) → Type 0
AllFine streams = (u : ℕ) → u < length streams → IsFine u (get_or streams u [])

-- the streams that a vertex reads are early for the vertices before it
input_fine : (before : List (List Element)) (n : ℕ) → length before ≡ n → AllFine before → (u : ℕ) → u < n
    → Whole (get_or before u []) × AllByRecursion (IsBefore (limit (n - 1))) (get_or before u [])
input_fine before n e h u k =
    let fine = h u (omega arith) in
    (fine.0, all_later (limit u) (limit (n - 1)) (get_or before u []) (omega arith) fine.1)

inner_fine : (before : List (List Element)) (n : ℕ) (kind : Kind) (inputs : List ℕ) → length before ≡ n → AllFine before → n < 32 → MayStand n (Inner kind inputs)
    → IsFine n (reading before (Inner kind inputs))
inner_fine before n kind inputs e h few may =
    let lists = streams_at before inputs in
    let P : List Element → Type 0 = λ xs. Whole xs × AllByRecursion (IsBefore (limit (n - 1))) xs in
    let count : length lists ≡ length inputs = length-map inputs (λ u. get_or before u []) in
    let fine : AllByRecursion P lists =
    each-map P (λ u. get_or before u []) inputs
    (each_weaker (λ (u : ℕ). u < n) (λ u. P (get_or before u [])) (λ u l. input_fine before n e h u l) inputs (recursion_from_All (λ (u : ℕ). u < n) inputs may.1)) in
    let all : All P lists = All-from_recursion P lists fine in
    let whole : All Whole lists = λ u d l. (all u d l).0 in
    let early : (input : ℕ) → input < length lists → AllByRecursion (IsBefore (limit (n - 1))) (from_input input (merge lists)) =
    λ input l. subst (AllByRecursion (IsBefore (limit (n - 1)))) (sym (merge_keeps_each_input lists whole input)) (all input [] l).1 in
    let takes : Takes kind (length lists) = subst (Takes kind) (sym count) may.0 in
    let some : get_or inputs 0 0 < n = may.1 0 0 (at_least_one kind (length inputs) may.0) in
    let well = operator_whole kind lists (limit (n - 1)) takes (omega arith) (omega arith) whole early in
    subst (λ (k : ℕ). IsFine n (output kind k (merge lists))) count
    (well.0, all_later (limit (n - 1) + 2 ^ 47) (limit n) (output kind (length lists) (merge lists)) (omega arith) well.1)

vertex_fine : (before : List (List Element)) (n : ℕ) (v : Vertex) → length before ≡ n → AllFine before → n < 32 → MayStand n v → IsFine n (reading before v)
vertex_fine before n (Source list) e h few may =
    (may.0, all_later (2 ^ 62) (limit n) list (omega arith) (recursion_from_All (IsBefore (2 ^ 62)) list may.1))
vertex_fine before n (Inner kind inputs) e h few may = inner_fine before n kind inputs e h few may
vertex_fine before n (Sink input) e h few may =
    let fine = h input (omega arith) in
    (fine.0, all_later (limit input) (limit n) (get_or before input []) (omega (arith, may)) fine.1)

one_more_fine : (before : List (List Element)) (xs : List Element) → AllFine before → IsFine (length before) xs → AllFine (before ++ xs ∷ [])
one_more_fine before xs h k u l = ⊎_elim last those (cases_eq u (length before))
  where
    last : u ≡ length before → IsFine u (get_or (before ++ xs ∷ []) u [])
    last e = subst (IsFine u) (sym (get_or_at before xs [] [] u (sym e))) (subst (λ n. IsFine n xs) (sym e) k)

    those : (u ≡ length before → ⊥) → IsFine u (get_or (before ++ xs ∷ []) u [])
    those e =
        let within : u < length before = omega (arith, length-append before (xs ∷ [])) in
        subst (IsFine u) (sym (get_or_append_left before (xs ∷ []) [] u within)) (h u within)

all_fine : (before : List (List Element)) (vs : List Vertex) (n : ℕ) → length before ≡ n → n + length vs ≤ 32 → Standing n vs → AllFine before
    → (u : ℕ) → u < n + length vs → IsFine u (get_or (streams_after before vs) u [])
all_fine before [] n e few may h u k = h u (omega arith)
all_fine before (v ∷ vs) n e few may h u k =
    let mine = reading before v in
    let fine = vertex_fine before n v e h (omega arith) (standing_head n v vs may) in
    all_fine (before ++ mine ∷ []) vs (n + 1) (omega (arith, length-append before (mine ∷ []))) (omega arith) (standing_tail n v vs may)
    (one_more_fine before mine h (subst (λ m. IsFine m mine) (sym e) fine)) u (omega arith)

pub meaning_is_whole : MeaningIsWhole
meaning_is_whole job h v k =
    let fine = all_fine [] job 0 refl (omega (arith, h.few)) (standing_job job h) (λ u l. absurd (omega arith)) v (omega arith) in
    let few = h.few in
    (fine.0, All-from_recursion (IsBefore (2 ^ 63)) (meaning job v) (all_later (limit v) (2 ^ 63) (meaning job v) (omega arith) fine.1))

pub meaning_is_early : MeaningIsEarly
meaning_is_early job h v k =
    let few = h.few in
    let fine = all_fine [] job 0 refl (omega arith) (standing_job job h) (λ u l. absurd (omega arith)) v (omega arith) in
    All-from_recursion (IsBefore (limit v)) (meaning job v) fine.1
