-- The lists of a job's sources, one behind the other, and the steps that read them.
use Rattle.std.proofs.Common.{◌≡◌, ℕ, zero, suc, ◌+◌, inl, inr, List, [], ◌∷◌, ◌++◌, length, take, Some, refl, sym, ap, ◌∙◌, subst, arith, add-zero, Vec, Global}
use Rattle.std.proofs.Common.{◌<◌}
use Rattle.std.proofs.lemmas.List.{map-append, length-take}
use Rattle.std.proofs.Common.{cond}
use Rattle.std.proofs.lemmas.List.Elements.{All-append}
use Rattle.std.proofs.lemmas.List.Sums.{sum_by-cons}
use Rattle.std.specs.List.{slice_get}
use Rattle.std.specs.Prelude.{All, count_by, get_or}
use Rattle.ss_elem.specs.declared.element.Element.{Element}
use Rattle.ss_events.specs.declared.late.Late.{Late}
use Rattle.ss_job.specs.JobText.{JobText, VertexText, source, inner, sink}
use Rattle.ss_plan.specs.Plan.{lists_of, is_source}
use Rattle.ss_command.specs.Order.{Reading, Step, Gives, source_file, Order, with_sources, ComesTo, ComesToStep, Work}
use Rattle.ss_command.specs.Streams.{AreLists, IsSourceList, AddsList}

-- ---- one more vertex

pub lists-source : (reading : Reading) (job : JobText) (u : ℕ) (vertices : List VertexText) (lists : List (List Element)) (file : List ℕ) (late : Late) (list : List Element) →
    AreLists reading job u vertices lists → Gives reading (source_file job (u + length vertices) file late) list →
    AreLists reading job u (vertices ++ source file late ∷ []) (lists ++ list ∷ [])
lists-source reading job u [] [] file late list are gives =
    (subst (λ (v : ℕ). Gives reading (source_file job v file late) list) (add-zero u) gives, tt)
lists-source reading job u [] (l ∷ ls) file late list are gives = absurd are
lists-source reading job u (source f lt ∷ vs) [] file late list are gives = absurd are
lists-source reading job u (source f lt ∷ vs) (l ∷ ls) file late list (first, rest) gives = (
  first,
  let next : u + suc (length vs) ≡ (u + 1) + length vs = omega arith in
      lists-source reading job (u + 1) vs ls file late list rest (subst (λ (v : ℕ). Gives reading (source_file job v file late) list) next gives),
)
lists-source reading job u (inner spec policy ∷ vs) ls file late list rest gives =
    let next : u + suc (length vs) ≡ (u + 1) + length vs = omega arith in
    lists-source reading job (u + 1) vs ls file late list rest (subst (λ (v : ℕ). Gives reading (source_file job v file late) list) next gives)
lists-source reading job u (sink f ∷ vs) ls file late list rest gives =
    let next : u + suc (length vs) ≡ (u + 1) + length vs = omega arith in
    lists-source reading job (u + 1) vs ls file late list rest (subst (λ (v : ℕ). Gives reading (source_file job v file late) list) next gives)

pub lists-inner : (reading : Reading) (job : JobText) (u : ℕ) (vertices : List VertexText) (lists : List (List Element)) (x : VertexText) →
    ((v : ℕ) → AreLists reading job v (x ∷ []) []) → AreLists reading job u vertices lists → AreLists reading job u (vertices ++ x ∷ []) lists
lists-inner reading job u [] [] x none are = none u
lists-inner reading job u [] (l ∷ ls) x none are = absurd are
lists-inner reading job u (source f lt ∷ vs) [] x none are = absurd are
lists-inner reading job u (source f lt ∷ vs) (l ∷ ls) x none (first, rest) = (first, lists-inner reading job (u + 1) vs ls x none rest)
lists-inner reading job u (inner spec policy ∷ vs) ls x none rest = lists-inner reading job (u + 1) vs ls x none rest
lists-inner reading job u (sink f ∷ vs) ls x none rest = lists-inner reading job (u + 1) vs ls x none rest

pub lists_of-more : (lists : List (Vec Element Global)) (list : Vec Element Global) → lists_of (lists ++ list ∷ []) ≡ lists_of lists ++ list.items ∷ []
lists_of-more lists list = map-append (λ (l : Vec Element Global). l.items) lists (list ∷ [])

-- the lists with that of vertex x, which is number v
pub lists-next : (reading : Reading) (job : JobText) (v : ℕ) (x : VertexText) (before after : List (Vec Element Global)) →
    length (take v job.vertices) ≡ v → take (v + 1) job.vertices ≡ take v job.vertices ++ x ∷ [] →
    AreLists reading job 0 (take v job.vertices) (lists_of before) → AddsList reading job v x before after →
    AreLists reading job 0 (take (v + 1) job.vertices) (lists_of after)
lists-next reading job v (source file late) before after count passed are (list, is, gives, sound) =
    let at : v ≡ 0 + length (take v job.vertices) = omega (arith, count) in
    let more = lists-source reading job 0 (take v job.vertices) (lists_of before) file late list.items are
    (subst (λ (n : ℕ). Gives reading (source_file job n file late) list.items) at gives) in
    let lists : lists_of after ≡ lists_of before ++ list.items ∷ [] = ap lists_of is ∙ lists_of-more before list in
    subst (λ (vs : List VertexText). AreLists reading job 0 vs (lists_of after)) (sym passed)
    (subst (λ (ls : List (List Element)). AreLists reading job 0 (take v job.vertices ++ source file late ∷ []) ls) (sym lists) more)
lists-next reading job v (inner spec policy) before after count passed are is =
    subst (λ (vs : List VertexText). AreLists reading job 0 vs (lists_of after)) (sym passed)
    (lists-inner reading job 0 (take v job.vertices) (lists_of after) (inner spec policy) (λ u. tt)
    (subst (λ (ls : List (Vec Element Global)). AreLists reading job 0 (take v job.vertices) (lists_of ls)) (sym is) are))
lists-next reading job v (sink file) before after count passed are is =
    subst (λ (vs : List VertexText). AreLists reading job 0 vs (lists_of after)) (sym passed)
    (lists-inner reading job 0 (take v job.vertices) (lists_of after) (sink file) (λ u. tt)
    (subst (λ (ls : List (Vec Element Global)). AreLists reading job 0 (take v job.vertices) (lists_of ls)) (sym is) are))

-- what holds of each list holds of each with one more
pub all-one : (P : List Element → Type 0) (x : List Element) → P x → (k : ℕ) (d : List Element) → k < 1 → P (get_or (x ∷ []) k d)
all-one P x here zero d h = here
all-one P x here (suc k) d h = absurd (omega (arith, h))

pub all-more : (P : List Element → Type 0) (xs : List (List Element)) (x : List Element) → All P xs → P x → All P (xs ++ x ∷ [])
all-more P xs x all here = All-append P xs (x ∷ []) all (all-one P x here)

pub length-take_within : {A : Type 0} (v : ℕ) (xs : List A) → v < length xs → length (take v xs) ≡ v
length-take_within {A = A} v xs h = omega (arith, length-take v xs)

pub each-next : (reading : Reading) (job : JobText) (v : ℕ) (x : VertexText) (before after : List (Vec Element Global)) →
    All (IsSourceList job) (lists_of before) → AddsList reading job v x before after → All (IsSourceList job) (lists_of after)
each-next reading job v (source file late) before after each (list, is, gives, sound) =
    let lists : lists_of after ≡ lists_of before ++ list.items ∷ [] = ap lists_of is ∙ lists_of-more before list in
    subst (All (IsSourceList job)) (sym lists) (all-more (IsSourceList job) (lists_of before) list.items each sound)
each-next reading job v (inner spec policy) before after each is =
    subst (λ (ls : List (Vec Element Global)). All (IsSourceList job) (lists_of ls)) (sym is) each
each-next reading job v (sink file) before after each is =
    subst (λ (ls : List (Vec Element Global)). All (IsSourceList job) (lists_of ls)) (sym is) each

-- there are as many lists as sources
pub lists-count : (reading : Reading) (job : JobText) (v : ℕ) (vertices : List VertexText) (lists : List (List Element)) →
    AreLists reading job v vertices lists → length lists ≡ count_by is_source vertices
lists-count reading job v [] [] are = refl
lists-count reading job v [] (l ∷ ls) are = absurd are
lists-count reading job v (source f lt ∷ vs) [] are = absurd are
lists-count reading job v (source f lt ∷ vs) (l ∷ ls) (first, rest) =
    let count = lists-count reading job (v + 1) vs ls rest in
    let step : count_by is_source (source f lt ∷ vs) ≡ 1 + count_by is_source vs =
    sum_by-cons (λ (x : VertexText). cond (is_source x) 1 0) (source f lt) vs in omega (arith, count, step)
lists-count reading job v (inner spec policy ∷ vs) ls rest = lists-count reading job (v + 1) vs ls rest
lists-count reading job v (sink f ∷ vs) ls rest = lists-count reading job (v + 1) vs ls rest

-- ---- the order of work over the sources

-- where all sources are read, the work goes on with their lists
pub with_sources-read : (reading : Reading) (work : Work) (job : JobText) (v : ℕ) (vertices : List VertexText) (lists : List (List Element))
    (next : List (List Element) → Order) → AreLists reading job v vertices lists → ComesTo reading work (next lists) →
    ComesTo reading work (with_sources job v vertices next)
with_sources-read reading work job v [] [] next are comes = comes
with_sources-read reading work job v [] (l ∷ ls) next are comes = absurd are
with_sources-read reading work job v (source file late ∷ vs) [] next are comes = absurd are
with_sources-read reading work job v (source file late ∷ vs) (l ∷ ls) next (gives, rest) comes =
    (l, gives, with_sources-read reading work job (v + 1) vs ls (λ lists. next (l ∷ lists)) rest comes)
with_sources-read reading work job v (inner spec policy ∷ vs) ls next rest comes = with_sources-read reading work job (v + 1) vs ls next rest comes
with_sources-read reading work job v (sink file ∷ vs) ls next rest comes = with_sources-read reading work job (v + 1) vs ls next rest comes

-- the same of a step behind the sources
pub with_sources-then : (reading : Reading) (Here : Step → Type 0) (job : JobText) (v : ℕ) (vertices : List VertexText) (lists : List (List Element))
    (next : List (List Element) → Order) → AreLists reading job v vertices lists → ComesToStep reading Here (next lists) →
    ComesToStep reading Here (with_sources job v vertices next)
with_sources-then reading Here job v [] [] next are comes = comes
with_sources-then reading Here job v [] (l ∷ ls) next are comes = absurd are
with_sources-then reading Here job v (source file late ∷ vs) [] next are comes = absurd are
with_sources-then reading Here job v (source file late ∷ vs) (l ∷ ls) next (gives, rest) comes =
    inr (l, gives, with_sources-then reading Here job (v + 1) vs ls (λ lists. next (l ∷ lists)) rest comes)
with_sources-then reading Here job v (inner spec policy ∷ vs) ls next rest comes = with_sources-then reading Here job (v + 1) vs ls next rest comes
with_sources-then reading Here job v (sink file ∷ vs) ls next rest comes = with_sources-then reading Here job (v + 1) vs ls next rest comes

-- where those before a source are read, the work comes to the source
pub with_sources-at : (reading : Reading) (Here : Step → Type 0) (job : JobText) (u : ℕ) (vertices : List VertexText) (v : ℕ) (file : List ℕ) (late : Late)
    (earlier : List (List Element)) (next : List (List Element) → Order) → slice_get vertices v ≡ Some (source file late) →
    AreLists reading job u (take v vertices) earlier → Here (source_file job (u + v) file late) → ComesToStep reading Here (with_sources job u vertices next)
with_sources-at reading Here job u [] v file late earlier next at are here = absurd (cc at)
with_sources-at reading Here job u (x ∷ xs) zero file late earlier next at are here =
    let same : x ≡ source file late = cc in
    subst (λ (y : VertexText). ComesToStep reading Here (with_sources job u (y ∷ xs) next)) (sym same)
    (inl (subst (λ (n : ℕ). Here (source_file job n file late)) (add-zero u) here))
with_sources-at reading Here job u (source f lt ∷ xs) (suc v) file late [] next at are here = absurd are
with_sources-at reading Here job u (source f lt ∷ xs) (suc v) file late (l ∷ ls) next at (gives, rest) here =
    let there : u + suc v ≡ (u + 1) + v = omega arith in
    inr (
      l,
      gives,
      with_sources-at reading Here job (u + 1) xs v file late ls (λ lists. next (l ∷ lists)) at rest
          (subst (λ (n : ℕ). Here (source_file job n file late)) there here),
    )
with_sources-at reading Here job u (inner spec policy ∷ xs) (suc v) file late ls next at rest here =
    let there : u + suc v ≡ (u + 1) + v = omega arith in
    with_sources-at reading Here job (u + 1) xs v file late ls next at rest (subst (λ (n : ℕ). Here (source_file job n file late)) there here)
with_sources-at reading Here job u (sink f ∷ xs) (suc v) file late ls next at rest here =
    let there : u + suc v ≡ (u + 1) + v = omega arith in
    with_sources-at reading Here job (u + 1) xs v file late ls next at rest (subst (λ (n : ℕ). Here (source_file job n file late)) there here)
