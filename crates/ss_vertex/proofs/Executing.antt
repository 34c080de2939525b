-- What becomes of an instance that accepts an element.
use Rattle.std.proofs.Common.{◌≡◌, ℕ, ◌+◌, ◌^◌, ◌<◌, ◌≤◌, List, [], ◌∷◌, length, Option, Some, None, option_map, IsSome, IsSomeAnd, IfSome, Result, Ok, Err, OnOk, OnErr, refl, sym, ap, ◌∙◌, subst, arith}
use Rattle.std.specs.List.{slice_get}
use Rattle.std.specs.Option.{option_map_or}
use Rattle.ss_elem.specs.OutList.{OutList}
use Rattle.ss_elem.specs.declared.element.Element.{Element}
use Rattle.ss_frames.specs.Within.{IsWithin, AreKept}
use Rattle.ss_meaning.specs.Jobs.{IsJob}
use Rattle.ss_meaning.specs.Meaning.{Vertex, Source, vertex}
use Rattle.ss_meaning.specs.Positions.{out}
use Rattle.ss_plan.specs.Limit.{IsPlan}
use Rattle.ss_plan.specs.Plan.{PlanText, vertices_of}
use Rattle.ss_vertex.specs.Arriving.{given_at, wanted_by, taken_by}
use Rattle.ss_vertex.specs.Calls.{IsReady, IsWantedAt, one_more}
use Rattle.ss_vertex.specs.Inst.{Running, InstState}
use Rattle.ss_vertex.specs.Kept.{BecomesOneMore, IsCounted, WorksAt, inst_kept, left_kept, list_kept, n_kept, running_kept}
use Rattle.ss_vertex.specs.Known.{Known}
use Rattle.ss_vertex.specs.Standing.{Stands, InstStands, list_len}
use Rattle.ss_vertex.specs.declared.work.Work.{Work}
use Rattle.ss_vertex.specs.declared.work.Work.TheVariants.{Listing}
use Rattle.ss_vertex.specs.declared.fault.ExecFault.{ExecFault}
use Rattle.ss_vertex.proofs.Stays.{accepted_stands, source_within}
use Rattle.ss_vertex.proofs.Streams.{listing, next_listed, out_given, source_stream}
use Rattle.ss_vertex.proofs.Views.{Up, up_of, inst_of}

pub on_ok : {A E : Type 0} → (r : Result A E) (P : Type 0) → P → OnOk r P
on_ok (Ok x) P h = h
on_ok (Err e) P h = tt

pub some_and : {A : Type 0} → (P : A → Type 0) (r : Option A) → IsSome r → IfSome r P → IsSomeAnd r P
some_and P None h k = cc
some_and P (Some x) h k = k

-- a source accepts the next element of its list

pub source_accepts : Known → (plan : PlanText) → IsPlan plan → (v next : ℕ) (work : Work) (x : Element) → WorksAt plan v next [] work
    → (len n : ℕ) (there : Option ℕ) → work ≡ Listing len there → there ≡ Some n → IsWantedAt plan v (n_kept work) x
    → IsWithin plan v (n_kept work + 1)
source_accepts known plan is_plan v next work x works len n there is some wanted =
    let J = vertices_of plan in
    let most : ℕ = plan.job.max_elements in
    let m : ℕ = n_kept work in
    let has : Some len ≡ list_len (vertex J v) = sym (ap list_kept is) ∙ works.list in
    let found = listing (vertex J v) len has in
    let list : List Element = found.0 in
    let source : vertex J v ≡ Source list = found.1 in
    let P : Vertex → Type 0 = λ z. IsSomeAnd {T = ℕ × ℕ} (wanted_by z J v m) (λ place. (slice_get (taken_by z J place.0) place.1 ≡ Some x) × (place.1 < most)) in
    let next_is = next_listed list J v m most x (subst P source wanted) in
    let below : m < most = next_is.1 in
    let inside : m < length list = next_is.2 in
    let stream = source_stream known.streams J (known.jobs plan is_plan.job is_plan.lists) v list works.stream.0 source in
    source_within plan v (m + 1) list source stream (omega arith) (omega arith)

-- what the fields are where nothing is left

pub nil_of : (xs : List Element) → length xs ≡ 0 → xs ≡ []
nil_of [] h = refl
nil_of (x ∷ xs) h = absurd (omega arith)

pub record Idle (plan : PlanText) (v next : ℕ) (given : OutList) (done : ℕ) (work : Work) : Type 0 where
  pub none : left_kept given done ≡ []
  pub stands : InstStands plan (inst_kept v next given done work)
  pub works : WorksAt plan v next [] work
  pub up : Up work next []
  pub up_stands : Stands plan v up.up

pub idle : (plan : PlanText) (inst : InstState) (v next : ℕ) (given : OutList) (done : ℕ) (work : Work)
    → inst_kept v next given done work ≡ inst → InstStands plan inst → IsReady inst → Idle plan v next given done work
idle plan inst v next given done work view stands ready =
    let there : InstStands plan (inst_kept v next given done work) = subst (InstStands plan) (sym view) stands in
    let ready_there : IsReady (inst_kept v next given done work) = subst IsReady (sym view) ready in
    let left : List Element = left_kept given done in
    let some : IsSome (running_kept work next left) = ready_there.0 in
    let u = up_of work next left some in
    let zero : length u.up.left ≡ 0 =
    sym (ap (λ (r : Option Running). option_map_or (λ (up : Running). length up.left) r 0) u.is) ∙ ready_there.1 in
    let none : left ≡ [] = nil_of left (sym (ap length u.left_is) ∙ zero) in
    let some_none : IsSome (running_kept work next []) = subst (λ (xs : List Element). IsSome (running_kept work next xs)) none some in
    let running : IfSome (running_kept work next []) (Stands plan v) =
    subst (λ (xs : List Element). IfSome (running_kept work next xs) (Stands plan v)) none there.running in
    let e = up_of work next [] some_none in
    record {
      none = none;
      stands = there;
      works = record { stream = there.stream; list = there.list; up = some_and (Stands plan v) (running_kept work next []) some_none running };
      up = e;
      up_stands = subst (λ (r : Option Running). IfSome r (Stands plan v)) e.is running;
    }

-- after an Ok

record More (plan : PlanText) (v next : ℕ) (again : Work) (after : List Element) : Type 0 where
  up : Up again next after
  stands : Stands plan v up.up
  few : next + length after ≤ 131072

some_same : (a b : Running) → Some a ≡ Some b → a ≡ b
some_same a b e = cc

more : Known → (plan : PlanText) → IsPlan plan → (v next : ℕ) (given : OutList) (done : ℕ) (work again : Work) (after : List Element)
    → (i : Idle plan v next given done work) → BecomesOneMore plan v next work again after → IsWithin plan v (n_kept work + 1) → AreKept plan v (n_kept work + 1)
    → More plan v next again after
more known plan is_plan v next given done work again after i becomes within kept =
    let J = vertices_of plan in
    let job : IsJob J = known.jobs plan is_plan.job is_plan.lists in
    let up : Running = i.up.up in
    let n_is : up.n ≡ n_kept work = i.up.n_is in
    let new : Running = one_more plan v up in
    let is : running_kept again next after ≡ Some new = becomes ∙ ap (option_map (one_more plan v)) i.up.is in
    let u = up_of again next after (subst IsSome (sym is) refl) in
    let same : u.up ≡ new = some_same u.up new (sym u.is ∙ is) in
    let within_up : IsWithin plan v (up.n + 1) = subst (λ m. IsWithin plan v (m + 1)) (sym n_is) within in
    let kept_up : AreKept plan v (up.n + 1) = subst (λ m. AreKept plan v (m + 1)) (sym n_is) kept in
    let taken = within_up.taken in
    let grows : out J v (up.n + 1) ≡ out J v up.n + length (given_at J v up.n) =
    out_given known.streams known.grows J job v up.n i.stands.stream (omega arith) in
    let stands : Stands plan v new = accepted_stands plan v up i.up_stands i.up.left_is within_up kept_up grows in
    let there : Stands plan v u.up = subst (Stands plan v) (sym same) stands in
    let count : u.up.next + length u.up.left ≡ out J v u.up.n = there.next in
    let limit : out J v u.up.n ≤ plan.job.max_elements = there.within.out in
    let most : plan.job.max_elements ≤ 131072 = is_plan.job.max_elements.most_of in
    let a : u.up.next ≡ next = u.next_is in
    let b : length u.up.left ≡ length after = ap length u.left_is in
    record { up = u; stands = there; few = omega arith }

pub counted : Known → (plan : PlanText) → IsPlan plan → (v next : ℕ) (given : OutList) (done : ℕ) (work again : Work) (after : OutList)
    → {A : Type 0} → (r : Result A ExecFault) → Idle plan v next given done work → next < 2 ^ 64
    → OnOk r (BecomesOneMore plan v next work again after.elements) → OnOk r (IsWithin plan v (n_kept work + 1)) → OnOk r (AreKept plan v (n_kept work + 1))
    → OnErr r (after.elements ≡ []) → IsCounted next after 0
counted known plan is_plan v next given done work again after (Ok x) i fits becomes within kept none =
    let m = more known plan is_plan v next given done work again after.elements i becomes within kept in
    let few = m.few in
    record { within = omega arith; few = omega arith; numbered = λ k. omega arith }
counted known plan is_plan v next given done work again after (Err e) i fits becomes within kept none =
    let count : length after.elements ≡ 0 = ap length none in
    record { within = omega arith; few = omega arith; numbered = λ k. omega arith }

view_same : (v next : ℕ) (given after : OutList) (done : ℕ) (work again : Work) → again ≡ work → after.elements ≡ [] → left_kept given done ≡ []
    → inst_kept v next given done work ≡ inst_kept v next after 0 again
view_same v next given after done work again same none idle_none =
    ap (λ (xs : List Element). inst_of v (list_kept work) (running_kept work next xs)) (idle_none ∙ sym none)
    ∙ ap (λ (w : Work). inst_of v (list_kept w) (running_kept w next after.elements)) (sym same)

pub executed : Known → (plan : PlanText) → IsPlan plan → (v next : ℕ) (given : OutList) (done : ℕ) (work again : Work) (after : OutList)
    → {A : Type 0} → (r : Result A ExecFault) → Idle plan v next given done work → list_kept again ≡ list_kept work
    → OnOk r (BecomesOneMore plan v next work again after.elements) → OnOk r (IsWithin plan v (n_kept work + 1)) → OnOk r (AreKept plan v (n_kept work + 1))
    → OnErr r (again ≡ work) → OnErr r (after.elements ≡ []) → InstStands plan (inst_kept v next after 0 again)
executed known plan is_plan v next given done work again after (Ok x) i list becomes within kept same none =
    let m = more known plan is_plan v next given done work again after.elements i becomes within kept in
    record {
      stream = i.stands.stream;
      list = list ∙ i.stands.list;
      running = subst (λ (r : Option Running). IfSome r (Stands plan v)) (sym m.up.is) m.stands;
    }
executed known plan is_plan v next given done work again after (Err e) i list becomes within kept same none =
    subst (InstStands plan) (view_same v next given after done work again same none i.none) i.stands
