-- An instance that goes on from a snapshot, and the snapshot that one makes.
use Rattle.std.proofs.Common.{◌≡◌, ℕ, true, false, List, [], Option, Some, None, IsSome, IsNone, IsSomeAnd, IfSome, Result, Ok, Err, refl, sym, ap, ◌∙◌, subst}
use Rattle.std.specs.Option.{option_map_or}
use Rattle.ss_codec.specs.declared.frame.Frame.{Frame}
use Rattle.ss_elem.specs.OutList.{OutList}
use Rattle.ss_elem.specs.declared.element.Element.{Element}
use Rattle.ss_expr.specs.declared.stream_operator.Spec.{Spec}
use Rattle.ss_frames.specs.Frames.{accepted, inputs_at, frame_of}
use Rattle.ss_frames.specs.Snapshot.{IsSnapshot}
use Rattle.ss_frames.specs.Within.{IsWithin, AreKept, entries_at}
use Rattle.ss_job.specs.JobText.{spec_of}
use Rattle.ss_meaning.specs.Entries.{Entries}
use Rattle.ss_meaning.specs.Meaning.{Vertex, Source, Inner, Sink, vertex}
use Rattle.ss_plan.specs.Limit.{IsPlan}
use Rattle.ss_plan.specs.Plan.{PlanText, vertices_of}
use Rattle.ss_state.specs.Numbers.{is_inner}
use Rattle.ss_state.specs.NumbersOfMeaning.{GivesStream, kind_of}
use Rattle.ss_vertex.specs.Calls.{IsLoadFault, entries_in, operator_in, running_in}
use Rattle.ss_vertex.specs.Inst.{OperatorState, Running, InstState, n_of}
use Rattle.ss_vertex.specs.Kept.{IsFromFrame, inst_kept, left_kept, merging_kept, operator_kept}
use Rattle.ss_vertex.specs.Known.{Known}
use Rattle.ss_vertex.specs.Standing.{Stands, InstStands, list_len}
use Rattle.ss_vertex.specs.declared.fault.LoadFault.{LoadFault}
use Rattle.ss_vertex.specs.declared.fault.LoadFault.TheVariants as load
use Rattle.ss_vertex.specs.declared.operating.Operating.{Operating}
use Rattle.ss_vertex.specs.declared.work.Work.TheVariants.{Merging}
use Rattle.ss_vertex.proofs.Numbered.{inner_spec}
use Rattle.ss_vertex.proofs.Operators.{operator}
use Rattle.ss_vertex.proofs.Snapshots.{a_spec, after_v, after_n, accepted_count, frame_is, goes_on_entries, goes_on_stands}
use Rattle.ss_water.specs.Graph.{is_sink}

-- a snapshot's image says what its vertex remembers
said : Known → (plan : PlanText) → IsPlan plan → (f : Frame) → (h : IsSnapshot plan f) → (s : Spec) → spec_of plan.job f.v ≡ Some s
    → entries_in f s ≡ Ok (entries_at plan f.v f.n s)
said known plan is_plan f h s spec =
    goes_on_entries known.images known.whole known.early known.follow known.adds known.few plan is_plan f.v s
    (operator known.vertices known.jobs plan is_plan f.v s spec) spec f refl h

pub undamaged : Known → (plan : PlanText) → IsPlan plan → (f : Frame) → IsSnapshot plan f → (e : LoadFault) → IsLoadFault plan f f.v e
    → e ≡ load.Memory
undamaged known plan is_plan f h load.Memory fault = refl
undamaged known plan is_plan f h (load.Damaged at) fault =
    let there = a_spec (spec_of plan.job f.v) h.operator in
    let s : Spec = there.0 in
    let bad : entries_in f s ≡ Err at = subst (λ (q : Option Spec). IsSomeAnd q (λ t. entries_in f t ≡ Err at)) there.1 fault in
    let good = said known plan is_plan f h s there.1 in
    cc

abbrev read_as : Entries → Result Entries ℕ
read_as es = Ok es

ok_same : (a b : Entries) → read_as a ≡ read_as b → a ≡ b
ok_same a b e = cc

abbrev running_of : ℕ → ℕ → OperatorState → Running
running_of n next k = record { n = n; next = next; left = []; operator = Some k }

pub loaded_stands : Known → (plan : PlanText) → IsPlan plan → (inst : InstState) (f : Frame) (o : Operating) (given : OutList) (done : ℕ)
    → f.v ≡ inst.v → o.n ≡ f.n → IsFromFrame plan f o → left_kept given done ≡ [] → IsSnapshot plan f → InstStands plan inst
    → InstStands plan (inst_kept inst.v f.out given done (Merging (Some o)))
loaded_stands known plan is_plan inst f o given done same n from none h stands =
    let there = a_spec (spec_of plan.job f.v) h.operator in
    let s : Spec = there.0 in
    let op = operator known.vertices known.jobs plan is_plan f.v s there.1 in
    let read = subst (λ (q : Option Spec). IsSomeAnd q (λ t. (entries : Entries) × (entries_in f t ≡ Ok entries) × (operator_kept o ≡ operator_in f t entries))) there.1 from in
    let entries : Entries = read.0 in
    let is : entries ≡ entries_at plan f.v f.n s = ok_same entries (entries_at plan f.v f.n s) (sym read.1 ∙ said known plan is_plan f h s there.1) in
    let kept : operator_kept o ≡ operator_in f s (entries_at plan f.v f.n s) = read.2 ∙ ap (operator_in f s) is in
    let running : merging_kept f.out (left_kept given done) o ≡ running_in f s (entries_at plan f.v f.n s) =
    ap (λ (xs : List Element). merging_kept f.out xs o) none ∙ ap (λ m. running_of m f.out (operator_kept o)) n ∙ ap (running_of f.n f.out) kept in
    let up : Stands plan f.v (running_in f s (entries_at plan f.v f.n s)) = goes_on_stands known.least plan f.v s op there.1 f refl h in
    let list : list_len (vertex (vertices_of plan) f.v) ≡ None = ap list_len op.is in
    record {
      stream = stands.stream;
      list = sym (ap (λ u. list_len (vertex (vertices_of plan) u)) (sym same) ∙ list);
      running = subst (λ u. Stands plan u (merging_kept f.out (left_kept given done) o)) same (subst (Stands plan f.v) (sym running) up);
    }

-- the snapshot that an instance of an operator makes

inner_by : (z : Vertex) → is_sink (kind_of z) ≡ false → IsNone (list_len z) → is_inner (kind_of z) ≡ true
inner_by (Source list) e h = cc
inner_by (Inner kind ins) e h = refl
inner_by (Sink u) e h = cc

pub record Snapped (plan : PlanText) (v n : ℕ) (f : Frame) : Type 0 where
  pub snapshot : IsSnapshot plan f
  pub vertex_is : f.v ≡ v
  pub taken : f.n ≡ n

snapped_up : Known → (plan : PlanText) → IsPlan plan → (v : ℕ) → GivesStream (vertices_of plan) v → is_inner (kind_of (vertex (vertices_of plan) v)) ≡ true
    → (up : Running) → Stands plan v up → (f : Frame) → f ≡ frame_of plan v up.n → Snapped plan v up.n f
snapped_up known plan is_plan v gives inner up h f is =
    let there = inner_spec known.vertices plan is_plan v gives.0 inner in
    let s : Spec = there.0 in
    let op = operator known.vertices known.jobs plan is_plan v s there.1 in
    let w = inputs_at plan v in
    let p = accepted plan v up.n in
    let whole = is ∙ frame_is plan v up.n s there.1 in
    let v_is : f.v ≡ v = ap (λ (g : Frame). g.v) whole ∙ after_v v s w p in
    let n_is : f.n ≡ up.n = ap (λ (g : Frame). g.n) whole ∙ after_n v s w p ∙ accepted_count plan v up.n s op h.within.taken in
    record {
      snapshot = record {
        operator = subst (λ u. IsSome (spec_of plan.job u)) (sym v_is) (subst IsSome (sym there.1) refl);
        frame = is ∙ ap (λ u. frame_of plan u up.n) (sym v_is) ∙ ap (frame_of plan f.v) (sym n_is);
        within = subst (λ m. IsWithin plan f.v m) (sym n_is) (subst (λ u. IsWithin plan u up.n) (sym v_is) h.within);
        kept = subst (λ m. AreKept plan f.v m) (sym n_is) (subst (λ u. AreKept plan u up.n) (sym v_is) h.kept);
      };
      vertex_is = v_is;
      taken = n_is;
    }

snapped_by : Known → (plan : PlanText) → IsPlan plan → (v : ℕ) → GivesStream (vertices_of plan) v → is_inner (kind_of (vertex (vertices_of plan) v)) ≡ true
    → (r : Option Running) → IsSome r → IfSome r (Stands plan v) → (f : Frame) → f ≡ frame_of plan v (option_map_or (λ (up : Running). up.n) r 0)
    → Snapped plan v (option_map_or (λ (up : Running). up.n) r 0) f
snapped_by known plan is_plan v gives inner None some h f is = cc
snapped_by known plan is_plan v gives inner (Some up) some h f is = snapped_up known plan is_plan v gives inner up h f is

pub snapped : Known → (plan : PlanText) → IsPlan plan → (inst : InstState) → InstStands plan inst → IsSome inst.running → IsNone inst.list
    → (f : Frame) → f ≡ frame_of plan inst.v (n_of inst) → Snapped plan inst.v (n_of inst) f
snapped known plan is_plan inst h up none f is =
    let no_list : IsNone (list_len (vertex (vertices_of plan) inst.v)) = subst IsNone h.list none in
    let inner = inner_by (vertex (vertices_of plan) inst.v) h.stream.1 no_list in
    snapped_by known plan is_plan inst.v h.stream inner inst.running up h.running f is
