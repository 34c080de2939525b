-- A vault that was just started.
use Rattle.std.proofs.Common.{◌≡◌, ◌≢◌, ℕ, ◌<◌, ◌≤◌, ◌==◌, ◌&&◌, ◌||◌, not, nat_le, nat_lt, Bool, true, false, Option, Some, None, IfSome, List, [], ◌∷◌, ◌++◌, length, get_or, map, take, refl, sym, ap, ap₂, ◌∙◌, subst, arith, ⊎_elim, if◌then◌else◌}
use Rattle.std.specs.Prelude.{IsSome}
use Rattle.std.proofs.Math.ListN as listn
use Rattle.std.proofs.lemmas.Bool.{cases_eq, cases_lt, eq-eqb, eqb-true, ne_eqb}
use Rattle.std.proofs.lemmas.Bool.Decides.{nat_tests}
use Rattle.std.proofs.lemmas.List.{ext_get_or, get_or-map, get_or_past, length-map}
use Rattle.std.proofs.lemmas.List.Elements.{All-nil}
use Rattle.std.proofs.lemmas.Option.{slice_get-get_or}
use Rattle.ss_codec.specs.Frame.{frame_bytes}
use Rattle.ss_elem.specs.Rows.{IsKept}
use Rattle.ss_codec.specs.declared.frame.Frame.{Frame}
use Rattle.ss_elem.specs.Line.{text_of}
use Rattle.ss_expr.specs.declared.stream_operator.Spec.{Spec}
use Rattle.ss_frames.specs.Frames.{frame_of}
use Rattle.ss_frames.specs.Plans.{plan_numbers}
use Rattle.ss_frames.specs.Within.{AreKept}
use Rattle.ss_job.specs.JobText.{spec_of}
use Rattle.ss_meaning.specs.Merge.{Arrival}
use Rattle.ss_outside.specs.Depot.{Contents, DepotTold}
use Rattle.ss_outside.specs.Told.{OutputsTold}
use Rattle.ss_plan.specs.Plan.{PlanText}
use Rattle.ss_state.specs.Joint.{IsSound}
use Rattle.ss_state.specs.Journal.{is_one_of}
use Rattle.ss_state.specs.Numbers.{JobNumbers, VertexNumbers, is_inner, no_vertex, vertex, input, size}
use Rattle.ss_state.specs.State.{LedgerRow, Ledger, VaultNumbers, empty_row, first_ledger, first_row, first_snaps, row_at}
use Rattle.ss_state.specs.declared.entry.Entry.{Entry}
use Rattle.ss_water.specs.Graph.{is_sink}
use Rattle.ss_water.specs.declared.node.Kind.{Kind}
use Rattle.ss_water.specs.declared.node.Kind.TheVariants.{Source, Inner, Sink}
use Rattle.ss_water.specs.declared.node.Node.{Node}
use Rattle.ss_water.specs.declared.snap_row.SnapRow.{SnapRow}
use Rattle.ss_vault.specs.Calls.{HaveNoBytes, HoldsFirstFrames, IsFirstFrame}
use Rattle.ss_vault.specs.Counts.{counts_told}
use Rattle.ss_vault.specs.Devices.{HoldsFirstBelow, NoFewer}
use Rattle.ss_vault.specs.Facts.{PlanFacts, RunFacts, SnapshotFacts}
use Rattle.ss_vault.specs.NumbersHeld.{AreFirst, NumbersHeld, ended_held, first_row_of, first_rows, snaps_held}
use Rattle.ss_vault.specs.Sound.{FilesHave, HasFiles, HoldsRecords, HoldsSnapshots, IsCounted, Sound, nothing_behind, snap_at, snap_of, stream_put, takes_no_more}
use Rattle.ss_vault.specs.Told.{VaultTold, counts_of}
use Rattle.ss_vault.specs.declared.counts.Counts.{Counts}
use Rattle.ss_vault.specs.declared.fault.VaultFault.{VaultFault}
use Rattle.ss_vault.proofs.Took.{stream_of}
use Rattle.ss_vault.proofs.Wholes.{whole_some}

no_node : Node
no_node = record { kind = Sink; inputs = []; width = 0 }

-- the rows of the first ledger
first_at : (job : JobNumbers) (v : ℕ) → row_at (first_ledger job) v ≡ first_row (vertex job v)
first_at job v = listn.get_or-map first_row job.vertices v no_vertex

rows_first : (plan : PlanText) → PlanFacts plan → map (λ (node : Node). first_row_of node.kind) plan.job.graph ≡ map first_row (plan_numbers plan).vertices
rows_first plan facts =
    let job : JobNumbers = plan_numbers plan in
    let graph : List Node = plan.job.graph in
    ext_get_or empty_row (map (λ (node : Node). first_row_of node.kind) graph) (map first_row job.vertices)
    (let e = facts.count in omega (arith, e, length-map graph (λ (node : Node). first_row_of node.kind), length-map job.vertices first_row))
    (λ v h.
    let inside : v < length graph = omega (arith, h, length-map graph (λ (node : Node). first_row_of node.kind)) in
    let here : v < length job.vertices = let e = facts.count in omega (arith, e, inside) in
    get_or-map (λ (node : Node). first_row_of node.kind) graph v no_node empty_row inside
    ∙ ap first_row_of (sym (facts.kinds v (get_or graph v no_node) (slice_get-get_or graph v no_node inside)))
    ∙ sym (get_or-map first_row job.vertices v no_vertex empty_row here))

abbrev ledger_with : List LedgerRow → ℕ → Ledger
ledger_with rows since = record { rows = rows; since = since }

abbrev numbers_with : Ledger → List Entry → VaultNumbers
numbers_with l journal = record { ledger = l; journal = journal }

pub first_numbers : (plan : PlanText) → PlanFacts plan → (held : NumbersHeld) → AreFirst plan.job.graph held
    → held.numbers ≡ record { ledger = first_ledger (plan_numbers plan); journal = [] }
first_numbers plan facts held first =
    let rows : held.numbers.ledger.rows ≡ map first_row (plan_numbers plan).vertices = first.rows ∙ rows_first plan facts in
    ap₂ numbers_with (ap₂ ledger_with rows first.since) first.journal

-- frames

inner_first : (plan : PlanText) (v n : ℕ) (k : Kind) (inside : Bool) → (is_inner k ≡ true → inside ≡ true)
    → (if (inside && is_inner k) && n == 0 then Some (frame_bytes (frame_of plan v 0)) else None)
    ≡ (if is_one_of n (first_snaps k) then Some (frame_bytes (frame_of plan v n)) else None)
inner_first plan v n Source true h = refl
inner_first plan v n Source false h = refl
inner_first plan v n Sink true h = refl
inner_first plan v n Sink false h = refl
inner_first plan v n Inner false h = absurd (cc (h refl))
inner_first plan v n Inner true h = ⊎_elim
    (λ (same : n ≡ 0).
    ap (λ (b : Bool). if b then Some (frame_bytes (frame_of plan v 0)) else None) (eq-eqb n 0 same)
    ∙ ap (λ (i : ℕ). Some (frame_bytes (frame_of plan v i))) (sym same)
    ∙ sym (ap (λ (b : Bool). if b || false then Some (frame_bytes (frame_of plan v n)) else None) (eq-eqb 0 n (sym same))))
    (λ (other : n ≢ 0).
    ap (λ (b : Bool). if b then Some (frame_bytes (frame_of plan v 0)) else None) (ne_eqb n 0 other)
    ∙ sym (ap (λ (b : Bool). if b || false then Some (frame_bytes (frame_of plan v n)) else None) (ne_eqb 0 n (λ h. other (sym h)))))
    (cases_eq n 0)

lt_yes : (m n : ℕ) → m < n → nat_lt m n ≡ true
lt_yes m n h = grind (arith, nat_tests)

in_job : (job : JobNumbers) (v : ℕ) → is_inner (vertex job v).kind ≡ true → v < length job.vertices
in_job job v inner = ⊎_elim
    (λ within. within)
    (λ past. absurd (cc (inner, ap (λ (x : VertexNumbers). is_inner x.kind) (get_or_past job.vertices v no_vertex past))))
    (cases_lt v (length job.vertices))

-- what is told beside
inner_told : (plan : PlanText) → PlanFacts plan → SnapshotFacts plan → (v : ℕ) (k : Kind) → (vertex (plan_numbers plan) v).kind ≡ k
    → first_rows k ≡ map (snap_at plan v) (first_snaps k)
inner_told plan facts snaps v Source e = refl
inner_told plan facts snaps v Sink e = refl
inner_told plan facts snaps v Inner e =
    let job : JobNumbers = plan_numbers plan in
    let inner : is_inner (vertex job v).kind ≡ true = ap is_inner e in
    let here = in_job job v inner in
    let some = some_spec (spec_of plan.job v) (facts.operator v (here, inner)) in
    let graph : List Node = plan.job.graph in
    let inside : v < length graph = let c = facts.count in omega (arith, c, here) in
    let is_first = snaps.first v some.0 (get_or graph v no_node) some.1 (slice_get-get_or graph v no_node inside) in
    ap (λ (f : Frame). snap_of f ∷ []) (sym is_first)
  where
    some_spec : (o : Option Spec) → IsSome o → (s : Spec) × (o ≡ Some s)
    some_spec None h = absurd cc
    some_spec (Some s) h = (s, refl)

past_snaps : (plan : PlanText) → PlanFacts plan → SnapshotFacts plan → (held : NumbersHeld) → AreFirst plan.job.graph held → (v : ℕ)
    → snaps_held held v ≡ map (snap_at plan v) (first_snaps (vertex (plan_numbers plan) v).kind)
past_snaps plan facts snaps held first v =
    let graph : List Node = plan.job.graph in
    let job : JobNumbers = plan_numbers plan in
    ap (λ (rows : List (List SnapRow)). get_or rows v []) first.snaps ∙ ⊎_elim
    (λ (inside : v < length graph).
    get_or-map (λ (node : Node). first_rows node.kind) graph v no_node [] inside
    ∙ ap first_rows (sym (facts.kinds v (get_or graph v no_node) (slice_get-get_or graph v no_node inside)))
    ∙ inner_told plan facts snaps v (vertex job v).kind refl)
    (λ (past : length graph ≤ v).
    let behind : length job.vertices ≤ v = let c = facts.count in omega (arith, c, past) in
    get_or_past (map (λ (node : Node). first_rows node.kind) graph) v [] (omega (arith, past, length-map graph (λ (node : Node). first_rows node.kind)))
    ∙ ap (λ (x : VertexNumbers). map (snap_at plan v) (first_snaps x.kind)) (sym (get_or_past job.vertices v no_vertex behind)))
    (cases_lt v (length graph))

-- whether there is nothing to take
ended_first : (plan : PlanText) → PlanFacts plan → (held : NumbersHeld) → AreFirst plan.job.graph held → (k : ℕ) → k < length (plan_numbers plan).vertices
    → ended_held held k ≡ takes_no_more (plan_numbers plan) (first_ledger (plan_numbers plan)) k
ended_first plan facts held first k here =
    let graph : List Node = plan.job.graph in
    let job : JobNumbers = plan_numbers plan in
    let inside : k < length graph = let c = facts.count in omega (arith, c, here) in
    ap (λ (b : List Bool). get_or b k true) first.ended
    ∙ get_or-map (λ (node : Node). not (is_sink node.kind)) graph k no_node true inside
    ∙ ap (λ (x : Kind). not (is_sink x)) (sym (facts.kinds k (get_or graph k no_node) (slice_get-get_or graph k no_node inside)))
    ∙ sink_cases plan facts k (vertex job k).kind refl here
    ∙ ap (λ (r : LedgerRow). not (is_sink (vertex job k).kind) || nat_le (size (vertex job (input (vertex job k) 0))) r.taken) (sym (first_at job k))
  where
    le_none : (n : ℕ) → 0 < n → nat_le n 0 ≡ false
    le_none n h = grind (arith, nat_tests)

    sink_cases : (plan : PlanText) → PlanFacts plan → (k : ℕ) (x : Kind) → (vertex (plan_numbers plan) k).kind ≡ x → k < length (plan_numbers plan).vertices
        → not (is_sink x) ≡ (not (is_sink x) || nat_le (size (vertex (plan_numbers plan) (input (vertex (plan_numbers plan) k) 0))) 0)
    sink_cases plan facts k Source e here = refl
    sink_cases plan facts k Inner e here = refl
    sink_cases plan facts k Sink e here =
        let job : JobNumbers = plan_numbers plan in
        let stream = stream_of job facts.numbers k (here, e) in
        let u : ℕ = input (vertex job k) 0 in
        let some = whole_some (stream_put plan k) (facts.whole u stream) in
        let size_is = facts.size u stream in
        sym (le_none (size (vertex job u)) (omega (arith, some, size_is)))

-- all of it
pub started_sound : RunFacts → (plan : PlanText) → PlanFacts plan → SnapshotFacts plan → (u : VaultTold) → AreFirst plan.job.graph u.held
    → HoldsFirstBelow plan (length (plan_numbers plan).vertices) u.depot.contents → HaveNoBytes u.outputs → u.halted ≡ None
    → IsCounted None u.started (counts_of u) → Sound plan u
started_sound runs plan facts snaps u first holds none going counted =
    let job : JobNumbers = plan_numbers plan in
    let l : Ledger = first_ledger job in
    let e : u.held.numbers ≡ record { ledger = l; journal = [] } = first_numbers plan facts u.held first in
    let ledger : u.held.numbers.ledger ≡ l = ap (λ (n : VaultNumbers). n.ledger) e in
    let rows = λ (v : ℕ). ap (λ (x : Ledger). row_at x v) ledger ∙ first_at job v in
    record {
      numbers = subst (λ (n : VaultNumbers). IsSound job n) (sym e) (runs.first job facts.numbers).vault;
      records = λ v. subst (λ (r : LedgerRow). HoldsRecords plan v r u.depot.contents) (sym (rows v))
          (record { first = holds.first v; each = λ n x least below is_item. absurd (omega (arith, below)); records = holds.records v });
      snapshots = λ v. subst (λ (r : LedgerRow). HoldsSnapshots plan v r (snaps_held u.held v) u.depot.contents) (sym (rows v))
          (record {
            frames = λ n. holds.frames v n
                ∙ inner_first plan v n (vertex job v).kind (nat_lt v (length job.vertices)) (λ inner. lt_yes v (length job.vertices) (in_job job v inner));
            told = past_snaps plan facts snaps u.held first v;
            kept = λ n h. none_read plan v n (vertex job v).kind h;
          });
      delivered = record {
        ended = λ k here. ended_first plan facts u.held first k here ∙ ap (λ (x : Ledger). takes_no_more job x k) (sym ledger);
        files = subst (λ (h : Option VaultFault). HasFiles plan u.held.numbers.ledger h u.outputs) (sym going)
            (subst (λ (x : Ledger). FilesHave plan x nothing_behind u.outputs) (sym ledger) (no_lines plan u.outputs none));
      };
      counted = subst (λ (h : Option VaultFault). IsCounted h u.started (counts_of u)) (sym going) counted;
    }
  where
    none_read : (plan : PlanText) (v n : ℕ) (k : Kind) → is_one_of n (first_snaps k) ≡ true → AreKept plan v n
    none_read plan v n Source h = absurd cc
    none_read plan v n Sink h = absurd cc
    none_read plan v n Inner h = ⊎_elim
        (λ (same : 0 ≡ n). subst (λ (i : ℕ). AreKept plan v i) same (All-nil (λ (x : Arrival). IsKept x.element)))
        (λ (other : 0 ≢ n). absurd (cc (h, ap (λ (b : Bool). b || false) (ne_eqb 0 n other))))
        (cases_eq 0 n)

    no_lines : (plan : PlanText) (outputs : OutputsTold) → HaveNoBytes outputs → FilesHave plan (first_ledger (plan_numbers plan)) nothing_behind outputs
    no_lines plan outputs none = record {
      sinks = λ k file is_file. subst (λ (t : ℕ). IfSome (outputs.bytes file) (λ bytes. bytes ≡ text_of (take t (stream_put plan k)) ++ []))
          (sym (ap (λ (r : LedgerRow). r.taken) (first_at (plan_numbers plan) k))) (none file);
      others = λ name h. none name;
    }

-- of a start that was refused
pub holds_first : (plan : PlanText) (limit : ℕ) (contents : Contents) → HoldsFirstBelow plan limit contents → HoldsFirstFrames plan contents
holds_first plan limit contents holds = record {
  first = holds.first;
  records = holds.records;
  frames = λ v n. subst (λ (o : Option (List ℕ)). IsFirstFrame plan v n o) (sym (holds.frames v n))
      (is_first plan v n (nat_lt v limit) (is_inner (vertex (plan_numbers plan) v).kind) (n == 0) refl refl);
}
  where
    is_first : (plan : PlanText) (v n : ℕ) (a b c : Bool) → is_inner (vertex (plan_numbers plan) v).kind ≡ b → (n == 0) ≡ c
        → IsFirstFrame plan v n (if (a && b) && c then Some (frame_bytes (frame_of plan v 0)) else None)
    is_first plan v n true true true e f = ((in_job (plan_numbers plan) v e, e), eqb-true n 0 f, refl)
    is_first plan v n true true false e f = tt
    is_first plan v n true false true e f = tt
    is_first plan v n true false false e f = tt
    is_first plan v n false b c e f = tt

-- the counts at the start
pub started_counted : (started : Counts) (outputs : OutputsTold) (depot new : DepotTold) → started ≡ counts_told outputs depot → NoFewer depot new
    → IsCounted None started (counts_told outputs new)
started_counted started outputs depot new is fewer =
    subst (λ (c : Counts). IsCounted None c (counts_told outputs new)) (sym is)
    (record { none_fell = record { faults = fewer.faults; output_faults = omega arith; shorts = fewer.shorts }; cause = tt })
