-- What is needed of a stream, from the nodes of a graph to the numbers of a plan.
use Rattle.std.proofs.Common.{◌≡◌, ◌⊎◌, ℕ, ◌+◌, ◌<◌, ◌≤◌, true, false, not, Option, Some, List, [], length, get_or, map, inl, inr, refl, sym, ap, ◌∙◌, subst, arith}
use Rattle.std.specs.List.{range_with_len}
use Rattle.std.specs.Option.{option_map_or}
use Rattle.std.specs.Prelude.{slice_get, slice_index}
use Rattle.std.proofs.lemmas.List.{get_or-map, length-map}
use Rattle.std.proofs.lemmas.List.FromFn.{get_or-range_with_len, length-range_with_len}
use Rattle.std.proofs.lemmas.Option.{slice_get-get_or, slice_get_within}
use Rattle.ss_frames.specs.Plans.{plan_numbers}
use Rattle.ss_plan.specs.Plan.{PlanText, inputs_read}
use Rattle.ss_state.specs.IsNumbers.{Reads}
use Rattle.ss_state.specs.LowWater.{low, low_at, need, taken_at}
use Rattle.ss_state.specs.Numbers.{JobNumbers, VertexNumbers, IsOperator, IsStream, input, is_inner, out, pos, vertex}
use Rattle.ss_state.specs.State.{Ledger, LedgerRow, empty_row, row_at}
use Rattle.ss_water.specs.Graph.{is_sink, is_stream}
use Rattle.ss_water.specs.Needs.{InputWants, IsNeed, IsStart, IsWanted, pos_at}
use Rattle.ss_water.specs.Starts.{n_at, out_at}
use Rattle.ss_water.specs.declared.node.Kind.{Kind}
use Rattle.ss_water.specs.declared.node.Kind.TheVariants.{Source, Inner, Sink}
use Rattle.ss_water.specs.declared.node.Node.{Node}
use Rattle.ss_water.specs.declared.snap_row.SnapRow.{SnapRow}
use Rattle.ss_vault.specs.Facts.{CollectionFacts, PlanFacts, SnapshotFacts}
use Rattle.ss_vault.specs.NumbersHeld.{CanRecover, snaps_held, stored_of}
use Rattle.ss_vault.specs.Sound.{Sound, snap_at}
use Rattle.ss_vault.specs.Told.{VaultTold, durable_of, numbers_of}
use Rattle.ss_vault.proofs.Answering.{low_found}
use Rattle.ss_vault.proofs.Starts.{Tells, at_least, greatest_is, low_given, place_of, sound_rise, sound_start, sound_tells, told_n, told_out}

-- ---- nodes and numbers

abbrev no_node : Node
no_node = record { kind = Sink; inputs = []; width = 0 }

inputs_long : (node : Node) → length (inputs_read node) ≡ node.width
inputs_long node =
    length-map (range_with_len 0 node.width) (λ (i : ℕ). slice_index node.inputs i) ∙ length-range_with_len 0 node.width

input_read : (node : Node) (i : ℕ) → i < node.width → get_or (inputs_read node) i 0 ≡ slice_index node.inputs i
input_read node i within =
    let range = length-range_with_len 0 node.width in
    get_or-map (λ (k : ℕ). slice_index node.inputs k) (range_with_len 0 node.width) i 0 0 (omega (arith, within, range))
    ∙ ap (λ (k : ℕ). slice_index node.inputs k) (get_or-range_with_len 0 node.width i 0 within ∙ (let e : 0 + i ≡ i = omega arith in e))

inner_is : (k : Kind) → is_inner k ≡ true → k ≡ Inner
inner_is Source h = absurd cc
inner_is Inner h = refl
inner_is Sink h = absurd cc

-- a vertex of a plan and its node
record Both (plan : PlanText) (w : ℕ) : Type 0 where
  node : Node
  at : slice_get plan.job.graph w ≡ Some node
  kind : (vertex (plan_numbers plan) w).kind ≡ node.kind
  wide : length (vertex (plan_numbers plan) w).inputs ≡ node.width
  reads : (i : ℕ) → i < node.width → input (vertex (plan_numbers plan) w) i ≡ slice_index node.inputs i

abbrev both_at : (plan : PlanText) → PlanFacts plan → (w : ℕ) (node : Node) → slice_get plan.job.graph w ≡ Some node → Both plan w
both_at plan facts w node at =
    let inputs = facts.inputs w node at in
    record {
      node = node;
      at = at;
      kind = facts.kinds w node at;
      wide = ap length inputs ∙ inputs_long node;
      reads = λ i within. ap (λ (xs : List ℕ). get_or xs i 0) inputs ∙ input_read node i within;
    }

both : (plan : PlanText) → PlanFacts plan → (w : ℕ) → w < length (plan_numbers plan).vertices → Both plan w
both plan facts w within =
    let count = facts.count in
    both_at plan facts w (get_or plan.job.graph w no_node) (slice_get-get_or plan.job.graph w no_node (omega (arith, within, count)))

-- ---- from where an operator is recovered

pos_told : (f : ℕ → SnapRow) (ns : List ℕ) (k i : ℕ) → k < length ns → pos_at (map f ns) k i ≡ slice_index (f (get_or ns k 0)).pos i
pos_told f ns k i within =
    ap (λ o. option_map_or (λ (row : SnapRow). slice_index row.pos i) o 0) (slice_get-get_or (map f ns) k (f 0) (omega (arith, within, length-map ns f)))
    ∙ ap (λ (s : SnapRow). slice_index s.pos i) (get_or-map f ns k 0 (f 0) within)

-- the snapshot at its start says its low-water mark
start_pos : (plan : PlanText) → SnapshotFacts plan → (s : VaultTold) (w place i : ℕ) → Sound plan s → IsOperator (plan_numbers plan) w
    → IsStart (snaps_held s.held w) (durable_of s w).dur place → i < length (vertex (plan_numbers plan) w).inputs
    → pos_at (snaps_held s.held w) place i ≡ pos (vertex (plan_numbers plan) w) (low_at (plan_numbers plan) (numbers_of s).ledger w) i
start_pos plan snaps s w place i sound operator start below =
    let x : VertexNumbers = vertex (plan_numbers plan) w in
    let row : LedgerRow = durable_of s w in
    let f : ℕ → SnapRow = snap_at plan w in
    let mark : ℕ = low x row in
    let told : snaps_held s.held w ≡ map f row.snaps = (sound.snapshots w).told in
    let tells : Tells x f row.snaps = sound_tells plan snaps s w sound operator in
    let within : place < length row.snaps =
    let k = start.within in let long = ap length told in omega (arith, k, long, length-map row.snaps f) in
    let greatest : n_at (snaps_held s.held w) place ≡ mark =
    greatest_is (snaps_held s.held w) row.dur place start.within start.given start.greatest ∙ low_found plan snaps s w sound operator in
    let here : get_or row.snaps place 0 ≡ mark =
    sym (ap (λ (rows : List SnapRow). n_at rows place) told ∙ told_n x f row.snaps place tells within) ∙ greatest in
    let accepted = (sound.numbers.stands.row w).snaps mark ((sound.numbers.stands.row w).low operator.1) in
    ap (λ (rows : List SnapRow). pos_at rows place i) told ∙ pos_told f row.snaps place i within
    ∙ ap (λ (n : ℕ). slice_index (f n).pos i) here
    ∙ (snaps.coded w mark operator accepted).read i below

-- and there is one
start_at_low : (plan : PlanText) → SnapshotFacts plan → (s : VaultTold) (w : ℕ) → Sound plan s → IsOperator (plan_numbers plan) w
    → (place : ℕ) × IsStart (snaps_held s.held w) (durable_of s w).dur place
start_at_low plan snaps s w sound operator =
    let x : VertexNumbers = vertex (plan_numbers plan) w in
    let row : LedgerRow = durable_of s w in
    let f : ℕ → SnapRow = snap_at plan w in
    let mark : ℕ = low x row in
    let told : snaps_held s.held w ≡ map f row.snaps = (sound.snapshots w).told in
    let tells : Tells x f row.snaps = sound_tells plan snaps s w sound operator in
    let place = place_of mark row.snaps ((sound.numbers.stands.row w).low operator.1) in
    let inside = place.1 in
    let within : place.0 < length (snaps_held s.held w) = let long = ap length told in omega (arith, inside, long, length-map row.snaps f) in
    let number : n_at (snaps_held s.held w) place.0 ≡ mark =
    ap (λ (rows : List SnapRow). n_at rows place.0) told ∙ told_n x f row.snaps place.0 tells inside ∙ place.2 in
    let given : out_at (snaps_held s.held w) place.0 ≡ out x mark =
    ap (λ (rows : List SnapRow). out_at rows place.0) told ∙ told_out x f row.snaps place.0 tells inside ∙ ap (out x) place.2 in
    let few = low_given x row operator.1 in
    let found = low_found plan snaps s w sound operator in (
      place.0,
      record {
        within = within;
        given = omega (arith, given, few);
        greatest = λ k h o. let least = at_least (snaps_held s.held w) row.dur k h o in omega (arith, least, found, number);
      },
    )

-- each operator can be recovered
pub can_recover : (plan : PlanText) → PlanFacts plan → SnapshotFacts plan → (s : VaultTold) → Sound plan s → CanRecover plan.job.graph s.held
can_recover plan facts snaps s sound = record {
  rise = λ w node at inner. sound_rise plan snaps s w sound (operator w node at inner);
  start = λ w node at inner. sound_start plan snaps s w (durable_of s w).dur sound (operator w node at inner) (omega arith);
}
  where
    operator : (w : ℕ) (node : Node) → slice_get plan.job.graph w ≡ Some node → node.kind ≡ Inner → IsOperator (plan_numbers plan) w
    operator w node at inner =
        let before = slice_get_within plan.job.graph w node at in
        let count = facts.count in
        (omega (arith, before, count), ap is_inner (facts.kinds w node at ∙ inner))

-- ---- what is needed

column_at : (f : LedgerRow → ℕ) (l : Ledger) (w : ℕ) → w < length l.rows → slice_index (map f l.rows) w ≡ f (row_at l w)
column_at f l w within = get_or-map f l.rows w empty_row 0 within

pub need_is : CollectionFacts → (plan : PlanText) → PlanFacts plan → SnapshotFacts plan → (s : VaultTold) (v n : ℕ) → Sound plan s
    → IsStream (plan_numbers plan) v → IsNeed plan.job.graph (stored_of s.held) v n
    → n ≡ need (plan_numbers plan) (numbers_of s).ledger v
need_is laws plan facts snaps s v n sound stream needed =
    let job : JobNumbers = plan_numbers plan in
    let l : Ledger = (numbers_of s).ledger in
    laws.one job (low_at job l) (taken_at l) v n (need job l v) facts.numbers
    (record { readers = readers; sinks = sinks; one = one })
    (laws.need job l v facts.numbers stream)
  where
    inside : (w : ℕ) → w < length (plan_numbers plan).vertices → w < length (numbers_of s).ledger.rows
    inside w h = let rows = sound.numbers.stands.rows in omega (arith, h, rows)

    wanted : (m w i : ℕ) (b : Both plan w) → i < b.node.width → slice_index b.node.inputs i ≡ v
        → InputWants b.node.kind (snaps_held s.held w) (slice_index (stored_of s.held).dur w) (slice_index (stored_of s.held).taken w) i m
        → IsWanted plan.job.graph (stored_of s.held) v m
    wanted m w i b below is wants = (w, b.node, slice_get_within plan.job.graph w b.node b.at, b.at, (i, below, is, wants))

    readers : (w i : ℕ) → Reads (plan_numbers plan) v w i → is_inner (vertex (plan_numbers plan) w).kind ≡ true
        → n ≤ pos (vertex (plan_numbers plan) w) (low_at (plan_numbers plan) (numbers_of s).ledger w) i
    readers w i r inner =
        let b = both plan facts w r.is_vertex in
        let operator : IsOperator (plan_numbers plan) w = (r.is_vertex, inner) in
        let below : i < b.node.width = let h = r.is_input in let k = b.wide in omega (arith, h, k) in
        let start = start_at_low plan snaps s w sound operator in
        let m : ℕ = pos (vertex (plan_numbers plan) w) (low_at (plan_numbers plan) (numbers_of s).ledger w) i in
        let dur = column_at (λ (r : LedgerRow). r.dur) (numbers_of s).ledger w (inside w r.is_vertex) in
        let at_start : (place : ℕ) × IsStart (snaps_held s.held w) (slice_index (stored_of s.held).dur w) place × (m ≡ pos_at (snaps_held s.held w) place i) =
        (start.0, subst (λ (d : ℕ). IsStart (snaps_held s.held w) d start.0) (sym dur) start.1, sym (start_pos plan snaps s w start.0 i sound operator start.1 r.is_input)) in
        let kind : b.node.kind ≡ Inner = sym b.kind ∙ inner_is (vertex (plan_numbers plan) w).kind inner in
        needed.least m (wanted m w i b below (sym (b.reads i below) ∙ r.is_stream)
        (subst (λ (k : Kind). InputWants k (snaps_held s.held w) (slice_index (stored_of s.held).dur w) (slice_index (stored_of s.held).taken w) i m) (sym kind) at_start))

    sinks : (k : ℕ) → Reads (plan_numbers plan) v k 0 → (vertex (plan_numbers plan) k).kind ≡ Sink → n ≤ taken_at (numbers_of s).ledger k
    sinks k r sink =
        let b = both plan facts k r.is_vertex in
        let below : 0 < b.node.width = let h = r.is_input in let w = b.wide in omega (arith, h, w) in
        let m : ℕ = taken_at (numbers_of s).ledger k in
        let taken : m ≡ slice_index (stored_of s.held).taken k = sym (column_at (λ (r : LedgerRow). r.taken) (numbers_of s).ledger k (inside k r.is_vertex)) in
        let kind : b.node.kind ≡ Sink = sym b.kind ∙ sink in
        needed.least m (wanted m k 0 b below (sym (b.reads 0 below) ∙ r.is_stream)
        (subst (λ (x : Kind). InputWants x (snaps_held s.held k) (slice_index (stored_of s.held).dur k) (slice_index (stored_of s.held).taken k) 0 m) (sym kind) taken))

    one : ((w i : ℕ) × Reads (plan_numbers plan) v w i × (is_inner (vertex (plan_numbers plan) w).kind ≡ true) × (n ≡ pos (vertex (plan_numbers plan) w) (low_at (plan_numbers plan) (numbers_of s).ledger w) i))
        ⊎ ((k : ℕ) × Reads (plan_numbers plan) v k 0 × ((vertex (plan_numbers plan) k).kind ≡ Sink) × (n ≡ taken_at (numbers_of s).ledger k))
    one = by_kind needed.one.0 (both_at plan facts needed.one.0 needed.one.1 needed.one.3) needed.one.4.0 needed.one.4.1 needed.one.4.2 needed.one.1.kind refl needed.one.4.3
      where
        by_kind : (w : ℕ) (b : Both plan w) (i : ℕ) → i < b.node.width → slice_index b.node.inputs i ≡ v → (k : Kind) → b.node.kind ≡ k
            → InputWants k (snaps_held s.held w) (slice_index (stored_of s.held).dur w) (slice_index (stored_of s.held).taken w) i n
            → ((w i : ℕ) × Reads (plan_numbers plan) v w i × (is_inner (vertex (plan_numbers plan) w).kind ≡ true) × (n ≡ pos (vertex (plan_numbers plan) w) (low_at (plan_numbers plan) (numbers_of s).ledger w) i))
            ⊎ ((k : ℕ) × Reads (plan_numbers plan) v k 0 × ((vertex (plan_numbers plan) k).kind ≡ Sink) × (n ≡ taken_at (numbers_of s).ledger k))
        by_kind w b i below is Source kind wants = absurd wants
        by_kind w b i below is Inner kind wants =
            let before = slice_get_within plan.job.graph w b.node b.at in
            let count = facts.count in
            let vertex_is : w < length (plan_numbers plan).vertices = omega (arith, before, count) in
            let inner : is_inner (vertex (plan_numbers plan) w).kind ≡ true = ap is_inner (b.kind ∙ kind) in
            let dur = column_at (λ (r : LedgerRow). r.dur) (numbers_of s).ledger w (inside w vertex_is) in
            let input_is : i < length (vertex (plan_numbers plan) w).inputs = let k = b.wide in omega (arith, below, k) in
            inl (
              w,
              i,
              record { is_vertex = vertex_is; is_input = input_is; is_stream = b.reads i below ∙ is },
              inner,
              wants.2 ∙ start_pos plan snaps s w wants.0 i sound (vertex_is, inner)
                  (subst (λ (d : ℕ). IsStart (snaps_held s.held w) d wants.0) dur wants.1) input_is,
            )
        by_kind w b i below is Sink kind wants =
            let before = slice_get_within plan.job.graph w b.node b.at in
            let count = facts.count in
            let vertex_is : w < length (plan_numbers plan).vertices = omega (arith, before, count) in
            let sink : (vertex (plan_numbers plan) w).kind ≡ Sink = b.kind ∙ kind in
            let one_input = (facts.numbers.each w vertex_is).sink sink in
            let wide = b.wide in
            let first : i ≡ 0 = omega (arith, below, one_input, wide) in
            let zero_below : 0 < b.node.width = omega (arith, one_input, wide) in
            inr (
              w,
              record { is_vertex = vertex_is; is_input = omega (arith, one_input); is_stream = b.reads 0 zero_below ∙ subst (λ (k : ℕ). slice_index b.node.inputs k ≡ v) first is },
              sink,
              wants ∙ column_at (λ (r : LedgerRow). r.taken) (numbers_of s).ledger w (inside w vertex_is),
            )

-- a stream of a plan is one of its graph
pub stream_node : (plan : PlanText) → PlanFacts plan → (v : ℕ) → IsStream (plan_numbers plan) v → is_stream plan.job.graph v ≡ true
stream_node plan facts v stream =
    let b = both plan facts v stream.0 in
    ap (λ (o : Option Node). option_map_or (λ (n : Node). not (is_sink n.kind)) o false) b.at
    ∙ ap (λ (k : Kind). not (is_sink k)) (sym b.kind) ∙ ap not stream.1
