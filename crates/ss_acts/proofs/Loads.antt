-- What a load leaves of the replica, its tail and the vault.
use Rattle.std.proofs.Common.{◌≡◌, ℕ, ◌<◌, ◌≤◌, max, ◌==◌, nat_lt, Bool, true, false, ◌||◌, List, [], ◌∷◌, length, Option, Some, None, Ok, option_map, IsSome, IsSomeAnd, refl, sym, ap, ◌∙◌, arith, if◌then◌else◌, eq-eqb}
use Rattle.std.proofs.lemmas.Bool.Decides.{nat_tests}
use Rattle.std.proofs.lemmas.List.{take_all}
use Rattle.std.specs.Option.{option_map_or}
use Rattle.std.specs.Prelude.{is_some}
use Rattle.ss_acts.specs.Calls.{Loads}
use Rattle.ss_acts.specs.Coming.{ComesUp, begun_behind, up_behind}
use Rattle.ss_acts.specs.Facts.{ActFacts}
use Rattle.ss_acts.specs.Parts.{vertex_of}
use Rattle.ss_acts.proofs.Goings.{keeps}
use Rattle.ss_codec.specs.declared.frame.Frame.{Frame}
use Rattle.ss_expr.specs.declared.stream_operator.Spec.{Spec}
use Rattle.ss_fail.specs.declared.outcome.Outcome.{Outcome}
use Rattle.ss_fail.specs.declared.outcome.Outcome.TheVariants as outcome
use Rattle.ss_frames.specs.Frames.{frame_of}
use Rattle.ss_frames.specs.Laws.{FramesAreMeant}
use Rattle.ss_frames.specs.Plans.{plan_numbers}
use Rattle.ss_job.specs.JobText.{spec_of}
use Rattle.ss_meaning.specs.Entries.{Entries}
use Rattle.ss_meaning.specs.Meaning.{meaning}
use Rattle.ss_meaning.specs.Positions as position
use Rattle.ss_plan.specs.Plan.{PlanText, vertices_of}
use Rattle.ss_state.specs.Acts.{InstAndTailStep, load_act, load_inst, load_tail}
use Rattle.ss_state.specs.Journal.{is_one_of}
use Rattle.ss_state.specs.LowWater.{greatest_where, snap_within}
use Rattle.ss_state.specs.Numbers.{IsOperator, IsStream, VertexNumbers, is_inner, mlen, out, size, sum_of}
use Rattle.ss_state.specs.State.{InstNumbers, LedgerRow, TailNumbers}
use Rattle.ss_state.specs.Tails.{restarted}
use Rattle.ss_tail.specs.Held.{TailHeld, begun_at}
use Rattle.ss_vault.specs.Answers.{fetched}
use Rattle.ss_vault.specs.Calls.{Enters}
use Rattle.ss_vault.specs.Sound.{Sound}
use Rattle.ss_vault.specs.Told.{VaultTold, durable_of, numbers_of}
use Rattle.ss_vertex.specs.Calls.{GoesOnFrom, entries_in, loaded_in, running_in}
use Rattle.ss_vertex.specs.Inst.{InstState, Running, inst_numbers, is_up, n_of, running_numbers}
use Rattle.ss_water.specs.Graph.{is_sink}
use Rattle.ss_water.specs.declared.node.Kind.{Kind}
use Rattle.ss_water.specs.declared.node.Kind.TheVariants.{Source, Inner, Sink}

-- kinds

pub operator_gives : (k : Kind) → is_inner k ≡ true → is_sink k ≡ false
operator_gives Source h = refl
operator_gives Inner h = refl
operator_gives Sink h = absurd cc

-- the snapshot that is fetched is one to which its vertex may have come

picked_below : (b : Bool) (n g m : ℕ) → n ≤ m → g ≤ m → max (if b then n else 0) g ≤ m
picked_below true n g m first rest = omega arith
picked_below false n g m first rest = omega arith

or_true : (b : Bool) → (b || true) ≡ true
or_true true = refl
or_true false = refl

greatest_below : (test : ℕ → Bool) (ns : List ℕ) (m : ℕ) → ((n : ℕ) → is_one_of n ns ≡ true → n ≤ m) → greatest_where test ns ≤ m
greatest_below test [] m all = omega arith
greatest_below test (n ∷ ns) m all =
    let here : n ≤ m = all n (ap (λ (b : Bool). b || is_one_of n ns) (eq-eqb n n refl)) in
    let rest = greatest_below test ns m (λ k is. all k (ap (λ (b : Bool). (n == k) || b) is ∙ or_true (n == k))) in
    picked_below (test n) n (greatest_where test ns) m here rest

fetched_within : (plan : PlanText) (s : VaultTold) (v limit : ℕ) → Sound plan s
    → fetched (plan_numbers plan) (numbers_of s).ledger v limit ≤ mlen (vertex_of plan v)
unfolding snap_within
fetched_within plan s v limit sound =
    greatest_below _ (durable_of s v).snaps (mlen (vertex_of plan v)) (λ n is. ((sound.numbers.stands.row v).snaps n is).within)

spec_some : (o : Option Spec) → IsSome o → (operator : Spec) × (o ≡ Some operator)
spec_some None some = absurd cc
spec_some (Some operator) some = (operator, refl)

-- a frame that was fetched is of its vertex, after as many elements
pub record IsAt (f : Frame) (v n : ℕ) : Type 0 where
  pub vertex : f.v ≡ v
  pub number : f.n ≡ n

pub frame_at : FramesAreMeant → (plan : PlanText) → ActFacts plan → (s : VaultTold) (v limit : ℕ) (f : Frame) → Sound plan s
    → IsOperator (plan_numbers plan) v → f ≡ frame_of plan v (fetched (plan_numbers plan) (numbers_of s).ledger v limit)
    → IsAt f v (fetched (plan_numbers plan) (numbers_of s).ledger v limit)
frame_at law plan facts s v limit f sound operator is =
    let n : ℕ = fetched (plan_numbers plan) (numbers_of s).ledger v limit in
    let computes = spec_some (spec_of plan.job v) (facts.of_plan.operator v operator) in
    let here : v < length plan.job.graph = let h = operator.0 in let count = facts.of_plan.count in omega (arith, h, count) in
    let all : mlen (vertex_of plan v) ≡ position.mlen (vertices_of plan) v =
    (facts.meant.meant v here).mlen (operator_gives (vertex_of plan v).kind operator.1) in
    let within = fetched_within plan s v limit sound in
    let frame = law plan facts.of_plan.is v n computes.0 computes.1 (omega (arith, all, within)) in
    record { vertex = ap (λ (g : Frame). g.v) is ∙ frame.vertex; number = ap (λ (g : Frame). g.n) is ∙ frame.taken }

-- a replica that goes on from a frame

abbrev idle_at : ℕ → Option InstNumbers
idle_at n = Some (record { n = n; left = 0 })

loaded_by : (o : Option Spec) (f : Frame) (old new : InstState)
    → IsSomeAnd o (λ (s : Spec). (entries : Entries) × (entries_in f s ≡ Ok entries) × (new ≡ loaded_in old (running_in f s entries)))
    → (inst_numbers new ≡ idle_at f.n) × (new.v ≡ old.v)
loaded_by None f old new goes = absurd goes
loaded_by (Some s) f old new goes = (ap inst_numbers goes.2, ap (λ (i : InstState). i.v) goes.2)

pub loaded : (plan : PlanText) (f : Frame) (old new : InstState) → GoesOnFrom plan f old new → (inst_numbers new ≡ idle_at f.n) × (new.v ≡ old.v)
loaded plan f old new goes = loaded_by (spec_of plan.job old.v) f old new goes

abbrev number_by : Bool → ℕ → ℕ → Option InstNumbers
number_by operator n end = idle_at (if operator then n else end)

pub operator_up : (plan : PlanText) (f : Frame) (old new : InstState) (end : ℕ) (s u : VaultTold) → is_inner (vertex_of plan old.v).kind ≡ true
    → GoesOnFrom plan f old new → f.n ≡ fetched (plan_numbers plan) (numbers_of s).ledger old.v end → Enters plan s None None u
    → ComesUp plan old end s (Ok tt) new u
operator_up plan f old new end s u operator goes number enters =
    let n : ℕ = fetched (plan_numbers plan) (numbers_of s).ledger old.v end in (
      (loaded plan f old new goes).0
          ∙ ap idle_at number
          ∙ sym (ap (λ (b : Bool). number_by b n end) operator),
      keeps plan s u enters,
    )

-- the list of a source has as many elements as its stream

all_listed : (x : VertexNumbers) → length x.given ≡ length x.arrivals → ((n : ℕ) → n ≤ mlen x → out x n ≡ n) → size x ≡ mlen x
unfolding out size
all_listed x given plain =
    ap sum_of (sym (take_all (mlen x) x.given (omega (arith, given)))) ∙ plain (mlen x) (omega arith)

pub source_size : (plan : PlanText) → ActFacts plan → (v : ℕ) → IsStream (plan_numbers plan) v → is_inner (vertex_of plan v).kind ≡ false
    → length (meaning (vertices_of plan) v) ≡ mlen (vertex_of plan v)
source_size plan facts v stream source =
    let numbers = facts.of_plan.numbers.each v stream.0 in
    sym (facts.of_plan.size v stream) ∙ all_listed (vertex_of plan v) numbers.given (numbers.plain source)

-- the tail

begun_by : (b : Bool) (tail : TailHeld) (dur : ℕ)
    → (if b then begun_at tail dur else tail).numbers ≡ (if b then restarted tail.numbers dur else tail.numbers)
begun_by true tail dur = refl
begun_by false tail dur = refl

begun_numbers : (tail : TailHeld) (row : LedgerRow) → (begun_behind tail row.dur).numbers ≡ load_tail tail.numbers row
unfolding load_tail
begun_numbers tail row = begun_by (nat_lt tail.numbers.end row.dur) tail row.dur

past_yes : (m n : ℕ) → nat_lt m n ≡ true → m < n
past_yes m n h = grind (arith, nat_tests)

past_no : (m n : ℕ) → nat_lt m n ≡ false → n ≤ m
past_no m n h = grind (arith, nat_tests)

end_by : (b : Bool) (tail : TailNumbers) (dur : ℕ) → nat_lt tail.end dur ≡ b → (if b then restarted tail dur else tail).end ≡ max tail.end dur
end_by true tail dur is = let past = past_yes tail.end dur is in omega (arith, past)
end_by false tail dur is = let past = past_no tail.end dur is in omega (arith, past)

begun_end : (tail : TailNumbers) (row : LedgerRow) → (load_tail tail row).end ≡ max tail.end row.dur
unfolding load_tail
begun_end tail row = end_by (nat_lt tail.end row.dur) tail row.dur refl

-- the act

abbrev both : Option InstNumbers → TailNumbers → Outcome → InstAndTailStep
both inst tail told = record { inst = inst; tail = tail; outcome = told }

abbrev came_up : TailNumbers → InstNumbers → InstAndTailStep
came_up tail inst = both (Some inst) tail (outcome.Loaded inst.n)

down_load : (x : VertexNumbers) (running : Option Running) (tail : TailNumbers) (row : LedgerRow) → is_some running ≡ false
    → load_act x (option_map running_numbers running) tail row ≡ came_up (load_tail tail row) (load_inst x (load_tail tail row) row)
down_load x None tail row down = refl
down_load x (Some up) tail row down = absurd cc

load_inst_is : (x : VertexNumbers) (tail : TailNumbers) (row : LedgerRow) → load_inst x tail row ≡ up_behind x tail.end row
unfolding load_inst
load_inst_is x tail row = refl

n_at : (running : Option Running) (l : InstNumbers) → option_map running_numbers running ≡ Some l → option_map_or (λ up. up.n) running 0 ≡ l.n
n_at None l is = absurd cc
n_at (Some up) l is = ap (λ (o : Option InstNumbers). option_map_or (λ (m : InstNumbers). m.n) o 0) is

pub loads : (plan : PlanText) (inst new : InstState) (tail rest : TailHeld) (s u : VaultTold) (end n : ℕ) → is_up inst ≡ false
    → end ≡ max tail.numbers.end (durable_of s inst.v).dur → ComesUp plan inst end s (Ok tt) new u → rest ≡ begun_behind tail (durable_of s inst.v).dur
    → n ≡ n_of new → Loads plan inst tail s (Ok (outcome.Loaded n)) new rest u
loads plan inst new tail rest s u end n down is comes begun number =
    let x : VertexNumbers = vertex_of plan inst.v in
    let row : LedgerRow = durable_of s inst.v in
    let t : TailNumbers = load_tail tail.numbers row in
    let l : InstNumbers = up_behind x end row in (
      down_load x inst.running tail.numbers row down
          ∙ ap (came_up t) (load_inst_is x t row ∙ ap (λ (e : ℕ). up_behind x e row) (begun_end tail.numbers row ∙ sym is))
          ∙ ap (λ (w : TailNumbers). came_up w l) (sym (begun_numbers tail row) ∙ ap (λ (h : TailHeld). h.numbers) (sym begun))
          ∙ ap (λ (i : Option InstNumbers). both i rest.numbers (outcome.Loaded l.n)) (sym comes.0)
          ∙ ap (λ (k : ℕ). both (inst_numbers new) rest.numbers (outcome.Loaded k)) (sym (number ∙ n_at new.running l comes.0)),
      comes.1,
    )
