-- A vault one of whose sinks has put a line more, or a part of one.
use Rattle.std.proofs.Common.{◌≡◌, ◌≢◌, ℕ, ◌+◌, ◌-◌, ◌<◌, ◌==◌, ◌||◌, not, nat_le, Bool, true, Option, Some, None, List, [], length, get_or, map, sym, ap, ap₂, ◌∙◌, subst, arith, ⊎_elim, if◌then◌else◌}
use Rattle.std.specs.Prelude.{slice_get}
use Rattle.std.proofs.lemmas.Bool.{cases_eq}
use Rattle.ss_elem.specs.Line.{line_of}
use Rattle.ss_elem.specs.declared.element.Element.{Element}
use Rattle.ss_codec.specs.Frame.{frame_bytes}
use Rattle.ss_frames.specs.Frames.{frame_of}
use Rattle.ss_frames.specs.Plans.{plan_numbers}
use Rattle.ss_outside.specs.Depot.{Contents}
use Rattle.ss_outside.specs.Told.{Appends}
use Rattle.ss_plan.specs.Plan.{PlanText}
use Rattle.ss_state.specs.IsNumbers.{IsNumbers}
use Rattle.ss_state.specs.Joint.{IsSound}
use Rattle.ss_state.specs.Journal.{enter, is_one_of, took}
use Rattle.ss_state.specs.Numbers.{JobNumbers, VertexNumbers, IsSink, IsStream, vertex, input, size}
use Rattle.ss_state.specs.State.{LedgerRow, Ledger, VaultNumbers, row_at}
use Rattle.ss_state.specs.declared.entry.Entry.TheVariants as entry
use Rattle.ss_water.specs.Graph.{is_sink}
use Rattle.ss_water.specs.declared.node.Kind.TheVariants.{Sink}
use Rattle.ss_water.specs.declared.snap_row.SnapRow.{SnapRow}
use Rattle.ss_vault.specs.Facts.{PlanFacts, RunFacts}
use Rattle.ss_vault.specs.NumbersHeld.{ended_held, snaps_held}
use Rattle.ss_vault.specs.Sound.{HasFiles, HoldsRecords, HoldsSnapshots, IsCounted, Sound, elements_from, records_from, sink_file, snap_at, stream_put, takes_no_more}
use Rattle.ss_vault.specs.Steps.{IsNextOf, is_end}
use Rattle.ss_vault.specs.Told.{VaultTold, numbers_of, counts_of}
use Rattle.ss_vault.specs.declared.fault.VaultFault.{VaultFault}
use Rattle.ss_vault.proofs.Changes.{took_is, took_same, took_other}
use Rattle.ss_vault.proofs.Files.{files_gain, files_took}
use Rattle.ss_vault.proofs.Flushed.{chosen_other, chosen_same}
use Rattle.ss_vault.proofs.Moved.{files_going}
use Rattle.ss_vault.proofs.Wholes.{whole_ends}

-- the stream that a sink puts
pub stream_of : (job : JobNumbers) → IsNumbers job → (k : ℕ) → IsSink job k → IsStream job (input (vertex job k) 0)
stream_of job numbers k sink =
    let x = numbers.each k sink.0 in
    let one = x.sink sink.1 in
    let first : 0 < length (vertex job k).inputs = omega (arith, one) in
    let earlier = x.earlier 0 first in
    let within = sink.0 in
    (omega (arith, earlier, within), x.streams 0 first)

-- what a row says besides what was taken
took_rows : (l m : Ledger) (k w : ℕ) → k < length l.rows → m ≡ took l k
    → ((row_at m w).base ≡ (row_at l w).base) × ((row_at m w).dur ≡ (row_at l w).dur) × ((row_at m w).snaps ≡ (row_at l w).snaps)
took_rows l m k w within e = ⊎_elim
    (λ (same : w ≡ k).
    let at : row_at m w ≡ record (row_at l k) { taken = (row_at l k).taken + 1 } = ap (row_at m) same ∙ took_same l m k within e in
    let here : row_at l w ≡ row_at l k = ap (row_at l) same in (
      ap (λ (r : LedgerRow). r.base) at ∙ sym (ap (λ (r : LedgerRow). r.base) here),
      ap (λ (r : LedgerRow). r.dur) at ∙ sym (ap (λ (r : LedgerRow). r.dur) here),
      ap (λ (r : LedgerRow). r.snaps) at ∙ sym (ap (λ (r : LedgerRow). r.snaps) here),
    ))
    (λ (other : w ≢ k).
    let at = took_other l m k w other e in
    (ap (λ (r : LedgerRow). r.base) at, ap (λ (r : LedgerRow). r.dur) at, ap (λ (r : LedgerRow). r.snaps) at))
    (cases_eq w k)

-- records and snapshots speak of nothing else
pub row_records : (plan : PlanText) (v : ℕ) (a b : LedgerRow) (c : Contents) → b.base ≡ a.base → b.dur ≡ a.dur
    → HoldsRecords plan v a c → HoldsRecords plan v b c
row_records plan v a b c base dur held = record {
  first = held.first ∙ sym base;
  each = λ n x least below is_item. held.each n x (omega (arith, least, base)) (omega (arith, below, dur)) is_item;
  records = held.records ∙ ap₂ (λ (m n : ℕ). records_from v m (elements_from plan v m (n - m))) (sym base) (sym dur);
}

pub row_snapshots : (plan : PlanText) (v : ℕ) (a b : LedgerRow) (snaps : List SnapRow) (c : Contents) → b.snaps ≡ a.snaps
    → HoldsSnapshots plan v a snaps c → HoldsSnapshots plan v b snaps c
row_snapshots plan v a b snaps c same held = record {
  frames = λ n. held.frames n ∙ ap (λ (k : List ℕ). if is_one_of n k then Some (frame_bytes (frame_of plan v n)) else None) (sym same);
  told = held.told ∙ ap (map (snap_at plan v)) (sym same);
  kept = λ n h. held.kept n (sym (ap (is_one_of n) same) ∙ h);
}

sink_is : (x : VertexNumbers) → x.kind ≡ Sink → is_sink x.kind ≡ true
sink_is x e = ap is_sink e

-- whether the sink has taken all
took_ended : (plan : PlanText) → PlanFacts plan → (l m : Ledger) (k : ℕ) (x : Element) → IsSink (plan_numbers plan) k → k < length l.rows
    → m ≡ took l k → slice_get (stream_put plan k) (row_at l k).taken ≡ Some x
    → is_end x ≡ takes_no_more (plan_numbers plan) m k
took_ended plan facts l m k x sink within e is_next =
    let job : JobNumbers = plan_numbers plan in
    let u : ℕ = input (vertex job k) 0 in
    let stream = stream_of job facts.numbers k sink in
    let taken : (row_at m k).taken ≡ (row_at l k).taken + 1 = ap (λ (r : LedgerRow). r.taken) (took_same l m k within e) in
    whole_ends (stream_put plan k) (row_at l k).taken x (facts.whole u stream) is_next
    ∙ ap₂ (λ (s t : ℕ). nat_le s t) (sym (facts.size u stream)) (sym taken)
    ∙ ap (λ (b : Bool). not b || nat_le (size (vertex job u)) (row_at m k).taken) (sym (sink_is (vertex job k) sink.1))

pub took_sound : RunFacts → (plan : PlanText) → PlanFacts plan → (s u : VaultTold) (k : ℕ) (file : List ℕ) (x : Element) → Sound plan s
    → s.halted ≡ None → IsSink (plan_numbers plan) k → IsNextOf plan k s x → sink_file plan k ≡ Some file
    → Appends s.outputs u.outputs file (line_of x)
    → numbers_of u ≡ enter (plan_numbers plan) (numbers_of s) (Some (entry.Took k)) → u.held.snaps ≡ s.held.snaps
    → ((w : ℕ) → ended_held u.held w ≡ (if w == k then is_end x else ended_held s.held w))
    → u.depot.contents ≡ s.depot.contents → u.halted ≡ None → IsCounted u.halted u.started (counts_of u) → Sound plan u
took_sound runs plan facts s u k file x sound going sink next is_file appends e snaps ended same on counted =
    let job : JobNumbers = plan_numbers plan in
    let l : Ledger = (numbers_of s).ledger in
    let m : Ledger = (numbers_of u).ledger in
    let rows = sound.numbers.stands.rows in
    let within : k < length l.rows = let h = sink.0 in omega (arith, h, rows) in
    let is_took : m ≡ took l k = took_is job (numbers_of s) (numbers_of u) k e in
    record {
      numbers = subst (λ (n : VaultNumbers). IsSound job n) (sym e)
          (runs.entries job (numbers_of s) (entry.Took k) facts.numbers sound.numbers (sink, next.stored) tt);
      records = λ w. subst (λ (c : Contents). HoldsRecords plan w (row_at m w) c) (sym same)
          (let row = took_rows l m k w within is_took in
          row_records plan w (row_at l w) (row_at m w) s.depot.contents row.0 row.1 (sound.records w));
      snapshots = λ w. subst (λ (c : Contents). HoldsSnapshots plan w (row_at m w) (snaps_held u.held w) c) (sym same)
          (subst (λ (h : List (List SnapRow)). HoldsSnapshots plan w (row_at m w) (get_or h w []) s.depot.contents) (sym snaps)
          (let row = took_rows l m k w within is_took in
          row_snapshots plan w (row_at l w) (row_at m w) (snaps_held s.held w) s.depot.contents row.2 (sound.snapshots w)));
      delivered = record {
        ended = λ w inside. ended w ∙ ⊎_elim
            (λ (is : w ≡ k). subst (λ (i : ℕ). (if i == k then is_end x else ended_held s.held i) ≡ takes_no_more job m i) (sym is)
            (chosen_same k (is_end x) (ended_held s.held k) ∙ took_ended plan facts l m k x sink within is_took next.element))
            (λ (other : w ≢ k). chosen_other w k (is_end x) (ended_held s.held w) other ∙ sound.delivered.ended w inside
            ∙ ap (λ (r : LedgerRow). not (is_sink (vertex job w).kind) || nat_le (size (vertex job (input (vertex job w) 0))) r.taken)
            (sym (took_other l m k w other is_took)))
            (cases_eq w k);
        files = subst (λ (h : Option VaultFault). HasFiles plan m h u.outputs) (sym on)
            (files_took plan l m k x u.outputs within is_took next.element
            (files_gain plan facts l k file (line_of x) s.outputs u.outputs is_file appends (files_going plan s sound going)));
      };
      counted = counted;
    }
