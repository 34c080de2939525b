-- What is true of a vault between any two calls, whatever failed.
use Rattle.std.specs.Prelude.{◌≡◌, ◌≢◌, ℕ, ◌+◌, ◌-◌, ◌≤◌, ◌<◌, ◌==◌, ◌||◌, nat_le, Bool, true, not, List, [], ◌∷◌, ◌++◌}
use Rattle.std.specs.Prelude.{length, take, drop, map, slice_get, Option, Some, None, IfSome, option_and_then}
use Rattle.std.specs.Prelude.{if◌then◌else◌}
use Rattle.ss_codec.specs.Frame.{frame_bytes}
use Rattle.ss_codec.specs.Record.{HasRecord, record_bytes}
use Rattle.ss_codec.specs.declared.frame.Frame.{Frame}
use Rattle.ss_elem.specs.Line.{line_of, text_of}
use Rattle.ss_elem.specs.declared.element.Element.{Element}
use Rattle.ss_frames.specs.Frames.{frame_of}
use Rattle.ss_frames.specs.Plans.{plan_numbers}
use Rattle.ss_frames.specs.Within.{AreKept}
use Rattle.ss_job.specs.JobText.{sink_file_of_vertex}
use Rattle.ss_meaning.specs.Meaning.{meaning}
use Rattle.ss_outside.specs.Depot.{Contents}
use Rattle.ss_outside.specs.Faults.{Rose}
use Rattle.ss_outside.specs.Told.{OutputsTold}
use Rattle.ss_plan.specs.Plan.{PlanText, vertices_of}
use Rattle.ss_state.specs.Joint.{IsSound}
use Rattle.ss_state.specs.Journal.{is_one_of}
use Rattle.ss_state.specs.Numbers.{JobNumbers, IsSink, vertex, input, size}
use Rattle.ss_state.specs.State.{LedgerRow, Ledger, row_at}
use Rattle.ss_water.specs.Graph.{is_sink}
use Rattle.ss_water.specs.declared.snap_row.SnapRow.{SnapRow}
use Rattle.ss_vault.specs.Counts.{NoneFell}
use Rattle.ss_vault.specs.NumbersHeld.{snaps_held, ended_held}
use Rattle.ss_vault.specs.Told.{VaultTold, numbers_of, durable_of, counts_of}
use Rattle.ss_vault.specs.declared.counts.Counts.{Counts}
use Rattle.ss_vault.specs.declared.fault.VaultFault.{VaultFault}
use Rattle.ss_vault.specs.declared.fault.VaultFault.TheVariants as fault

-- ---- what is stored of streams

-- the records of these elements of stream v, of which the first has number n
abbrev pub records_from : ℕ → ℕ → List Element → List (List ℕ)
records_from v n [] = []
records_from v n (x ∷ xs) = record_bytes v n x ∷ records_from v (n + 1) xs

-- so many elements of vertex v's stream from number n on
abbrev pub elements_from : PlanText → ℕ → ℕ → ℕ → List Element
elements_from plan v n count = take count (drop n (meaning (vertices_of plan) v))

-- the depot's records of v are those of its stream's elements from `base` up to and without `dur`, under their numbers
pub record HoldsRecords (plan : PlanText) (v : ℕ) (row : LedgerRow) (contents : Contents) : Type 0 where
  pub first : contents.first v ≡ row.base
  pub each : (n : ℕ) (x : Element) → row.base ≤ n → n < row.dur → slice_get (meaning (vertices_of plan) v) n ≡ Some x
      → HasRecord x
  pub records : contents.records v ≡ records_from v row.base (elements_from plan v row.base (row.dur - row.base))

-- ---- snapshots

-- a snapshot as a vault tells it: all but the bounds and the image
abbrev pub snap_of : Frame → SnapRow
snap_of f = record { n = f.n; out = f.out; pos = f.pos }

-- snapshot n of vertex v
abbrev pub snap_at : PlanText → ℕ → ℕ → SnapRow
snap_at plan v n = snap_of (frame_of plan v n)

-- the code of snapshot n of vertex v, where it is stored
abbrev pub stored_frame : PlanText → ℕ → LedgerRow → ℕ → Option (List ℕ)
stored_frame plan v row n = if is_one_of n row.snaps then Some (frame_bytes (frame_of plan v n)) else None

-- the depot's frames of v are just the codes of its stored snapshots, which are told beside the ledger; and each was
-- made of elements of the program
pub record HoldsSnapshots (plan : PlanText) (v : ℕ) (row : LedgerRow) (snaps : List SnapRow) (contents : Contents)
    : Type 0 where
  pub frames : (n : ℕ) → contents.frames v n ≡ stored_frame plan v row n
  pub told : snaps ≡ map (snap_at plan v) row.snaps
  pub kept : (n : ℕ) → is_one_of n row.snaps ≡ true → AreKept plan v n

-- ---- what sinks have put

-- the stream that sink k puts
abbrev pub stream_put : PlanText → ℕ → List Element
stream_put plan k = meaning (vertices_of plan) (input (vertex (plan_numbers plan) k) 0)

-- the file of vertex k, where it is a sink
abbrev pub sink_file : PlanText → ℕ → Option (List ℕ)
sink_file plan k = option_and_then sink_file_of_vertex (slice_get plan.job.vertices k)

-- the lines that sink k has put
abbrev pub text_put : PlanText → Ledger → ℕ → List ℕ
text_put plan l k = text_of (take (row_at l k).taken (stream_put plan k))

-- the file of each sink has its lines, with these bytes behind them, and no other name has bytes, as far as it is told
pub record FilesHave (plan : PlanText) (l : Ledger) (behind : ℕ → List ℕ) (outputs : OutputsTold) : Type 0 where
  pub sinks : (k : ℕ) (file : List ℕ) → sink_file plan k ≡ Some file
      → IfSome (outputs.bytes file) (λ bytes. bytes ≡ text_put plan l k ++ behind k)
  pub others : (name : List ℕ) → ((k : ℕ) → sink_file plan k ≢ Some name)
      → IfSome (outputs.bytes name) (λ bytes. bytes ≡ [])

-- nothing stands behind the lines of any sink
abbrev pub nothing_behind : ℕ → List ℕ
nothing_behind k = []

-- these bytes stand behind the lines of sink k alone
abbrev pub behind_lines_of : ℕ → List ℕ → ℕ → List ℕ
behind_lines_of k bytes j = if j == k then bytes else []

-- behind the lines of one sink stand so many of the first bytes of its next line
pub record FilesHavePart (plan : PlanText) (l : Ledger) (outputs : OutputsTold) : Type 0 where
  pub k : ℕ
  pub is_sink : IsSink (plan_numbers plan) k
  pub next : Element
  pub count : ℕ
  pub is_next : slice_get (stream_put plan k) (row_at l k).taken ≡ Some next
  pub files : FilesHave plan l (behind_lines_of k (take count (line_of next))) outputs

-- what files have in a vault that was halted so
abbrev pub HasFiles : PlanText → Ledger → Option VaultFault → OutputsTold → Type 0
HasFiles plan l None outputs = FilesHave plan l nothing_behind outputs
HasFiles plan l (Some (fault.Store count)) outputs = FilesHave plan l nothing_behind outputs
HasFiles plan l (Some (fault.Output count)) outputs = FilesHavePart plan l outputs
HasFiles plan l (Some (fault.Damaged v n)) outputs = FilesHave plan l nothing_behind outputs
HasFiles plan l (Some fault.Halted) outputs = ⊥
HasFiles plan l (Some fault.Memory) outputs = ⊥

-- whether sink k has taken the whole stream that it puts; any other vertex has nothing to take
abbrev pub takes_no_more : JobNumbers → Ledger → ℕ → Bool
takes_no_more job l k =
    not (is_sink (vertex job k).kind) || nat_le (size (vertex job (input (vertex job k) 0))) (row_at l k).taken

-- it is told which sinks have taken all, and the files of sinks have the lines that they took
pub record HasDelivered (plan : PlanText) (vault : VaultTold) : Type 0 where
  pub ended : (k : ℕ) → k < length (plan_numbers plan).vertices
      → ended_held vault.held k ≡ takes_no_more (plan_numbers plan) (numbers_of vault).ledger k
  pub files : HasFiles plan (numbers_of vault).ledger vault.halted vault.outputs

-- ---- counts

-- the count of what halted the vault is above that at its start
abbrev pub HasCause : Option VaultFault → Counts → Counts → Type 0
HasCause None started now = Unit {0}
HasCause (Some (fault.Store count)) started now = Rose started.faults now.faults
HasCause (Some (fault.Output count)) started now = Rose started.output_faults now.output_faults
HasCause (Some (fault.Damaged v n)) started now = Rose started.shorts now.shorts
HasCause (Some fault.Halted) started now = ⊥
HasCause (Some fault.Memory) started now = ⊥

-- no count is below that at the start, and where the vault was halted, its cause is above
pub record IsCounted (halted : Option VaultFault) (started now : Counts) : Type 0 where
  pub none_fell : NoneFell started now
  pub cause : HasCause halted started now

-- ---- all of it

-- A vault is one of this plan, and what it tells is right. In nine points:
-- 1. each entry of the journal may stand where it does, and the journal tells the ledger;
-- 2. of each stream base isn't above dur, nor dur above what the stream has or may have, nor a source's mark above dur;
-- 3. the depot holds just the records of the elements from base up to and without dur;
-- 4. the snapshots of an operator rise, it may have come to each, and the depot holds just their frames;
-- 5. one of them has given stored elements alone, so that the operator can be recovered;
-- 6. no element is dropped that a recovered operator, or a sink, would ask for;
-- 7. sinks have taken stored elements alone, and their files have the lines of these;
-- 8. no more was stored since the last whole pass than may be;
-- 9. no count fell since the start, and what halted the vault has raised its own.
pub record Sound (plan : PlanText) (vault : VaultTold) : Type 0 where
  -- as far as numbers go: 1, 2, 5, 6 and 8 whole, of 4 which snapshots there are, of 7 how much is taken
  pub numbers : IsSound (plan_numbers plan) (numbers_of vault)
  -- 3
  pub records : (v : ℕ) → HoldsRecords plan v (durable_of vault v) vault.depot.contents
  -- 4
  pub snapshots : (v : ℕ)
      → HoldsSnapshots plan v (durable_of vault v) (snaps_held vault.held v) vault.depot.contents
  -- 7
  pub delivered : HasDelivered plan vault
  -- 9
  pub counted : IsCounted vault.halted vault.started (counts_of vault)
