-- What each call of a vault answers, and what it leaves. `s` is what the vault tells before the call, and `u` after it.
use Rattle.std.specs.Prelude.{◌≡◌, ℕ, ◌<◌, ◌≤◌, ◌⊎◌, true, false, List, [], Option, Some, None, Result, Ok, Err, IsSome}
use Rattle.std.specs.Prelude.{IfSome, slice_get}
use Rattle.std.specs.List.{list_any}
use Rattle.ss_codec.specs.Frame.{frame_bytes}
use Rattle.ss_codec.specs.declared.frame.Frame.{Frame}
use Rattle.ss_elem.specs.Line.{line_of}
use Rattle.ss_elem.specs.declared.element.Element.{Element}
use Rattle.ss_frames.specs.Frames.{frame_of}
use Rattle.ss_frames.specs.Plans.{plan_numbers}
use Rattle.ss_outside.specs.Depot.{DepotTold, Contents}
use Rattle.ss_outside.specs.Faults.{Rose}
use Rattle.ss_outside.specs.Told.{OutputsTold, Puts, KeepsOutputs}
use Rattle.ss_outside.specs.declared.outputs.PutFault.{PutFault}
use Rattle.ss_outside.specs.declared.outputs.PutFault.TheVariants as put
use Rattle.ss_meaning.specs.Meaning.{meaning}
use Rattle.ss_plan.specs.Plan.{PlanText, vertices_of}
use Rattle.ss_state.specs.Acts.{flush_entry}
use Rattle.ss_state.specs.Journal.{all_halves, enter, is_one_of}
use Rattle.ss_state.specs.Laws.{IsPassed, is_kept}
use Rattle.ss_state.specs.LowWater.{need, required, start}
use Rattle.ss_state.specs.Numbers.{IsOperator, IsSink, IsStream, is_inner, vertex, input}
use Rattle.ss_state.specs.State.{first_ledger}
use Rattle.ss_state.specs.declared.entry.Entry.{Entry}
use Rattle.ss_state.specs.declared.entry.Entry.TheVariants as entry
use Rattle.ss_vault.specs.Answers.{flush_answer, entry_of_flush, keep_answer, entry_of_keep, read_answer, IsOf}
use Rattle.ss_vault.specs.Answers.{take_answer, entry_of_take, element_at, fetched, trim_answer}
use Rattle.ss_vault.specs.Counts.{counts_told, NoneFell}
use Rattle.ss_vault.specs.Sound.{sink_file, stream_put}
use Rattle.ss_vault.specs.Told.{VaultTold, numbers_of, durable_of, counts_of}
use Rattle.ss_vault.specs.declared.answers.Flush.{Flush}
use Rattle.ss_vault.specs.declared.answers.Flush.TheVariants as flush
use Rattle.ss_vault.specs.declared.answers.Keep.{Keep}
use Rattle.ss_vault.specs.declared.answers.Keep.TheVariants as keep
use Rattle.ss_vault.specs.declared.answers.Read.{Read}
use Rattle.ss_vault.specs.declared.answers.Read.TheVariants as read
use Rattle.ss_vault.specs.declared.answers.Take.{Take}
use Rattle.ss_vault.specs.declared.answers.Take.TheVariants as take
use Rattle.ss_vault.specs.declared.fault.VaultFault.{VaultFault}
use Rattle.ss_vault.specs.declared.fault.VaultFault.TheVariants as fault

-- ---- what a call leaves

-- a vault that wasn't halted has one entry more, or none, and is now halted so
pub record Enters (plan : PlanText) (s : VaultTold) (entry : Option Entry) (halt : Option VaultFault) (u : VaultTold)
    : Type 0 where
  pub going : s.halted ≡ None
  pub numbers : numbers_of u ≡ enter (plan_numbers plan) (numbers_of s) entry
  pub halted : u.halted ≡ halt
  pub started : u.started ≡ s.started
  pub counts : NoneFell (counts_of s) (counts_of u)

-- the vault was halted before, and nothing was done
abbrev pub WasHalted : VaultTold → VaultTold → Type 0
WasHalted s u = IsSome s.halted × (u ≡ s)

-- what a call that met a fault leaves, where it had done what this entry says: a device's fault and damage halt the
-- vault, and its count rose in the call
abbrev pub Stops : PlanText → VaultTold → Option Entry → VaultFault → VaultTold → Type 0
Stops plan s entry (fault.Store count) u =
    (count ≡ u.depot.faults) × Rose s.depot.faults u.depot.faults × Enters plan s entry (Some (fault.Store count)) u
Stops plan s entry (fault.Output count) u =
    (count ≡ u.outputs.faults) × Rose s.outputs.faults u.outputs.faults
    × Enters plan s entry (Some (fault.Output count)) u
Stops plan s entry (fault.Damaged v n) u =
    Rose s.depot.shorts u.depot.shorts × Enters plan s entry (Some (fault.Damaged v n)) u
Stops plan s entry fault.Memory u = Enters plan s entry None u
Stops plan s entry fault.Halted u = WasHalted s u

-- ---- which faults a call can meet

-- of one that stores
abbrev pub IsOfStore : VaultFault → Type 0
IsOfStore (fault.Store count) = Unit {0}
IsOfStore (fault.Output count) = ⊥
IsOfStore (fault.Damaged v n) = ⊥
IsOfStore fault.Halted = Unit {0}
IsOfStore fault.Memory = Unit {0}

-- of one that drops what is stored, and takes no memory
abbrev pub IsOfDrop : VaultFault → Type 0
IsOfDrop (fault.Store count) = Unit {0}
IsOfDrop (fault.Output count) = ⊥
IsOfDrop (fault.Damaged v n) = ⊥
IsOfDrop fault.Halted = Unit {0}
IsOfDrop fault.Memory = ⊥

-- of one that reads record or snapshot n of vertex v
abbrev pub IsOfLook : ℕ → ℕ → VaultFault → Type 0
IsOfLook v n (fault.Store count) = Unit {0}
IsOfLook v n (fault.Output count) = ⊥
IsOfLook v n (fault.Damaged w m) = (w ≡ v) × (m ≡ n)
IsOfLook v n fault.Halted = Unit {0}
IsOfLook v n fault.Memory = Unit {0}

-- of one that does so and puts what it reads
abbrev pub IsOfPut : ℕ → ℕ → VaultFault → Type 0
IsOfPut v n (fault.Store count) = Unit {0}
IsOfPut v n (fault.Output count) = Unit {0}
IsOfPut v n (fault.Damaged w m) = (w ≡ v) × (m ≡ n)
IsOfPut v n fault.Halted = Unit {0}
IsOfPut v n fault.Memory = Unit {0}

-- a device is asked only where this was to be done, unless the vault was halted
abbrev pub OnlyWhere : Type 0 → VaultFault → Type 0
OnlyWhere Due (fault.Store count) = Due
OnlyWhere Due (fault.Output count) = Due
OnlyWhere Due (fault.Damaged v n) = Due
OnlyWhere Due fault.Halted = Unit {0}
OnlyWhere Due fault.Memory = Unit {0}

-- ---- the calls

-- of a batch that would have been stored, fewer elements were before a fault
abbrev pub StoresSome : PlanText → ℕ → ℕ → ℕ → VaultTold → VaultFault → VaultTold → Type 0
StoresSome plan v from count s fault u =
    (some all dur : ℕ)
    × (flush_answer (plan_numbers plan) (numbers_of s).ledger v from count ≡ flush.Flushed all dur)
    × (some < all) × Stops plan s (flush_entry v some) fault u

-- a flush of so many elements of stream v from number `from` on
abbrev pub Flushes : PlanText → ℕ → ℕ → ℕ → VaultTold → Result Flush VaultFault → VaultTold → Type 0
Flushes plan v from count s (Ok answer) u =
    (answer ≡ flush_answer (plan_numbers plan) (numbers_of s).ledger v from count)
    × Enters plan s (entry_of_flush v answer) None u
Flushes plan v from count s (Err fault.Halted) u = WasHalted s u
Flushes plan v from count s (Err (fault.Store faults)) u = StoresSome plan v from count s (fault.Store faults) u
Flushes plan v from count s (Err fault.Memory) u = StoresSome plan v from count s fault.Memory u
Flushes plan v from count s (Err (fault.Output faults)) u = ⊥
Flushes plan v from count s (Err (fault.Damaged w n)) u = ⊥

-- a keep of snapshot n of vertex v
abbrev pub Keeps : PlanText → ℕ → ℕ → VaultTold → Result Keep VaultFault → VaultTold → Type 0
Keeps plan v n s (Ok answer) u =
    (answer ≡ keep_answer (plan_numbers plan) (numbers_of s).ledger v n)
    × Enters plan s (entry_of_keep v n answer) None u
Keeps plan v n s (Err fault) u =
    IsOfStore fault × OnlyWhere (keep_answer (plan_numbers plan) (numbers_of s).ledger v n ≡ keep.Kept) fault
    × Stops plan s None fault u

-- a fetch of a snapshot of vertex v that has given at most so many elements
abbrev pub Fetches : PlanText → ℕ → ℕ → VaultTold → Result Frame VaultFault → VaultTold → Type 0
Fetches plan v limit s (Ok f) u =
    (f ≡ frame_of plan v (fetched (plan_numbers plan) (numbers_of s).ledger v limit)) × Enters plan s None None u
Fetches plan v limit s (Err fault) u =
    IsOfLook v (fetched (plan_numbers plan) (numbers_of s).ledger v limit) fault × Stops plan s None fault u

-- a read of element n of stream v
abbrev pub Reads : PlanText → ℕ → ℕ → VaultTold → Result Read VaultFault → VaultTold → Type 0
Reads plan v n s (Ok answer) u =
    (answer ≡ read_answer plan (numbers_of s).ledger v n) × IsOf (meaning (vertices_of plan) v) n answer
    × Enters plan s None None u
Reads plan v n s (Err fault) u =
    IsOfLook v n fault
    × OnlyWhere (read_answer plan (numbers_of s).ledger v n ≡ read.Item (element_at plan v n)) fault
    × Stops plan s None fault u

-- a take of sink k
abbrev pub Takes : PlanText → ℕ → VaultTold → Result Take VaultFault → VaultTold → Type 0
Takes plan k s (Ok answer) u =
    (answer ≡ take_answer (plan_numbers plan) (numbers_of s).ledger k) × Enters plan s (entry_of_take k answer) None u
Takes plan k s (Err fault) u =
    IsOfPut (input (vertex (plan_numbers plan) k) 0) (durable_of s k).taken fault
    × OnlyWhere (take_answer (plan_numbers plan) (numbers_of s).ledger k ≡ take.Took (durable_of s k).taken) fault
    × Stops plan s None fault u

-- the line of the next element of sink k was put to its file, with this answer
pub record PutsLine (plan : PlanText) (k : ℕ) (s : VaultTold) (answer : Result (Unit {0}) PutFault) (u : VaultTold)
    : Type 0 where
  pub file : List ℕ
  pub is_file : sink_file plan k ≡ Some file
  pub next : Element
  pub is_next : slice_get (stream_put plan k) (durable_of s k).taken ≡ Some next
  pub puts : Puts s.outputs u.outputs file (line_of next) answer

-- what becomes of the outputs in a take of sink k
abbrev pub Delivers : PlanText → ℕ → VaultTold → Result Take VaultFault → VaultTold → Type 0
Delivers plan k s (Ok take.Ended) u = u.outputs ≡ s.outputs
Delivers plan k s (Ok (take.NotYet dur)) u = u.outputs ≡ s.outputs
Delivers plan k s (Ok (take.Took n)) u = PutsLine plan k s (Ok tt) u
Delivers plan k s (Err (fault.Store count)) u = u.outputs ≡ s.outputs
Delivers plan k s (Err (fault.Output count)) u = PutsLine plan k s (Err put.Failed) u
Delivers plan k s (Err (fault.Damaged v n)) u = u.outputs ≡ s.outputs
Delivers plan k s (Err fault.Halted) u = u.outputs ≡ s.outputs
Delivers plan k s (Err fault.Memory) u = KeepsOutputs s.outputs u.outputs

-- ---- collection

-- a place is reserved in the journal
abbrev pub HasPlace : VaultTold → Type 0
HasPlace s = 0 < s.held.places

-- places may have been reserved, and all else is as it was
pub record KeepsAllButPlaces (s u : VaultTold) : Type 0 where
  pub numbers : numbers_of u ≡ numbers_of s
  pub snaps : u.held.snaps ≡ s.held.snaps
  pub ended : u.held.ended ≡ s.held.ended
  pub halted : u.halted ≡ s.halted
  pub started : u.started ≡ s.started
  pub depot : u.depot ≡ s.depot
  pub outputs : u.outputs ≡ s.outputs

-- a collect of stream v
abbrev pub Collects : PlanText → ℕ → VaultTold → Result ℕ VaultFault → VaultTold → Type 0
Collects plan v s (Ok base) u =
    (base ≡ need (plan_numbers plan) (numbers_of s).ledger v) × Enters plan s (Some (entry.Collected v)) None u
Collects plan v s (Err fault) u = IsOfDrop fault × Stops plan s None fault u

-- a trim of vertex v, which gives a stream
abbrev pub Trims : PlanText → ℕ → VaultTold → Result ℕ VaultFault → VaultTold → Type 0
Trims plan v s (Ok n) u =
    (n ≡ trim_answer (plan_numbers plan) (numbers_of s).ledger v) × Enters plan s (Some (entry.Trimmed v)) None u
Trims plan v s (Err fault) u = IsOfDrop fault × Stops plan s None fault u

-- of the halves of a pass fewer than all were made before a fault, perhaps none
abbrev pub PassesSome : PlanText → VaultTold → VaultFault → VaultTold → Type 0
PassesSome plan s fault u =
    (halves : ℕ) × (halves < all_halves (plan_numbers plan)) × Stops plan s (Some (entry.Pass halves)) fault u

-- a pass
abbrev pub Passes : PlanText → VaultTold → Result (Unit {0}) VaultFault → VaultTold → Type 0
Passes plan s (Ok _) u = Enters plan s (Some (entry.Pass (all_halves (plan_numbers plan)))) None u
Passes plan s (Err (fault.Store count)) u = PassesSome plan s (fault.Store count) u
Passes plan s (Err (fault.Output count)) u = ⊥
Passes plan s (Err (fault.Damaged v n)) u = ⊥
Passes plan s (Err fault.Halted) u = WasHalted s u
Passes plan s (Err fault.Memory) u = ⊥

-- what a whole pass leaves: of each stream just what is required of it, and just the snapshots from which its vertex
-- may start; a source's mark where it would start; the sinks as they were; and nothing counted as stored since
pub record HasCollected (plan : PlanText) (s u : VaultTold) : Type 0 where
  pub streams : (v : ℕ) → IsStream (plan_numbers plan) v
      → IsPassed (plan_numbers plan) (numbers_of s).ledger (numbers_of u).ledger v
  pub sinks : (k : ℕ) → IsSink (plan_numbers plan) k → durable_of u k ≡ durable_of s k
  pub since : (numbers_of u).ledger.since ≡ 0

-- whether the snapshot was stored at some time, as the one from the start was
abbrev pub WasStored : VaultTold → ℕ → ℕ → Type 0
WasStored u v n = (n ≡ 0) ⊎ (list_any (is_kept v n) (numbers_of u).journal ≡ true)

-- nothing is gone that would be asked for if every vertex started again from what is stored: of a stream no element
-- from the first needed on, which is at most the first required; of the snapshots of an operator only those below its
-- start; and a source's mark isn't above its start
pub record HasWhatIsNeeded (plan : PlanText) (u : VaultTold) : Type 0 where
  pub needed : (v : ℕ) → IsStream (plan_numbers plan) v
      → (durable_of u v).base ≤ need (plan_numbers plan) (numbers_of u).ledger v
  pub required : (v : ℕ) → IsStream (plan_numbers plan) v
      → need (plan_numbers plan) (numbers_of u).ledger v ≤ required (plan_numbers plan) (numbers_of u).ledger v
  pub snapshots : (v n : ℕ) → IsOperator (plan_numbers plan) v → WasStored u v n
      → (is_one_of n (durable_of u v).snaps ≡ true) ⊎ (n < start (plan_numbers plan) (numbers_of u).ledger v)
  pub mark : (v : ℕ) → IsStream (plan_numbers plan) v → is_inner (vertex (plan_numbers plan) v).kind ≡ false
      → (durable_of u v).mark ≤ start (plan_numbers plan) (numbers_of u).ledger v

-- ---- the start

-- no name has bytes, as far as it is told
abbrev pub HaveNoBytes : OutputsTold → Type 0
HaveNoBytes outputs = (name : List ℕ) → IfSome (outputs.bytes name) (λ bytes. bytes ≡ [])

-- a vault that was just started over these devices
pub record Begins (plan : PlanText) (over : OutputsTold) (depot : DepotTold) (u : VaultTold) : Type 0 where
  pub ledger : (numbers_of u).ledger ≡ first_ledger (plan_numbers plan)
  pub journal : (numbers_of u).journal ≡ []
  pub halted : u.halted ≡ None
  pub started : u.started ≡ counts_told over depot
  pub outputs : u.outputs ≡ over

-- a place has nothing, or the first snapshot of vertex v, which is an operator
abbrev pub IsFirstFrame : PlanText → ℕ → ℕ → Option (List ℕ) → Type 0
IsFirstFrame plan v n None = Unit {0}
IsFirstFrame plan v n (Some bytes) =
    IsOperator (plan_numbers plan) v × (n ≡ 0) × (bytes ≡ frame_bytes (frame_of plan v 0))

-- a depot holds nothing but the first snapshots of some operators
pub record HoldsFirstFrames (plan : PlanText) (contents : Contents) : Type 0 where
  pub first : (v : ℕ) → contents.first v ≡ 0
  pub records : (v : ℕ) → contents.records v ≡ []
  pub frames : (v n : ℕ) → IsFirstFrame plan v n (contents.frames v n)

-- the depot that was to be a vault's failed, or memory was wanting
abbrev pub FailsToStart : VaultFault → DepotTold → DepotTold → Type 0
FailsToStart (fault.Store count) depot new = (count ≡ new.faults) × Rose depot.faults new.faults
FailsToStart (fault.Output count) depot new = ⊥
FailsToStart (fault.Damaged v n) depot new = ⊥
FailsToStart fault.Halted depot new = ⊥
FailsToStart fault.Memory depot new = Unit {0}

-- what a refused start leaves of the depot
pub record RefusesStart (plan : PlanText) (fault : VaultFault) (depot new : DepotTold) : Type 0 where
  pub cause : FailsToStart fault depot new
  pub holds : HoldsFirstFrames plan new.contents
  pub faults : depot.faults ≤ new.faults
  pub shorts : depot.shorts ≤ new.shorts
