-- What the steps come to of which the calls of a vault are made.
use Rattle.std.specs.Prelude.{◌≡◌, ℕ, ◌+◌, ◌-◌, ◌*◌, ◌≤◌, ◌<◌, Bool, true, false, not, List, [], ◌∷◌, ◌++◌}
use Rattle.std.specs.Prelude.{length, filter, reverse, Option, Some, None, Result, Ok, Err, slice_get}
use Rattle.std.specs.List.{range_with_len}
use Rattle.ss_elem.specs.declared.element.Element.{Element}
use Rattle.ss_elem.specs.declared.element.Element.TheVariants.{Row, Cti, End}
use Rattle.ss_frames.specs.Plans.{plan_numbers}
use Rattle.ss_meaning.specs.Meaning.{meaning}
use Rattle.ss_outside.specs.Faults.{Rose}
use Rattle.ss_outside.specs.Told.{OutputsTold}
use Rattle.ss_outside.specs.declared.outputs.PutFault.{PutFault}
use Rattle.ss_outside.specs.declared.outputs.PutFault.TheVariants as put
use Rattle.ss_plan.specs.Plan.{PlanText, vertices_of}
use Rattle.ss_state.specs.Acts.{flush_entry}
use Rattle.ss_state.specs.Journal.{enter, passed_over}
use Rattle.ss_state.specs.Numbers.{JobNumbers, vertex, input}
use Rattle.ss_state.specs.declared.entry.Entry.{Entry}
use Rattle.ss_water.specs.Graph.{is_sink}
use Rattle.ss_vault.specs.Calls.{Enters, Stops, IsOfLook}
use Rattle.ss_vault.specs.Counts.{NoneFell}
use Rattle.ss_vault.specs.Sound.{Sound, elements_from, stream_put}
use Rattle.ss_vault.specs.Told.{VaultTold, counts_of, durable_of, numbers_of}
use Rattle.ss_vault.specs.declared.answers.Flush.{Flush}
use Rattle.ss_vault.specs.declared.answers.Flush.TheVariants as flush
use Rattle.ss_vault.specs.declared.fault.VaultFault.{VaultFault}
use Rattle.ss_vault.specs.declared.fault.VaultFault.TheVariants as fault

-- how a fault halts the vault that met it
abbrev pub halt_of : VaultFault → Option VaultFault
halt_of (fault.Store count) = Some (fault.Store count)
halt_of (fault.Output count) = Some (fault.Output count)
halt_of (fault.Damaged v n) = Some (fault.Damaged v n)
halt_of fault.Halted = None
halt_of fault.Memory = None

-- these elements follow those of stream v that are stored
pub record AreNext (plan : PlanText) (v : ℕ) (s : VaultTold) (items : List Element) : Type 0 where
  pub elements : items ≡ elements_from plan v (durable_of s v).dur (length items)
  pub within : (durable_of s v).dur + length items ≤ (plan_numbers plan).max_elements

-- so many elements that follow those that are stored are to be
abbrev pub Stores : PlanText → ℕ → ℕ → VaultTold → Result Flush VaultFault → VaultTold → Type 0
Stores plan v count s (Ok answer) u =
    (answer ≡ flush.Flushed count ((durable_of s v).dur + count)) × Enters plan s (flush_entry v count) None u
Stores plan v count s (Err (fault.Store faults)) u =
    (some : ℕ) × (some < count) × Stops plan s (flush_entry v some) (fault.Store faults) u
Stores plan v count s (Err (fault.Output faults)) u = ⊥
Stores plan v count s (Err (fault.Damaged w n)) u = ⊥
Stores plan v count s (Err fault.Halted) u = ⊥
Stores plan v count s (Err fault.Memory) u =
    (some : ℕ) × (some < count) × Stops plan s (flush_entry v some) fault.Memory u

-- stored element n of stream v is looked up
abbrev pub LooksUp : PlanText → ℕ → ℕ → VaultTold → Result Element VaultFault → VaultTold → Type 0
LooksUp plan v n s (Ok x) u = (slice_get (meaning (vertices_of plan) v) n ≡ Some x) × Enters plan s None None u
LooksUp plan v n s (Err fault) u = IsOfLook v n fault × Stops plan s None fault u

-- this is the element whose line sink k puts next, and it is stored
pub record IsNextOf (plan : PlanText) (k : ℕ) (s : VaultTold) (x : Element) : Type 0 where
  pub element : slice_get (stream_put plan k) (durable_of s k).taken ≡ Some x
  pub stored : (durable_of s k).taken < (durable_of s (input (vertex (plan_numbers plan) k) 0)).dur

-- a failed put as the vault tells it
abbrev pub IsOutputFault : OutputsTold → PutFault → VaultFault → Type 0
IsOutputFault outputs put.Failed told = told ≡ fault.Output outputs.faults
IsOutputFault outputs put.Memory told = told ≡ fault.Memory

-- whether an element ends its stream
abbrev pub is_end : Element → Bool
is_end (Row row) = false
is_end (Cti time) = false
is_end End = true

-- ---- halves of a pass

-- the vault with another journal
abbrev pub with_journal : VaultTold → List Entry → VaultTold
with_journal s journal =
    record s { held = record s.held { numbers = record (numbers_of s) { journal = journal } } }

-- the vault is sound but for its journal, in which entries may be missing
abbrev pub IsSoundBesides : PlanText → VaultTold → Type 0
IsSoundBesides plan s = (journal : List Entry) × Sound plan (with_journal s journal)

-- a journal with this entry behind it, if it is one
abbrev pub with_entry : List Entry → Option Entry → List Entry
with_entry journal None = journal
with_entry journal (Some entry) = journal ++ entry ∷ []

-- a vault that wasn't halted is changed as by this entry, if it is one, but its journal is as it was; with the entry in
-- its journal it would be sound if it was before
pub record Changes (plan : PlanText) (s : VaultTold) (entry : Option Entry) (halt : Option VaultFault) (u : VaultTold)
    : Type 0 where
  pub ledger : (numbers_of u).ledger ≡ (enter (plan_numbers plan) (numbers_of s) entry).ledger
  pub journal : (numbers_of u).journal ≡ (numbers_of s).journal
  pub places : u.held.places ≡ s.held.places
  pub halted : u.halted ≡ halt
  pub started : u.started ≡ s.started
  pub counts : NoneFell (counts_of s) (counts_of u)
  pub sound : (journal : List Entry) → Sound plan (with_journal s journal)
      → Sound plan (with_journal u (with_entry journal entry))

-- the depot failed at what a half was to drop
abbrev pub FailsToDrop : PlanText → VaultTold → VaultFault → VaultTold → Type 0
FailsToDrop plan s (fault.Store count) u =
    (count ≡ u.depot.faults) × Rose s.depot.faults u.depot.faults × Changes plan s None (Some (fault.Store count)) u
FailsToDrop plan s (fault.Output count) u = ⊥
FailsToDrop plan s (fault.Damaged v n) u = ⊥
FailsToDrop plan s fault.Halted u = ⊥
FailsToDrop plan s fault.Memory u = ⊥

-- a half that makes a change as this entry would, and answers this number
abbrev pub MakesHalf : PlanText → Entry → ℕ → VaultTold → Result ℕ VaultFault → VaultTold → Type 0
MakesHalf plan entry answer s (Ok n) u = (n ≡ answer) × Changes plan s (Some entry) None u
MakesHalf plan entry answer s (Err fault) u = FailsToDrop plan s fault u

-- why fewer halves than all were made, or that all were
abbrev pub StopsPassing : ℕ → ℕ → VaultTold → Option VaultFault → VaultTold → Type 0
StopsPassing all halves s None u = halves ≡ all
StopsPassing all halves s (Some (fault.Store count)) u =
    (halves < all) × (count ≡ u.depot.faults) × Rose s.depot.faults u.depot.faults
StopsPassing all halves s (Some (fault.Output count)) u = ⊥
StopsPassing all halves s (Some (fault.Damaged v n)) u = ⊥
StopsPassing all halves s (Some fault.Halted) u = ⊥
StopsPassing all halves s (Some fault.Memory) u = ⊥

-- of a pass over these streams so many halves were made, with no entry in the journal
pub record PassesOver (plan : PlanText) (vs : List ℕ) (s : VaultTold) (halves : ℕ) (stop : Option VaultFault)
    (u : VaultTold) : Type 0 where
  pub ledger : (numbers_of u).ledger ≡ passed_over (plan_numbers plan) (numbers_of s).ledger vs halves
  pub journal : (numbers_of u).journal ≡ (numbers_of s).journal
  pub places : u.held.places ≡ s.held.places
  pub halted : u.halted ≡ stop
  pub started : u.started ≡ s.started
  pub counts : NoneFell (counts_of s) (counts_of u)
  pub sound : IsSoundBesides plan u
  pub stops : StopsPassing (2 * length vs) halves s stop u

-- the vertices among these that give streams
abbrev pub streams_among : JobNumbers → List ℕ → List ℕ
streams_among job vs = filter (λ v. not (is_sink (vertex job v).kind)) vs

-- the streams among the last so many vertices, from the last declared one on
abbrev pub last_streams : JobNumbers → ℕ → List ℕ
last_streams job count =
    reverse (streams_among job (range_with_len (length job.vertices - count) count))
