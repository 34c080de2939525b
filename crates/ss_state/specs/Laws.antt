-- What is true of every job and every run.
use Rattle.std.specs.Prelude.{◌+◌, ◌≡◌, ◌≢◌, ℕ, max, ◌<◌, ◌≤◌, ◌⊎◌, ◌==◌, nat_le, Bool, true, false, ◌&&◌, Some}
use Rattle.std.specs.Prelude.{filter}
use Rattle.std.specs.List.{list_any}
use Rattle.ss_fail.specs.declared.act.Act.{Act}
use Rattle.ss_fail.specs.declared.act.Act.TheVariants as act
use Rattle.ss_fail.specs.declared.outcome.Outcome.TheVariants as outcome
use Rattle.ss_state.specs.declared.entry.Entry.{Entry}
use Rattle.ss_state.specs.declared.entry.Entry.TheVariants as entry
use Rattle.ss_state.specs.Numbers.{VertexNumbers, JobNumbers, IsStream, IsOperator, IsSink, is_inner, vertex, pos}
use Rattle.ss_state.specs.Numbers.{out}
use Rattle.ss_state.specs.State.{Ledger, VaultNumbers, State, first_state, row_at}
use Rattle.ss_state.specs.LowWater.{low_at, taken_at, need, start, required}
use Rattle.ss_state.specs.Journal.{is_one_of, change, enter, IsLawful}
use Rattle.ss_state.specs.Step.{step, is_full, FaultKind, Left, MayAct}
use Rattle.ss_state.specs.IsNumbers.{IsNumbers}
use Rattle.ss_state.specs.Wanted.{IsLeastWanted, AreMarks}
use Rattle.ss_state.specs.Acts.{pass_act}
use Rattle.ss_state.specs.Joint.{MayAccept, IsSound, Joint}

-- how many elements came from an input never falls as n rises
abbrev pub PositionsNeverFall : Type 0
PositionsNeverFall = (x : VertexNumbers) (m n i : ℕ) → m ≤ n → pos x m i ≤ pos x n i

-- how many elements a vertex has given never falls as n rises
abbrev pub OutNeverFalls : Type 0
OutNeverFalls = (x : VertexNumbers) (m n : ℕ) → m ≤ n → out x m ≤ out x n

-- a job that has just been started is joint
abbrev pub FirstStateIsJoint : Type 0
FirstStateIsJoint = (job : JobNumbers) → IsNumbers job → Joint job (first_state job)

-- every act that isn't full keeps a job joint
abbrev pub ActsKeepJoint : Type 0
ActsKeepJoint =
    (job : JobNumbers) (s : State) (a : Act) → MayAct job a → is_full job s a ≡ false → Joint job s
    → Joint job (step job s a).state

-- and so does an act that met a fault
abbrev pub FaultsKeepJoint : Type 0
FaultsKeepJoint =
    (job : JobNumbers) (s end : State) (a : Act) (fault : FaultKind) → MayAct job a → Joint job s
    → Left job s a fault end
    → Joint job end

-- no dur, no number of taken lines, no base and no low-water mark of the new ledger is below that of the old one
pub record Grows (job : JobNumbers) (l new : Ledger) : Type 0 where
  pub dur : (v : ℕ) → (row_at l v).dur ≤ (row_at new v).dur
  pub taken : (k : ℕ) → (row_at l k).taken ≤ (row_at new k).taken
  pub base : (v : ℕ) → (row_at l v).base ≤ (row_at new v).base
  pub low : (v : ℕ) → low_at job l v ≤ low_at job new v

-- no act lowers any of them
abbrev pub NothingDurableFalls : Type 0
NothingDurableFalls =
    (job : JobNumbers) (s : State) (a : Act) → MayAct job a → Joint job s
    → Grows job s.vault.ledger (step job s a).state.vault.ledger

-- the vault is as before, or one entry more stands in its journal, which may stand there
abbrev pub MakesOneEntry : JobNumbers → VaultNumbers → VaultNumbers → Type 0
MakesOneEntry job vault new =
    (new ≡ vault) ⊎ ((e : Entry) × IsLawful job vault.ledger e × (new ≡ enter job vault (Some e)))

-- an act changes the ledger by at most one entry of the journal
abbrev pub ActsMakeOneEntry : Type 0
ActsMakeOneEntry =
    (job : JobNumbers) (s : State) (a : Act) → MayAct job a → Joint job s
    → MakesOneEntry job s.vault (step job s a).state.vault

-- the least number that is wanted of a stream is one alone
abbrev pub LeastWantedIsOne : Type 0
LeastWantedIsOne =
    (job : JobNumbers) (start taken : ℕ → ℕ) (v m n : ℕ) → IsNumbers job
    → IsLeastWanted job start taken v m → IsLeastWanted job start taken v n → m ≡ n

-- what is needed of a stream is the least that its readers want from their low-water marks
abbrev pub NeedIsLeast : Type 0
NeedIsLeast =
    (job : JobNumbers) (l : Ledger) (v : ℕ) → IsNumbers job → IsStream job v
    → IsLeastWanted job (low_at job l) (taken_at l) v (need job l v)

-- what is required of each stream and from where each vertex starts are such marks
abbrev pub RequiredAreMarks : Type 0
RequiredAreMarks = (job : JobNumbers) (l : Ledger) → IsNumbers job → AreMarks job l (required job l) (start job l)

-- and no others are
abbrev pub MarksAreOne : Type 0
MarksAreOne =
    (job : JobNumbers) (l : Ledger) (wanted begin : ℕ → ℕ) → IsNumbers job → AreMarks job l wanted begin
    → (v : ℕ) → IsStream job v → (wanted v ≡ required job l v) × (begin v ≡ start job l v)

-- a flush of a joint job is never told that its batch begins above what is stored
abbrev pub FlushIsNeverApart : Type 0
FlushIsNeverApart =
    (job : JobNumbers) (s : State) (v most from dur : ℕ) → Joint job s
    → (step job s (act.Flush v most)).outcome ≢ outcome.Apart from dur

-- every stored element is there from the first that is needed on, and so from the first that is required on
abbrev pub NeededIsThere : Type 0
NeededIsThere =
    (job : JobNumbers) (vault : VaultNumbers) (v : ℕ) → IsNumbers job → IsSound job vault → IsStream job v
    → ((row_at vault.ledger v).base ≤ need job vault.ledger v) × (need job vault.ledger v ≤ required job vault.ledger v)

-- an operator's low-water mark is at most where it starts from what is stored
abbrev pub LowIsBelowStart : Type 0
LowIsBelowStart =
    (job : JobNumbers) (l : Ledger) (v : ℕ) → IsNumbers job → IsOperator job v → low_at job l v ≤ start job l v

-- so what is needed of a stream is at most what is required of it
abbrev pub NeedIsBelowRequired : Type 0
NeedIsBelowRequired =
    (job : JobNumbers) (l : Ledger) (v : ℕ) → IsNumbers job → IsStream job v → need job l v ≤ required job l v

-- a stored element that is required stays where it is
abbrev pub KeepsRequired : JobNumbers → Ledger → Ledger → Type 0
KeepsRequired job l new =
    (v n : ℕ) → IsStream job v → required job l v ≤ n → n < (row_at l v).dur
    → ((row_at new v).base ≤ n) × (n < (row_at new v).dur)

-- whatever act is made
abbrev pub NothingRequiredGoes : Type 0
NothingRequiredGoes =
    (job : JobNumbers) (s : State) (a : Act) → MayAct job a → Joint job s
    → KeepsRequired job s.vault.ledger (step job s a).state.vault.ledger

-- whether the entry tells that snapshot n of v was stored
abbrev pub is_kept : ℕ → ℕ → Entry → Bool
is_kept v n (entry.Kept w m) = w == v && m == n
is_kept v n e = false

-- a snapshot that was stored, or the one from the start, is still there, or lies below where its operator starts
abbrev pub SnapshotsAreThere : Type 0
SnapshotsAreThere =
    (job : JobNumbers) (vault : VaultNumbers) (v n : ℕ) → IsNumbers job → IsSound job vault → IsOperator job v
    → (n ≡ 0) ⊎ (list_any (is_kept v n) vault.journal ≡ true)
    → (is_one_of n (row_at vault.ledger v).snaps ≡ true) ⊎ (n < start job vault.ledger v)

-- a source's list is asked for no element below its mark
abbrev pub MarkIsBelowStart : Type 0
MarkIsBelowStart =
    (job : JobNumbers) (vault : VaultNumbers) (v : ℕ) → IsNumbers job → IsSound job vault → IsStream job v
    → is_inner (vertex job v).kind ≡ false
    → (row_at vault.ledger v).mark ≤ start job vault.ledger v

-- what a whole pass over ledger l leaves of stream v
pub record IsPassed (job : JobNumbers) (l new : Ledger) (v : ℕ) : Type 0 where
  pub base : (row_at new v).base ≡ required job l v
  pub dur : (row_at new v).dur ≡ max (row_at l v).dur (required job l v)
  pub snaps : is_inner (vertex job v).kind ≡ true
      → (row_at new v).snaps ≡ filter (λ n. nat_le (start job l v) n) (row_at l v).snaps
  pub mark : is_inner (vertex job v).kind ≡ false → (row_at new v).mark ≡ start job l v
  pub required : required job new v ≡ required job l v
  pub start : start job new v ≡ start job l v

-- a whole pass leaves every stream so, counts what is stored anew, and takes nothing from a sink
abbrev pub PassCollectsExactly : Type 0
PassCollectsExactly =
    (job : JobNumbers) (vault : VaultNumbers) → IsNumbers job → IsSound job vault
    → let new = (pass_act job vault).vault.ledger in
    ((v : ℕ) → IsStream job v → IsPassed job vault.ledger new v)
    × ((k : ℕ) → IsSink job k → row_at new k ≡ row_at vault.ledger k) × (new.since ≡ 0)

-- what an entry tells lies within the limits of a job
abbrev pub IsWithinLimits : JobNumbers → Ledger → Entry → Type 0
IsWithinLimits job l (entry.Flushed v count) = (row_at l v).dur + count ≤ job.max_elements
IsWithinLimits job l (entry.Kept v n) = MayAccept job.max_elements (vertex job v) n
IsWithinLimits job l e = Unit {0}

-- an entry that may stand where it does keeps the vault sound
abbrev pub EntriesKeepSound : Type 0
EntriesKeepSound =
    (job : JobNumbers) (vault : VaultNumbers) (e : Entry) → IsNumbers job → IsSound job vault
    → IsLawful job vault.ledger e → IsWithinLimits job vault.ledger e → IsSound job (enter job vault (Some e))

-- and lowers no number of the ledger
abbrev pub EntriesLowerNothing : Type 0
EntriesLowerNothing =
    (job : JobNumbers) (vault : VaultNumbers) (e : Entry) → IsNumbers job → IsSound job vault
    → IsLawful job vault.ledger e → Grows job vault.ledger (change job vault.ledger e)
