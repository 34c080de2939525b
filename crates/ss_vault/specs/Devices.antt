-- What a vault's own steps over its devices come to.
use Rattle.std.specs.Prelude.{◌≡◌, ℕ, ◌≤◌, ◌<◌, ◌==◌, ◌&&◌, nat_lt, List, [], ◌++◌, length, take, Option}
use Rattle.std.specs.Prelude.{Some, None, Result, Ok, Err, All}
use Rattle.std.specs.Prelude.{if◌then◌else◌}
use Rattle.ss_codec.specs.Frame.{frame_bytes}
use Rattle.ss_codec.specs.Record.{HasRecord}
use Rattle.ss_elem.specs.declared.element.Element.{Element}
use Rattle.ss_frames.specs.Frames.{frame_of}
use Rattle.ss_frames.specs.Plans.{plan_numbers}
use Rattle.ss_outside.specs.Depot.{DepotTold, Contents, Leaves, Refuses, Fails}
use Rattle.ss_outside.specs.Faults.{Rose}
use Rattle.ss_plan.specs.Plan.{PlanText}
use Rattle.ss_state.specs.Numbers.{is_inner, vertex}
use Rattle.ss_vault.specs.Sound.{records_from}
use Rattle.ss_vault.specs.declared.fault.VaultFault.{VaultFault}
use Rattle.ss_vault.specs.declared.fault.VaultFault.TheVariants as fault

-- a step after whose Ok the depot holds this
abbrev pub StoresCode : DepotTold → DepotTold → Contents → Result (Unit {0}) VaultFault → Type 0
StoresCode old new held (Ok _) = Leaves old new held
StoresCode old new held (Err (fault.Store count)) = (count ≡ new.faults) × Fails old new
StoresCode old new held (Err (fault.Output count)) = ⊥
StoresCode old new held (Err (fault.Damaged v n)) = ⊥
StoresCode old new held (Err fault.Halted) = ⊥
StoresCode old new held (Err fault.Memory) = Refuses old new

-- a step that gives what record or snapshot n of vertex v says
abbrev pub GivesWhole : {A : Type 0} → DepotTold → DepotTold → ℕ → ℕ → A → Result A VaultFault → Type 0
GivesWhole old new v n value (Ok given) = (given ≡ value) × Leaves old new old.contents
GivesWhole old new v n value (Err (fault.Store count)) = (count ≡ new.faults) × Fails old new
GivesWhole old new v n value (Err (fault.Output count)) = ⊥
GivesWhole old new v n value (Err (fault.Damaged w m)) =
    (w ≡ v) × (m ≡ n) × Rose old.shorts new.shorts × Leaves old new old.contents
GivesWhole old new v n value (Err fault.Halted) = ⊥
GivesWhole old new v n value (Err fault.Memory) = Leaves old new old.contents

-- want of memory is told of no record that lacks bytes
abbrev pub IsOfNoShort : DepotTold → DepotTold → VaultFault → Type 0
IsOfNoShort old new (fault.Store count) = Unit {0}
IsOfNoShort old new (fault.Output count) = Unit {0}
IsOfNoShort old new (fault.Damaged v n) = Unit {0}
IsOfNoShort old new fault.Halted = Unit {0}
IsOfNoShort old new fault.Memory = new.shorts ≡ old.shorts

-- these records went behind those of v, and nothing else changed
pub record HasMore (old new : Contents) (v : ℕ) (more : List (List ℕ)) : Type 0 where
  pub first : (w : ℕ) → new.first w ≡ old.first w
  pub records : (w : ℕ) → new.records w ≡ (if w == v then old.records v ++ more else old.records w)
  pub frames : (w n : ℕ) → new.frames w n ≡ old.frames w n

-- why fewer elements were appended than there were, or that all were
abbrev pub StopsAppending : DepotTold → DepotTold → ℕ → ℕ → Option VaultFault → Type 0
StopsAppending old new count all None = count ≡ all
StopsAppending old new count all (Some (fault.Store faults)) =
    (count < all) × (faults ≡ new.faults) × Rose old.faults new.faults
StopsAppending old new count all (Some (fault.Output faults)) = ⊥
StopsAppending old new count all (Some (fault.Damaged v n)) = ⊥
StopsAppending old new count all (Some fault.Halted) = ⊥
StopsAppending old new count all (Some fault.Memory) = count < all

-- so many of these elements of stream v, of which the first has number n, were appended
pub record Appended (old new : DepotTold) (v n : ℕ) (elements : List Element) (count : ℕ) : Type 0 where
  pub within : count ≤ length elements
  pub contents : HasMore old.contents new.contents v (records_from v n (take count elements))
  pub records : All HasRecord (take count elements)
  pub faults : old.faults ≤ new.faults
  pub shorts : old.shorts ≤ new.shorts

-- the same, and why not all were
abbrev pub AppendsSome : DepotTold → DepotTold → ℕ → ℕ → List Element → ℕ → Option VaultFault → Type 0
AppendsSome old new v n elements count stop =
    Appended old new v n elements count × StopsAppending old new count (length elements) stop

-- the first snapshot of vertex v, where it is an operator below number `limit`
abbrev pub first_frame_below : PlanText → ℕ → ℕ → ℕ → Option (List ℕ)
first_frame_below plan limit v n =
    if nat_lt v limit && is_inner (vertex (plan_numbers plan) v).kind && n == 0
    then Some (frame_bytes (frame_of plan v 0)) else None

-- a depot holds the first snapshots of the operators below number `limit`, and nothing else
pub record HoldsFirstBelow (plan : PlanText) (limit : ℕ) (contents : Contents) : Type 0 where
  pub first : (v : ℕ) → contents.first v ≡ 0
  pub records : (v : ℕ) → contents.records v ≡ []
  pub frames : (v n : ℕ) → contents.frames v n ≡ first_frame_below plan limit v n

-- no count fell
pub record NoFewer (old new : DepotTold) : Type 0 where
  pub faults : old.faults ≤ new.faults
  pub shorts : old.shorts ≤ new.shorts

-- why the first snapshots weren't all stored, if they weren't
abbrev pub StopsAtFirst : DepotTold → DepotTold → VaultFault → Type 0
StopsAtFirst old new (fault.Store count) = (count ≡ new.faults) × Rose old.faults new.faults
StopsAtFirst old new (fault.Output count) = ⊥
StopsAtFirst old new (fault.Damaged v n) = ⊥
StopsAtFirst old new fault.Halted = ⊥
StopsAtFirst old new fault.Memory = Unit {0}

-- the depot holds the first snapshots of the operators below number `limit`, unless a fault came before
abbrev pub KeepsFirst : PlanText → ℕ → DepotTold → DepotTold → Result (Unit {0}) VaultFault → Type 0
KeepsFirst plan limit old new (Ok _) = HoldsFirstBelow plan limit new.contents × NoFewer old new
KeepsFirst plan limit old new (Err fault) =
    StopsAtFirst old new fault × ((below : ℕ) × HoldsFirstBelow plan below new.contents) × NoFewer old new
