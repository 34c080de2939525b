-- What a depot tells at one moment, and what its calls change of that.
use Rattle.std.specs.Prelude.{◌≡◌, ◌≢◌, ◌⊎◌, ◌==◌, ℕ, ◌+◌, ◌-◌, ◌≤◌, List, [], ◌∷◌, ◌++◌, length, drop, slice_get}
use Rattle.std.specs.Prelude.{Option, Some, None, IsSomeAnd, Result, Ok, Err, nat_lt, if◌then◌else◌}
use Rattle.ss_outside.specs.Faults.{Rose}
use Rattle.ss_outside.specs.declared.depot.DepotFault.{DepotFault}
use Rattle.ss_outside.specs.declared.depot.DepotFault.TheVariants as fault
use Rattle.ss_outside.specs.declared.depot.Failed.{Failed}

-- what a depot holds: of each vertex the number of its first record, its records, and its frames by number
pub record Contents : Type 0 where
  pub first : ℕ → ℕ
  pub records : ℕ → List (List ℕ)
  pub frames : ℕ → ℕ → Option (List ℕ)

-- what a depot tells: what it holds, how many of its calls failed, and how many of its answers were short
pub record DepotTold : Type 0 where
  pub contents : Contents
  pub faults : ℕ
  pub shorts : ℕ

-- no record and no frame, and every first number is 0
abbrev pub no_contents : Contents
no_contents = record { first = λ v. 0; records = λ v. []; frames = λ v n. None }

-- the number that the next record of v takes
abbrev pub next_number : Contents → ℕ → ℕ
next_number contents v = contents.first v + length (contents.records v)

-- record n of v, where it is held
abbrev pub record_at : Contents → ℕ → ℕ → Option (List ℕ)
record_at contents v n =
    if nat_lt n (contents.first v) then None else slice_get (contents.records v) (n - contents.first v)

-- ---- changes of what is held

-- the function with another value at this number
abbrev pub replaced_at : {A : Type 0} → ℕ → A → (ℕ → A) → ℕ → A
replaced_at v value function w = if w == v then value else function w

-- with these bytes as v's next record
abbrev pub with_record : ℕ → List ℕ → Contents → Contents
with_record v bytes contents =
    record contents { records = replaced_at v (contents.records v ++ bytes ∷ []) contents.records }

-- with the records of v from number m on, and m as the first number, also where m is past the last record
abbrev pub cut_to : ℕ → ℕ → Contents → Contents
cut_to v m contents =
    record contents {
      first = replaced_at v m contents.first;
      records = replaced_at v (drop (m - contents.first v) (contents.records v)) contents.records;
    }

-- with these bytes as frame n of v
abbrev pub with_frame : ℕ → ℕ → List ℕ → Contents → Contents
with_frame v n bytes contents =
    record contents { frames = replaced_at v (replaced_at n (Some bytes) (contents.frames v)) contents.frames }

-- without the frames of v below number n
abbrev pub without_frames_below : ℕ → ℕ → Contents → Contents
without_frames_below v n contents =
    record contents { frames = replaced_at v (λ m. if nat_lt m n then None else contents.frames v m) contents.frames }

-- ---- answers

-- after an Ok: this is held, and no count fell
pub record Leaves (old new : DepotTold) (held : Contents) : Type 0 where
  pub contents : new.contents ≡ held
  pub faults : old.faults ≤ new.faults
  pub shorts : old.shorts ≤ new.shorts

-- after a refusal: all is told as before but the count of faults, which didn't fall
pub record Refuses (old new : DepotTold) : Type 0 where
  pub contents : new.contents ≡ old.contents
  pub faults : old.faults ≤ new.faults
  pub shorts : new.shorts ≡ old.shorts

-- the refusal of a call that failed: the count of faults rose
abbrev pub Fails : DepotTold → DepotTold → Type 0
Fails old new = Refuses old new × Rose old.faults new.faults

-- what a call answers after whose Ok this is held
abbrev pub Stores : DepotTold → DepotTold → Contents → Result (Unit {0}) DepotFault → Type 0
Stores old new held (Ok _) = Leaves old new held
Stores old new held (Err fault.Failed) = Fails old new
Stores old new held (Err fault.Memory) = Refuses old new

-- the same of a call that takes no memory
abbrev pub Discards : DepotTold → DepotTold → Contents → Result (Unit {0}) Failed → Type 0
Discards old new held (Ok _) = Leaves old new held
Discards old new held (Err _) = Fails old new

-- the bytes begin with the front, and have more
abbrev pub IsProperPrefix : List ℕ → List ℕ → Type 0
IsProperPrefix front bytes = (rest : List ℕ) × (rest ≢ []) × (front ++ rest ≡ bytes)

-- these bytes are given for those that are held: the same, or a proper prefix where the count of short answers rose
abbrev pub IsGivenFor : DepotTold → DepotTold → List ℕ → List ℕ → Type 0
IsGivenFor old new held given = (given ≡ held) ⊎ (IsProperPrefix given held × Rose old.shorts new.shorts)

-- what a call answers that gives the bytes that are held here, where its buffer has these before and after it
abbrev pub Gives : DepotTold → DepotTold → Option (List ℕ) → List ℕ → List ℕ → Result (Unit {0}) DepotFault → Type 0
Gives old new place before after (Ok _) =
    IsSomeAnd place (λ held. IsGivenFor old new held after) × Leaves old new old.contents
Gives old new place before after (Err fault.Failed) = (after ≡ before) × Fails old new
Gives old new place before after (Err fault.Memory) = (after ≡ before) × Refuses old new

-- ---- the calls

-- an append to v
abbrev pub AppendsRecord : DepotTold → DepotTold → ℕ → List ℕ → Result (Unit {0}) DepotFault → Type 0
AppendsRecord old new v bytes result = Stores old new (with_record v bytes old.contents) result

-- a fetch of record n of v
abbrev pub FetchesRecord : DepotTold → DepotTold → ℕ → ℕ → List ℕ → List ℕ → Result (Unit {0}) DepotFault → Type 0
FetchesRecord old new v n before after result = Gives old new (record_at old.contents v n) before after result

-- a cut of v's records below number m
abbrev pub CutsRecords : DepotTold → DepotTold → ℕ → ℕ → Result (Unit {0}) Failed → Type 0
CutsRecords old new v m result = Discards old new (cut_to v m old.contents) result

-- a keep of frame n of v
abbrev pub AddsFrame : DepotTold → DepotTold → ℕ → ℕ → List ℕ → Result (Unit {0}) DepotFault → Type 0
AddsFrame old new v n bytes result = Stores old new (with_frame v n bytes old.contents) result

-- a load of frame n of v
abbrev pub LoadsFrame : DepotTold → DepotTold → ℕ → ℕ → List ℕ → List ℕ → Result (Unit {0}) DepotFault → Type 0
LoadsFrame old new v n before after result = Gives old new (old.contents.frames v n) before after result

-- a drop of v's frames below number n
abbrev pub DropsFrames : DepotTold → DepotTold → ℕ → ℕ → Result (Unit {0}) Failed → Type 0
DropsFrames old new v n result = Discards old new (without_frames_below v n old.contents) result
