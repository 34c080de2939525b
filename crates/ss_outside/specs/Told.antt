-- What an object of the outside tells at one moment, and what its calls change of that.
use Rattle.std.specs.Prelude.{◌≡◌, ℕ, ◌≤◌, Bool, true, false, List, ◌++◌, take, max, Option, Result, Ok, Err}
use Rattle.std.specs.Prelude.{option_map, if◌then◌else◌, bytes_eq}
use Rattle.ss_outside.specs.Faults.{next_count, Rose}
use Rattle.ss_outside.specs.declared.inputs.InputFault.{InputFault}
use Rattle.ss_outside.specs.declared.inputs.InputFault.TheVariants as input
use Rattle.ss_outside.specs.declared.outputs.PutFault.{PutFault}
use Rattle.ss_outside.specs.declared.outputs.PutFault.TheVariants as output

-- ---- inputs

-- a file that is told: its bytes, its released mark, and how many reads of it failed
pub record HeldFile : Type 0 where
  pub bytes : List ℕ
  pub mark : ℕ
  pub failures : ℕ

-- what is told of a name: nothing, as of real files; or that there is no such file; or the file
pub data FileTold : Type 0 where
  untold : FileTold
  missing : FileTold
  held : HeldFile → FileTold

-- what inputs tell: of each name; how many reads of missing names failed, as far as missing names are told; and how
-- many reads failed
pub record InputsTold : Type 0 where
  pub file : List ℕ → FileTold
  pub missed : ℕ
  pub faults : ℕ

-- a read of the name may give these bytes
abbrev pub MayGive : FileTold → List ℕ → Type 0
MayGive untold bytes = Unit {0}
MayGive missing bytes = ⊥
MayGive (held file) bytes = bytes ≡ file.bytes

-- there may be such a file
abbrev pub MayBeThere : FileTold → Type 0
MayBeThere untold = Unit {0}
MayBeThere missing = ⊥
MayBeThere (held file) = Unit {0}

-- the count of reads of missing names, after one more failed read of a name that is told so
abbrev pub missed_after : FileTold → ℕ → ℕ
missed_after untold missed = missed
missed_after missing missed = next_count missed
missed_after (held file) missed = missed

-- the same name after one more read of it that failed
abbrev pub with_failure : FileTold → FileTold
with_failure untold = untold
with_failure missing = missing
with_failure (held file) = held (record file { failures = next_count file.failures })

-- the same name after a release up to this mark
abbrev pub with_mark : ℕ → FileTold → FileTold
with_mark mark untold = untold
with_mark mark missing = missing
with_mark mark (held file) = held (record file { mark = max file.mark mark })

-- all names, where this one changed so
abbrev pub changed_at : List ℕ → (FileTold → FileTold) → (List ℕ → FileTold) → List ℕ → FileTold
changed_at name change files other = if bytes_eq other name then change (files other) else files other

-- no read failed, as far as it is told, and no count fell
pub record KeepsInputs (old new : InputsTold) : Type 0 where
  pub file : new.file ≡ old.file
  pub missed : new.missed ≡ old.missed
  pub faults : old.faults ≤ new.faults

-- a read of this name failed: the count rose, and with it the name's own, or that of missing names
pub record FailsAt (old new : InputsTold) (name : List ℕ) : Type 0 where
  pub file : new.file ≡ changed_at name with_failure old.file
  pub missed : new.missed ≡ missed_after (old.file name) old.missed
  pub faults : Rose old.faults new.faults

-- what a read of this name answers, where its buffer has these bytes before and after it
abbrev pub Reads : InputsTold → InputsTold → List ℕ → List ℕ → List ℕ → Result (Unit {0}) InputFault → Type 0
Reads old new name before after (Ok _) = MayGive (old.file name) after × KeepsInputs old new
Reads old new name before after (Err input.Failed) = (after ≡ before) × FailsAt old new name
Reads old new name before after (Err input.Memory) = (after ≡ before) × MayBeThere (old.file name) × KeepsInputs old new

-- a release of this name up to this mark; it answers nothing, so it is no read that fails
pub record Releases (old new : InputsTold) (name : List ℕ) (mark : ℕ) : Type 0 where
  pub file : new.file ≡ changed_at name (with_mark mark) old.file
  pub missed : new.missed ≡ old.missed
  pub faults : old.faults ≤ new.faults

-- ---- outputs

-- what outputs tell: the bytes of each name, where they are told; which names were put to; and how many of their puts
-- failed
pub record OutputsTold : Type 0 where
  pub bytes : List ℕ → Option (List ℕ)
  pub put_to : List ℕ → Bool
  pub faults : ℕ

-- what a name has, where these bytes went behind it or not
abbrev pub bytes_behind : Bool → List ℕ → Option (List ℕ) → Option (List ℕ)
bytes_behind here more had = if here then option_map (λ bytes. bytes ++ more) had else had

-- these bytes went behind what the name had, which stays one that was put to; no other name was put to, and no count
-- fell
pub record Appends (old new : OutputsTold) (name more : List ℕ) : Type 0 where
  pub bytes : (other : List ℕ) →
      new.bytes other ≡ bytes_behind (bytes_eq other name) more (old.bytes other)
  pub stays : old.put_to name ≡ true → new.put_to name ≡ true
  pub others : (other : List ℕ) → bytes_eq other name ≡ false → new.put_to other ≡ old.put_to other
  pub faults : old.faults ≤ new.faults

-- nothing was put, and no count fell
pub record KeepsOutputs (old new : OutputsTold) : Type 0 where
  pub bytes : new.bytes ≡ old.bytes
  pub put_to : new.put_to ≡ old.put_to
  pub faults : old.faults ≤ new.faults

-- what a put of this text to this name answers: all of it is put, or its first bytes, or nothing
abbrev pub Puts : OutputsTold → OutputsTold → List ℕ → List ℕ → Result (Unit {0}) PutFault → Type 0
Puts old new name text (Ok _) = Appends old new name text × (new.put_to name ≡ true)
Puts old new name text (Err output.Failed) = (n : ℕ) × Appends old new name (take n text) × Rose old.faults new.faults
Puts old new name text (Err output.Memory) = KeepsOutputs old new
