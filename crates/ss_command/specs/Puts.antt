-- What is put to outputs: a list of puts, one after the other.
use Rattle.std.specs.Prelude.{◌≡◌, ◌⊎◌, ℕ, ◌≤◌, Bool, true, false, List, [], ◌∷◌, ◌++◌, map, take, Result, Ok, Err}
use Rattle.std.specs.Prelude.{option_map, if◌then◌else◌, bytes_eq}
use Rattle.std.specs.List.{list_any}
use Rattle.ss_elem.specs.Line.{line_of}
use Rattle.ss_elem.specs.declared.element.Element.{Element}
use Rattle.ss_outside.specs.Faults.{Rose}
use Rattle.ss_outside.specs.Told.{OutputsTold}
use Rattle.ss_outside.specs.declared.outputs.PutFault.{PutFault}
use Rattle.ss_outside.specs.declared.outputs.PutFault.TheVariants.{Failed, Memory}
use Rattle.ss_report.specs.declared.fault.Fault.TheVariants as report
use Rattle.ss_command.specs.Refusal.{Refusal, refusal_of}

-- bytes that are put to a name
pub record Put : Type 0 where
  pub name : List ℕ
  pub bytes : List ℕ

abbrev pub put_of : List ℕ → List ℕ → Put
put_of name bytes = record { name = name; bytes = bytes }

-- its first n bytes
abbrev pub first_of : ℕ → Put → Put
first_of n put = record put { bytes = take n put.bytes }

-- the lines of a list, each by a put of its own
abbrev pub lines_to : List ℕ → List Element → List Put
lines_to name list = map (λ element. put_of name (line_of element)) list

-- the bytes of one name, in the order of the puts
abbrev pub bytes_to : List ℕ → List Put → List ℕ
bytes_to name [] = []
bytes_to name (put ∷ puts) = (if bytes_eq name put.name then put.bytes else []) ++ bytes_to name puts

-- one of the puts is to this name
abbrev pub is_put_to : List ℕ → List Put → Bool
is_put_to name puts = list_any (λ put. bytes_eq name put.name) puts

-- the puts stand behind what each name had, nothing else changed, and no other name was put to
pub record Went (old new : OutputsTold) (puts : List Put) : Type 0 where
  pub behind : (name : List ℕ) → new.bytes name ≡ option_map (λ had. had ++ bytes_to name puts) (old.bytes name)
  pub others : (name : List ℕ) → is_put_to name puts ≡ false → new.put_to name ≡ old.put_to name
  pub faults : old.faults ≤ new.faults

-- all of the puts were made: besides, each of their names was put to
pub record WentWhole (old new : OutputsTold) (puts : List Put) : Type 0 where
  pub went : Went old new puts
  pub named : (name : List ℕ) → is_put_to name puts ≡ true → new.put_to name ≡ true

-- a device failed in one of the puts: those before it stand whole, then its first bytes, and nothing behind it
pub record PutFailed (old new : OutputsTold) (puts : List Put) : Type 0 where
  pub before : List Put
  pub failed : Put
  pub after : List Put
  pub split : puts ≡ before ++ failed ∷ after
  pub kept : ℕ
  pub went : Went old new (before ++ first_of kept failed ∷ [])
  pub rose : Rose old.faults new.faults

-- the work stopped between two of the puts: those before stand whole, and nothing behind them
pub record StoppedBetween (old new : OutputsTold) (puts : List Put) : Type 0 where
  pub before : List Put
  pub after : List Put
  pub split : puts ≡ before ++ after
  pub went : Went old new before

-- how puts that were to be made end: all are made, or a device failed in one of them, or memory was wanting between two
abbrev pub Wrote : OutputsTold → OutputsTold → List Put → Result (Unit {0}) PutFault → Type 0
Wrote old new puts (Ok _) = WentWhole old new puts
Wrote old new puts (Err Failed) = PutFailed old new puts
Wrote old new puts (Err Memory) = StoppedBetween old new puts

-- puts stop: one fails, or memory is wanting between two
abbrev pub StopsInPuts : OutputsTold → OutputsTold → List Put → Refusal → Type 0
StopsInPuts before after puts refusal =
    ((refusal ≡ refusal_of report.Output) × PutFailed before after puts)
    ⊎ ((refusal ≡ refusal_of report.Memory) × StoppedBetween before after puts)
