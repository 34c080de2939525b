-- What contracts see of the calls of a depot in memory: which are listed, how many were made, and their counts.
use Rattle.std.specs.Prelude.{◌≡◌, ◌==◌, ◌&&◌, ℕ, ◌-◌, Bool, true, false, List, [], Result, Ok, Err, length, take}
use Rattle.std.specs.Prelude.{slice_index}
use Rattle.std.specs.Prelude.{if◌then◌else◌}
use Rattle.std.specs.List.{list_any}
use Rattle.ss_outside.specs.Faults.{next_count}
use Rattle.ss_outside.specs.declared.depot.DepotFault.{DepotFault}
use Rattle.ss_outside.specs.declared.depot.DepotFault.TheVariants as fault
use Rattle.ss_outside.specs.declared.depot_calls.DepotCall.{DepotCall}
use Rattle.ss_outside.specs.declared.depot_calls.DepotCall.TheVariants.{Append, Fetch, Cut, Keep, Load, DropBelow}
use Rattle.ss_outside.specs.declared.depot_calls.DepotCalls.{DepotCalls}

-- the place of a kind of call among all
abbrev pub call_number : DepotCall → ℕ
call_number Append = 0
call_number Fetch = 1
call_number Cut = 2
call_number Keep = 3
call_number Load = 4
call_number DropBelow = 5

-- it is a kind of call that gives bytes
abbrev pub gives_bytes : DepotCall → Bool
gives_bytes Append = false
gives_bytes Fetch = true
gives_bytes Cut = false
gives_bytes Keep = false
gives_bytes Load = true
gives_bytes DropBelow = false

-- the calls that are to fail, and those whose answer is to be short: the kind, and the number among calls of that kind
abbrev pub calls_listed : DepotCalls → List (DepotCall × ℕ)
calls_listed calls = calls.fails.items

abbrev pub calls_damaged : DepotCalls → List (DepotCall × ℕ)
calls_damaged calls = calls.damaged.items

-- how many calls of this kind were made
abbrev pub calls_made : DepotCalls → DepotCall → ℕ
calls_made calls which = slice_index calls.made (call_number which)

-- the list has the call of this kind and number
abbrev pub is_in : List (DepotCall × ℕ) → DepotCall → ℕ → Bool
is_in list which number = list_any (λ call. (call_number call.0 == call_number which) && (call.1 == number)) list

-- the next call of this kind is to fail, is to answer short
abbrev pub fails_next : DepotCalls → DepotCall → Bool
fails_next calls which = is_in (calls_listed calls) which (next_count (calls_made calls which))

abbrev pub damages_next : DepotCalls → DepotCall → Bool
damages_next calls which = is_in (calls_damaged calls) which (next_count (calls_made calls which))

-- a short answer lacks the last byte, and is empty where there is none
abbrev pub given_next : DepotCalls → DepotCall → List ℕ → List ℕ
given_next calls which held = if damages_next calls which then take (length held - 1) held else held

-- the count, one higher where the event came
abbrev pub counted_if : Bool → ℕ → ℕ
counted_if came count = if came then next_count count else count

-- a call of this kind: it fails exactly where it is listed; a failure counts as a fault and a short answer as one, and
-- nothing else does; and it is one more of its kind
pub record MakesCall (old new : DepotCalls) (which : DepotCall) (did_fail was_short : Bool) : Type 0 where
  pub failed : did_fail ≡ fails_next old which
  pub faults : new.faults ≡ counted_if did_fail old.faults
  pub shorts : new.shorts ≡ counted_if was_short old.shorts
  pub made : (other : DepotCall) →
      calls_made new other ≡ counted_if (call_number other == call_number which) (calls_made old other)
  pub listed : calls_listed new ≡ calls_listed old
  pub damaged : calls_damaged new ≡ calls_damaged old

-- nothing is listed, made or counted
pub record IsFresh (calls : DepotCalls) : Type 0 where
  pub faults : calls.faults ≡ 0
  pub shorts : calls.shorts ≡ 0
  pub made : (which : DepotCall) → calls_made calls which ≡ 0
  pub listed : calls_listed calls ≡ []
  pub damaged : calls_damaged calls ≡ []

-- whether a call answered Failed
abbrev pub depot_failed : Result (Unit {0}) DepotFault → Bool
depot_failed (Ok _) = false
depot_failed (Err fault.Failed) = true
depot_failed (Err fault.Memory) = false
