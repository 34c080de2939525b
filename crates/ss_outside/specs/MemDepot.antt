-- What contracts see of a depot in memory.
use Rattle.std.specs.Prelude.{◌≡◌, ◌==◌, ◌&&◌, ℕ, Bool, false, List, [], Vec, Option, None, IsSomeAnd, option_map}
use Rattle.std.specs.Prelude.{unwrap_or, slice_index}
use Rattle.std.specs.Prelude.{Result, OnOk, is_ok}
use Rattle.std.specs.Option.{option_map_or}
use Rattle.std.specs.Ordering.{nat_cmp}
use Rattle.std.specs.BTreeMap.{BTreeMap, get}
use Rattle.std.specs.declared.alloc.Global.{Global}
use Rattle.ss_outside.specs.Depot.{Contents, DepotTold}
use Rattle.ss_outside.specs.DepotCalls.{MakesCall, calls_made, counted_if, damages_next, depot_failed, given_next}
use Rattle.ss_outside.specs.declared.depot.DepotFault.{DepotFault}
use Rattle.ss_outside.specs.declared.depot_calls.DepotCall.{DepotCall}
use Rattle.ss_outside.specs.declared.depot_calls.DepotCalls.{DepotCalls}
use Rattle.ss_outside.specs.declared.mem_depot.MemDepot.{MemDepot}

-- the records of a vertex, none where it has no list yet
abbrev pub records_in : BTreeMap ℕ (List (List ℕ)) → ℕ → List (List ℕ)
records_in lists v = unwrap_or (get nat_cmp lists v) []

-- the frame of a number
abbrev pub frame_in : BTreeMap ℕ (Vec ℕ Global) → ℕ → Option (List ℕ)
frame_in frames n = option_map (λ bytes. bytes.items) (get nat_cmp frames n)

-- the frames of a vertex by number, none where it has no map yet
abbrev pub frames_in : BTreeMap ℕ (BTreeMap ℕ (Vec ℕ Global)) → ℕ → ℕ → Option (List ℕ)
frames_in maps v n = option_map_or (λ frames. frame_in frames n) (get nat_cmp maps v) None

-- what it holds
abbrev pub contents_held : MemDepot → Contents
contents_held depot =
    record {
      first = λ v. slice_index depot.firsts v;
      records = records_in depot.records;
      frames = frames_in depot.frames;
    }

-- the calls that are listed and were made, with their counts
abbrev pub calls_of : MemDepot → DepotCalls
calls_of depot = depot.calls

-- what it tells
abbrev pub mem_depot_told : MemDepot → DepotTold
mem_depot_told depot =
    record { contents = contents_held depot; faults = (calls_of depot).faults; shorts = (calls_of depot).shorts }

-- how many appends to v answered Ok
abbrev pub appended_to : MemDepot → ℕ → ℕ
appended_to depot v = slice_index depot.appended v

-- nothing but its lists of calls changed
pub record OnlyLists (old new : MemDepot) : Type 0 where
  pub told : mem_depot_told new ≡ mem_depot_told old
  pub made : (which : DepotCall) → calls_made (calls_of new) which ≡ calls_made (calls_of old) which
  pub appended : (v : ℕ) → appended_to new v ≡ appended_to old v

-- each count of appends is as before, but for that of v where this append answered Ok
abbrev pub CountsAppend : MemDepot → MemDepot → ℕ → Result (Unit {0}) DepotFault → Type 0
CountsAppend old new v result = (w : ℕ) → appended_to new w ≡ counted_if (is_ok result && (w == v)) (appended_to old w)

-- each count of appends is as before
abbrev pub KeepsAppends : MemDepot → MemDepot → Type 0
KeepsAppends old new = (v : ℕ) → appended_to new v ≡ appended_to old v

-- a call that gives no bytes: it fails exactly where it is listed, and no answer is short
abbrev pub CallsAsListed : MemDepot → MemDepot → DepotCall → Bool → Type 0
CallsAsListed old new which did_fail = MakesCall (calls_of old) (calls_of new) which did_fail false

-- a fetch or a load of what stands at this place: it fails exactly where it is listed, and gives all its bytes but
-- where it is listed as damaged
pub record GivesAsListed (old new : MemDepot) (which : DepotCall) (place : Option (List ℕ)) (bytes : List ℕ)
    (result : Result (Unit {0}) DepotFault) : Type 0 where
  pub given : OnOk result (IsSomeAnd place (λ held. bytes ≡ given_next (calls_of old) which held))
  pub calls :
      let was_short = is_ok result && damages_next (calls_of old) which in
      MakesCall (calls_of old) (calls_of new) which (depot_failed result) was_short
