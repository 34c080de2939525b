-- What each call does to the view of a pass.
use Rattle.std.specs.Prelude.{ℕ, ◌+◌, ◌-◌, ◌^◌, ◌==◌, min, Bool, List, [], ◌∷◌, filter, count_by, not, Option, Some}
use Rattle.std.specs.Prelude.{None, if◌then◌else◌}
use Rattle.ss_turns.specs.declared.view.TakeRecord.{TakeRecord}
use Rattle.ss_turns.specs.declared.view.View.{View}

-- how often k stands in the list
abbrev pub times : ℕ → List ℕ → ℕ
times k xs = count_by (λ x. x == k) xs

-- the list with every k left out
abbrev pub without : ℕ → List ℕ → List ℕ
without k xs = filter (λ x. not (x == k)) xs

-- a u64 that stays at its greatest number
abbrev pub raised : ℕ → ℕ → ℕ
raised n by = min (n + by) (2 ^ 64 - 1)

-- the record of a slot's last take: the newest entry of the slot, or a blank one where the slot was never taken
abbrev pub record_of : List TakeRecord → ℕ → TakeRecord
record_of [] k = record { slot = k; number = 0; taken = []; given = None }
record_of (r ∷ rs) k = if r.slot == k then r else record_of rs k

module _ {P : Type 0} where
  -- the view of a pass that holds nothing and has done nothing
  abbrev pub fresh : Option P → ℕ → View P
  fresh plan share =
      record { plan = plan; share = share; has = []; takes = 0; misses = 0; log = []; stops = 0; heard = 0 }

  -- what is left of the view of a pass that was joined to another
  abbrev pub spent : View P
  spent = fresh None 0

  -- the exchange found slot k at home, with a value of these numbers
  abbrev pub took : View P → ℕ → List ℕ → View P
  took v k numbers =
      let n = raised v.takes 1 in
      let entry : TakeRecord = record { slot = k; number = n; taken = numbers; given = None } in
      record v { has = k ∷ v.has; takes = n; log = entry ∷ v.log }

  -- the exchange found the slot taken
  abbrev pub missed : View P → View P
  missed v = record v { misses = raised v.misses 1 }

  -- slot k goes home with a value of these numbers
  abbrev pub gave_back : View P → ℕ → List ℕ → View P
  gave_back v k numbers =
      let r = record_of v.log k in
      record v { has = without k v.has; log = record r { given = Some numbers } ∷ v.log }

  -- the stop word was set
  abbrev pub asked : View P → View P
  asked v = record v { stops = v.stops + 1 }

  -- the stop word was looked at, and was set or not
  abbrev pub looked : View P → Bool → View P
  looked v is_set = record v { heard = v.heard + (if is_set then 1 else 0) }

  -- one share goes to a new pass
  abbrev pub fewer : View P → View P
  fewer v = record v { share = v.share - 1 }

  -- the new pass of a split
  abbrev pub one_share : View P → View P
  one_share v = fresh v.plan 1

  -- the second view, which has no slot, goes into the first
  abbrev pub merged : View P → View P → View P
  merged v w =
      record v {
        share = v.share + w.share;
        takes = raised v.takes w.takes;
        misses = raised v.misses w.misses;
        stops = v.stops + w.stops;
        heard = v.heard + w.heard;
      }
