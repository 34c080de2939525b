-- What a tail answers.
use Rattle.std.specs.Prelude.{◌≡◌, ℕ, ◌-◌, nat_lt, ◌==◌, List, slice_get, Some, if◌then◌else◌}
use Rattle.std.specs.Option.{option_map_or}
use Rattle.ss_elem.specs.declared.element.Element.{Element}
use Rattle.ss_state.specs.State.{TailNumbers}
use Rattle.ss_tail.specs.declared.answers.Wrote.{Wrote}
use Rattle.ss_tail.specs.declared.answers.Wrote.TheVariants.{Stored, Known, Old, Gap}
use Rattle.ss_tail.specs.declared.answers.Shown.{Shown}
use Rattle.ss_tail.specs.declared.answers.Shown.TheVariants.{Item, Below, Torn, NotYet}
use Rattle.ss_tail.specs.Held.{TailHeld}

-- to the element of number n
abbrev pub wrote_at : TailNumbers → ℕ → Wrote
wrote_at tail n =
    if tail.end == n then Stored
    else (if nat_lt tail.end n then Gap tail.end else (if nat_lt n tail.from then Old else Known))

-- where there is no element of a number that isn't below `from`
abbrev pub past_end : TailNumbers → Shown
past_end tail = if tail.torn then Torn tail.end else NotYet tail.end

-- to a reader that wants number n
abbrev pub shown_at : TailHeld → ℕ → Shown
shown_at tail n =
    if nat_lt n tail.numbers.from then Below tail.numbers.from
    else option_map_or (λ x. Item x) (slice_get tail.items (n - tail.numbers.from)) (past_end tail.numbers)

-- an element is shown only if it has number n in the list
abbrev pub IsOf : List Element → ℕ → Shown → Type 0
IsOf list n (Item x) = slice_get list n ≡ Some x
IsOf list n (Below from) = Unit {0}
IsOf list n (Torn end) = Unit {0}
IsOf list n (NotYet end) = Unit {0}
