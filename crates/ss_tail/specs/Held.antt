-- What a tail holds, and what becomes of it.
use Rattle.std.specs.Prelude.{◌≡◌, ℕ, ◌+◌, ◌-◌, ◌≤◌, ◌==◌, Bool, List, [], ◌∷◌, ◌++◌, length, take, drop}
use Rattle.std.specs.Prelude.{if◌then◌else◌}
use Rattle.ss_elem.specs.declared.element.Element.{Element}
use Rattle.ss_state.specs.State.{TailNumbers, new_tail}
use Rattle.ss_tail.specs.Pages.{Numbered}
use Rattle.ss_state.specs.Tails.{appended, batch_from, dropped_below, restarted, told}

-- a tail's numbers, and its elements, of which the first has the number `from`
pub record TailHeld : Type 0 where
  pub numbers : TailNumbers
  pub items : List Element

-- what a tail holds that has these elements, and besides them these numbers
abbrev pub held : Numbered → ℕ → Bool → ℕ → TailHeld
held pages seen torn stored = record {
  numbers = record { from = pages.from; end = pages.from + length pages.items; seen = seen; torn = torn; stored = stored };
  items = pages.items;
}

-- the elements have the numbers from `from` up to and without `end`
abbrev pub IsNumbered : TailHeld → Type 0
IsNumbered tail = tail.numbers.from + length tail.items ≡ tail.numbers.end

abbrev pub empty : TailHeld
empty = record { numbers = new_tail; items = [] }

abbrev pub added : TailHeld → Element → TailHeld
added tail x = record { numbers = appended tail.numbers; items = tail.items ++ x ∷ [] }

-- the element of number n is offered: it is added where n is the next number
abbrev pub written : TailHeld → ℕ → Element → TailHeld
written tail n x = if tail.numbers.end == n then added tail x else tail

abbrev pub noted : TailHeld → ℕ → TailHeld
noted tail dur = record tail { numbers = told tail.numbers dur }

-- the elements below number m are dropped
abbrev pub trimmed : TailHeld → ℕ → TailHeld
trimmed tail m = let numbers = dropped_below tail.numbers m in
    record { numbers = numbers; items = drop (numbers.from - tail.numbers.from) tail.items }

-- all elements are dropped, and the next has number m
abbrev pub begun_at : TailHeld → ℕ → TailHeld
begun_at tail m = record { numbers = restarted tail.numbers m; items = [] }

-- at most so many elements, from the first that isn't told to be stored
abbrev pub batch_items : TailHeld → ℕ → List Element
batch_items tail most = take most (drop (batch_from tail.numbers - tail.numbers.from) tail.items)

-- so many elements of a list from number n on
abbrev pub part : ℕ → ℕ → List Element → List Element
part n count list = take count (drop n list)

-- the tail is one of the stream that has this list, of which at most so many elements may be made
pub record Stands (list : List Element) (most : ℕ) (tail : TailHeld) : Type 0 where
  pub numbered : IsNumbered tail
  pub items : tail.items ≡ part tail.numbers.from (length tail.items) list
  pub end : tail.numbers.end ≤ length list
  pub seen : tail.numbers.seen ≤ length list
  pub end_within : tail.numbers.end ≤ most
  pub seen_within : tail.numbers.seen ≤ most
