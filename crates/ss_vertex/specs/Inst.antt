-- What an instance of a vertex is at a moment.
use Rattle.std.specs.Prelude.{ℕ, ◌+◌, Bool, List, [], length, drop, Option, Some, None, option_map, is_some, slice_get}
use Rattle.std.specs.Option.{option_and_then, option_map_or}
use Rattle.ss_elem.specs.declared.element.Element.{Element}
use Rattle.ss_meaning.specs.Entries.{entry_count}
use Rattle.ss_merge.specs.Merging.{MergerState}
use Rattle.ss_oper.specs.Standing.{OperState}
use Rattle.ss_state.specs.State.{InstNumbers}

-- how far the merge of the inputs has come, and what the operator remembers
pub record OperatorState : Type 0 where
  pub merger : MergerState
  pub oper : OperState

-- an instance that is up
pub record Running : Type 0 where
  -- how many elements it has accepted
  pub n : ℕ
  -- the number that the first output left has in the vertex's stream; where none is left, that of the next one given
  pub next : ℕ
  -- the outputs that it has made and that are not done with, in their order
  pub left : List Element
  -- of an operator where it stands; a source has none
  pub operator : Option OperatorState

pub record InstState : Type 0 where
  -- the number of the vertex
  pub v : ℕ
  -- of a source, how long its list is
  pub list : Option ℕ
  -- None where it is down
  pub running : Option Running

abbrev pub is_up : InstState → Bool
is_up inst = is_some inst.running

-- the numbers of an instance that is down are 0
abbrev pub n_of : InstState → ℕ
n_of inst = option_map_or (λ up. up.n) inst.running 0

abbrev pub next_of : InstState → ℕ
next_of inst = option_map_or (λ up. up.next) inst.running 0

abbrev pub left_of : InstState → ℕ
left_of inst = option_map_or (λ up. length up.left) inst.running 0

-- how many entries its operator remembers
abbrev pub held_running : Option Running → ℕ
held_running running =
    option_map_or (λ operator. entry_count operator.oper.entries) (option_and_then (λ up. up.operator) running) 0

abbrev pub held_of : InstState → ℕ
held_of inst = held_running inst.running

-- the instance as the numbers that the acts of a run speak of
abbrev pub running_numbers : Running → InstNumbers
running_numbers up = record { n = up.n; left = length up.left }

abbrev pub inst_numbers : InstState → Option InstNumbers
inst_numbers inst = option_map running_numbers inst.running

-- the first output left, with its number
abbrev pub first_of : Running → Option (ℕ × Element)
first_of up = option_map (λ x. (up.next, x)) (slice_get up.left 0)

abbrev pub first_left : InstState → Option (ℕ × Element)
first_left inst = option_and_then first_of inst.running

-- the instance when the first output left is done with
abbrev pub one_done : Running → Running
one_done up = record up { next = up.next + 1; left = drop 1 up.left }

abbrev pub with_one_done : InstState → InstState
with_one_done inst = record inst { running = option_map one_done inst.running }

-- the instance when it has crashed: nothing of what it had is left
abbrev pub crashed : InstState → InstState
crashed inst = record inst { running = None }

-- the instance of a source that goes on behind the first n elements of its list
abbrev pub listed_from : ℕ → Running
listed_from n = record { n = n; next = n; left = []; operator = None }

abbrev pub loaded_at : InstState → ℕ → InstState
loaded_at inst n = record inst { running = Some (listed_from n) }
