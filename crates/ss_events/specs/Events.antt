-- The list of an event file, or its first fault.
use Rattle.std.specs.Prelude.{◌≡◌, ℕ, ◌+◌, ◌^◌, ◌<◌, ◌==◌, nat_lt, List, [], ◌∷◌, ◌++◌, Result, Ok, Err, if◌then◌else◌}
use Rattle.std.specs.List.{AllByRecursion}
use Rattle.std.specs.Option.{option_to_list}
use Rattle.ss_elem.specs.Validity.{top}
use Rattle.ss_elem.specs.declared.element.Element.{Element}
use Rattle.ss_elem.specs.declared.element.Element.TheVariants.{Row, Cti, End}
use Rattle.ss_events.specs.Records.{records_of}
use Rattle.ss_events.specs.Rows.{◌>>=◌, Given, row_given}
use Rattle.ss_events.specs.declared.fault.EventFault.{EventFault}
use Rattle.ss_events.specs.declared.fault.EventWhy.{EventWhy}
use Rattle.ss_events.specs.declared.fault.EventWhy.TheVariants.{TooManyRows}
use Rattle.ss_events.specs.declared.fault.EventsFault.{EventsFault}
use Rattle.ss_events.specs.declared.fault.EventsFault.TheVariants.{At, Memory}
use Rattle.ss_events.specs.declared.late.Late.{Late}

-- how many rows a file may have
abbrev pub most_rows : ℕ
most_rows = 131072

-- what the row with this number gives behind rows with this bound
abbrev pub row_at : Late → ℕ → ℕ → List (List ℕ) → Result Given EventWhy
row_at late number bound fields =
    if nat_lt most_rows number then Err TooManyRows else row_given late number bound fields

-- a row's fault, with the row's number
abbrev pub in_row : {A : Type 0} → ℕ → Result A EventWhy → Result A EventFault
in_row number (Ok x) = Ok x
in_row number (Err why) = Err (record { row = number; why = why })

-- what ends a list whose rows have this bound: nothing where one of them is an end
abbrev pub ending : ℕ → List Element
ending bound = if bound == top then [] else End ∷ []

-- the elements of rows, the first of which has this number and stands behind rows with this bound
unfoldable pub elements_from : Late → List (List (List ℕ)) → ℕ → ℕ → Result (List Element) EventFault
elements_from late [] number bound = Ok (ending bound)
elements_from late (fields ∷ rows) number bound = do
  next ← in_row number (row_at late number bound fields)
  rest ← elements_from late rows (number + 1) next.1
  Ok (option_to_list next.0 ++ rest)

-- the list of a file: its records are the rows, counted from 1
abbrev pub event_list : List ℕ → Late → Result (List Element) EventFault
event_list bytes late = elements_from late (records_of bytes) 1 0

-- what a reader answered, seen by view, is this list or fault, unless memory ran out
abbrev pub AnswersReading : {X Y : Type 0} → (X → Y) → Result X EventsFault → Result Y EventFault → Type 0
AnswersReading view (Ok x) read = read ≡ Ok (view x)
AnswersReading view (Err (At fault)) read = read ≡ Err fault
AnswersReading view (Err Memory) read = Unit {0}

-- every time of the element is one that an event file may have
abbrev pub HasSourceTimes : Element → Type 0
HasSourceTimes (Row event) = (event.start < 2 ^ 62) × (event.end < 2 ^ 62)
HasSourceTimes (Cti time) = time < 2 ^ 62
HasSourceTimes End = Unit {0}

-- every element's times are such
abbrev pub AllSourceTimes : List Element → Type 0
AllSourceTimes xs = AllByRecursion HasSourceTimes xs
