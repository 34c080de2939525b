-- What a row gives, or the first thing that is wrong with it.
use Rattle.std.specs.Prelude.{ℕ, ◌==◌, ◌&&◌, ◌||◌, not, nat_lt, Bool, List, length, Option, Some, None, Result, Ok}
use Rattle.std.specs.Prelude.{Err, codes, if◌then◌else◌}
use Rattle.ss_elem.specs.Validity.{top}
use Rattle.ss_elem.specs.declared.element.Element.{Element}
use Rattle.ss_elem.specs.declared.element.Element.TheVariants as element
use Rattle.ss_elem.specs.declared.element.Event.{Event}
use Rattle.ss_events.specs.Fields.{check, has_count, has_text, is_padding, key_at, time_at, value_at, value_or_zero_at}
use Rattle.ss_events.specs.declared.fault.EventWhy.{EventWhy}
use Rattle.ss_events.specs.declared.fault.EventWhy.TheVariants.{AfterEnd, BackwardCti, BadKind, EarlyEvent, EmptySpan}
use Rattle.ss_events.specs.declared.late.Late.{Late}
use Rattle.ss_events.specs.declared.late.Late.TheVariants.{Drop, Refuse}
use Rattle.ss_events.specs.declared.row.RowKind.{RowKind}
use Rattle.ss_events.specs.declared.row.RowKind.TheVariants as kind

-- the first fault of two steps in turn
infixl 10 ◌>>=◌
abbrev pub ◌>>=◌ : {A B E : Type 0} → Result A E → (A → Result B E) → Result B E
(Ok x) >>= f = f x
(Err e) >>= f = Err e

infixl 10 ◌>>◌
abbrev pub ◌>>◌ : {A B E : Type 0} → Result A E → Result B E → Result B E
first >> next = first >>= (λ _. next)

-- what a row gives: its element, where it has one, and the bound after it
abbrev pub Given : Type 0
Given = Option Element × ℕ

-- an event that starts before the bound: a fault, or nothing
abbrev pub late_given : Late → ℕ → Event → Result Given EventWhy
late_given Refuse bound event = Err (EarlyEvent event.start bound)
late_given Drop bound event = Ok (None, bound)

-- an event behind rows with this bound
abbrev pub event_given : Late → ℕ → Event → Result Given EventWhy
event_given late bound event =
    if not (nat_lt event.start event.end) then Err EmptySpan
    else (if nat_lt event.start bound then late_given late bound event else Ok (Some (element.Row event), bound))

-- a cti with this time: nothing new where the time is the bound
abbrev pub cti_given : ℕ → ℕ → Result Given EventWhy
cti_given bound time =
    if nat_lt time bound then Err (BackwardCti time bound)
    else (if time == bound then Ok (None, bound) else Ok (Some (element.Cti time), time))

-- event,START,END,KEY,A,B,C,D, with each of B, C and D missing or empty for 0
unfoldable pub event_of : List (List ℕ) → Result Event EventWhy
event_of fields = do
  has_count 5 fields
  start ← time_at 1 fields
  end ← time_at 2 fields
  key ← key_at 3 fields
  a ← value_at 4 fields
  b ← value_or_zero_at 5 fields
  c ← value_or_zero_at 6 fields
  d ← value_or_zero_at 7 fields
  Ok (record { start = start; end = end; key = key; a = a; b = b; c = c; d = d })

-- a row of an event
unfoldable pub event_row : Late → ℕ → List (List ℕ) → Result Given EventWhy
event_row late bound fields = do
  event ← event_of fields
  event_given late bound event

-- cti,T, and empty fields behind
unfoldable pub cti_row : ℕ → List (List ℕ) → Result Given EventWhy
cti_row bound fields = do
  has_count 2 fields
  is_padding 2 fields
  time ← time_at 1 fields
  cti_given bound time

-- end, and empty fields behind
unfoldable pub end_row : List (List ℕ) → Result Given EventWhy
end_row fields = do
  has_count 1 fields
  is_padding 1 fields
  Ok (Some element.End, top)

-- what the first field says
abbrev pub kind_of : List (List ℕ) → Result RowKind EventWhy
kind_of fields =
    if has_text 0 (codes "event") fields then Ok kind.Event
    else (if has_text 0 (codes "cti") fields then Ok kind.Cti
    else (if has_text 0 (codes "end") fields then Ok kind.End else Err BadKind))

-- a row of this kind
abbrev pub row_by : RowKind → Late → ℕ → List (List ℕ) → Result Given EventWhy
row_by kind.Event late bound fields = event_row late bound fields
row_by kind.Cti late bound fields = cti_row bound fields
row_by kind.End late bound fields = end_row fields

-- a row that isn't the header, behind rows with this bound
unfoldable pub row_after : Late → ℕ → List (List ℕ) → Result Given EventWhy
row_after late bound fields = do
  check AfterEnd (not (bound == top))
  named ← kind_of fields
  row_by named late bound fields

-- behind a of a header: nothing, or b, or b,c, or b,c,d
abbrev pub has_last_names : List (List ℕ) → Bool
has_last_names fields =
    length fields == 5
    || (length fields == 6 && has_text 5 (codes "b") fields)
    || (length fields == 7 && has_text 5 (codes "b") fields && has_text 6 (codes "c") fields)
    || (length fields == 8 && has_text 5 (codes "b") fields && has_text 6 (codes "c") fields
    && has_text 7 (codes "d") fields)

-- kind,start,end,key,a,b,c,d or the same without the last, the last two or the last three
abbrev pub is_header : List (List ℕ) → Bool
is_header fields =
    has_text 0 (codes "kind") fields && has_text 1 (codes "start") fields && has_text 2 (codes "end") fields
    && has_text 3 (codes "key") fields && has_text 4 (codes "a") fields && has_last_names fields

-- the row with this number, which may be the header where it is the first
abbrev pub row_given : Late → ℕ → ℕ → List (List ℕ) → Result Given EventWhy
row_given late number bound fields =
    if number == 1 && is_header fields then Ok (None, bound) else row_after late bound fields
