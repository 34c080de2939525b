-- The fields of a row, each read as what it is to be.
use Rattle.std.specs.Prelude.{ℕ, ℤ, pos, ◌==◌, ◌&&◌, nat_le, Bool, true, false, List, length, drop, Option, Some}
use Rattle.std.specs.Prelude.{None, Result, Ok, Err, if◌then◌else◌}
use Rattle.std.specs.List.{list_all}
use Rattle.std.specs.Option.{option_and_then}
use Rattle.std.specs.Str.{bytes_eq}
use Rattle.csv.specs.Records.{field_at}
use Rattle.ss_elem.specs.Key.{key_of}
use Rattle.ss_events.specs.Numbers.{time_of, value_of}
use Rattle.ss_events.specs.declared.fault.EventWhy.{EventWhy}
use Rattle.ss_events.specs.declared.fault.EventWhy.TheVariants.{BadCount, BadKey, BadNumber}

-- the value, or this fault where there is none
abbrev pub or_fault : {A : Type 0} → EventWhy → Option A → Result A EventWhy
or_fault why None = Err why
or_fault why (Some x) = Ok x

-- nothing, or this fault where the test fails
abbrev pub check : EventWhy → Bool → Result (Unit {0}) EventWhy
check why true = Ok tt
check why false = Err why

-- whether a field is there and has this text
abbrev pub is_text : List ℕ → Option (List ℕ) → Bool
is_text text None = false
is_text text (Some field) = bytes_eq field text

-- whether the field at this place has this text
abbrev pub has_text : ℕ → List ℕ → List (List ℕ) → Bool
has_text place text fields = is_text text (field_at fields place)

-- whether a field has no byte
abbrev pub is_empty : List ℕ → Bool
is_empty field = length field == 0

-- whether a field is missing or has no byte
abbrev pub is_none_or_empty : Option (List ℕ) → Bool
is_none_or_empty None = true
is_none_or_empty (Some field) = is_empty field

-- whether the field at this place is missing or empty
abbrev pub is_blank : ℕ → List (List ℕ) → Bool
is_blank place fields = is_none_or_empty (field_at fields place)

-- the row has at least so many fields, and at most eight
abbrev pub has_count : ℕ → List (List ℕ) → Result (Unit {0}) EventWhy
has_count least fields = check BadCount (nat_le least (length fields) && nat_le (length fields) 8)

-- all fields from this place on are empty
abbrev pub is_padding : ℕ → List (List ℕ) → Result (Unit {0}) EventWhy
is_padding first fields = check BadCount (list_all is_empty (drop first fields))

-- the time in the field at this place
abbrev pub time_at : ℕ → List (List ℕ) → Result ℕ EventWhy
time_at place fields = or_fault BadNumber (option_and_then time_of (field_at fields place))

-- the value in the field at this place
abbrev pub value_at : ℕ → List (List ℕ) → Result ℤ EventWhy
value_at place fields = or_fault BadNumber (option_and_then value_of (field_at fields place))

-- the same, but 0 where the field is missing or empty
abbrev pub value_or_zero_at : ℕ → List (List ℕ) → Result ℤ EventWhy
value_or_zero_at place fields = if is_blank place fields then Ok (pos 0) else value_at place fields

-- the key in the field at this place, as its number
abbrev pub key_at : ℕ → List (List ℕ) → Result ℕ EventWhy
key_at place fields = or_fault BadKey (option_and_then key_of (field_at fields place))
