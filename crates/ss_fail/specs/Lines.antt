-- Scripts as lines of words.
use Rattle.std.specs.Prelude.{◌≡◌, ℕ, ◌+◌, ◌||◌, Bool, nat_lt, ◌==◌, List, [], ◌∷◌, ◌++◌, length, filter, slice_index}
use Rattle.std.specs.Prelude.{Option, Some, None, option_to_list, Result, Ok, Err, if◌then◌else◌}
use Rattle.std.specs.Global.{Vec}
use Rattle.std.specs.List.{slice_split}
use Rattle.std.specs.Str.Lines.{lines}
use Rattle.ss_fail.specs.declared.fault.ScriptFault.{ScriptFault}
use Rattle.ss_fail.specs.declared.fault.ScriptWhy.{ScriptWhy}
use Rattle.ss_fail.specs.declared.fault.ScriptsFault.{ScriptsFault}
use Rattle.ss_fail.specs.declared.fault.ScriptsFault.TheVariants as fault

-- a space or a tab
abbrev pub is_blank : ℕ → Bool
is_blank byte = byte == 32 || byte == 9

abbrev pub has_bytes : List ℕ → Bool
has_bytes text = nat_lt 0 (length text)

-- what stands between blanks
abbrev pub words : List ℕ → List (List ℕ)
words line = filter has_bytes (slice_split is_blank line)

-- the first byte is a number sign (35)
abbrev pub is_comment : List ℕ → Bool
is_comment line = slice_index line 0 == 35

-- a line that says something: its number and its words
pub record LineWords : Type 0 where
  pub number : ℕ
  pub words : List (List ℕ)

-- a line without words says nothing, nor does a comment
abbrev pub said_line : ℕ → List ℕ → Option LineWords
said_line number line =
    if length (words line) == 0 || is_comment line then None else Some (record { number = number; words = words line })

-- the lines that say something, of lines of which the first has this number
abbrev pub said_lines : ℕ → List (List ℕ) → List LineWords
said_lines number [] = []
said_lines number (line ∷ others) = option_to_list (said_line number line) ++ said_lines (number + 1) others

-- a line's value before those of the lines behind it; the first fault is that of all
abbrev pub then_values :
    {X : Type 0} → ℕ → Result X ScriptWhy → Result (List X) ScriptFault → Result (List X) ScriptFault
then_values number (Err why) others = Err (record { line = number; why = why })
then_values number (Ok x) (Err refused) = Err refused
then_values number (Ok x) (Ok xs) = Ok (x ∷ xs)

-- the value of each line, as it is read from its words, or the first fault
abbrev pub values_of :
    {X : Type 0} → (List (List ℕ) → Result X ScriptWhy) → List LineWords → Result (List X) ScriptFault
values_of reads [] = Ok []
values_of reads (line ∷ others) = then_values line.number (reads line.words) (values_of reads others)

-- what the bytes of a script say
abbrev pub script_of : {X : Type 0} → (List (List ℕ) → Result X ScriptWhy) → List ℕ → Result (List X) ScriptFault
script_of reads bytes = values_of reads (said_lines 1 (lines bytes))

-- a reader answers what it should, unless memory runs out
abbrev pub GivesScript : {X : Type 0} → Result (Vec X) ScriptsFault → Result (List X) ScriptFault → Type 0
GivesScript (Ok v) read = read ≡ Ok v.items
GivesScript (Err (fault.At refused)) read = read ≡ Err refused
GivesScript (Err fault.Memory) read = Unit {0}
