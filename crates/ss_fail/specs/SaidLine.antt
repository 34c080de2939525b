-- A line of the reader, as it is told of.
use Rattle.std.specs.Prelude.{ℕ, ◌+◌, nat_lt, List, [], length, map, slice_index_or, if◌then◌else◌}
use Rattle.std.specs.Str.Lines.{strip_carriage_return}
use Rattle.ss_fail.specs.declared.line.Line.{Line}
use Rattle.ss_fail.specs.Lines.{LineWords}

abbrev pub said : Line → LineWords
said line = record { number = line.number; words = map (λ word. word.now) line.words.items }

-- the line of the part at this place, of parts between newlines: only a part before a newline loses a carriage return
abbrev pub line_in : List (List ℕ) → ℕ → List ℕ
line_in parts place = let part = slice_index_or parts place [] in
    if nat_lt (place + 1) (length parts) then strip_carriage_return part else part
