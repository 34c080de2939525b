-- The text of a generated event file.
use Rattle.std.specs.Prelude.{ℕ, zero, suc, ◌+◌, ◌-◌, ◌*◌, ◌%◌, ◌==◌, nat_lt, List, [], ◌++◌, codes, if◌then◌else◌}
use Rattle.std.specs.Fmt.{decimal}
use Rattle.ss_gen.specs.Draws.{draw}

-- n - 500
abbrev pub less_500 : ℕ → List ℕ
less_500 n = if nat_lt n 500 then codes "-" ++ decimal (500 - n) else decimal (n - 500)

-- what is drawn of a row
pub record Drawn : Type 0 where
  pub start : ℕ
  pub end : ℕ
  pub key : ℕ
  -- the first value and 500
  pub first : ℕ
  pub second : ℕ

-- the five draws of row i
abbrev pub drawn_of : ℕ → ℕ → Drawn
drawn_of seed i = let start = 8 * i + draw seed (5 * i) 8 in record {
  start = start;
  end = start + 1 + draw seed (5 * i + 1) 64;
  key = draw seed (5 * i + 2) 50;
  first = draw seed (5 * i + 3) 1000;
  second = draw seed (5 * i + 4) 10;
}

-- the line of what is drawn of a row
abbrev pub row_text : Drawn → List ℕ
row_text row =
    codes "event," ++ decimal row.start ++ codes "," ++ decimal row.end ++ codes ",k" ++ decimal row.key ++ codes ","
    ++ less_500 row.first ++ codes "," ++ decimal row.second ++ codes "\n"

-- behind each hundredth row, a line says that no later row begins before this
abbrev pub cti_text : ℕ → List ℕ
cti_text i = if i % 100 == 99 then codes "cti," ++ decimal (8 * (i + 1)) ++ codes "\n" else []

-- the lines of so many rows
unfoldable pub rows_text : ℕ → ℕ → List ℕ
rows_text seed zero = []
rows_text seed (suc i) = rows_text seed i ++ row_text (drawn_of seed i) ++ cti_text i

-- the whole file
abbrev pub events_text : ℕ → List ℕ
events_text seed = codes "kind,start,end,key,a,b\n" ++ rows_text seed 20000
