-- What bytes say as the image of a window, and which tests they have to pass.
use Rattle.std.specs.Prelude.{ℕ, zero, suc, ◌+◌, ◌-◌, ◌*◌, ◌%◌, ◌^◌, ◌==◌, nat_lt, nat_le, Bool, true, ◌&&◌}
use Rattle.std.specs.Prelude.{if◌then◌else◌, ℤ, pos, neg_ℤ, int_le, List, [], ◌∷◌, length, slice_get, take, drop}
use Rattle.std.specs.Prelude.{Option, Some, None}
use Rattle.std.specs.Prelude.{Result, Ok, Err}
use Rattle.std.specs.Int.{w128, cast_signed}
use Rattle.std.specs.Option.{option_and_then, option_map_or}
use Rattle.ss_elem.specs.Validity.{top}
use Rattle.ss_expr.specs.declared.stream_operator.Agg.{Agg}
use Rattle.ss_expr.specs.declared.stream_operator.Agg.TheVariants.{Sum, Least, Greatest}
use Rattle.ss_meaning.specs.Entries.{WindowEntry}
use Rattle.ss_meaning.specs.EntryLists.{is_before}
use Rattle.ss_image.specs.Numbers.{number_at, key_in}

-- the entry with this key that the first 48 bytes say
abbrev pub entry_in : ℕ → List ℕ → WindowEntry
entry_in key bytes = record {
  end = number_at 8 0 bytes;
  key = key;
  value = cast_signed w128 (number_at 16 24 bytes);
  rows = number_at 8 40 bytes;
}

-- a window that is not closed at Low may end there
abbrev pub is_open_end : ℕ → ℕ → ℕ → Bool
is_open_end hop low w = nat_lt low w && nat_lt w top && w % hop == 0

-- so many rows may be counted
abbrev pub is_count : ℕ → Bool
is_count rows = nat_lt 0 rows && nat_le rows (2 ^ 62)

-- how many values make the aggregate of so many rows: all of them a sum, one of them the least or the greatest
abbrev pub summands : Agg → ℕ → ℕ
summands Sum rows = rows
summands Least rows = 1
summands Greatest rows = 1

-- so many values of 64 bits may have this sum
abbrev pub is_sum_of : ℕ → ℤ → Bool
is_sum_of count value = int_le (neg_ℤ (pos (count * 2 ^ 63))) value && int_le value (pos (count * (2 ^ 63 - 1)))

-- the entry passes the tests of its own numbers
abbrev pub is_entry : ℕ → Agg → ℕ → WindowEntry → Bool
is_entry hop agg low e =
    is_open_end hop low e.end && (is_count e.rows && is_sum_of (summands agg e.rows) e.value)

-- the last of some entries, where there is one
abbrev pub last : List WindowEntry → Option WindowEntry
last es = slice_get es (length es - 1)

-- the entry stands behind the one before it, where there is one
abbrev pub follows : Option WindowEntry → WindowEntry → Bool
follows None e = true
follows (Some previous) e = is_before e.end e.key previous

-- the entry that the first 48 bytes say, where it passes each test
unfoldable pub entry_read : ℕ → Agg → ℕ → Option WindowEntry → List ℕ → Option WindowEntry
entry_read hop agg low previous bytes =
    option_and_then
    (λ key. let e = entry_in key bytes in if is_entry hop agg low e && follows previous e then Some e else None)
    (key_in (take 16 (drop 8 bytes)))

-- an entry in front of the others, where they are read
abbrev pub with_first : WindowEntry → Result (List WindowEntry) ℕ → Result (List WindowEntry) ℕ
with_first e (Ok es) = Ok (e ∷ es)
with_first e (Err at) = Err at

-- so many entries, of which the first begins these bytes and stands at that place, or the place of the first at fault
unfoldable pub entries_read : ℕ → Agg → ℕ → ℕ → ℕ → Option WindowEntry → List ℕ → Result (List WindowEntry) ℕ
entries_read hop agg low zero at previous bytes = Ok []
entries_read hop agg low (suc count) at previous bytes =
    option_map_or (λ e. with_first e (entries_read hop agg low count (at + 48) (Some e) (drop 48 bytes)))
    (entry_read hop agg low previous bytes) (Err at)

-- there are as many bytes as the count in front says
abbrev pub has_whole_entries : List ℕ → Bool
has_whole_entries bytes = nat_le 4 (length bytes) && length bytes == 4 + 48 * number_at 4 0 bytes

-- the entries that the bytes say as an image, or the place of the first fault: the length is tested first
abbrev pub image_read : ℕ → Agg → ℕ → List ℕ → Result (List WindowEntry) ℕ
image_read hop agg low bytes =
    if has_whole_entries bytes then entries_read hop agg low (number_at 4 0 bytes) 4 None (drop 4 bytes) else Err 0
