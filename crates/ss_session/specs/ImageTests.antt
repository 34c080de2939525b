-- What bytes say as the image of a session window, and which tests they have to pass.
use Rattle.std.specs.Prelude.{ℕ, zero, suc, ◌+◌, ◌-◌, ◌*◌, ◌^◌, ◌==◌, nat_lt, nat_le, Bool, true, ◌&&◌}
use Rattle.std.specs.Prelude.{if◌then◌else◌, ℤ, pos, neg_ℤ, int_le, List, [], ◌∷◌, length, take, drop}
use Rattle.std.specs.Prelude.{Option, Some, None}
use Rattle.std.specs.Prelude.{Result, Ok, Err}
use Rattle.std.specs.Int.{w128, cast_signed}
use Rattle.std.specs.Option.{option_and_then, option_map_or}
use Rattle.ss_expr.specs.declared.stream_operator.Agg.{Agg}
use Rattle.ss_expr.specs.declared.stream_operator.Agg.TheVariants.{Sum, Least, Greatest}
use Rattle.ss_meaning.specs.Session.{SessionEntry, closing}
use Rattle.ss_meaning.specs.SessionLists.{is_apart}
use Rattle.ss_image.specs.Numbers.{number_at, key_in}

-- the session with this key that the first 56 bytes say
abbrev pub session_in : ℕ → List ℕ → SessionEntry
session_in key bytes = record {
  key = key;
  first = number_at 8 16 bytes;
  last = number_at 8 24 bytes;
  value = cast_signed w128 (number_at 16 32 bytes);
  rows = number_at 8 48 bytes;
}

-- a session that isn't closed at Low may have these starts
abbrev pub is_open_span : ℕ → ℕ → SessionEntry → Bool
is_open_span gap low s =
    nat_le s.first s.last && (nat_lt s.last (2 ^ 62 + 2 ^ 60) && nat_lt low (closing gap s))

-- so many rows may be counted
abbrev pub is_count : ℕ → Bool
is_count rows = nat_lt 0 rows && nat_le rows (2 ^ 62)

-- how many values make the aggregate of so many rows: all of them a sum, one of them the least or the greatest
abbrev pub summands : Agg → ℕ → ℕ
summands Sum rows = rows
summands Least rows = 1
summands Greatest rows = 1

-- so many values of 64 bits may have this sum
abbrev pub is_sum_of : ℕ → ℤ → Bool
is_sum_of count value = int_le (neg_ℤ (pos (count * 2 ^ 63))) value && int_le value (pos (count * (2 ^ 63 - 1)))

-- the session passes the tests of its own numbers
abbrev pub is_session : ℕ → Agg → ℕ → SessionEntry → Bool
is_session gap agg low s =
    is_open_span gap low s && (is_count s.rows && is_sum_of (summands agg s.rows) s.value)

-- the session stands behind the one before it, where there is one, and apart from it
abbrev pub follows : ℕ → Option SessionEntry → SessionEntry → Bool
follows gap None s = true
follows gap (Some previous) s = is_apart gap previous s

-- the session that the first 56 bytes say, where it passes each test
unfoldable pub session_read : ℕ → Agg → ℕ → Option SessionEntry → List ℕ → Option SessionEntry
session_read gap agg low previous bytes =
    option_and_then
    (λ key. let s = session_in key bytes in if is_session gap agg low s && follows gap previous s then Some s else None)
    (key_in (take 16 bytes))

-- a session in front of the others, where they are read
abbrev pub with_first : SessionEntry → Result (List SessionEntry) ℕ → Result (List SessionEntry) ℕ
with_first s (Ok es) = Ok (s ∷ es)
with_first s (Err at) = Err at

-- so many sessions, of which the first begins these bytes and stands at that place, or the place of the first at fault
unfoldable pub sessions_read : ℕ → Agg → ℕ → ℕ → ℕ → Option SessionEntry → List ℕ → Result (List SessionEntry) ℕ
sessions_read gap agg low zero at previous bytes = Ok []
sessions_read gap agg low (suc count) at previous bytes =
    option_map_or (λ s. with_first s (sessions_read gap agg low count (at + 56) (Some s) (drop 56 bytes)))
    (session_read gap agg low previous bytes) (Err at)

-- there are as many bytes as the count in front says
abbrev pub has_whole_sessions : List ℕ → Bool
has_whole_sessions bytes = nat_le 4 (length bytes) && length bytes == 4 + 56 * number_at 4 0 bytes

-- the sessions that the bytes say as an image, or the place of the first fault: the length is tested first
abbrev pub image_read : ℕ → Agg → ℕ → List ℕ → Result (List SessionEntry) ℕ
image_read gap agg low bytes =
    if has_whole_sessions bytes then sessions_read gap agg low (number_at 4 0 bytes) 4 None (drop 4 bytes) else Err 0
