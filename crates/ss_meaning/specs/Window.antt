-- What a hopping window gives.
use Rattle.std.specs.Prelude.{ℕ, zero, suc, ◌+◌, ◌-◌, ◌*◌, ◌/◌, ◌==◌, nat_lt, nat_le, Bool, ◌&&◌, if◌then◌else◌, ℤ}
use Rattle.std.specs.Prelude.{pos, ◌+ℤ◌, List, [], ◌∷◌, length, map, filter, flat_map, fold}
use Rattle.std.specs.Int.{int_min, int_max, saturate_to_bits}
use Rattle.ss_elem.specs.declared.element.Event.{Event}

-- a window of this size ends at each multiple of hop; of its rows it aggregates a field
pub record Window : Type 0 where
  pub size : ℕ
  pub hop : ℕ
  pub aggregate : List ℤ → ℤ
  pub field : Event → ℤ

-- the sum, exact
abbrev pub total : List ℤ → ℤ
total [] = pos 0
total (x ∷ xs) = x +ℤ total xs

-- the least; a window without rows isn't given, so what stands for no numbers is never seen
abbrev pub least : List ℤ → ℤ
least [] = pos 0
least (x ∷ xs) = fold int_min x xs

-- the greatest
abbrev pub greatest : List ℤ → ℤ
greatest [] = pos 0
greatest (x ∷ xs) = fold int_max x xs

-- the nearest number from -2^63 to 2^63 - 1
abbrev pub clamped : ℤ → ℤ
clamped x = saturate_to_bits 63 x

-- whether a row belongs to the window that ends at w
abbrev pub belongs : Window → ℕ → Event → Bool
belongs window w row = nat_lt row.start w && nat_le w (row.start + window.size)

-- the rows with this key that belong to the window that ends at w
abbrev pub window_members : Window → List Event → ℕ → ℕ → List Event
window_members window rows w key = filter (λ row. belongs window w row && row.key == key) rows

-- count multiples of hop, from the one with this number on
abbrev pub multiples : ℕ → ℕ → ℕ → List ℕ
multiples hop number zero = []
multiples hop number (suc count) = hop * number ∷ multiples hop (number + 1) count

-- the ends of the windows to which a row belongs: the multiples of hop above start, up to start + size
abbrev pub ends_of : Window → Event → List ℕ
ends_of window row =
    let number = row.start / window.hop in
    multiples window.hop (number + 1) ((row.start + window.size) / window.hop - number)

-- a number put in its place among rising ones, unless it is there
abbrev pub put_once : ℕ → List ℕ → List ℕ
put_once n [] = n ∷ []
put_once n (m ∷ ms) = if nat_lt n m then n ∷ m ∷ ms else (if n == m then m ∷ ms else m ∷ put_once n ms)

-- the numbers in rising order, each once
abbrev pub rising : List ℕ → List ℕ
rising [] = []
rising (n ∷ ns) = put_once n (rising ns)

-- the ends above one bound and up to another of the windows that have a row, in rising order
abbrev pub window_ends : Window → List Event → ℕ → ℕ → List ℕ
window_ends window rows before after =
    rising (filter (λ w. nat_lt before w && nat_le w after) (flat_map (ends_of window) rows))

-- the keys of the window that ends at w, in rising order
abbrev pub window_keys : Window → List Event → ℕ → List ℕ
window_keys window rows w = rising (map (λ row. row.key) (filter (belongs window w) rows))

-- what the window that ends at w gives for a key: the aggregate, exact and then clamped, and the count, and no more
abbrev pub window_row : Window → List Event → ℕ → ℕ → Event
window_row window rows w key =
    let counted = window_members window rows w key in
    let value = clamped (window.aggregate (map window.field counted)) in
    record { start = w; end = w + window.hop; key = key; a = value; b = pos (length counted); c = pos 0; d = pos 0 }

-- what is given where the bound rises, of all rows so far: window after window, and in each key after key
abbrev pub window_rows : Window → List Event → ℕ → ℕ → List Event
window_rows window rows before after =
    flat_map (λ w. map (window_row window rows w) (window_keys window rows w)) (window_ends window rows before after)
