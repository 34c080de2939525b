-- The 104 numbers by which a pass keeps a record of a part. A place that isn't named is 0.
use Rattle.std.specs.Prelude.{ℕ, ◌+◌, Bool, if◌then◌else◌, List, [], ◌∷◌, length, map, replicate, slice_set}
use Rattle.std.specs.Prelude.{Option, is_some}
use Rattle.std.specs.Option.{option_map_or}
use Rattle.std.specs.List.{list_all}
use Rattle.ss_state.specs.LowWater.{low}
use Rattle.ss_state.specs.Numbers.{JobNumbers, VertexNumbers, vertex, vertices}
use Rattle.ss_state.specs.State.{InstNumbers, LedgerRow, TailNumbers, row_at}
use Rattle.ss_vault.specs.Sound.{takes_no_more}
use Rattle.ss_vault.specs.Told.{VaultTold, counts_of, numbers_of}
use Rattle.ss_water.specs.Graph.{is_sink}

abbrev pub blank : List ℕ
blank = replicate 104 0

-- 1 for true
abbrev pub one_for : Bool → ℕ
one_for b = if b then 1 else 0

-- of a tail: from, end, seen, whether it is torn, stored
abbrev pub tail_row : TailNumbers → List ℕ
tail_row t =
    slice_set (slice_set (slice_set (slice_set (slice_set blank 0 t.from) 1 t.end) 2 t.seen) 3 (one_for t.torn)) 4
    t.stored

-- of a replica: 1, n, left and the newest snapshot that it knows of; or 0, 0, 0 and that one where it is down
abbrev pub inst_row : Option InstNumbers → ℕ → List ℕ
inst_row inst last =
    slice_set
    (slice_set (slice_set (slice_set blank 0 (one_for (is_some inst))) 1 (option_map_or (λ up. up.n) inst 0)) 2
    (option_map_or (λ up. up.left) inst 0))
    3 last

-- three numbers
pub record Three : Type 0 where
  pub first : ℕ
  pub second : ℕ
  pub third : ℕ

-- what is stored of a vertex: of a stream base, dur, and low or mark; of a sink how many lines it has put
abbrev pub stored_row : VertexNumbers → LedgerRow → Three
stored_row x row =
    if is_sink x.kind then record { first = row.taken; second = 0; third = 0 }
    else record { first = row.base; second = row.dur; third = low x row }

-- three numbers in the places from `at` on
abbrev pub put_three : List ℕ → ℕ → Three → List ℕ
put_three xs place r = slice_set (slice_set (slice_set xs place r.first) (place + 1) r.second) (place + 2) r.third

abbrev pub put_all : List ℕ → ℕ → List Three → List ℕ
put_all xs place [] = xs
put_all xs place (r ∷ rs) = put_all (put_three xs place r) (place + 3) rs

-- whether every sink has put its whole stream
abbrev pub have_ended : JobNumbers → VaultTold → Bool
have_ended job s = list_all (takes_no_more job (numbers_of s).ledger) (vertices job)

-- what is stored of the first so many vertices
abbrev pub stored_rows : JobNumbers → VaultTold → List ℕ → List Three
stored_rows job s vs = map (λ v. stored_row (vertex job v) (row_at (numbers_of s).ledger v)) vs

-- of the vault: the entries of its journal, since, whether it is halted, whether every sink has ended, the depot's
-- faults and its short answers, the outputs' faults
abbrev pub vault_head : JobNumbers → VaultTold → List ℕ
vault_head job s =
    slice_set
    (slice_set
    (slice_set
    (slice_set
    (slice_set
    (slice_set (slice_set blank 0 (length (numbers_of s).journal)) 1 (numbers_of s).ledger.since)
    2 (one_for (is_some s.halted)))
    3 (one_for (have_ended job s)))
    4 (counts_of s).faults)
    5 (counts_of s).shorts)
    6 (counts_of s).output_faults

-- and from place 8 on what is stored of each vertex
abbrev pub vault_row : JobNumbers → VaultTold → List ℕ
vault_row job s = put_all (vault_head job s) 8 (stored_rows job s (vertices job))
