-- From where each vertex would be recovered, and which elements that needs.
use Rattle.std.specs.Prelude.{ℕ, zero, suc, ◌-◌, min, max, ◌==◌, nat_le, Bool, if◌then◌else◌, List, [], ◌∷◌, length}
use Rattle.std.specs.Prelude.{map, filter, flat_map}
use Rattle.std.specs.List.{range_with_len}
use Rattle.ss_water.specs.declared.node.Kind.{Kind}
use Rattle.ss_water.specs.declared.node.Kind.TheVariants.{Source, Inner, Sink}
use Rattle.ss_state.specs.Numbers.{VertexNumbers, JobNumbers, is_inner, vertex, vertices, input, pos, out}
use Rattle.ss_state.specs.State.{LedgerRow, Ledger, row_at}

-- the greatest of the numbers that pass a test, 0 where none does
abbrev pub greatest_where : (ℕ → Bool) → List ℕ → ℕ
greatest_where test [] = 0
greatest_where test (n ∷ ns) = max (if test n then n else 0) (greatest_where test ns)

-- the least of some numbers, 0 where there are none
abbrev pub least_of : List ℕ → ℕ
least_of [] = 0
least_of (n ∷ []) = n
least_of (n ∷ m ∷ ns) = min n (least_of (m ∷ ns))

-- the greatest of these snapshots that has given no element past the first `limit`
unfoldable pub snap_within : VertexNumbers → List ℕ → ℕ → ℕ
snap_within x snaps limit = greatest_where (λ n. nat_le (out x n) limit) snaps

-- the low-water mark: of an operator the snapshot from which it would be recovered now, of a source its mark
unfoldable pub low : VertexNumbers → LedgerRow → ℕ
low x row = if is_inner x.kind then snap_within x row.snaps row.dur else row.mark

-- the low-water mark of vertex v
abbrev pub low_at : JobNumbers → Ledger → ℕ → ℕ
low_at job l v = low (vertex job v) (row_at l v)

-- how many lines sink k has put
abbrev pub taken_at : Ledger → ℕ → ℕ
taken_at l k = (row_at l k).taken

-- the inputs by which a vertex reads vertex u
abbrev pub inputs_from : VertexNumbers → ℕ → List ℕ
inputs_from x u = filter (λ i. input x i == u) (range_with_len 0 (length x.inputs))

-- the first numbers that a vertex wants of u, an operator from n on and a sink that has taken so many
abbrev pub reader_wants : Kind → VertexNumbers → ℕ → ℕ → ℕ → List ℕ
reader_wants Source x u n taken = []
reader_wants Inner x u n taken = map (pos x n) (inputs_from x u)
reader_wants Sink x u n taken = map (λ i. taken) (inputs_from x u)

-- the first numbers that any vertex wants of u, where each operator starts so and each sink has taken so many
abbrev pub all_wanted : JobNumbers → (ℕ → ℕ) → (ℕ → ℕ) → ℕ → List ℕ
all_wanted job start taken u =
    flat_map (λ w. reader_wants (vertex job w).kind (vertex job w) u (start w) (taken w)) (vertices job)

-- the least of them: elements of u below it are wanted by none
unfoldable pub least_wanted : JobNumbers → (ℕ → ℕ) → (ℕ → ℕ) → ℕ → ℕ
least_wanted job start taken u = least_of (all_wanted job start taken u)

-- what is needed of u where each operator starts from its low-water mark
unfoldable pub need : JobNumbers → Ledger → ℕ → ℕ
need job l u = least_wanted job (low_at job l) (taken_at l) u

-- where a vertex starts of whose stream so much is required: what it has stored needn't be made again
unfoldable pub start_at : VertexNumbers → LedgerRow → ℕ → ℕ
start_at x row required =
    if is_inner x.kind then snap_within x row.snaps (max row.dur required) else max row.dur required

-- the starts of the last k vertices, from the last one back
abbrev pub start_of_last : JobNumbers → Ledger → ℕ → ℕ → ℕ
start_of_last job l zero v = 0
start_of_last job l (suc k) v =
    if v == length job.vertices - suc k
    then start_at (vertex job v) (row_at l v) (least_wanted job (start_of_last job l k) (taken_at l) v)
    else start_of_last job l k v

-- from where vertex v would start if every tail and every replica were lost
unfoldable pub start : JobNumbers → Ledger → ℕ → ℕ
start job l v = start_of_last job l (length job.vertices) v

-- the first element of v that is required where every vertex starts so
unfoldable pub required : JobNumbers → Ledger → ℕ → ℕ
required job l v = least_wanted job (start job l) (taken_at l) v
