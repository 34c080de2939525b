-- The loop that reads the inputs of a vertex.
use Rattle.std.proofs.Common.{◌≡◌, ℕ, ◌+◌, ◌<◌, ◌≤◌, List, [], ◌∷◌, ◌++◌, length, drop, get_or, Result, Ok, Err, refl, sym, ap, append_assoc, append-nil}
use Rattle.std.proofs.Common.{drop_of_length-le}
use Rattle.toml.proofs.Views.{items_view-drop}
use Rattle.toml.specs.View.{view, items_view}
use Rattle.toml.specs.declared.value.Value.{Value}
use Rattle.ss_job.specs.Fields.{◌>>=◌}
use Rattle.ss_job.specs.Vertices.{DraftText, input_at, numbers_of}
use Rattle.ss_job.specs.declared.fault.JobWhy.{JobWhy}

-- the inputs that were read, before those that are read from the rest
abbrev pub with_front : List ℕ → Result (List ℕ) JobWhy → Result (List ℕ) JobWhy
with_front front read = read >>= (λ others. Ok (front ++ others))

front_longer : (front : List ℕ) (v : ℕ) (read : Result (List ℕ) JobWhy) → with_front front (read >>= (λ others. Ok (v ∷ others))) ≡ with_front (front ++ v ∷ []) read
front_longer front v (Ok others) = ap Ok (sym (append_assoc front (v ∷ []) others))
front_longer front v (Err why) = refl

-- one input more
pub numbers-more : (draft : DraftText) (front : List ℕ) (values : List Value) (i v : ℕ) (value : Value) → i < length values → get_or values i value ≡ value → Ok v ≡ input_at draft (view value)
    → with_front front (numbers_of draft (items_view (drop i values))) ≡ with_front (front ++ v ∷ []) (numbers_of draft (items_view (drop (i + 1) values)))
unfolding numbers_of
numbers-more draft front values i v value within here read =
    rw (items_view-drop values i value within, here, ← read) (front_longer front v (numbers_of draft (items_view (drop (i + 1) values))))

-- an input that is at fault
pub numbers-stop : (draft : DraftText) (front : List ℕ) (values : List Value) (i : ℕ) (why : JobWhy) (value : Value) → i < length values → get_or values i value ≡ value → Err why ≡ input_at draft (view value)
    → with_front front (numbers_of draft (items_view (drop i values))) ≡ Err why
unfolding numbers_of
numbers-stop draft front values i why value within here read = rw (items_view-drop values i value within, here, ← read)

-- no more inputs
pub numbers-end : (draft : DraftText) (front : List ℕ) (values : List Value) (i : ℕ) → length values ≤ i → with_front front (numbers_of draft (items_view (drop i values))) ≡ Ok front
unfolding numbers_of
numbers-end draft front values i past = rw (drop_of_length-le values past) (ap Ok (append-nil front))
