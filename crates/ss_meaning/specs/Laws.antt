-- What is true of every job.
use Rattle.std.specs.Prelude.{◌≡◌, ℕ, ◌^◌, ◌*◌, ◌<◌, ◌≤◌, ◌⊎◌, ◌↔◌, true, List, [], ◌∷◌, ◌++◌, length, get_or, take}
use Rattle.std.specs.Prelude.{map, sum, All, Contains, Some}
use Rattle.std.specs.Prelude.{slice_set, slice_index, slice_get, option_map, ◌+◌}
use Rattle.std.specs.List.{AllPairs}
use Rattle.std.specs.List.Sorted.{IsSortedBy, IsStableBy}
use Rattle.ss_elem.specs.Validity.{top, next_bound, Whole, bound_of}
use Rattle.ss_elem.specs.declared.element.Event.{Event}
use Rattle.ss_elem.specs.declared.element.Element.{Element}
use Rattle.ss_meaning.specs.Bound.{bound, bound_after}
use Rattle.ss_meaning.specs.Segments.{Segment}
use Rattle.ss_meaning.specs.Merge.{Arrival, merge, from_input, precedes, segments_in_order}
use Rattle.ss_meaning.specs.Low.{low}
use Rattle.ss_meaning.specs.Inputs.{bounds, counts, least_bound, next_input}
use Rattle.ss_meaning.specs.Window.{Window, belongs, window_ends, window_keys}
use Rattle.ss_meaning.specs.Emit.{Kind, emit, output}
use Rattle.ss_meaning.specs.Meaning.{Vertex, reads, vertex, stream, meaning, merged}
use Rattle.ss_meaning.specs.Positions.{mlen, pos, positions, out}
use Rattle.ss_meaning.specs.Jobs.{IsBefore, IsJob}

-- on a valid list the bound is the one of the elements' rules
abbrev pub BoundOfValid : Type 0
BoundOfValid = (xs : List Element) (b : ℕ) → bound_of xs ≡ Some b → bound xs ≡ b

-- what came from an input is that input's list, in its order; of an input that there isn't, nothing came
abbrev pub MergeKeepsEachInput : Type 0
MergeKeepsEachInput =
    (inputs : List (List Element)) → All Whole inputs → (input : ℕ)
    → from_input input (merge inputs) ≡ get_or inputs input []

-- what arrives next is the element of its input behind those that arrived before
abbrev pub ArrivalsFollow : Type 0
ArrivalsFollow =
    (inputs : List (List Element)) → All Whole inputs → (p rest : List Arrival) (x : Arrival)
    → merge inputs ≡ p ++ x ∷ rest
    → (behind : List Element) × (get_or inputs x.input [] ≡ from_input x.input p ++ x.element ∷ behind)

-- what arrives next may follow in its input, and leads that input to its next bound
abbrev pub ArrivalsMayFollow : Type 0
ArrivalsMayFollow =
    (inputs : List (List Element)) → All Whole inputs → (p rest : List Arrival) (x : Arrival)
    → merge inputs ≡ p ++ x ∷ rest
    → next_bound (bound (from_input x.input p)) x.element ≡ Some (bound (from_input x.input (p ++ x ∷ [])))

-- whether an input with this bound and number goes before one with that bound and number
abbrev pub GoesBefore : ℕ → ℕ → ℕ → ℕ → Type 0
GoesBefore bound input other_bound other = (bound < other_bound) ⊎ ((bound ≡ other_bound) × (input ≤ other))

-- what arrives next comes from the input with the least bound so far, and of equal bounds from the lowest input
abbrev pub LeastBoundGoesNext : Type 0
LeastBoundGoesNext =
    (inputs : List (List Element)) → All Whole inputs → (p rest : List Arrival) (x : Arrival)
    → merge inputs ≡ p ++ x ∷ rest
    → (other : ℕ) → other < length inputs
    → GoesBefore (bound (from_input x.input p)) x.input (bound (from_input other p)) other

-- Low is at most the bound of each input
abbrev pub LowIsBelowBounds : Type 0
LowIsBelowBounds =
    (inputs : ℕ) (p : List Arrival) (input : ℕ) → input < inputs → low inputs p ≤ bound (from_input input p)

-- Low never falls as more arrives from whole inputs
abbrev pub LowNeverFalls : Type 0
LowNeverFalls =
    (inputs : List (List Element)) → All Whole inputs → (m n : ℕ) → m ≤ n
    → low (length inputs) (take m (merge inputs)) ≤ low (length inputs) (take n (merge inputs))

-- Low is top where all has arrived, and nowhere before
abbrev pub LowIsTopAtTheEnd : Type 0
LowIsTopAtTheEnd =
    (inputs : List (List Element)) → All Whole inputs → (p rest : List Arrival) → merge inputs ≡ p ++ rest
    → (low (length inputs) p ≡ top) ↔ (rest ≡ [])

-- w is above one bound and up to another, a multiple of hop, and the end of a window to which a row belongs
abbrev pub IsEnd : Window → List Event → ℕ → ℕ → ℕ → Type 0
IsEnd window rows before after w =
    (before < w) × (w ≤ after) × ((n : ℕ) × (w ≡ window.hop * n))
    × ((row : Event) × Contains rows row × (belongs window w row ≡ true))

-- the ends of a window are all those that have a row, in rising order
abbrev pub WindowEndsHaveRows : Type 0
WindowEndsHaveRows =
    (window : Window) (rows : List Event) (before after : ℕ) → 1 ≤ window.hop
    → AllPairs (λ m n. m < n) (window_ends window rows before after)
    × ((w : ℕ) → Contains (window_ends window rows before after) w ↔ IsEnd window rows before after w)

-- the keys of a window are those of all its rows, in rising order
abbrev pub WindowKeysHaveRows : Type 0
WindowKeysHaveRows =
    (window : Window) (rows : List Event) (w : ℕ)
    → AllPairs (λ m n. m < n) (window_keys window rows w)
    × ((key : ℕ) → Contains (window_keys window rows w) key
    ↔ ((row : Event) × Contains rows row × (belongs window w row ≡ true) × (row.key ≡ key)))

-- what is given for one more arrival comes behind what was given before
abbrev pub OutputGrowsByEmit : Type 0
OutputGrowsByEmit =
    (kind : Kind) (inputs : ℕ) (p : List Arrival) (x : Arrival)
    → output kind inputs (p ++ x ∷ []) ≡ output kind inputs p ++ emit kind inputs p x

-- what is given for a longer prefix begins with what is given for a shorter one
abbrev pub OutputOnlyGrows : Type 0
OutputOnlyGrows =
    (kind : Kind) (inputs : ℕ) (p more : List Arrival)
    → (rest : List Element) × (output kind inputs (p ++ more) ≡ output kind inputs p ++ rest)

-- a vertex has taken as many elements as the counts of its inputs add up to
abbrev pub PositionsAddUp : Type 0
PositionsAddUp = (job : List Vertex) (v n : ℕ) → n ≤ length (merged job v) → sum (positions job v n) ≡ n

-- the count of an input never falls as n rises
abbrev pub PositionsNeverFall : Type 0
PositionsNeverFall = (job : List Vertex) (v m n input : ℕ) → m ≤ n → pos job v m input ≤ pos job v n input

-- the number of given elements never falls as n rises
abbrev pub OutNeverFalls : Type 0
OutNeverFalls = (job : List Vertex) (v m n : ℕ) → m ≤ n → out job v m ≤ out job v n

-- a vertex that has taken everything has given its whole stream
abbrev pub OutAtTheEnd : Type 0
OutAtTheEnd =
    (job : List Vertex) → IsJob job → (v : ℕ) → v < length job → out job v (mlen job v) ≡ length (meaning job v)

-- the stream of a vertex is what the vertex makes of the streams that it reads
abbrev pub MeaningByInputs : Type 0
MeaningByInputs =
    (job : List Vertex) → IsJob job → (v : ℕ) → v < length job
    → meaning job v ≡ stream (vertex job v) (map (meaning job) (reads (vertex job v)))

-- every stream of a job is valid and ends, and its times are below 2^63
abbrev pub MeaningIsWhole : Type 0
MeaningIsWhole =
    (job : List Vertex) → IsJob job → (v : ℕ) → v < length job
    → Whole (meaning job v) × All (IsBefore (2 ^ 63)) (meaning job v)

-- and they leave room below it: a source's are below 2^62, and each vertex adds at most 2^47
abbrev pub MeaningIsEarly : Type 0
MeaningIsEarly =
    (job : List Vertex) → IsJob job → (v : ℕ) → v < length job
    → All (IsBefore (2 ^ 62 + 2 ^ 47 * v)) (meaning job v)

-- an arrival changes the bound of its own input alone
abbrev pub BoundsAfterArrival : Type 0
BoundsAfterArrival =
    (inputs : ℕ) (p : List Arrival) (x : Arrival) → x.input < inputs
    → bounds inputs (p ++ x ∷ [])
    ≡ slice_set (bounds inputs p) x.input (bound_after (slice_index (bounds inputs p) x.input) x.element)

-- and the count of its own input alone
abbrev pub CountsAfterArrival : Type 0
CountsAfterArrival =
    (inputs : ℕ) (p : List Arrival) (x : Arrival) → x.input < inputs
    → counts inputs (p ++ x ∷ []) ≡ slice_set (counts inputs p) x.input (slice_index (counts inputs p) x.input + 1)

-- Low is the least of the bounds
abbrev pub LowIsTheLeastBound : Type 0
LowIsTheLeastBound = (inputs : ℕ) (p : List Arrival) → low inputs p ≡ least_bound (bounds inputs p)

-- what arrives next comes from the input that goes next by the bounds, and where all has arrived none goes next
abbrev pub NextInputArrives : Type 0
NextInputArrives =
    (inputs : List (List Element)) → All Whole inputs → (p rest : List Arrival) → merge inputs ≡ p ++ rest
    → next_input (bounds (length inputs) p) ≡ option_map (λ x. x.input) (slice_get rest 0)

-- segments that stand in the order of bounds and inputs, and where both are equal as before, are in order
abbrev pub SortedIsInOrder : Type 0
SortedIsInOrder =
    (ss ts : List Segment) → IsSortedBy precedes ts → IsStableBy precedes ss ts → ts ≡ segments_in_order ss
