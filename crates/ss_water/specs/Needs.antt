-- What is needed of a stream: the first element that any of its readers would ask for.
use Rattle.std.specs.Prelude.{◌≡◌, ℕ, ◌<◌, ◌≤◌, min, Option, Some, None, List, [], length, get_or, slice_get}
use Rattle.std.specs.Prelude.{slice_index}
use Rattle.std.specs.Option.{option_map_or}
use Rattle.ss_water.specs.declared.node.Kind.{Kind}
use Rattle.ss_water.specs.declared.node.Kind.TheVariants.{Source, Inner, Sink}
use Rattle.ss_water.specs.declared.node.Node.{Node}
use Rattle.ss_water.specs.declared.snap_row.SnapRow.{SnapRow}
use Rattle.ss_water.specs.Starts.{HasStart, IsGreatestStart, RisesInN, out_at}

-- n has the property, and no number below it has
pub record IsLeast (Has : ℕ → Type 0) (n : ℕ) : Type 0 where
  pub one : Has n
  pub least : (m : ℕ) → Has m → n ≤ m

-- the least number with the property, or that none has it
abbrev pub IsLeastIfAny : (ℕ → Type 0) → Option ℕ → Type 0
IsLeastIfAny Has None = (n : ℕ) → Has n → ⊥
IsLeastIfAny Has (Some n) = IsLeast Has n

-- the lesser of two numbers that may be missing
abbrev pub lesser : Option ℕ → Option ℕ → Option ℕ
lesser None b = b
lesser (Some a) None = Some a
lesser (Some a) (Some b) = Some (min a b)

-- the place of the snapshot from which a vertex is recovered of whose stream so many elements are stored: no other that
-- has given at most so many had accepted more
pub record IsStart (rows : List SnapRow) (dur place : ℕ) : Type 0 where
  pub within : place < length rows
  pub given : out_at rows place ≤ dur
  pub greatest : IsGreatestStart rows dur place

-- how many elements the snapshot at this place had accepted from input i, 0 where there is none
abbrev pub pos_at : List SnapRow → ℕ → ℕ → ℕ
pos_at rows k i = option_map_or (λ row. slice_index row.pos i) (slice_get rows k) 0

-- input i of a node wants element n first: one that is recovered from a snapshot the first that this hadn't accepted, a
-- sink the first that it hasn't taken
abbrev pub InputWants : Kind → List SnapRow → ℕ → ℕ → ℕ → ℕ → Type 0
InputWants Source rows dur taken i n = ⊥
InputWants Inner rows dur taken i n = (place : ℕ) × IsStart rows dur place × (n ≡ pos_at rows place i)
InputWants Sink rows dur taken i n = n ≡ taken

-- these are what the inputs of a node want
pub record AreWanted (kind : Kind) (rows : List SnapRow) (dur taken : ℕ) (positions : List ℕ) : Type 0 where
  pub wants : (i : ℕ) → i < 8 → InputWants kind rows dur taken i (slice_index positions i)
  pub no_other : (i n : ℕ) → i < 8 → InputWants kind rows dur taken i n → n ≡ slice_index positions i

-- one of the first so many inputs of a node is stream j, where these are the numbers of the inputs and n is its own
abbrev pub IsAtInput : Node → List ℕ → ℕ → ℕ → ℕ → Type 0
IsAtInput node positions j limit n =
    (i : ℕ) × (i < limit) × (slice_index node.inputs i ≡ j) × (n ≡ slice_index positions i)

-- one of the inputs of a node is stream j, and wants its element n first
abbrev pub NodeWants : Node → List SnapRow → ℕ → ℕ → ℕ → ℕ → Type 0
NodeWants node rows dur taken j n =
    (i : ℕ) × (i < node.width) × (slice_index node.inputs i ≡ j) × InputWants node.kind rows dur taken i n

-- of each node of a graph its snapshots, how many elements of its stream are stored, and how many lines it has put
pub record Stored : Type 0 where
  pub rows : List (List SnapRow)
  pub dur : List ℕ
  pub taken : List ℕ

abbrev pub rows_at : Stored → ℕ → List SnapRow
rows_at stored w = get_or stored.rows w []

-- one of the first so many nodes wants element n of stream j first
abbrev pub SomeWant : List Node → Stored → ℕ → ℕ → ℕ → Type 0
SomeWant nodes stored j limit n =
    (w : ℕ) × (node : Node) × (w < limit) × (slice_get nodes w ≡ Some node)
    × NodeWants node (rows_at stored w) (slice_index stored.dur w) (slice_index stored.taken w) j n

-- one of the nodes does
abbrev pub IsWanted : List Node → Stored → ℕ → ℕ → Type 0
IsWanted nodes stored j n = SomeWant nodes stored j (length nodes) n

-- what is needed of stream j: no reader wants an element below it, and one of them wants it
abbrev pub IsNeed : List Node → Stored → ℕ → ℕ → Type 0
IsNeed nodes stored j n = IsLeast (IsWanted nodes stored j) n

-- each node has its entries, and each inner one can be recovered
pub record AreStored (nodes : List Node) (stored : Stored) : Type 0 where
  pub rows : length stored.rows ≡ length nodes
  pub dur : length stored.dur ≡ length nodes
  pub taken : length stored.taken ≡ length nodes
  pub rise : (w : ℕ) (node : Node) → slice_get nodes w ≡ Some node → node.kind ≡ Inner → RisesInN (rows_at stored w)
  pub start : (w : ℕ) (node : Node) → slice_get nodes w ≡ Some node → node.kind ≡ Inner
      → HasStart (rows_at stored w) (slice_index stored.dur w)
