-- What the laws ask of a job.
use Rattle.std.specs.Prelude.{◌≡◌, ℕ, ◌+◌, ◌^◌, ◌<◌, ◌≤◌, List, length, All}
use Rattle.ss_elem.specs.Validity.{Whole}
use Rattle.ss_elem.specs.declared.element.Element.{Element}
use Rattle.ss_elem.specs.declared.element.Element.TheVariants.{Row, Cti, End}
use Rattle.ss_meaning.specs.Emit.{Kind, Select, Union, Hopping, Join, Session, Except}
use Rattle.ss_meaning.specs.Meaning.{Vertex, Source, Inner, Sink, vertex}

-- each time of the element is below this one
abbrev pub IsBefore : ℕ → Element → Type 0
IsBefore time (Row row) = (row.start < time) × (row.end < time)
IsBefore time (Cti cti) = cti < time
IsBefore time End = Unit {0}

-- an operator of this kind may have so many inputs, and a window or a session such numbers
abbrev pub Takes : Kind → ℕ → Type 0
Takes (Select select) inputs = inputs ≡ 1
Takes Union inputs = 2 ≤ inputs
Takes (Hopping window) inputs = (inputs ≡ 1) × (1 ≤ window.hop) × (window.size + window.hop ≤ 2 ^ 47)
Takes Join inputs = inputs ≡ 2
Takes (Session window) inputs = (inputs ≡ 1) × (1 ≤ window.gap) × (window.gap + 1 ≤ 2 ^ 47)
Takes Except inputs = inputs ≡ 2

-- a vertex may stand as number v: a source is whole and has times below 2^62, and inputs stand before it
abbrev pub MayStand : ℕ → Vertex → Type 0
MayStand v (Source list) = Whole list × All (IsBefore (2 ^ 62)) list
MayStand v (Inner kind inputs) = Takes kind (length inputs) × All (λ input. input < v) inputs
MayStand v (Sink input) = input < v

-- at most 32 vertices, each of which may stand where it does
pub record IsJob (job : List Vertex) : Type 0 where
  pub few : length job ≤ 32
  pub each : (v : ℕ) → v < length job → MayStand v (vertex job v)
