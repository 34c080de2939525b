-- How far a vertex may have come, and what it holds there.
use Rattle.std.specs.Prelude.{◌≡◌, ℕ, ◌+◌, ◌^◌, ◌<◌, ◌≤◌, length, All}
use Rattle.ss_elem.specs.Rows.{IsKept}
use Rattle.ss_codec.specs.declared.frame.Frame.{Frame}
use Rattle.ss_meaning.specs.Entries.{Entries, NoEntries, WindowEntries, JoinRows, SessionEntries, entries_after}
use Rattle.ss_meaning.specs.Positions.{mlen, pos, positions, out}
use Rattle.ss_expr.specs.Operators.{operator_of}
use Rattle.ss_expr.specs.declared.stream_operator.Spec.{Spec}
use Rattle.ss_plan.specs.Plan.{PlanText, vertices_of}
use Rattle.ss_frames.specs.Frames.{accepted, inputs_at, op_number, padded}

-- vertex v may stand behind its first n elements: neither its positions nor what it has given pass the job's limit
pub record IsWithin (plan : PlanText) (v n : ℕ) : Type 0 where
  pub taken : n ≤ mlen (vertices_of plan) v
  pub out : out (vertices_of plan) v n ≤ plan.job.max_elements
  pub pos : (input : ℕ) → input < inputs_at plan v → pos (vertices_of plan) v n input ≤ plan.job.max_elements

-- each of the first n elements that arrive at vertex v is one that the program's type of elements keeps
abbrev pub AreKept : PlanText → ℕ → ℕ → Type 0
AreKept plan v n = All (λ x. IsKept x.element) (accepted plan v n)

-- fewer than 2^25 entries, and of a window or a session none that counts 2^62 rows
abbrev pub AreFew : Entries → Type 0
AreFew NoEntries = Unit {0}
AreFew (WindowEntries entries) = (length entries < 2 ^ 25) × All (λ e. e.rows < 2 ^ 62) entries
AreFew (JoinRows left right) = length left + length right < 2 ^ 25
AreFew (SessionEntries entries) = (length entries < 2 ^ 25) × All (λ e. e.rows < 2 ^ 62) entries

-- what vertex v with this operator remembers after its first n elements
abbrev pub entries_at : PlanText → ℕ → ℕ → Spec → Entries
entries_at plan v n operator = entries_after (operator_of operator) (inputs_at plan v) (accepted plan v n)

-- the numbers of a snapshot are those of the meaning of vertex v after its first n elements
pub record IsOfMeaning (plan : PlanText) (v n : ℕ) (operator : Spec) (f : Frame) : Type 0 where
  pub vertex : f.v ≡ v
  pub taken : f.n ≡ n
  pub out : f.out ≡ out (vertices_of plan) v n
  pub op : f.op ≡ op_number operator
  pub width : f.width ≡ inputs_at plan v
  pub pos : f.pos ≡ padded (positions (vertices_of plan) v n)
