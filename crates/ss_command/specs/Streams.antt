-- The lists of a job's sources, as they are read.
use Rattle.std.specs.Prelude.{◌≡◌, ℕ, ◌+◌, ◌≤◌, List, [], ◌∷◌, ◌++◌, Vec, Some, length, slice_get, take, IsUtf8}
use Rattle.std.specs.declared.alloc.Global.{Global}
use Rattle.ss_elem.specs.Validity.{Whole}
use Rattle.ss_elem.specs.declared.element.Element.{Element}
use Rattle.ss_events.specs.Events.{AllSourceTimes}
use Rattle.ss_events.specs.declared.late.Late.{Late}
use Rattle.ss_fail.specs.declared.role.Role.{Role}
use Rattle.ss_job.specs.JobText.{VertexText, source, inner, sink, JobText}
use Rattle.ss_outside.specs.Told.{InputsTold, KeepsInputs}
use Rattle.ss_command.specs.Ends.{MayHave, StopsAt}
use Rattle.ss_command.specs.Order.{Reading, Gives, source_file}
use Rattle.ss_command.specs.Refusal.{Refusal}

-- the lists are those of a job's sources among these vertices, the first of which is v
abbrev pub AreLists : Reading → JobText → ℕ → List VertexText → List (List Element) → Type 0
AreLists reading job v [] [] = Unit {0}
AreLists reading job v [] (_ ∷ _) = ⊥
AreLists reading job v (source file late ∷ vertices) [] = ⊥
AreLists reading job v (source file late ∷ vertices) (list ∷ lists) =
    Gives reading (source_file job v file late) list × AreLists reading job (v + 1) vertices lists
AreLists reading job v (inner spec policy ∷ vertices) lists = AreLists reading job (v + 1) vertices lists
AreLists reading job v (sink file ∷ vertices) lists = AreLists reading job (v + 1) vertices lists

-- what is known of a list that was read for a source: it is whole, its times are those of files, and it isn't too long
pub record IsSourceList (job : JobText) (list : List Element) : Type 0 where
  pub whole : Whole list
  pub times : AllSourceTimes list
  pub short : length list ≤ job.max_elements

-- vertex v is a source, which gives this list
abbrev pub IsListAt : Reading → JobText → ℕ → List Element → Type 0
IsListAt reading job v list =
    (file : List ℕ) × (late : Late) × (slice_get job.vertices v ≡ Some (source file late))
    × Gives reading (source_file job v file late) list

-- the same, and no read failed
abbrev pub PassesVertex : InputsTold → InputsTold → JobText → ℕ → List Element → Type 0
PassesVertex before after job v list = IsListAt (MayHave before) job v list × KeepsInputs before after

-- lists of elements, as vectors hold them
abbrev pub Lists : Type 0
Lists = List (Vec Element Global)

-- the lists have grown by that of a vertex, if it is a source
abbrev pub AddsList : Reading → JobText → ℕ → VertexText → Lists → Lists → Type 0
AddsList reading job v (source file late) before after =
    (list : Vec Element Global) × (after ≡ before ++ list ∷ [])
    × Gives reading (source_file job v file late) list.items × IsSourceList job list.items
AddsList reading job v (inner spec policy) before after = after ≡ before
AddsList reading job v (sink file) before after = after ≡ before

abbrev pub AddsVertex : Reading → JobText → ℕ → Lists → Lists → Type 0
AddsVertex reading job v before after =
    (vertex : VertexText) × (slice_get job.vertices v ≡ Some vertex) × AddsList reading job v vertex before after

-- the work stops at vertex v, which is a source
pub record StopsAtVertex (before after : InputsTold) (job : JobText) (v : ℕ) (refusal : Refusal) : Type 0 where
  pub file : List ℕ
  pub late : Late
  pub is_source : slice_get job.vertices v ≡ Some (source file late)
  pub stops : StopsAt before after refusal (source_file job v file late)

-- the same, and the sources before it were read
pub record StopsInSources (before after : InputsTold) (job : JobText) (refusal : Refusal) : Type 0 where
  pub v : ℕ
  pub earlier : List (List Element)
  pub read : AreLists (MayHave before) job 0 (take v job.vertices) earlier
  pub here : StopsAtVertex before after job v refusal

-- the names of roles are text
abbrev pub AreTextNames : List Role → Type 0
AreTextNames roles = (v : ℕ) (role : Role) → slice_get roles v ≡ Some role → IsUtf8 role.name
