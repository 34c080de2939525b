-- Which elements of event files are given up.
use Rattle.std.specs.Prelude.{◌≡◌, ◌≤◌, ℕ, ◌+◌, min, Bool, false, List, [], ◌∷◌, ◌++◌, get_or, Option, Some, None, bytes_eq}
use Rattle.std.specs.Prelude.{if◌then◌else◌}
use Rattle.std.specs.List.{list_any}
use Rattle.ss_job.specs.JobText.{VertexText, source, inner, sink, JobText}
use Rattle.ss_outside.specs.Told.{InputsTold, with_mark}
use Rattle.ss_state.specs.LowWater.{least_of}

-- the mark of a vertex that is a source with this file
abbrev pub marks_of_vertex : VertexText → List ℕ → ℕ → List ℕ
marks_of_vertex (source file late) name mark = if bytes_eq file name then mark ∷ [] else []
marks_of_vertex (inner spec policy) name mark = []
marks_of_vertex (sink file) name mark = []

-- the marks of the sources with this file among these vertices, the first of which is v
abbrev pub marks_among : List VertexText → ℕ → (ℕ → ℕ) → List ℕ → List ℕ
marks_among [] v marks name = []
marks_among (x ∷ xs) v marks name = marks_of_vertex x name (marks v) ++ marks_among xs (v + 1) marks name

-- the least mark of the sources with this file; 0 where there are none
abbrev pub least_mark : JobText → (ℕ → ℕ) → List ℕ → ℕ
least_mark job marks name = least_of (marks_among job.vertices 0 marks name)

-- each source's file was released at the least mark of the sources that have it, and nothing else
pub record ReleasesAll (job : JobText) (marks : ℕ → ℕ) (old new : InputsTold) : Type 0 where
  pub file : (name : List ℕ) → new.file name ≡ with_mark (least_mark job marks name) (old.file name)
  pub missed : new.missed ≡ old.missed
  pub faults : old.faults ≤ new.faults

-- ---- one vertex behind another

-- what vertex v does
abbrev pub text_at : JobText → ℕ → VertexText
text_at job v = get_or job.vertices v (sink [])

-- a vertex is a source with this file
abbrev pub is_source_of : List ℕ → VertexText → Bool
is_source_of name (source file late) = bytes_eq file name
is_source_of name (inner spec policy) = false
is_source_of name (sink file) = false

-- the lesser of two marks, or the one that there is
abbrev pub lesser : Option ℕ → ℕ → ℕ
lesser None mark = mark
lesser (Some least) mark = min least mark

-- the mark up to which a name is given up where it is the file of one of these vertices, and 0 where it is of none
abbrev pub mark_among : JobText → (ℕ → ℕ) → List VertexText → List ℕ → ℕ
mark_among job marks vertices name = if list_any (is_source_of name) vertices then least_mark job marks name else 0

-- the files of those of these vertices that are sources were released at the least mark of all sources that have them,
-- and nothing else
pub record ReleasesFiles (job : JobText) (marks : ℕ → ℕ) (vertices : List VertexText) (old new : InputsTold) : Type 0
  where
    pub file : (name : List ℕ) → new.file name ≡ with_mark (mark_among job marks vertices name) (old.file name)
    pub missed : new.missed ≡ old.missed
    pub faults : old.faults ≤ new.faults
