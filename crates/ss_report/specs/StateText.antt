-- The lines of reports, with their newlines.
use Rattle.std.specs.Prelude.{ℕ, ◌<◌, ◌≤◌, Bool, true, false, List, [], ◌++◌, codes, length, take, slice_get, All}
use Rattle.std.specs.Fmt.{decimal}
use Rattle.std.specs.List.{flat_map}
use Rattle.std.specs.Option.{option_map_or}
use Rattle.ss_fail.specs.declared.role.Role.{Role}
use Rattle.ss_job.specs.declared.op.Op.{Op}
use Rattle.ss_job.specs.declared.op.Op.TheVariants as op
use Rattle.ss_report.specs.declared.state_row.StateRow.{StateRow}
use Rattle.ss_report.specs.declared.state_row.StateRow.TheVariants.{Source, Inner, Up, Down, Sink, Journal}
use Rattle.ss_report.specs.declared.state_row.StateRow.TheVariants.{Vertex, Checked, Summary, Done, Written}
use Rattle.ss_water.specs.declared.snap_row.SnapRow.{SnapRow}

-- the word for what a vertex does
abbrev pub op_text : Op → List ℕ
op_text op.Source = codes "source"
op_text op.Select = codes "select"
op_text op.Union = codes "union"
op_text op.Window = codes "window"
op_text op.Join = codes "join"
op_text op.Session = codes "session"
op_text op.Except = codes "except"
op_text op.Sink = codes "sink"

-- the name of a vertex
abbrev pub name_of : List Role → ℕ → List ℕ
name_of roles v = option_map_or (λ role. role.name) (slice_get roles v) []

-- the names of vertices, each behind a space
abbrev pub names_text : List Role → List ℕ → List ℕ
names_text roles vs = flat_map (λ v. codes " " ++ name_of roles v) vs

-- a vertex's number, its name, what it does, and what it reads
abbrev pub vertex_text : List Role → ℕ → Op → List ℕ → List ℕ
vertex_text roles v op inputs =
    decimal v ++ codes " " ++ name_of roles v ++ codes " " ++ op_text op ++ names_text roles inputs ++ codes "\n"

abbrev pub torn_text : Bool → List ℕ
torn_text true = codes "yes"
torn_text false = codes "no"

-- what the store keeps of a vertex's stream
abbrev pub stored_text : List Role → ℕ → ℕ → ℕ → List ℕ
stored_text roles v base dur =
    codes "stream " ++ name_of roles v ++ codes " base " ++ decimal base ++ codes " dur " ++ decimal dur

-- what a stream's tail shows
abbrev pub tail_text : ℕ → ℕ → Bool → List ℕ
tail_text from end torn =
    codes " from " ++ decimal from ++ codes " end " ++ decimal end ++ codes " torn " ++ torn_text torn

-- a vertex's stream
abbrev pub stream_text : List Role → ℕ → ℕ → ℕ → ℕ → ℕ → Bool → List ℕ
stream_text roles v base dur from end torn = stored_text roles v base dur ++ tail_text from end torn

-- a source's mark, which ends its line
abbrev pub mark_text : ℕ → List ℕ
mark_text mark = codes " mark " ++ decimal mark ++ codes "\n"

-- the numbers of snapshots, each behind a space
abbrev pub snaps_text : List SnapRow → List ℕ
snaps_text snaps = flat_map (λ snap. codes " " ++ decimal snap.n) snaps

-- a vertex's snapshots, which end its line
abbrev pub snaps_line_end : List SnapRow → List ℕ
snaps_line_end snaps = codes " snaps" ++ snaps_text snaps ++ codes "\n"

-- a replica of a vertex
abbrev pub inst_text : List Role → ℕ → ℕ → List ℕ
inst_text roles v r = codes "inst " ++ name_of roles v ++ codes " " ++ decimal r

-- how far a replica is
abbrev pub up_text : ℕ → ℕ → ℕ → List ℕ
up_text n next left =
    codes " up n " ++ decimal n ++ codes " next " ++ decimal next ++ codes " left " ++ decimal left ++ codes "\n"

-- how long the journal is
abbrev pub journal_text : ℕ → ℕ → List ℕ
journal_text entries since = codes "journal " ++ decimal entries ++ codes " since " ++ decimal since ++ codes "\n"

-- a line of a report on a job with these roles
abbrev pub state_text : List Role → StateRow → List ℕ
state_text roles (Source v base dur from end torn mark) =
    stream_text roles v base dur from end torn ++ mark_text mark
state_text roles (Inner v base dur from end torn snaps) =
    stream_text roles v base dur from end torn ++ snaps_line_end snaps.now
state_text roles (Up v r n next left) = inst_text roles v r ++ up_text n next left
state_text roles (Down v r) = inst_text roles v r ++ codes " down\n"
state_text roles (Sink k taken) = codes "sink " ++ name_of roles k ++ codes " taken " ++ decimal taken ++ codes "\n"
state_text roles (Journal entries since) = journal_text entries since
state_text roles (Vertex v op inputs width) = vertex_text roles v op (take width inputs)
state_text roles (Checked count) = codes "ok " ++ decimal count ++ codes "\n"
state_text roles (Summary k taken) = codes "sink " ++ name_of roles k ++ codes " " ++ decimal taken ++ codes "\n"
state_text roles Done = codes "done\n"
state_text roles Written = codes "written gen-job.toml gen-a.csv gen-b.csv\n"

-- the vertices of a row have roles, and it has no more than 8 inputs
pub record HasInputs (roles : List Role) (v : ℕ) (inputs : List ℕ) (width : ℕ) : Type 0 where
  pub named : v < length roles
  pub few : width ≤ 8
  pub inputs_named : All (λ input. input < length roles) (take width inputs)

-- a row's stream, where it is the row of one
abbrev pub row_stream_text : List Role → StateRow → List ℕ
row_stream_text roles (Source v base dur from end torn mark) = stream_text roles v base dur from end torn
row_stream_text roles (Inner v base dur from end torn snaps) = stream_text roles v base dur from end torn
row_stream_text roles _ = []

abbrev pub IsRowOf : List Role → StateRow → Type 0
IsRowOf roles (Source v base dur from end torn mark) = v < length roles
IsRowOf roles (Inner v base dur from end torn snaps) = v < length roles
IsRowOf roles (Up v r n next left) = v < length roles
IsRowOf roles (Down v r) = v < length roles
IsRowOf roles (Sink k taken) = k < length roles
IsRowOf roles (Journal entries since) = Unit {0}
IsRowOf roles (Vertex v op inputs width) = HasInputs roles v inputs width
IsRowOf roles (Checked count) = Unit {0}
IsRowOf roles (Summary k taken) = k < length roles
IsRowOf roles Done = Unit {0}
IsRowOf roles Written = Unit {0}
