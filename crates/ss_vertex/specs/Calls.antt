-- What the calls of an instance ask, and what they do.
use Rattle.std.specs.Prelude.{◌≡◌, ℕ, ◌+◌, ◌<◌, ◌≤◌, [], take, Some, None, option_map, slice_get}
use Rattle.std.specs.Prelude.{true, IsSomeAnd, Result, Ok, Err}
use Rattle.ss_codec.specs.declared.frame.Frame.{Frame}
use Rattle.ss_elem.specs.declared.element.Element.{Element}
use Rattle.ss_expr.specs.declared.stream_operator.Spec.{Spec}
use Rattle.ss_frames.specs.Frames.{inputs_at, op_number}
use Rattle.ss_job.specs.JobText.{spec_of}
use Rattle.ss_meaning.specs.Entries.{Entries}
use Rattle.ss_meaning.specs.Inputs.{least_bound}
use Rattle.ss_meaning.specs.Meaning.{vertex}
use Rattle.ss_meaning.specs.Positions.{out}
use Rattle.ss_merge.specs.Merging.{first_inputs}
use Rattle.ss_oper.specs.Standing.{remembered}
use Rattle.ss_plan.specs.Plan.{PlanText, vertices_of}
use Rattle.ss_vertex.specs.Arriving.{wanted, taken, given_at}
use Rattle.ss_vertex.specs.Inst.{OperatorState, Running, InstState, is_up, n_of, left_of}
use Rattle.ss_vertex.specs.Standing.{list_len, operator_at}
use Rattle.ss_vertex.specs.declared.fault.ExecFault.{ExecFault}
use Rattle.ss_vertex.specs.declared.fault.ExecFault.TheVariants as exec
use Rattle.ss_vertex.specs.declared.fault.SnapFault.{SnapFault}
use Rattle.ss_vertex.specs.declared.fault.SnapFault.TheVariants as snap
use Rattle.ss_vertex.specs.declared.fault.LoadFault.{LoadFault}
use Rattle.ss_vertex.specs.declared.fault.LoadFault.TheVariants as load

-- an instance of vertex v that has accepted nothing
abbrev pub fresh_running : PlanText → ℕ → Running
fresh_running plan v = record { n = 0; next = 0; left = []; operator = operator_at plan v 0 }

abbrev pub fresh_inst : PlanText → ℕ → InstState
fresh_inst plan v =
    record { v = v; list = list_len (vertex (vertices_of plan) v); running = Some (fresh_running plan v) }

-- Execute

-- it is up, and no output is left
abbrev pub IsReady : InstState → Type 0
IsReady inst = (is_up inst ≡ true) × (left_of inst ≡ 0)

-- x has this number in the stream that vertex v takes as this input, and the number is one that a stream may have
abbrev pub IsElementAt : PlanText → ℕ → ℕ × ℕ → Element → Type 0
IsElementAt plan v place x =
    (slice_get (taken (vertices_of plan) v place.0) place.1 ≡ Some x) × (place.1 < plan.job.max_elements)

-- x is the element that arrives at vertex v behind the first n
abbrev pub IsWantedAt : PlanText → ℕ → ℕ → Element → Type 0
IsWantedAt plan v n x = IsSomeAnd (wanted (vertices_of plan) v n) (λ place. IsElementAt plan v place x)

-- x is the element that the instance wants
abbrev pub IsWanted : PlanText → InstState → Element → Type 0
IsWanted plan inst x = IsWantedAt plan inst.v (n_of inst) x

-- the instance with the element that arrives next: what the vertex gives at it is left
abbrev pub one_more : PlanText → ℕ → Running → Running
one_more plan v up = record {
  n = up.n + 1;
  next = up.next;
  left = given_at (vertices_of plan) v up.n;
  operator = operator_at plan v (up.n + 1);
}

abbrev pub with_one_more : PlanText → InstState → InstState
with_one_more plan inst = record inst { running = option_map (one_more plan inst.v) inst.running }

-- so many elements vertex v will have given after the element behind its first n, and they are more than a stream may
-- have; or they aren't, and memory ran out
abbrev pub IsFullAt : PlanText → ℕ → ℕ → ExecFault → Type 0
IsFullAt plan v n (exec.Full reached) = (reached ≡ out (vertices_of plan) v (n + 1)) × (plan.job.max_elements < reached)
IsFullAt plan v n exec.Memory = out (vertices_of plan) v (n + 1) ≤ plan.job.max_elements

-- how many elements the vertex will have given after the element that the instance wants
abbrev pub given_after : PlanText → InstState → ℕ
given_after plan inst = out (vertices_of plan) inst.v (n_of inst + 1)

abbrev pub IsExecFault : PlanText → InstState → ExecFault → Type 0
IsExecFault plan inst e = IsFullAt plan inst.v (n_of inst) e

-- Snapshot

-- outputs are left, or memory ran out where none is
abbrev pub IsSnapFault : InstState → SnapFault → Type 0
IsSnapFault inst (snap.Pending left) = (left ≡ left_of inst) × (0 < left)
IsSnapFault inst snap.Memory = left_of inst ≡ 0

-- Load

-- the frame is of vertex v, which is an operator, with its op and its width
pub record FitsVertex (plan : PlanText) (v : ℕ) (f : Frame) : Type 0 where
  pub vertex : f.v ≡ v
  pub op : IsSomeAnd (spec_of plan.job v) (λ s. f.op ≡ op_number s)
  pub width : f.width ≡ inputs_at plan v

-- what the image of a frame says that an operator remembers, or the place of its first fault
abbrev pub entries_in : Frame → Spec → Result Entries ℕ
entries_in f s = remembered s (take f.width f.bounds) f.image

-- an instance that goes on from a frame in whose image these entries are
abbrev pub operator_in : Frame → Spec → Entries → OperatorState
operator_in f s entries = record {
  merger = first_inputs f.width f.bounds f.pos;
  oper = record { spec = s; low = least_bound (take f.width f.bounds); entries = entries };
}

abbrev pub running_in : Frame → Spec → Entries → Running
running_in f s entries = record { n = f.n; next = f.out; left = []; operator = Some (operator_in f s entries) }

abbrev pub loaded_in : InstState → Running → InstState
loaded_in inst up = record { v = inst.v; list = None; running = Some up }

-- the image is one, and the new instance goes on from what it says, with nothing left
abbrev pub GoesOnFrom : PlanText → Frame → InstState → InstState → Type 0
GoesOnFrom plan f old new =
    IsSomeAnd (spec_of plan.job old.v) (λ s.
    (entries : Entries) × (entries_in f s ≡ Ok entries) × (new ≡ loaded_in old (running_in f s entries)))

-- the image has its first fault at this place, or memory ran out
abbrev pub IsLoadFault : PlanText → Frame → ℕ → LoadFault → Type 0
IsLoadFault plan f v (load.Damaged at) = IsSomeAnd (spec_of plan.job v) (λ s. entries_in f s ≡ Err at)
IsLoadFault plan f v load.Memory = Unit {0}
