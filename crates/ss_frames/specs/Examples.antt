-- Worked examples: plans with their numbers and snapshots, each written out by hand.
use Rattle.std.specs.Prelude.{◌≡◌, ℕ, ◌-◌, ◌^◌, true, List, [], ◌∷◌, ◌++◌, length, replicate, codes}
use Rattle.ss_codec.specs.declared.frame.Frame.{Frame}
use Rattle.ss_elem.specs.declared.element.Element.TheVariants.{Cti, End}
use Rattle.ss_events.specs.declared.late.Late.TheVariants.{Refuse}
use Rattle.ss_expr.specs.declared.stream_operator.Agg.TheVariants.{Sum}
use Rattle.ss_expr.specs.declared.stream_operator.Field.TheVariants.{A}
use Rattle.ss_expr.specs.declared.stream_operator.Spec.{Spec}
use Rattle.ss_expr.specs.declared.stream_operator.Spec.TheVariants.{Window, Join}
use Rattle.ss_fail.specs.declared.role.Role.{Role}
use Rattle.ss_job.specs.JobText.{VertexText, source, inner, sink}
use Rattle.ss_meaning.specs.Examples.{k, row}
use Rattle.ss_plan.specs.Plan.{PlanText}
use Rattle.ss_state.specs.Numbers.{vertex}
use Rattle.ss_water.specs.declared.node.Kind.{Kind}
use Rattle.ss_water.specs.declared.node.Kind.TheVariants as kind
use Rattle.ss_water.specs.declared.node.Node.{Node}
use Rattle.ss_frames.specs.Frames.{frame_of}
use Rattle.ss_frames.specs.Plans.{plan_numbers}

abbrev pub zeros : ℕ → List ℕ
zeros n = replicate n 0

-- a node that reads these, its role, and the vertices of the two plans
abbrev pub node : Kind → List ℕ → Node
node form inputs =
    record { kind = form; inputs = inputs ++ zeros (8 - length inputs); width = length inputs }

abbrev pub role : List ℕ → Kind → ℕ → Role
role name form replicas = record { name = name; kind = form; replicas = replicas }

abbrev pub source_node : Node
source_node = node kind.Source []

abbrev pub in_role : Role
in_role = role (codes "in") kind.Source 1

abbrev pub out_role : Role
out_role = role (codes "out") kind.Sink 1

abbrev pub operator_role : Role
operator_role = role (codes "op") kind.Inner 2

abbrev pub operator : Spec → VertexText
operator spec = inner spec (record { replay = true; every = 16; replicas = 2 })

-- a source, a window of size 20 and hop 10 that sums, and a sink
abbrev pub window_plan : PlanText
window_plan = record {
  job = record {
    graph = source_node ∷ node kind.Inner (0 ∷ []) ∷ node kind.Sink (1 ∷ []) ∷ [];
    roles = in_role ∷ operator_role ∷ out_role ∷ [];
    vertices = source (codes "in.csv") Refuse ∷ operator (Window 20 10 Sum A) ∷ sink (codes "out.csv") ∷ [];
    max_elements = 1000;
    collect_every = 256;
  };
  lists = (row 5 9 k 3 0 ∷ Cti 12 ∷ End ∷ []) ∷ [];
}

-- the bytes of an entry of key k, sum 3 and one row, behind its end
abbrev pub entry_of_three : ℕ → List ℕ
entry_of_three end = (zeros 7 ++ end ∷ []) ++ (0x6b ∷ zeros 15) ++ (zeros 15 ++ 3 ∷ []) ++ (zeros 7 ++ 1 ∷ [])

-- the window's snapshot after n elements, with what it gave, its bound and its image
abbrev pub window_frame : ℕ → ℕ → ℕ → List ℕ → Frame
window_frame n out bound image = record {
  v = 1;
  n = n;
  out = out;
  op = 3;
  width = 1;
  pos = n ∷ zeros 7;
  bounds = bound ∷ zeros 7;
  image = image;
}

-- before any element, after the row, after the time that closes one of its two windows, and after the end
abbrev pub WindowFrames : Type 0
WindowFrames =
    (frame_of window_plan 1 0 ≡ window_frame 0 0 0 (zeros 4))
    × (frame_of window_plan 1 1 ≡ window_frame 1 0 0 (zeros 3 ++ 2 ∷ [] ++ entry_of_three 10 ++ entry_of_three 20))
    × (frame_of window_plan 1 2 ≡ window_frame 2 2 12 (zeros 3 ++ 1 ∷ [] ++ entry_of_three 20))
    × (frame_of window_plan 1 3 ≡ window_frame 3 4 (2 ^ 63) (zeros 4))

-- the window's numbers: nothing is given at the row, and a row and what tells the time at each of the others
abbrev pub WindowNumbers : Type 0
WindowNumbers =
    vertex (plan_numbers window_plan) 1
    ≡ record {
      kind = kind.Inner;
      inputs = 0 ∷ [];
      arrivals = zeros 3;
      given = 0 ∷ 2 ∷ 2 ∷ [];
      held = 0 ∷ 2 ∷ 1 ∷ 0 ∷ [];
      every = 16;
      replay = true;
      replicas = 2;
    }

-- two sources, a join and a sink
abbrev pub join_plan : PlanText
join_plan = record {
  job = record {
    graph = source_node ∷ source_node ∷ node kind.Inner (0 ∷ 1 ∷ []) ∷ node kind.Sink (2 ∷ []) ∷ [];
    roles = in_role ∷ role (codes "in2") kind.Source 1 ∷ operator_role ∷ out_role ∷ [];
    vertices = source (codes "in.csv") Refuse
        ∷ source (codes "in2.csv") Refuse
        ∷ operator Join
        ∷ sink (codes "out.csv")
        ∷ [];
    max_elements = 1000;
    collect_every = 256;
  };
  lists = (row 1 10 k 7 0 ∷ Cti 5 ∷ End ∷ []) ∷ (row 3 8 k 4 0 ∷ End ∷ []) ∷ [];
}

-- the bytes of a row of key k with a value of b that is 0
abbrev pub row_of_key : ℕ → ℕ → ℕ → List ℕ
row_of_key start end a =
    (zeros 7 ++ start ∷ []) ++ (zeros 7 ++ end ∷ []) ++ (0x6b ∷ zeros 15) ++ (zeros 7 ++ a ∷ []) ++ zeros 8

-- after the left row, its time 5 and the right row, which gave one pair
abbrev pub JoinFrame : Type 0
JoinFrame =
    frame_of join_plan 2 3
    ≡ record {
      v = 2;
      n = 3;
      out = 1;
      op = 4;
      width = 2;
      pos = 2 ∷ 1 ∷ zeros 6;
      bounds = 5 ∷ zeros 7;
      image = zeros 3 ++ 1 ∷ [] ++ zeros 3 ++ 1 ∷ [] ++ row_of_key 1 10 7 ++ row_of_key 3 8 4;
    }
