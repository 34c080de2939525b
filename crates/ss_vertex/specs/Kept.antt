-- What the program keeps of an instance.
use Rattle.std.specs.Prelude.{◌≡◌, ℕ, ◌+◌, ◌^◌, ◌<◌, ◌≤◌, List, [], length, drop, Option, Some, None, option_map}
use Rattle.std.specs.Prelude.{IsSomeAnd, Ok}
use Rattle.ss_codec.specs.declared.frame.Frame.{Frame}
use Rattle.std.specs.Option.{option_map_or}
use Rattle.ss_elem.specs.OutList.{OutList}
use Rattle.ss_elem.specs.declared.element.Element.{Element}
use Rattle.ss_job.specs.JobText.{spec_of}
use Rattle.ss_meaning.specs.Entries.{Entries}
use Rattle.ss_meaning.specs.Meaning.{vertex}
use Rattle.ss_plan.specs.Plan.{PlanText, vertices_of}
use Rattle.ss_state.specs.NumbersOfMeaning.{GivesStream}
use Rattle.ss_vertex.specs.Calls.{entries_in, operator_in, one_more}
use Rattle.ss_vertex.specs.Standing.{Stands, list_len, operator_at}
use Rattle.ss_vertex.specs.Inst.{OperatorState, Running, InstState}
use Rattle.ss_vertex.specs.declared.operating.Operating.{Operating}
use Rattle.ss_vertex.specs.declared.work.Work.{Work}
use Rattle.ss_vertex.specs.declared.work.Work.TheVariants.{Listing, Merging}

abbrev pub list_kept : Work → Option ℕ
list_kept (Listing len n) = Some len
list_kept (Merging operating) = None

-- the state of an operator, without how many elements it has accepted
abbrev pub operator_kept : Operating → OperatorState
operator_kept o = record { merger = o.merger; oper = o.oper }

-- an instance that is up, where the next output has this number and these are left
abbrev pub listing_kept : ℕ → List Element → ℕ → Running
listing_kept next left n = record { n = n; next = next; left = left; operator = None }

abbrev pub merging_kept : ℕ → List Element → Operating → Running
merging_kept next left o = record { n = o.n; next = next; left = left; operator = Some (operator_kept o) }

abbrev pub running_kept : Work → ℕ → List Element → Option Running
running_kept (Listing len n) next left = option_map (listing_kept next left) n
running_kept (Merging operating) next left = option_map (merging_kept next left) operating

-- the outputs given at the last element, of which so many are done with
abbrev pub left_kept : OutList → ℕ → List Element
left_kept given done = drop done given.elements

abbrev pub inst_kept : ℕ → ℕ → OutList → ℕ → Work → InstState
inst_kept v next given done work =
    record { v = v; list = list_kept work; running = running_kept work next (left_kept given done) }

-- no more outputs are done with than were given, and the numbers of those that are left are below 2^63
pub record IsCounted (next : ℕ) (given : OutList) (done : ℕ) : Type 0 where
  pub within : done ≤ length given.elements
  pub few : length given.elements < 2 ^ 63
  pub numbered : done < length given.elements → next + length given.elements < 2 ^ 63 + done

-- an operator at work is where that of vertex v stands after as many elements
abbrev pub OperatesAt : PlanText → ℕ → Operating → Type 0
OperatesAt plan v o = Some (operator_kept o) ≡ operator_at plan v o.n

-- an operator at work goes on from what the image of a frame says
abbrev pub IsFromFrame : PlanText → Frame → Operating → Type 0
IsFromFrame plan f o =
    IsSomeAnd (spec_of plan.job f.v) (λ s.
    (entries : Entries) × (entries_in f s ≡ Ok entries) × (operator_kept o ≡ operator_in f s entries))

-- how many elements are accepted
abbrev pub n_kept : Work → ℕ
n_kept work = option_map_or (λ up. up.n) (running_kept work 0 []) 0

-- so many elements are accepted; None where it is down
abbrev pub HasAccepted : Work → Option ℕ → Type 0
HasAccepted work n = (next : ℕ) (left : List Element) → n ≡ option_map (λ up. up.n) (running_kept work next left)

-- it goes on behind the first n elements of its list
abbrev pub GoesOnBehind : ℕ → Work → Type 0
GoesOnBehind n work = (next : ℕ) (left : List Element) → running_kept work next left ≡ Some (listing_kept next left n)

-- what an instance works on is where vertex v stands, where these outputs are left and the first has this number
pub record WorksAt (plan : PlanText) (v next : ℕ) (left : List Element) (work : Work) : Type 0 where
  pub stream : GivesStream (vertices_of plan) v
  pub list : list_kept work ≡ list_len (vertex (vertices_of plan) v)
  pub up : IsSomeAnd (running_kept work next left) (Stands plan v)

-- it has accepted one element more, and this is given at it
abbrev pub BecomesOneMore : PlanText → ℕ → ℕ → Work → Work → List Element → Type 0
BecomesOneMore plan v next old new given =
    running_kept new next given ≡ option_map (one_more plan v) (running_kept old next [])
