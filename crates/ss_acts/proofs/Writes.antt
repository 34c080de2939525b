-- What a write leaves of the replica and of the tail.
use Rattle.std.proofs.Common.{◌≡◌, ℕ, ◌<◌, ◌==◌, nat_lt, Bool, true, false, List, [], ◌∷◌, length, Option, Some, None, option_map, IfSome, refl, sym, ap, ◌∙◌, arith, if◌then◌else◌}
use Rattle.std.proofs.lemmas.Bool.{lt-ltb, le-ltb}
use Rattle.std.proofs.lemmas.Bool.Decides.{nat_tests}
use Rattle.std.specs.Option.{option_and_then, option_map_or}
use Rattle.std.specs.Prelude.{is_some, slice_get, ◌≤◌}
use Rattle.ss_acts.specs.Leaves.{LeavesBoth}
use Rattle.ss_acts.specs.Parts.{vertex_of}
use Rattle.ss_acts.specs.Readings.{writing}
use Rattle.ss_acts.specs.Told.{inst_written, write_outcome}
use Rattle.ss_elem.specs.declared.element.Element.{Element}
use Rattle.ss_fail.specs.declared.outcome.Outcome.{Outcome}
use Rattle.ss_fail.specs.declared.outcome.Outcome.TheVariants as outcome
use Rattle.ss_plan.specs.Plan.{PlanText}
use Rattle.ss_state.specs.Acts.{InstAndTailStep, offer, offer_nothing, with_one_written, write_act}
use Rattle.ss_state.specs.Numbers.{VertexNumbers}
use Rattle.ss_state.specs.State.{InstNumbers, TailNumbers, next}
use Rattle.ss_state.specs.Tails.{appended}
use Rattle.ss_tail.specs.Answers.{wrote_at}
use Rattle.ss_tail.specs.Held.{TailHeld, added, written}
use Rattle.ss_tail.specs.declared.answers.Wrote.{Wrote}
use Rattle.ss_tail.specs.declared.answers.Wrote.TheVariants.{Stored, Known, Old, Gap}
use Rattle.ss_vertex.specs.Inst.{InstState, Running, first_left, first_of, inst_numbers, is_up, left_of, next_of, running_numbers, crashed}
use Rattle.ss_vertex.specs.Laws.{IsNumbered}
use Rattle.ss_vertex.specs.Standing.{InstStands, Stands}

abbrev both : Option InstNumbers → TailNumbers → Outcome → InstAndTailStep
both inst tail told = record { inst = inst; tail = tail; outcome = told }

-- the replica that has offered its first output
abbrev inst_after : Option InstNumbers → Wrote → Option InstNumbers
inst_after rest Stored = rest
inst_after rest Known = rest
inst_after rest Old = rest
inst_after rest (Gap end) = None

-- an offer, and what a tail answers to it, by the tests that they are made of
abbrev offered : Bool → Bool → Bool → Option InstNumbers → ℕ → TailNumbers → InstAndTailStep
offered past next old rest n tail =
    if past then both None tail (outcome.Gap tail.end)
    else (if next then both rest (appended tail) (outcome.Stored n)
    else both rest tail (if old then outcome.Old n else outcome.Known n))

abbrev answered : Bool → Bool → Bool → TailNumbers → Wrote
answered past next old tail = if next then Stored else (if past then Gap tail.end else (if old then Old else Known))

abbrev held_after : Bool → TailHeld → Element → TailHeld
held_after next tail x = if next then added tail x else tail

by_tests : (past next old : Bool) (rest : Option InstNumbers) (n : ℕ) (tail : TailHeld) (x : Element) → (past ≡ true → next ≡ true → ⊥)
    → offered past next old rest n tail.numbers
    ≡ both (inst_after rest (answered past next old tail.numbers)) (held_after next tail x).numbers (write_outcome n (answered past next old tail.numbers))
by_tests true true old rest n tail x apart = absurd (apart refl refl)
by_tests true false old rest n tail x apart = refl
by_tests false true old rest n tail x apart = refl
by_tests false false true rest n tail x apart = refl
by_tests false false false rest n tail x apart = refl

not_both : (end n : ℕ) → nat_lt end n ≡ true → (end == n) ≡ true → ⊥
not_both end n past same = grind (arith, nat_tests)

offer_is : (up : InstNumbers) (n : ℕ) (tail : TailHeld) (x : Element)
    → offer up n tail.numbers
    ≡ both (inst_after (Some (with_one_written up)) (wrote_at tail.numbers n)) (written tail n x).numbers (write_outcome n (wrote_at tail.numbers n))
unfolding offer
offer_is up n tail x =
    by_tests (nat_lt tail.numbers.end n) (tail.numbers.end == n) (nat_lt n tail.numbers.from) (Some (with_one_written up)) n tail x
    (not_both tail.numbers.end n)

-- the first output left

abbrev numbered_first : ℕ → List Element → Option (ℕ × Element)
numbered_first first left = option_map (λ x. (first, x)) (slice_get left 0)

left_first : (left : List Element) (first n : ℕ) (x : Element) → numbered_first first left ≡ Some (n, x) → (0 < length left) × (first ≡ n)
left_first [] first n x is = absurd cc
left_first (y ∷ ys) first n x is = (omega arith, ap (λ (o : Option (ℕ × Element)). option_map_or (λ (p : ℕ × Element). p.0) o 0) is)

left_none : (left : List Element) (first : ℕ) → numbered_first first left ≡ None → length left ≡ 0
left_none [] first is = refl
left_none (y ∷ ys) first is = absurd cc

some_left : (n : ℕ) → 0 < n → (n == 0) ≡ false
some_left n h = grind (arith, nat_tests)

none_left : (n : ℕ) → n ≡ 0 → (n == 0) ≡ true
none_left n h = grind (arith, nat_tests)

abbrev IsNext : VertexNumbers → Option Running → Type 0
IsNext x running = IfSome running (λ up. up.next ≡ next x (running_numbers up))

abbrev chosen : Bool → InstNumbers → ℕ → TailNumbers → InstAndTailStep
chosen none up n tail = if none then offer_nothing up n tail else offer up n tail

-- an output is left
first_step : (x : VertexNumbers) (running : Option Running) (tail : TailHeld) (n : ℕ) (y : Element) → IsNext x running
    → option_and_then first_of running ≡ Some (n, y)
    → write_act x (option_map running_numbers running) tail.numbers
    ≡ both (inst_after (option_map with_one_written (option_map running_numbers running)) (wrote_at tail.numbers n)) (written tail n y).numbers
    (write_outcome n (wrote_at tail.numbers n))
first_step x None tail n y is_next first = absurd cc
first_step x (Some up) tail n y is_next first =
    let here = left_first up.left up.next n y first in
    let up_n : InstNumbers = running_numbers up in
    ap (λ (b : Bool). chosen b up_n (next x up_n) tail.numbers) (some_left (length up.left) here.0)
    ∙ ap (λ (k : ℕ). offer up_n k tail.numbers) (sym is_next ∙ here.1)
    ∙ offer_is up_n n tail y

-- none is
abbrev nothing : Bool → Option InstNumbers → TailNumbers → InstAndTailStep
nothing past inst tail = if past then both None tail (outcome.Gap tail.end) else both inst tail outcome.Idle

nothing_is : (up : InstNumbers) (n : ℕ) (tail : TailNumbers) → offer_nothing up n tail ≡ nothing (nat_lt tail.end n) (Some up) tail
unfolding offer_nothing
nothing_is up n tail = refl

none_step : (x : VertexNumbers) (running : Option Running) (tail : TailNumbers) → IsNext x running → is_some running ≡ true
    → option_and_then first_of running ≡ None
    → write_act x (option_map running_numbers running) tail
    ≡ nothing (nat_lt tail.end (option_map_or (λ up. up.next) running 0)) (option_map running_numbers running) tail
none_step x None tail is_next up first = absurd cc
none_step x (Some r) tail is_next up first =
    let up_n : InstNumbers = running_numbers r in
    ap (λ (b : Bool). chosen b up_n (next x up_n) tail) (none_left (length r.left) (left_none r.left r.next first))
    ∙ ap (λ (k : ℕ). offer_nothing up_n k tail) (sym is_next)
    ∙ nothing_is up_n r.next tail

pub gap : (plan : PlanText) (inst new : InstState) (tail : TailHeld) (end : ℕ) → IsNumbered plan (vertex_of plan inst.v) inst → is_up inst ≡ true
    → first_left inst ≡ None → end ≡ tail.numbers.end → end < next_of inst → new ≡ crashed inst
    → LeavesBoth (writing plan inst tail) new tail (outcome.Gap end)
gap plan inst new tail end numbered up first is past left =
    none_step (vertex_of plan inst.v) inst.running tail.numbers numbered.next up first
    ∙ ap (λ (b : Bool). nothing b (inst_numbers inst) tail.numbers) (lt-ltb tail.numbers.end (next_of inst) (omega (arith, is, past)))
    ∙ ap (λ (k : ℕ). both None tail.numbers (outcome.Gap k)) (sym is)
    ∙ ap (λ (i : InstState). both (inst_numbers i) tail.numbers (outcome.Gap end)) (sym left)

pub idle : (plan : PlanText) (inst : InstState) (tail : TailHeld) (end : ℕ) → IsNumbered plan (vertex_of plan inst.v) inst → is_up inst ≡ true
    → first_left inst ≡ None → end ≡ tail.numbers.end → next_of inst ≤ end → LeavesBoth (writing plan inst tail) inst tail outcome.Idle
idle plan inst tail end numbered up first is within =
    none_step (vertex_of plan inst.v) inst.running tail.numbers numbered.next up first
    ∙ ap (λ (b : Bool). nothing b (inst_numbers inst) tail.numbers) (le-ltb tail.numbers.end (next_of inst) (omega (arith, is, within)))

-- an element is offered

numbers_after : (plan : PlanText) (inst : InstState) (w : Wrote) → IsNumbered plan (vertex_of plan inst.v) inst
    → inst_after (option_map with_one_written (inst_numbers inst)) w ≡ inst_numbers (inst_written inst w)
numbers_after plan inst Stored numbered = sym numbered.done
numbers_after plan inst Known numbered = sym numbered.done
numbers_after plan inst Old numbered = sym numbered.done
numbers_after plan inst (Gap end) numbered = refl

abbrev both_by : PlanText → InstState → TailHeld → ℕ → Wrote → InstAndTailStep
both_by plan inst rest n w = both (inst_after (option_map with_one_written (inst_numbers inst)) w) rest.numbers (write_outcome n w)

pub writes : (plan : PlanText) (inst new : InstState) (tail rest : TailHeld) (n : ℕ) (x : Element) (w : Wrote)
    → IsNumbered plan (vertex_of plan inst.v) inst → first_left inst ≡ Some (n, x) → w ≡ wrote_at tail.numbers n → new ≡ inst_written inst w
    → rest ≡ written tail n x → LeavesBoth (writing plan inst tail) new rest (write_outcome n w)
writes plan inst new tail rest n x w numbered first answer left kept =
    first_step (vertex_of plan inst.v) inst.running tail n x numbered.next first
    ∙ ap (λ (a : Wrote). both_by plan inst (written tail n x) n a) (sym answer)
    ∙ ap (λ (t : TailHeld). both_by plan inst t n w) (sym kept)
    ∙ ap (λ (i : Option InstNumbers). both i rest.numbers (write_outcome n w)) (numbers_after plan inst w numbered)
    ∙ ap (λ (i : InstState). both (inst_numbers i) rest.numbers (write_outcome n w)) (sym left)

-- the element offered is one of the stream, and the job allows its number

first_within : (plan : PlanText) (v : ℕ) (running : Option Running) (n : ℕ) (x : Element) → IfSome running (Stands plan v)
    → option_and_then first_of running ≡ Some (n, x)
    → (0 < option_map_or (λ up. length up.left) running 0) × (n < plan.job.max_elements)
first_within plan v None n x stands first = absurd cc
first_within plan v (Some up) n x stands first =
    let here = left_first up.left up.next n x first in
    let some = here.0 in
    let same = here.1 in
    let end = stands.next in
    let most = stands.within.out in
    (some, omega (arith, some, same, end, most))

pub offered_within : (plan : PlanText) (inst : InstState) (n : ℕ) (x : Element) → InstStands plan inst → first_left inst ≡ Some (n, x)
    → (0 < left_of inst) × (n < plan.job.max_elements)
offered_within plan inst n x stands first = first_within plan inst.v inst.running n x stands.running first
