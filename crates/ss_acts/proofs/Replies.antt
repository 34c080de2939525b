-- What a read leaves of the replica.
use Rattle.std.proofs.Common.{◌≡◌, ℕ, ◌-◌, ◌<◌, ◌≤◌, nat_lt, nat_le, Bool, true, false, not, ◌&&◌, ◌||◌, List, [], ◌∷◌, Option, Some, None, Result, Ok, Err, length, refl, sym, ap, ◌∙◌, subst, arith, if◌then◌else◌}
use Rattle.std.proofs.lemmas.Bool.Decides.{nat_tests}
use Rattle.std.proofs.lemmas.Option.{slice_get_within}
use Rattle.std.specs.Option.{option_map_or}
use Rattle.std.specs.Prelude.{slice_get, zero, suc}
use Rattle.ss_acts.specs.Asked.{Accepts, MayTake, TakesRead, Wants, idle_at}
use Rattle.ss_acts.specs.Calls.{ReadsList, ReadsTail, ReadsVault}
use Rattle.ss_acts.specs.Facts.{ActFacts}
use Rattle.ss_acts.specs.Faults.{IsFull, RefusesRead}
use Rattle.ss_acts.specs.Leaves.{Keeps}
use Rattle.ss_acts.specs.Parts.{IsTailOf, vertex_of}
use Rattle.ss_acts.specs.Readings.{IsWantedTail, is_ready, list_reading, must_ask, tail_reading, vault_reading, wanted_from}
use Rattle.ss_acts.specs.declared.fault.EngineFault.{EngineFault}
use Rattle.ss_acts.specs.declared.fault.EngineFault.TheVariants as refused
use Rattle.ss_acts.specs.declared.fault.ReadPart.TheVariants.{Did, AskVault}
use Rattle.ss_acts.proofs.Goings.{keeps}
use Rattle.ss_acts.proofs.Loads.{source_size}
use Rattle.ss_elem.specs.declared.element.Element.{Element}
use Rattle.ss_fail.specs.declared.outcome.Outcome.{Outcome}
use Rattle.ss_fail.specs.declared.outcome.Outcome.TheVariants as outcome
use Rattle.ss_frames.specs.Plans.{plan_numbers}
use Rattle.ss_meaning.specs.Meaning.{Vertex, Source, Inner, Sink, vertex}
use Rattle.ss_plan.specs.Plan.{PlanText, source_list, vertices_of}
use Rattle.ss_state.specs.Acts.{InstStep, asks_vault, gone, got, list_answer, needs_vault, read_act, tail_answer, vault_answer, waits}
use Rattle.ss_state.specs.Numbers.{IsOperator, IsStream, VertexNumbers, input, is_inner, mlen, wanted_number}
use Rattle.ss_state.specs.NumbersOfMeaning.{kind_of}
use Rattle.ss_state.specs.State.{InstNumbers, LedgerRow, TailNumbers}
use Rattle.ss_state.specs.Step.{wanted_vertex}
use Rattle.ss_tail.specs.Answers.{past_end, shown_at}
use Rattle.ss_tail.specs.Held.{IsNumbered as HasNumbers, TailHeld}
use Rattle.ss_tail.specs.declared.answers.Shown.{Shown}
use Rattle.ss_tail.specs.declared.answers.Shown.TheVariants as shown
use Rattle.ss_vault.specs.Answers.{element_at}
use Rattle.ss_vault.specs.Calls.{Reads}
use Rattle.ss_vault.specs.Sound.{Sound}
use Rattle.ss_vault.specs.Told.{VaultTold, durable_of}
use Rattle.ss_vault.specs.declared.answers.Read.{Read}
use Rattle.ss_vault.specs.declared.answers.Read.TheVariants as read
use Rattle.ss_vertex.specs.Arriving.{wanted_by}
use Rattle.ss_vertex.specs.Inst.{InstState, inst_numbers, n_of}
use Rattle.ss_vertex.specs.Laws.{IsNumbered}
use Rattle.ss_water.specs.declared.node.Kind.TheVariants as kind

abbrev left : Option InstNumbers → Outcome → InstStep
left inst told = record { inst = inst; outcome = told }

lt_no : (m n : ℕ) → n ≤ m → nat_lt m n ≡ false
lt_no m n h = grind (arith, nat_tests)

lt_yes : (m n : ℕ) → m < n → nat_lt m n ≡ true
lt_yes m n h = grind (arith, nat_tests)

le_no : (m n : ℕ) → n < m → nat_le m n ≡ false
le_no m n h = grind (arith, nat_tests)

le_yes : (m n : ℕ) → m ≤ n → nat_le m n ≡ true
le_yes m n h = grind (arith, nat_tests)

not_below : (m n : ℕ) → nat_lt m n ≡ false → n ≤ m
not_below m n h = grind (arith, nat_tests)

is_within : (m n : ℕ) → nat_le m n ≡ true → m ≤ n
is_within m n h = grind (arith, nat_tests)

not_within : (m n : ℕ) → nat_le m n ≡ false → n < m
not_within m n h = grind (arith, nat_tests)

and_false : (b : Bool) → (b && false) ≡ false
and_false true = refl
and_false false = refl

-- a replica that is ready

abbrev tested : Bool → ℕ → InstStep → InstStep
tested ended n answer = if ended then left (Some (idle_at n)) outcome.Ended else answer

pub reads_answer : (plan : PlanText) (inst : InstState) (i n : ℕ) (answer : ℕ → InstStep) → Wants plan inst i n
    → read_act (vertex_of plan inst.v) (inst_numbers inst) answer ≡ answer (n_of inst)
reads_answer plan inst i n answer wants =
    let x : VertexNumbers = vertex_of plan inst.v in
    ap (λ (o : Option InstNumbers). read_act x o answer) wants.ready
    ∙ ap (λ (b : Bool). tested b (n_of inst) (answer (n_of inst))) (le_no (mlen x) (n_of inst) wants.more)

asks_by : (plan : PlanText) (inst : InstState) (tail : TailHeld) (i n : ℕ) → Wants plan inst i n
    → must_ask plan inst tail ≡ (nat_lt n tail.numbers.from || (tail.numbers.torn && nat_le tail.numbers.end n))
asks_by plan inst tail i n wants =
    let x : VertexNumbers = vertex_of plan inst.v in
    let t : TailNumbers = tail.numbers in
    ap (λ (o : Option InstNumbers). needs_vault x o t) wants.ready
    ∙ ap (λ (b : Bool). not b && asks_vault x (n_of inst) t) (le_no (mlen x) (n_of inst) wants.more)
    ∙ ap (λ (k : ℕ). nat_lt k t.from || (t.torn && nat_le t.end k)) (sym wants.number)

-- and one that isn't

-- what a tail shows

abbrev shown_by : Bool → Option Element → TailNumbers → Shown
shown_by below found t = if below then shown.Below t.from else option_map_or (λ x. shown.Item x) found (past_end t)

abbrev past_by : Bool → ℕ → Shown
past_by torn end = if torn then shown.Torn end else shown.NotYet end

item_past : (torn : Bool) (end : ℕ) (y : Element) → shown.Item y ≡ past_by torn end → ⊥
item_past true end y is = cc
item_past false end y is = cc

torn_past : (torn : Bool) (end e : ℕ) → shown.Torn e ≡ past_by torn end → torn ≡ true
torn_past true end e is = refl
torn_past false end e is = absurd cc

not_yet_past : (torn : Bool) (end e : ℕ) → shown.NotYet e ≡ past_by torn end → torn ≡ false
not_yet_past true end e is = absurd cc
not_yet_past false end e is = refl

shows_item : (below : Bool) (found : Option Element) (t : TailNumbers) (y : Element) → shown.Item y ≡ shown_by below found t
    → (below ≡ false) × (found ≡ Some y)
shows_item true found t y is = absurd cc
shows_item false None t y is = absurd (item_past t.torn t.end y is)
shows_item false (Some z) t y is = (refl, cc)

shows_torn : (below : Bool) (found : Option Element) (t : TailNumbers) (e : ℕ) → shown.Torn e ≡ shown_by below found t
    → (below ≡ false) × (found ≡ None) × (t.torn ≡ true)
shows_torn true found t e is = absurd cc
shows_torn false None t e is = (refl, refl, torn_past t.torn t.end e is)
shows_torn false (Some z) t e is = absurd cc

shows_not_yet : (below : Bool) (found : Option Element) (t : TailNumbers) (e : ℕ) → shown.NotYet e ≡ shown_by below found t
    → (below ≡ false) × (found ≡ None) × (t.torn ≡ false)
shows_not_yet true found t e is = absurd cc
shows_not_yet false None t e is = (refl, refl, not_yet_past t.torn t.end e is)
shows_not_yet false (Some z) t e is = absurd cc

none_past : (xs : List Element) (i : ℕ) → slice_get xs i ≡ None → length xs ≤ i
none_past [] i is = omega arith
none_past (y ∷ ys) zero is = absurd cc
none_past (y ∷ ys) (suc i) is = let rest = none_past ys i is in omega arith

-- where the wanted element is shown

pub item_below : (tail : TailHeld) (n : ℕ) (y : Element) → HasNumbers tail → shown.Item y ≡ shown_at tail n
    → (tail.numbers.from ≤ n) × (n < tail.numbers.end)
item_below tail n y numbered is =
    let there = shows_item (nat_lt n tail.numbers.from) (slice_get tail.items (n - tail.numbers.from)) tail.numbers y is in
    let least = not_below n tail.numbers.from there.0 in
    let within = slice_get_within tail.items (n - tail.numbers.from) y there.1 in
    (least, omega (arith, numbered, least, within))

tail_step : (plan : PlanText) (inst : InstState) (tail : TailHeld) (i n : ℕ) → Wants plan inst i n
    → tail_reading plan inst tail ≡ tail_answer (vertex_of plan inst.v) (n_of inst) tail.numbers
tail_step plan inst tail i n wants = reads_answer plan inst i n (λ k. tail_answer (vertex_of plan inst.v) k tail.numbers) wants

abbrev tail_by : Bool → VertexNumbers → ℕ → ℕ → ℕ → InstStep
tail_by there x k i n = if there then got x k i n else waits k i n

tail_is : (plan : PlanText) (inst : InstState) (tail : TailHeld) (i n : ℕ) → Wants plan inst i n
    → tail_reading plan inst tail ≡ tail_by (nat_lt n tail.numbers.end) (vertex_of plan inst.v) (n_of inst) i n
unfolding tail_answer
tail_is plan inst tail i n wants =
    let x : VertexNumbers = vertex_of plan inst.v in
    tail_step plan inst tail i n wants
    ∙ ap (λ (j : ℕ). tail_by (nat_lt (wanted_number x (n_of inst)) tail.numbers.end) x (n_of inst) j (wanted_number x (n_of inst))) (sym wants.input)
    ∙ ap (λ (k : ℕ). tail_by (nat_lt k tail.numbers.end) x (n_of inst) i k) (sym wants.number)

asks_none : (plan : PlanText) (inst : InstState) (tail : TailHeld) (i n : ℕ) → Wants plan inst i n → nat_lt n tail.numbers.from ≡ false
    → (tail.numbers.torn && nat_le tail.numbers.end n) ≡ false → must_ask plan inst tail ≡ false
asks_none plan inst tail i n wants least held =
    asks_by plan inst tail i n wants
    ∙ ap (λ (b : Bool). b || (tail.numbers.torn && nat_le tail.numbers.end n)) least
    ∙ ap (λ (b : Bool). false || b) held

pub tail_item : (plan : PlanText) (inst new : InstState) (tail : TailHeld) (i n : ℕ) (y : Element) (result : Result Outcome EngineFault)
    → Wants plan inst i n → HasNumbers tail → shown.Item y ≡ shown_at tail n → Accepts plan inst i n result new
    → (must_ask plan inst tail ≡ false) × (tail_reading plan inst tail ≡ got (vertex_of plan inst.v) (n_of inst) i n)
tail_item plan inst new tail i n y result wants numbered is accepts =
    let there = item_below tail n y numbered is in
    let x : VertexNumbers = vertex_of plan inst.v in (
      asks_none plan inst tail i n wants (lt_no n tail.numbers.from there.0)
          (ap (λ (b : Bool). tail.numbers.torn && b) (le_no tail.numbers.end n there.1) ∙ and_false tail.numbers.torn),
      tail_is plan inst tail i n wants ∙ ap (λ (b : Bool). tail_by b x (n_of inst) i n) (lt_yes n tail.numbers.end there.1),
    )

pub tail_got : (plan : PlanText) (inst new : InstState) (tail : TailHeld) (i n : ℕ) (y : Element) (told : Outcome)
    → Wants plan inst i n → HasNumbers tail → shown.Item y ≡ shown_at tail n → Accepts plan inst i n (Ok told) new
    → ReadsTail plan inst tail (Ok (Did told)) new
tail_got plan inst new tail i n y told wants numbered is accepts =
    let item = tail_item plan inst new tail i n y (Ok told) wants numbered is accepts in
    (item.0, item.1 ∙ accepts)

pub tail_refused : (plan : PlanText) (inst new : InstState) (tail : TailHeld) (i n : ℕ) (y : Element) (f : EngineFault)
    → Wants plan inst i n → HasNumbers tail → shown.Item y ≡ shown_at tail n → Accepts plan inst i n (Err f) new
    → ReadsTail plan inst tail (Err f) new
tail_refused plan inst new tail i n y f wants numbered is accepts =
    let item = tail_item plan inst new tail i n y (Err f) wants numbered is accepts in
    (item.0, subst (λ (did : InstStep). RefusesRead plan inst did f) (sym item.1) accepts.0, accepts.1)

pub tail_waits : (plan : PlanText) (inst : InstState) (tail : TailHeld) (i n end : ℕ) → Wants plan inst i n → HasNumbers tail
    → shown.NotYet end ≡ shown_at tail n → ReadsTail plan inst tail (Ok (Did (outcome.Wait i n))) inst
tail_waits plan inst tail i n end wants numbered is =
    let x : VertexNumbers = vertex_of plan inst.v in
    let t : TailNumbers = tail.numbers in
    let there = shows_not_yet (nat_lt n t.from) (slice_get tail.items (n - t.from)) t end is in
    let least = not_below n t.from there.0 in
    let past = none_past tail.items (n - t.from) there.1 in (
      asks_none plan inst tail i n wants there.0 (ap (λ (b : Bool). b && nat_le t.end n) there.2),
      tail_is plan inst tail i n wants
          ∙ ap (λ (b : Bool). tail_by b x (n_of inst) i n) (lt_no n t.end (omega (arith, numbered, least, past)))
          ∙ ap (λ (o : Option InstNumbers). left o (outcome.Wait i n)) (sym wants.ready),
    )

pub tail_asks_torn : (plan : PlanText) (inst : InstState) (tail : TailHeld) (i n end : ℕ) → Wants plan inst i n → HasNumbers tail
    → shown.Torn end ≡ shown_at tail n → ReadsTail plan inst tail (Ok AskVault) inst
tail_asks_torn plan inst tail i n end wants numbered is =
    let t : TailNumbers = tail.numbers in
    let there = shows_torn (nat_lt n t.from) (slice_get tail.items (n - t.from)) t end is in
    let least = not_below n t.from there.0 in
    let past = none_past tail.items (n - t.from) there.1 in (
      asks_by plan inst tail i n wants
          ∙ ap (λ (b : Bool). b || (t.torn && nat_le t.end n)) there.0
          ∙ ap (λ (b : Bool). false || (b && nat_le t.end n)) there.2
          ∙ ap (λ (b : Bool). false || (true && b)) (le_yes t.end n (omega (arith, numbered, least, past))),
      refl,
    )

-- the tail is one of the stream from which the element is wanted

pub wanted_is : (plan : PlanText) (inst : InstState) (i n : ℕ) → Wants plan inst i n
    → wanted_from plan inst ≡ input (vertex_of plan inst.v) i
wanted_is plan inst i n wants =
    let x : VertexNumbers = vertex_of plan inst.v in
    ap (λ (o : Option InstNumbers). wanted_vertex x o) wants.ready ∙ ap (λ (k : ℕ). input x k) (sym wants.input)

ready_is : (x : VertexNumbers) (o : Option InstNumbers) (k : ℕ) → o ≡ Some (idle_at k) → k < mlen x → is_ready x o ≡ true
ready_is x o k is more =
    ap (λ (p : Option InstNumbers). is_ready x p) is ∙ ap (λ (b : Bool). not b) (le_no (mlen x) k more)

pub tail_of_wanted : (plan : PlanText) (inst : InstState) (tail : TailHeld) (i n : ℕ) → Wants plan inst i n → IsWantedTail plan inst tail
    → IsTailOf plan (input (vertex_of plan inst.v) i) tail
tail_of_wanted plan inst tail i n wants is_tail =
    subst (λ (u : ℕ). IsTailOf plan u tail) (wanted_is plan inst i n wants)
    (is_tail (ready_is (vertex_of plan inst.v) (inst_numbers inst) (n_of inst) wants.ready wants.more))

-- the vault

-- the input is one of the vertex, and reads a stream
pub input_within : (plan : PlanText) → ActFacts plan → (inst : InstState) (i n : ℕ) → IsOperator (plan_numbers plan) inst.v → Wants plan inst i n
    → i < length (vertex_of plan inst.v).inputs
input_within plan facts inst i n operator wants =
    let numbers = facts.of_plan.numbers.each inst.v operator.0 in
    let within = numbers.arrivals operator.1 (n_of inst) wants.more in
    let is = wants.input in
    omega (arith, within, is)

pub stream_read : (plan : PlanText) → ActFacts plan → (inst : InstState) (i n : ℕ) → IsOperator (plan_numbers plan) inst.v → Wants plan inst i n
    → IsStream (plan_numbers plan) (input (vertex_of plan inst.v) i)
stream_read plan facts inst i n operator wants =
    let numbers = facts.of_plan.numbers.each inst.v operator.0 in
    let within = input_within plan facts inst i n operator wants in
    let earlier = numbers.earlier i within in
    let here = operator.0 in
    (omega (arith, earlier, here), numbers.streams i within)

abbrev vault_by : Bool → Bool → VertexNumbers → ℕ → ℕ → ℕ → InstStep
vault_by dropped there x k i n = if dropped then gone i n else (if there then got x k i n else waits k i n)

vault_is : (plan : PlanText) (inst : InstState) (s : VaultTold) (i n : ℕ) → Wants plan inst i n
    → let row = durable_of s (wanted_from plan inst) in
    vault_reading plan inst s ≡ vault_by (nat_lt n row.base) (nat_lt n row.dur) (vertex_of plan inst.v) (n_of inst) i n
unfolding vault_answer
vault_is plan inst s i n wants =
    let x : VertexNumbers = vertex_of plan inst.v in
    let row : LedgerRow = durable_of s (wanted_from plan inst) in
    let number : ℕ = wanted_number x (n_of inst) in
    reads_answer plan inst i n (λ k. vault_answer x k row) wants
    ∙ ap (λ (j : ℕ). vault_by (nat_lt number row.base) (nat_lt number row.dur) x (n_of inst) j number) (sym wants.input)
    ∙ ap (λ (k : ℕ). vault_by (nat_lt k row.base) (nat_lt k row.dur) x (n_of inst) i k) (sym wants.number)

abbrev read_by : Bool → Bool → ℕ → ℕ → Element → Read
read_by dropped none base dur y = if dropped then read.Gone base else (if none then read.NotYet dur else read.Item y)

reads_gone : (dropped none : Bool) (base dur b : ℕ) (y : Element) → read.Gone b ≡ read_by dropped none base dur y → dropped ≡ true
reads_gone true none base dur b y is = refl
reads_gone false true base dur b y is = absurd cc
reads_gone false false base dur b y is = absurd cc

reads_not_yet : (dropped none : Bool) (base dur d : ℕ) (y : Element) → read.NotYet d ≡ read_by dropped none base dur y
    → (dropped ≡ false) × (none ≡ true)
reads_not_yet true none base dur d y is = absurd cc
reads_not_yet false true base dur d y is = (refl, refl)
reads_not_yet false false base dur d y is = absurd cc

reads_item : (dropped none : Bool) (base dur : ℕ) (y z : Element) → read.Item z ≡ read_by dropped none base dur y
    → (dropped ≡ false) × (none ≡ false)
reads_item true none base dur y z is = absurd cc
reads_item false true base dur y z is = absurd cc
reads_item false false base dur y z is = (refl, refl)

-- what the vault gave may be taken
pub may_take : (plan : PlanText) → ActFacts plan → (inst : InstState) (i n : ℕ) (s u : VaultTold) (answer : Read)
    → IsOperator (plan_numbers plan) inst.v → IsNumbered plan (vertex_of plan inst.v) inst → Wants plan inst i n → Sound plan s
    → Reads plan (input (vertex_of plan inst.v) i) n s (Ok answer) u → MayTake plan inst i n answer
may_take plan facts inst i n s u (read.Gone base) operator numbered wants sound reads = tt
may_take plan facts inst i n s u (read.NotYet dur) operator numbered wants sound reads = tt
may_take plan facts inst i n s u (read.Item y) operator numbered wants sound reads =
    let v : ℕ = input (vertex_of plan inst.v) i in
    let row : LedgerRow = durable_of s v in
    let there = reads_item (nat_lt n row.base) (nat_le row.dur n) row.base row.dur (element_at plan v n) y reads.0 in
    let below = not_within row.dur n there.1 in
    let stored = (sound.numbers.stands.row v).dur in
    let most = facts.of_plan.most in (
      ap (λ (xs : List Element). slice_get xs n) (numbered.read operator.1 i) ∙ reads.1,
      omega (arith, below, stored, most),
    )

-- a read of it
got_from_vault : (plan : PlanText) (inst new : InstState) (i n : ℕ) (s u : VaultTold) (result : Result Outcome EngineFault)
    → vault_reading plan inst s ≡ got (vertex_of plan inst.v) (n_of inst) i n → Keeps s u → Accepts plan inst i n result new
    → ReadsVault plan inst s result new u
got_from_vault plan inst new i n s u (Ok told) is kept accepts = (is ∙ accepts, kept)
got_from_vault plan inst new i n s u (Err (refused.Vault f)) is kept accepts = absurd accepts.0
got_from_vault plan inst new i n s u (Err (refused.Full v reached)) is kept accepts =
    ((subst (λ (did : InstStep). IsFull plan inst did v reached) (sym is) accepts.0, kept), accepts.1)
got_from_vault plan inst new i n s u (Err refused.Memory) is kept accepts = (kept, accepts.1)

vault_reads : (plan : PlanText) (inst new : InstState) (i n : ℕ) (s u : VaultTold) (answer : Read) (result : Result Outcome EngineFault)
    → Wants plan inst i n → Reads plan (wanted_from plan inst) n s (Ok answer) u → TakesRead plan inst i n answer result new
    → ReadsVault plan inst s result new u
vault_reads plan inst new i n s u (read.Gone base) result wants reads takes =
    let x : VertexNumbers = vertex_of plan inst.v in
    let row : LedgerRow = durable_of s (wanted_from plan inst) in
    let dropped = reads_gone (nat_lt n row.base) (nat_le row.dur n) row.base row.dur base (element_at plan (wanted_from plan inst) n) reads.0 in
    let made : ReadsVault plan inst s (Ok (outcome.Gone i n)) new u = (
      vault_is plan inst s i n wants
          ∙ ap (λ (b : Bool). vault_by b (nat_lt n row.dur) x (n_of inst) i n) dropped
          ∙ ap (λ (o : Option InstNumbers). left o (outcome.Gone i n)) (sym takes.1),
      keeps plan s u reads.2,
    ) in
    subst (λ (r : Result Outcome EngineFault). ReadsVault plan inst s r new u) (sym takes.0) made
vault_reads plan inst new i n s u (read.NotYet dur) result wants reads takes =
    let x : VertexNumbers = vertex_of plan inst.v in
    let row : LedgerRow = durable_of s (wanted_from plan inst) in
    let there = reads_not_yet (nat_lt n row.base) (nat_le row.dur n) row.base row.dur dur (element_at plan (wanted_from plan inst) n) reads.0 in
    let made : ReadsVault plan inst s (Ok (outcome.Wait i n)) new u = (
      vault_is plan inst s i n wants
          ∙ ap (λ (b : Bool). vault_by b (nat_lt n row.dur) x (n_of inst) i n) there.0
          ∙ ap (λ (b : Bool). vault_by false b x (n_of inst) i n) (lt_no n row.dur (is_within row.dur n there.1))
          ∙ ap (λ (o : Option InstNumbers). left o (outcome.Wait i n)) (sym wants.ready)
          ∙ ap (λ (k : InstState). left (inst_numbers k) (outcome.Wait i n)) (sym takes.1),
      keeps plan s u reads.2,
    ) in
    subst (λ (r : Result Outcome EngineFault). ReadsVault plan inst s r new u) (sym takes.0) made
vault_reads plan inst new i n s u (read.Item y) result wants reads takes =
    let x : VertexNumbers = vertex_of plan inst.v in
    let row : LedgerRow = durable_of s (wanted_from plan inst) in
    let there = reads_item (nat_lt n row.base) (nat_le row.dur n) row.base row.dur (element_at plan (wanted_from plan inst) n) y reads.0 in
    let is : vault_reading plan inst s ≡ got x (n_of inst) i n =
    vault_is plan inst s i n wants
    ∙ ap (λ (b : Bool). vault_by b (nat_lt n row.dur) x (n_of inst) i n) there.0
    ∙ ap (λ (b : Bool). vault_by false b x (n_of inst) i n) (lt_yes n row.dur (not_within row.dur n there.1)) in
    got_from_vault plan inst new i n s u result is (keeps plan s u reads.2) takes

pub reads_vault : (plan : PlanText) (inst new : InstState) (i n : ℕ) (s u : VaultTold) (answer : Read) (result : Result Outcome EngineFault)
    → Wants plan inst i n → Reads plan (input (vertex_of plan inst.v) i) n s (Ok answer) u → TakesRead plan inst i n answer result new
    → ReadsVault plan inst s result new u
reads_vault plan inst new i n s u answer result wants reads takes =
    vault_reads plan inst new i n s u answer result wants
    (subst (λ (v : ℕ). Reads plan v n s (Ok answer) u) (sym (wanted_is plan inst i n wants)) reads) takes

-- a source's list

-- a source wants of an input 0 the number that it has accepted

abbrev maybe : Bool → ℕ × ℕ → Option (ℕ × ℕ)
maybe b place = if b then Some place else None

abbrev place_of : Option (ℕ × ℕ) → ℕ × ℕ
place_of o = option_map_or (λ (p : ℕ × ℕ). p) o (0, 0)

place_by : (b : Bool) (k i n : ℕ) → maybe b (0, k) ≡ Some (i, n) → (i ≡ 0) × (n ≡ k)
place_by true k i n is = (sym (ap (λ (o : Option (ℕ × ℕ)). (place_of o).0) is), sym (ap (λ (o : Option (ℕ × ℕ)). (place_of o).1) is))
place_by false k i n is = absurd cc

source_place : (z : Vertex) (job : List Vertex) (v k i n : ℕ) → kind_of z ≡ kind.Source → wanted_by z job v k ≡ Some (i, n) → (i ≡ 0) × (n ≡ k)
source_place (Source list) job v k i n source is = place_by (nat_lt k (length list)) k i n is
source_place (Inner form inputs) job v k i n source is = absurd cc
source_place (Sink u) job v k i n source is = absurd cc

pub listed_at : (plan : PlanText) → ActFacts plan → (inst : InstState) (i n : ℕ) → IsStream (plan_numbers plan) inst.v
    → (vertex_of plan inst.v).kind ≡ kind.Source → Wants plan inst i n → (i ≡ 0) × (n ≡ n_of inst)
listed_at plan facts inst i n stream source wants =
    let here : inst.v < length plan.job.graph = let h = stream.0 in let count = facts.of_plan.count in omega (arith, h, count) in
    source_place (vertex (vertices_of plan) inst.v) (vertices_of plan) inst.v (n_of inst) i n
    (sym (facts.meant.meant inst.v here).kind ∙ source) wants.place

abbrev list_by : Bool → VertexNumbers → ℕ → ℕ → ℕ → InstStep
list_by dropped x k i n = if dropped then gone i n else got x k i n

list_is : (plan : PlanText) (inst : InstState) (s : VaultTold) (i n : ℕ) → Wants plan inst i n → i ≡ 0 → n ≡ n_of inst
    → list_reading plan inst s ≡ list_by (nat_lt n (durable_of s inst.v).mark) (vertex_of plan inst.v) (n_of inst) i n
unfolding list_answer
list_is plan inst s i n wants first is =
    let x : VertexNumbers = vertex_of plan inst.v in
    let mark : ℕ = (durable_of s inst.v).mark in
    reads_answer plan inst i n (λ k. list_answer x k mark) wants
    ∙ ap (λ (j : ℕ). list_by (nat_lt (n_of inst) mark) x (n_of inst) j (n_of inst)) (sym first)
    ∙ ap (λ (k : ℕ). list_by (nat_lt k mark) x (n_of inst) i k) (sym is)

pub list_gone : (plan : PlanText) (inst new : InstState) (s : VaultTold) (i n mark : ℕ) → Wants plan inst i n → i ≡ 0 → n ≡ n_of inst
    → mark ≡ (durable_of s inst.v).mark → n < mark → inst_numbers new ≡ None → ReadsList plan inst s (Ok (outcome.Gone i n)) new
list_gone plan inst new s i n mark wants first is is_mark below down =
    let x : VertexNumbers = vertex_of plan inst.v in
    list_is plan inst s i n wants first is
    ∙ ap (λ (b : Bool). list_by b x (n_of inst) i n) (lt_yes n (durable_of s inst.v).mark (omega (arith, is_mark, below)))
    ∙ ap (λ (o : Option InstNumbers). left o (outcome.Gone i n)) (sym down)

pub list_got : (plan : PlanText) (inst new : InstState) (s : VaultTold) (i n mark : ℕ) (result : Result Outcome EngineFault)
    → Wants plan inst i n → i ≡ 0 → n ≡ n_of inst → mark ≡ (durable_of s inst.v).mark → mark ≤ n → Accepts plan inst i n result new
    → ReadsList plan inst s result new
list_got plan inst new s i n mark (Ok told) wants first is is_mark least accepts =
    let x : VertexNumbers = vertex_of plan inst.v in
    list_is plan inst s i n wants first is
    ∙ ap (λ (b : Bool). list_by b x (n_of inst) i n) (lt_no n (durable_of s inst.v).mark (omega (arith, is_mark, least)))
    ∙ accepts
list_got plan inst new s i n mark (Err f) wants first is is_mark least accepts =
    let x : VertexNumbers = vertex_of plan inst.v in
    let did : list_reading plan inst s ≡ got x (n_of inst) i n =
    list_is plan inst s i n wants first is
    ∙ ap (λ (b : Bool). list_by b x (n_of inst) i n) (lt_no n (durable_of s inst.v).mark (omega (arith, is_mark, least))) in
    (subst (λ (d : InstStep). RefusesRead plan inst d f) (sym did) accepts.0, accepts.1)

-- the element is one of the list
pub source_within : (plan : PlanText) → ActFacts plan → (inst : InstState) (i n : ℕ) → IsStream (plan_numbers plan) inst.v
    → (vertex_of plan inst.v).kind ≡ kind.Source → Wants plan inst i n → n ≡ n_of inst
    → (n < length (source_list plan inst.v)) × (n < plan.job.max_elements)
source_within plan facts inst i n stream source wants is =
    let x : VertexNumbers = vertex_of plan inst.v in
    let all = source_size plan facts inst.v stream (ap (λ k. is_inner k) source) in
    let listed = (facts.of_plan.numbers.each inst.v stream.0).listed source in
    let size = facts.of_plan.size inst.v stream in
    let most = facts.of_plan.most in
    let more = wants.more in
    let list = ap (λ (xs : List Element). length xs) (facts.meant.sources inst.v source).1 in
    (omega (arith, all, more, list, is), omega (arith, all, more, listed, size, most, is))
