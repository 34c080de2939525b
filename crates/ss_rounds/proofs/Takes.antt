-- What a take brings.
use Rattle.std.proofs.Common.{◌≡◌, ℕ, ◌+◌, ◌-◌, ◌<◌, ◌≤◌, true, false, nat_eq, nat_le, Some, List, refl, ap, ◌∙◌, inl, arith, leb-true}
use Rattle.std.proofs.lemmas.Bool.{cond_both, eqb-true, leb-false, false≢true, true≢false}
use Rattle.ss_water.specs.Graph.{is_sink}
use Rattle.ss_fail.specs.declared.trigger.Trigger.{Trigger}
use Rattle.ss_state.specs.declared.entry.Entry.TheVariants as entry
use Rattle.ss_state.specs.Numbers.{JobNumbers, IsSink, vertex, input, size}
use Rattle.ss_state.specs.State.{LedgerRow, State, durable_at}
use Rattle.ss_state.specs.Journal.{change, enter}
use Rattle.ss_state.specs.Acts.{VaultStep, take_act}
use Rattle.ss_state.specs.Joint.{Joint}
use Rattle.ss_rounds.specs.Measure.{total_left}
use Rattle.ss_rounds.specs.Whole.{is_took}
use Rattle.ss_rounds.specs.Laws.{TakesLowerTheTotal, OtherTakesChangeNothing, OtherTakesHaveAll}
use Rattle.ss_rounds.proofs.Frames.{far_sink, total_lower, became_row}

one_taken : (job : JobNumbers) (ts : List Trigger) (s : State) (k : ℕ) → Joint job s → IsSink job k → (durable_at s k).taken < size (vertex job (input (vertex job k) 0))
    → total_left job ts (record s { vault = enter job s.vault (Some (entry.Took k)) }) < total_left job ts s
unfolding change
one_taken job ts s k joint sink less =
    let row = durable_at s k in
    let new : LedgerRow = record row { taken = row.taken + 1 } in
    let t : State = record s { vault = enter job s.vault (Some (entry.Took k)) } in
    let became = became_row s k new (enter job s.vault (Some (entry.Took k))) (omega (arith, sink.0, joint.vault.stands.rows)) refl in
    let is : is_sink (vertex job k).kind ≡ true = ap is_sink sink.1 in
    let was = far_sink job ts s k is in
    let now = far_sink job ts t k is ∙ ap (λ (r : LedgerRow). size (vertex job (input (vertex job k) 0)) - r.taken) became.row_is in
    total_lower job ts s t k sink.0 became.rest (inl (omega arith))

pub takes_lower_the_total : TakesLowerTheTotal
unfolding take_act
takes_lower_the_total job ts s k joint sink =
    let P : VaultStep → Type 0 = λ did. is_took did.outcome ≡ true → total_left job ts (record s { vault = did.vault }) < total_left job ts s in
    let u = input (vertex job k) 0 in
    let taken = (durable_at s k).taken in
    cond_both (nat_le (size (vertex job u)) taken) _ _ P (λ t e. absurd (false≢true e))
    (λ t. cond_both (nat_eq taken (durable_at s u).dur) _ _ P (λ w e. absurd (false≢true e))
    (λ w e. one_taken job ts s k joint sink (leb-false (size (vertex job u)) taken t)))

pub other_takes_change_nothing : OtherTakesChangeNothing
unfolding take_act
other_takes_change_nothing job s k joint sink =
    let P : VaultStep → Type 0 = λ did. is_took did.outcome ≡ false → ◌≡◌ {A = State} (record s { vault = did.vault }) s in
    let u = input (vertex job k) 0 in
    let taken = (durable_at s k).taken in
    cond_both (nat_le (size (vertex job u)) taken) _ _ P (λ t e. refl)
    (λ t. cond_both (nat_eq taken (durable_at s u).dur) _ _ P (λ w e. refl) (λ w e. absurd (true≢false e)))

pub other_takes_have_all : OtherTakesHaveAll
unfolding take_act
other_takes_have_all job s k joint sink =
    let u = input (vertex job k) 0 in
    let taken = (durable_at s k).taken in
    let all = size (vertex job u) in
    let P : VaultStep → Type 0 = λ did. is_took did.outcome ≡ false → all ≤ (durable_at s u).dur → all ≤ taken in
    cond_both (nat_le all taken) _ _ P (λ t e whole. leb-true all taken t)
    (λ t. cond_both (nat_eq taken (durable_at s u).dur) _ _ P
    (λ w e whole. let same = eqb-true taken (durable_at s u).dur w in omega arith) (λ w e whole. absurd (true≢false e)))
