-- What the next act of a first replica brings.
use Rattle.std.proofs.Common.{◌≡◌, ℕ, ◌≤◌, nat_lt, nat_le, not, ◌&&◌, true, false, Option, Some, None, List, [], ◌<◌, refl, ap, ◌∙◌, inl, inr, arith, le-leb, le-ltb}
use Rattle.std.proofs.lemmas.Bool.{cond_both, and_from, not_from_false, both_ways}
use Rattle.ss_fail.specs.declared.act.Act.{Act}
use Rattle.ss_fail.specs.declared.trigger.Trigger.{Trigger}
use Rattle.ss_state.specs.Numbers.{VertexNumbers, JobNumbers, IsStream, vertex, mlen}
use Rattle.ss_state.specs.State.{TailNumbers, InstNumbers, State, tail_at, inst_at, durable_at, next}
use Rattle.ss_state.specs.Step.{step}
use Rattle.ss_state.specs.Rule.{snap_due, rule, last_snap}
use Rattle.ss_state.specs.Laws.{PositionsNeverFall, OutNeverFalls}
use Rattle.ss_state.specs.Joint.{Joint}
use Rattle.ss_rounds.specs.Measure.{total_left}
use Rattle.ss_rounds.specs.Whole.{is_wait, is_idle, is_idle_at}
use Rattle.ss_rounds.specs.Laws.{ruled_step, RuledActsLowerTheTotal, WaitsChangeNothing, NoWaitsBehindWholeStreams}
use Rattle.ss_rounds.proofs.Going.{Went}
use Rattle.ss_rounds.proofs.Writing.{write_went}
use Rattle.ss_rounds.proofs.Snapping.{snap_went}
use Rattle.ss_rounds.proofs.Loading.{load_went}
use Rattle.ss_rounds.proofs.Reading.{read_went}

-- a replica that writes at its end, where its tail has all, has nothing to do
idle_up : (x : VertexNumbers) (up : InstNumbers) (tail : TailNumbers) (last : ℕ) → nat_lt 0 up.left ≡ false → snap_due x up.n last ≡ false → nat_le (mlen x) up.n ≡ true → next x up ≤ tail.end
    → is_idle x (Some up) tail last ≡ true
idle_up x up tail last none due all near =
    let at_end = and_from (not (nat_lt 0 up.left)) (nat_le (mlen x) up.n) (not_from_false (nat_lt 0 up.left) none) all in
    and_from (not (nat_lt 0 up.left) && nat_le (mlen x) up.n && not (snap_due x up.n last)) (nat_le (next x up) tail.end)
    (and_from (not (nat_lt 0 up.left) && nat_le (mlen x) up.n) (not (snap_due x up.n last)) at_end (not_from_false (snap_due x up.n last) due)) (le-leb (next x up) tail.end near)

ruled_went : PositionsNeverFall → OutNeverFalls → (job : JobNumbers) (ts : List Trigger) (s : State) (v : ℕ) → Joint job s → IsStream job v → Went job ts s v (ruled_step job s v)
unfolding rule
ruled_went positions never job ts s v joint stream = by_inst (inst_at s v 0) refl
  where
    by_inst : (p : Option InstNumbers) → inst_at s v 0 ≡ p → Went job ts s v (step job s (rule (vertex job v) v 0 p (last_snap (durable_at s v).snaps)))
    by_inst None e = load_went job ts s v joint stream e
    by_inst (Some up) e =
        let x = vertex job v in
        let last = last_snap (durable_at s v).snaps in
        let P : Act → Type 0 = λ a. Went job ts s v (step job s a) in
        cond_both (nat_lt 0 up.left) _ _ P
        (λ t. write_went job ts s v up joint stream e (λ none near. absurd (both_ways (nat_lt 0 up.left) (le-ltb 0 up.left (omega arith)) t)))
        (λ t. cond_both (snap_due x up.n last) _ _ P (λ due. snap_went job ts s v up joint stream e t due)
        (λ due. cond_both (nat_le (mlen x) up.n) _ _ P
        (λ all. write_went job ts s v up joint stream e
        (λ none near. ap (λ p. is_idle x p (tail_at s v) last) e ∙ idle_up x up (tail_at s v) last t due all near))
        (λ more. read_went positions never job ts s v up joint stream e t more)))

pub ruled_acts_lower_the_total : PositionsNeverFall → OutNeverFalls → RuledActsLowerTheTotal
ruled_acts_lower_the_total positions never job ts s v joint stream busy told = by_way (ruled_went positions never job ts s v joint stream)
  where
    by_way : Went job ts s v (ruled_step job s v) → total_left job ts (ruled_step job s v).state < total_left job ts s
    by_way (inl idle) = absurd (both_ways (is_idle_at job s v) busy idle.0)
    by_way (inr (inl lower)) = lower.0
    by_way (inr (inr still)) = absurd (both_ways (is_wait (ruled_step job s v).outcome) told still.1)

pub waits_change_nothing : PositionsNeverFall → OutNeverFalls → WaitsChangeNothing
waits_change_nothing positions never job s v joint stream told = by_way (ruled_went positions never job [] s v joint stream)
  where
    by_way : Went job [] s v (ruled_step job s v) → (ruled_step job s v).state ≡ s
    by_way (inl idle) = absurd (both_ways (is_wait (ruled_step job s v).outcome) idle.1 told)
    by_way (inr (inl lower)) = absurd (both_ways (is_wait (ruled_step job s v).outcome) lower.1 told)
    by_way (inr (inr still)) = still.0

pub no_waits_behind_whole_streams : PositionsNeverFall → OutNeverFalls → NoWaitsBehindWholeStreams
no_waits_behind_whole_streams positions never job s v joint stream whole = by_way (ruled_went positions never job [] s v joint stream)
  where
    by_way : Went job [] s v (ruled_step job s v) → is_wait (ruled_step job s v).outcome ≡ false
    by_way (inl idle) = idle.1
    by_way (inr (inl lower)) = lower.1
    by_way (inr (inr still)) = absurd (still.2 whole)
