-- Lists of acts that obey the rule and the triggers.
use Rattle.std.proofs.Common.{ℕ, List, [], ◌∷◌, ◌++◌, refl}
use Rattle.std.specs.Prelude.{◌==◌, ◌&&◌}
use Rattle.std.specs.List.{AllByRecursion}
use Rattle.std.proofs.lemmas.Bool.{cond_both}
use Rattle.ss_fail.specs.declared.act.Act.{Act}
use Rattle.ss_fail.specs.declared.act.Act.TheVariants as act
use Rattle.ss_fail.specs.declared.trigger.Trigger.{Trigger}
use Rattle.ss_state.specs.Numbers.{JobNumbers}
use Rattle.ss_state.specs.Rule.{ByRule, IsTrigger, Obeys, ObeysFrom, acts_at, due_after, is_stored}
use Rattle.ss_state.specs.State.{State, tail_at}
use Rattle.ss_state.specs.Step.{MayAct, run, step}

-- a list that leaves nothing due, and then one that obeys from there on
pub obeys_then : (job : JobNumbers) (ts : List Trigger) (due : List Act) (s : State) (xs ys : List Act) → ObeysFrom job ts due s xs
    → Obeys job ts (run job s xs).state ys → ObeysFrom job ts due s (xs ++ ys)
obeys_then job ts [] s [] ys first second = second
obeys_then job ts (d ∷ due) s [] ys first second = absurd first
obeys_then job ts [] s (x ∷ xs) ys first second =
    (first.0, first.1, obeys_then job ts (due_after job ts s x) (step job s x).state xs ys first.2 second)
obeys_then job ts (d ∷ due) s (x ∷ xs) ys first second =
    (first.0, first.1, obeys_then job ts due (step job s x).state xs ys first.2 second)

-- what is due, made in its order, obeys
due_obey : (job : JobNumbers) (ts : List Trigger) (due : List Act) (s : State) → AllByRecursion (MayAct job) due → ObeysFrom job ts due s due
due_obey job ts [] s may = tt
due_obey job ts (d ∷ due) s may = (may.0, refl, due_obey job ts due (step job s d).state may.1)

pub listed_may : (job : JobNumbers) (ts : List Trigger) (v count : ℕ) → AllByRecursion (IsTrigger job) ts
    → AllByRecursion (MayAct job) (acts_at ts v count)
listed_may job [] v count are = tt
listed_may job (t ∷ ts) v count are =
    let rest = listed_may job ts v count are.1 in
    cond_both ((t.v == v) && (t.count == count)) _ _ (λ (xs : List Act). AllByRecursion (MayAct job) xs)
    (λ e. (are.0.act, rest))
    (λ e. rest)

due_may : (job : JobNumbers) (ts : List Trigger) (s : State) (a : Act) → AllByRecursion (IsTrigger job) ts
    → AllByRecursion (MayAct job) (due_after job ts s a)
due_may job ts s (act.Read v r) are = tt
due_may job ts s (act.Write v r) are =
    let made = step job s (act.Write v r) in
    cond_both (is_stored made.outcome) _ _ (λ (xs : List Act). AllByRecursion (MayAct job) xs)
    (λ e. listed_may job ts v (tail_at made.state v).stored are)
    (λ e. tt)
due_may job ts s (act.Snap v r) are = tt
due_may job ts s (act.Crash v r) are = tt
due_may job ts s (act.Load v r) are = tt
due_may job ts s (act.Lose v) are = tt
due_may job ts s (act.Flush v count) are = tt
due_may job ts s (act.Take k) are = tt
due_may job ts s (act.Collect v) are = tt
due_may job ts s (act.Trim v) are = tt
due_may job ts s act.Pass are = tt

-- an act by the rule, and behind it what it makes due
pub act_obeys : (job : JobNumbers) (ts : List Trigger) (s : State) (a : Act) → MayAct job a → ByRule job s a
    → AllByRecursion (IsTrigger job) ts → Obeys job ts s (a ∷ due_after job ts s a)
act_obeys job ts s a may by are =
    (may, by, due_obey job ts (due_after job ts s a) (step job s a).state (due_may job ts s a are))
