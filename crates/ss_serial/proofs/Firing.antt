-- The failures that triggers list for one count.
use Rattle.std.proofs.Common.{◌≡◌, ◌∙◌, ℕ, zero, suc, ◌+◌, ◌-◌, ◌<◌, ◌≤◌, Bool, true, false, List, [], ◌∷◌, ◌++◌, Option, Ok, Err, length, take, drop, get_or, refl, sym, ap, subst, arith, append_assoc}
use Rattle.std.specs.Prelude.{◌==◌, ◌&&◌, IfSome, slice_get}
use Rattle.std.specs.List.{AllByRecursion}
use Rattle.std.proofs.lemmas.Bool.{cond-true, cond-false}
use Rattle.std.proofs.lemmas.List.{append-nil, take_more, take-append-drop}
use Rattle.std.proofs.lemmas.Option.{slice_get-get_or}
use Rattle.ss_acts.specs.declared.fault.EngineFault.{EngineFault}
use Rattle.ss_engine.specs.Joint.{Joint}
use Rattle.ss_engine.specs.Plays.{PlaysAll, PlaysUpTo, TraceTold}
use Rattle.ss_engine.specs.PlaysOne.{MakesOne, StopsAtOne}
use Rattle.ss_engine.specs.Told.{PlantTold}
use Rattle.ss_fail.specs.declared.act.Act.{Act}
use Rattle.ss_fail.specs.declared.act.Act.TheVariants as act
use Rattle.ss_fail.specs.declared.outcome.Outcome.{Outcome}
use Rattle.ss_fail.specs.declared.trigger.Trigger.{Trigger}
use Rattle.ss_manager.specs.Fired.{IsNextFired, NoneFires, fires}
use Rattle.ss_state.specs.Rule.{acts_at}
use Rattle.ss_serial.proofs.Runs.{one_made, one_stopped, plays_then}

-- those of the first n triggers
abbrev pub acts_up_to : List Trigger → ℕ → ℕ → ℕ → List Act
acts_up_to ts n v count = acts_at (take n ts) v count

-- what stands where there is no trigger
abbrev pub no_trigger : Trigger
no_trigger = record { v = 0; count = 0; act = act.Read 0 0 }

pub all_at : {A : Type 0} (P : A → Type 0) (xs : List A) (i : ℕ) (d : A) → i < length xs → AllByRecursion P xs → P (get_or xs i d)
all_at P [] i d h all = absurd (omega (arith, h))
all_at P (x ∷ xs) zero d h all = all.0
all_at P (x ∷ xs) (suc i) d h all = all_at P xs i d (omega (arith, h)) all.1

append_by : (t : Trigger) (xs ys : List Trigger) (v count : ℕ) (b : Bool) → ((t.v == v) && (t.count == count)) ≡ b
    → acts_at (xs ++ ys) v count ≡ acts_at xs v count ++ acts_at ys v count
    → acts_at (t ∷ xs ++ ys) v count ≡ acts_at (t ∷ xs) v count ++ acts_at ys v count
append_by t xs ys v count true e behind = rw e (ap (λ (zs : List Act). t.act ∷ zs) behind)
append_by t xs ys v count false e behind = rw e behind

acts_append : (xs ys : List Trigger) (v count : ℕ) → acts_at (xs ++ ys) v count ≡ acts_at xs v count ++ acts_at ys v count
acts_append [] ys v count = refl
acts_append (t ∷ xs) ys v count =
    append_by t xs ys v count ((t.v == v) && (t.count == count)) refl (acts_append xs ys v count)

one_listed : (t : Trigger) (v count : ℕ) → fires t v count ≡ true → acts_at (t ∷ []) v count ≡ t.act ∷ []
one_listed t v count e = cond-true (fires t v count) _ _ e

none_listed : (t : Trigger) (v count : ℕ) → fires t v count ≡ false → acts_at (t ∷ []) v count ≡ []
none_listed t v count e = cond-false (fires t v count) _ _ e

one_more : (ts : List Trigger) (i v count : ℕ) → i < length ts
    → acts_up_to ts (i + 1) v count ≡ acts_up_to ts i v count ++ acts_at (get_or ts i no_trigger ∷ []) v count
one_more ts i v count h =
    ap (λ (xs : List Trigger). acts_at xs v count) (take_more ts i no_trigger h)
    ∙ acts_append (take i ts) (get_or ts i no_trigger ∷ []) v count

is_at : (ts : List Trigger) (i : ℕ) (P : Trigger → Type 0) → i < length ts → IfSome (slice_get ts i) P → P (get_or ts i no_trigger)
is_at ts i P h is = subst (λ (o : Option Trigger). IfSome o P) (slice_get-get_or ts i no_trigger h) is

skip : (gap : ℕ) (ts : List Trigger) (i v count : ℕ) → i + gap ≤ length ts
    → ((k : ℕ) → i ≤ k → k < i + gap → IfSome (slice_get ts k) (λ t. fires t v count ≡ false))
    → acts_up_to ts (i + gap) v count ≡ acts_up_to ts i v count
skip zero ts i v count h none = ap (λ (n : ℕ). acts_up_to ts n v count) (omega arith)
skip (suc gap) ts i v count h none =
    let within : i + gap < length ts = omega (arith, h) in
    let before = skip gap ts i v count (omega (arith, h)) (λ k low high. none k low (omega (arith, high))) in
    let last = is_at ts (i + gap) (λ t. fires t v count ≡ false) within (none (i + gap) (omega arith) (omega arith)) in
    ap (λ (n : ℕ). acts_up_to ts n v count) (omega arith)
    ∙ one_more ts (i + gap) v count within
    ∙ ap (λ (xs : List Act). acts_up_to ts (i + gap) v count ++ xs) (none_listed (get_or ts (i + gap) no_trigger) v count last)
    ∙ append-nil (acts_up_to ts (i + gap) v count)
    ∙ before

skip_to : (ts : List Trigger) (i j v count : ℕ) → i ≤ j → j ≤ length ts
    → ((k : ℕ) → i ≤ k → k < j → IfSome (slice_get ts k) (λ t. fires t v count ≡ false))
    → acts_up_to ts j v count ≡ acts_up_to ts i v count
skip_to ts i j v count low high none =
    ap (λ (n : ℕ). acts_up_to ts n v count) (omega (arith, low))
    ∙ skip (j - i) ts i v count (omega (arith, low, high)) (λ k from below. none k from (omega (arith, low, below)))

-- the next one that fires
fired_at : (ts : List Trigger) (i j v count : ℕ) → IsNextFired ts i v count j
    → acts_up_to ts (j + 1) v count ≡ acts_up_to ts i v count ++ (get_or ts j no_trigger).act ∷ []
fired_at ts i j v count is =
    let within = is.within in
    one_more ts j v count is.within
    ∙ ap (λ (xs : List Act). xs ++ acts_at (get_or ts j no_trigger ∷ []) v count)
    (skip_to ts i j v count is.from (omega (arith, within)) (λ k low high. is.first k low high))
    ∙ ap (λ (xs : List Act). acts_up_to ts i v count ++ xs)
    (one_listed (get_or ts j no_trigger) v count (is_at ts j (λ t. fires t v count ≡ true) is.within is.fired))

-- where none fires any more, all were made
all_fired : (ts : List Trigger) (i v count : ℕ) → i ≤ length ts → NoneFires ts i v count → acts_up_to ts i v count ≡ acts_at ts v count
all_fired ts i v count h none =
    sym (skip_to ts i (length ts) v count h (omega arith) (λ k low high. none k low))
    ∙ ap (λ (xs : List Trigger). acts_at xs v count) (take_whole ts)
  where
    take_whole : (xs : List Trigger) → take (length xs) xs ≡ xs
    take_whole [] = refl
    take_whole (x ∷ xs) = ap (λ (zs : List Trigger). x ∷ zs) (take_whole xs)

-- ---- on a job

pub plays_fired : (p q r : PlantTold) (ts : List Trigger) (i j v count : ℕ) (o : Outcome) (before mid after : TraceTold) → IsNextFired ts i v count j
    → PlaysAll p (acts_up_to ts i v count) before q mid → MakesOne q (get_or ts j no_trigger).act mid o r after
    → PlaysAll p (acts_up_to ts (j + 1) v count) before r after
plays_fired p q r ts i j v count o before mid after is plays one =
    let a : Act = (get_or ts j no_trigger).act in
    subst (λ (xs : List Act). PlaysAll p xs before r after) (sym (fired_at ts i j v count is))
    (plays_then p q r (acts_up_to ts i v count) (a ∷ []) before mid after (Ok tt) plays (one_made q r a o mid after one))

pub plays_failed : (p q r : PlantTold) (ts : List Trigger) (i j v count : ℕ) (f : EngineFault) (before mid after : TraceTold) → IsNextFired ts i v count j
    → PlaysAll p (acts_up_to ts i v count) before q mid → Joint q → StopsAtOne q (get_or ts j no_trigger).act mid f r after
    → PlaysUpTo p (acts_at ts v count) before f r after
plays_failed p q r ts i j v count f before mid after is plays joint one =
    let a : Act = (get_or ts j no_trigger).act in
    let rest : List Act = acts_at (drop (j + 1) ts) v count in
    let all : acts_up_to ts i v count ++ a ∷ rest ≡ acts_at ts v count =
    sym (append_assoc (acts_up_to ts i v count) (a ∷ []) rest)
    ∙ ap (λ (xs : List Act). xs ++ rest) (sym (fired_at ts i j v count is))
    ∙ sym (acts_append (take (j + 1) ts) (drop (j + 1) ts) v count)
    ∙ ap (λ (xs : List Trigger). acts_at xs v count) (take-append-drop (j + 1) ts) in
    subst (λ (xs : List Act). PlaysUpTo p xs before f r after) all
    (plays_then p q r (acts_up_to ts i v count) (a ∷ rest) before mid after (Err f) plays (one_stopped q r a rest f mid after joint one))

pub plays_all_fired : (p q : PlantTold) (ts : List Trigger) (i v count : ℕ) (before after : TraceTold) → i ≤ length ts → NoneFires ts i v count
    → PlaysAll p (acts_up_to ts i v count) before q after → PlaysAll p (acts_at ts v count) before q after
plays_all_fired p q ts i v count before after h none plays =
    subst (λ (xs : List Act). PlaysAll p xs before q after) (all_fired ts i v count h none) plays
