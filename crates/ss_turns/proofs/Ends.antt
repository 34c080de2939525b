-- What is known of a table that was closed.
use Rattle.std.proofs.Common.{◌≡◌, ◌≢◌, ℕ, zero, suc, ◌+◌, ◌<◌, eqb, Bool, true, false, ◌&&◌, List, [], ◌∷◌, length, get_or, set, replicate, Option, Some, None, refl, sym, ap, ◌∙◌, arith, eq-eqb, ne_eqb, length-set, get_or-set_other, get_or-set_same}
use Rattle.std.specs.Prelude.{is_some, IfSome}
use Rattle.std.specs.Mem.Slots.Ownership.{Filled}
use Rattle.std.specs.List.{sum_by, slice_get}
use Rattle.std.proofs.lemmas.Option.{slice_get_within}
use mathlib.Core.Logic.{dite}
use mathlib.Core.Option.{some, some-injective, some-ne-none}
use native.Mathlib.Decide.{ℕ_discrete}
use lib.ListN.{get_elem?}
use Rattle.atomic_table.specs.Table.{Final, Seen}
use Rattle.ss_turns.specs.declared.view.View.{View}
use Rattle.ss_turns.specs.View.{times}
use Rattle.ss_turns.specs.Rule.{Kept}
use Rattle.ss_turns.specs.Values.{ClosedValue}
use Rattle.ss_turns.specs.Stands.{at_home, Stands}
use Rattle.ss_turns.proofs.Counting.{sum_two, sum_only, sum_at}

same_read : {A : Type 0} (l : List A) (i : ℕ) (a : A) → get_elem? l i ≡ some a → slice_get l i ≡ Some a
same_read [] i a e = absurd (some-ne-none a (sym e))
same_read (x ∷ xs) zero a e = ap Some (some-injective x a e)
same_read (x ∷ xs) (suc i) a e = same_read xs i a e

module _ {T P : Type 0} (place : T → ℕ) (plan : T → P) (p : P) (passes id : ℕ) (v : View P) (words : List ℕ) (slots : List (Option T)) (end : Final (Seen (Kept place plan p passes) id v) words slots) where
  -- a slot with turn 0 has the value that was at home
  found : (k : ℕ) → k < length slots → get_or words k 0 ≡ 0 → (x : T) × (slice_get slots k ≡ Some (Some x)) × (place x ≡ k) × (plan x ≡ p)
  found k inside free =
      let count = end.3 in
      let near : k < length end.0.homes = omega arith in
      let h = end.1.0.home k near (ap (λ ws. get_or ws k 0) end.2 ∙ free) in
      (h.0, same_read slots k (Some h.0) (end.4 k (Some h.0) h.1), h.2, h.3)

  pub stands : 0 < v.share → Stands place plan v.plan words slots
  stands some_share =
      let plan_there = end.1.0.same_plan id v end.1.1 some_share in record {
        wide = ap length (sym end.2) ∙ (end.1.0.wide ∙ ap (λ n. n + 1) end.3);
        value = λ k x free there.
            let f = found k (slice_get_within slots k (Some x) there) free in
            let same : f.0 ≡ x = (let e : Some (Some f.0) ≡ Some (Some x) = sym f.1 ∙ there in cc) in
            (ap place (sym same) ∙ f.2, plan_there ∙ (ap Some (sym f.3) ∙ ap (λ y. Some (plan y)) same));
      }

  -- where the view has all shares, every other view is spent
  spent_else : v.share ≡ passes → (f : View P → ℕ) → f (record { plan = None; share = 0; has = []; takes = 0; misses = 0; log = []; stops = 0; heard = 0 }) ≡ 0 → sum_by f end.0.views ≡ f v
  spent_else whole f none = sum_only f end.0.views id v end.1.1 (λ j w other at.
      let two = sum_two (λ u. u.share) end.0.views id j v w (λ e. other (sym e)) end.1.1 at in
      let all = end.1.0.shares in
      ap f (end.1.0.no_share j w at (omega arith)) ∙ none)

  pub all_home : v.share ≡ passes → v.has ≡ [] → (k : ℕ) → k < length slots → (get_or words k 0 ≡ 0) × ((x : T) × (slice_get slots k ≡ Some (Some x)))
  all_home whole free k inside =
      let count = end.3 in
      let none : times k v.has ≡ 0 = ap (times k) free in
      let turn = ap (λ ws. get_or ws k 0) (sym end.2) ∙ (end.1.0.turn k (omega arith) ∙ (spent_else whole (λ u. times k u.has) refl ∙ none)) in
      let f = found k inside turn in (turn, (f.0, f.1))

  -- a pass that was told of a stop, and has all shares, has itself or by those joined to it asked for one
  pub told_own : v.share ≡ passes → 0 < v.heard → 0 < v.stops
  told_own whole heard =
      let least = sum_at (λ u. u.heard) end.0.views id v end.1.1 in
      let own = spent_else whole (λ u. u.stops) refl in
      let t = end.1.0.told (omega arith) in omega arith

pub turn_read : (words : List ℕ) (k n : ℕ) → get_elem? words k ≡ some n → get_or words k 0 ≡ n
turn_read [] k n e = absurd (some-ne-none n (sym e))
turn_read (w ∷ words) zero n e = some-injective w n e
turn_read (w ∷ words) (suc k) n e = turn_read words k n e

never : (b : Bool) → (b && false) ≡ false
never true = refl
never false = refl

pub stays_false : (bs : List Bool) (k : ℕ) → get_or bs k false ≡ false → set bs k false ≡ bs
stays_false [] k e = refl
stays_false (b ∷ bs) zero e = ap (λ c. c ∷ bs) (sym e)
stays_false (b ∷ bs) (suc k) e = ap (λ cs. b ∷ cs) (stays_false bs k e)

still_there : {A : Type 0} (l : List (Option A)) (k j : ℕ) (x : A) → slice_get (set l k None) j ≡ Some (Some x) → slice_get l j ≡ Some (Some x)
still_there [] k j x e = e
still_there (y ∷ l) zero zero x e = cc
still_there (y ∷ l) zero (suc j) x e = e
still_there (y ∷ l) (suc k) zero x e = e
still_there (y ∷ l) (suc k) (suc j) x e = still_there l k j x e

module _ {T : Type 0} where
  pub length-at_home : (words : List ℕ) (slots : List (Option T)) → length words ≡ length slots + 1 → length (at_home words slots) ≡ length slots
  length-at_home words [] wide = refl
  length-at_home [] (x ∷ slots) wide = absurd (omega arith)
  length-at_home (w ∷ words) (x ∷ slots) wide = ap suc (length-at_home words slots (omega arith))

  pub at_home_all : (words : List ℕ) (slots : List (Option T)) → length words ≡ length slots + 1
      → ((k : ℕ) → k < length slots → (get_or words k 0 ≡ 0) × ((x : T) × (slice_get slots k ≡ Some (Some x)))) → at_home words slots ≡ replicate (length slots) true
  at_home_all words [] wide each = refl
  at_home_all [] (x ∷ slots) wide each = absurd (omega arith)
  at_home_all (w ∷ words) (x ∷ slots) wide each =
      let h = each 0 (omega arith) in
      let there : x ≡ Some h.1.0 = (let e : Some x ≡ Some (Some h.1.0) = h.1.1 in cc) in
      let yes : (eqb w 0 && is_some x) ≡ true = ap (λ b. b && is_some x) (eq-eqb w 0 h.0) ∙ ap is_some there in
      let rest = at_home_all words slots (omega arith) (λ k inside. each (suc k) (omega arith)) in
      λ i. yes i ∷ rest i

  -- a slot whose turn was taken has nothing for who closed the table
  pub not_home : (words : List ℕ) (slots : List (Option T)) (k : ℕ) → get_or words k 0 ≢ 0 → get_or (at_home words slots) k false ≡ false
  not_home words [] k taken = refl
  not_home [] (x ∷ slots) k taken = refl
  not_home (w ∷ words) (x ∷ slots) zero taken = ap (λ b. b && is_some x) (ne_eqb w 0 taken)
  not_home (w ∷ words) (x ∷ slots) (suc k) taken = not_home words slots k taken

  pub home_there : (words : List ℕ) (slots : List (Option T)) (k : ℕ) (x : Option T) → k < length words → get_or words k 0 ≡ 0 → get_elem? slots k ≡ some x → is_some x ≡ get_or (at_home words slots) k false
  home_there words [] k x inside free at = absurd (some-ne-none x (sym at))
  home_there [] (y ∷ slots) k x inside free at = absurd (omega arith)
  home_there (w ∷ words) (y ∷ slots) zero x inside free at = sym (ap (λ b. b && is_some y) (eq-eqb w 0 free) ∙ ap is_some (some-injective y x at))
  home_there (w ∷ words) (y ∷ slots) (suc k) x inside free at = home_there words slots k x (omega arith) free at

  -- a slot that is emptied
  pub at_home_set : (words : List ℕ) (slots : List (Option T)) (k : ℕ) → at_home words (set slots k None) ≡ set (at_home words slots) k false
  at_home_set words [] k = refl
  at_home_set [] (x ∷ slots) zero = refl
  at_home_set [] (x ∷ slots) (suc k) = refl
  at_home_set (w ∷ words) (x ∷ slots) zero = ap (λ b. b ∷ at_home words slots) (never (eqb w 0))
  at_home_set (w ∷ words) (x ∷ slots) (suc k) = ap (λ bs. (eqb w 0 && is_some x) ∷ bs) (at_home_set words slots k)

  -- an emptied slot tells nothing
  pub stands_emptied : {P : Type 0} (place : T → ℕ) (plan : T → P) (of : Option P) (words : List ℕ) (slots : List (Option T)) → Stands place plan of words slots → (k : ℕ) → Stands place plan of words (set slots k None)
  stands_emptied place plan of words slots s k = record { wide = s.wide ∙ ap (λ n. n + 1) (sym (length-set slots k None)); value = λ j x free at. s.value j x free (still_there slots k j x at) }

  pub gives_out : {P : Type 0} (place : T → ℕ) (plan : T → P) (of : Option P) (words : List ℕ) (slots : List (Option T)) → Stands place plan of words slots
      → (k : ℕ) (o : Option T) → get_or words k 0 ≡ 0 → get_elem? slots k ≡ some o → (told : Option P) → of ≡ told → IfSome o (λ x. (place x ≡ k) × (told ≡ Some (plan x)))
  gives_out place plan of words slots s k None free at told e = tt
  gives_out place plan of words slots s k (Some x) free at told e = let v = s.value k x free (same_read slots k (Some x) at) in (v.0, sym e ∙ v.1)

-- a row of which one place was emptied and filled again
pub full_again : (before after : List Bool) (n k : ℕ) → k < length before → Filled before 0 n → after ≡ set (set before k false) k true → Filled after 0 n
full_again before after n k inside full e j low high =
    ap (λ bs. get_or bs j false) e ∙ dite (ℕ_discrete j k)
    (λ same. ap (λ i. get_or (set (set before k false) k true) i false) same ∙ get_or-set_same (set before k false) k true false (let l = length-set before k false in omega arith))
    (λ other. get_or-set_other (set before k false) k j true false other ∙ (get_or-set_other before k j false false other ∙ full j low high))

pub same_closed : {P : Type 0} (a b : ClosedValue P) → a.plan ≡ b.plan → a.there ≡ b.there → a ≡ b
same_closed a b plan there = λ i. record { plan = plan i; there = there i }

pub already_empty : {P : Type 0} (z : ClosedValue P) (k : ℕ) → get_or z.there k false ≡ false → z ≡ record { plan = z.plan; there = set z.there k false }
already_empty z k e = λ i. record { plan = z.plan; there = sym (stays_false z.there k e) i }
