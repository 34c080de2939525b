-- Each step of a pass keeps the rule.
use Rattle.std.proofs.Common.{◌≡◌, ◌≢◌, ℕ, zero, suc, ◌+◌, ◌<◌, ◌≤◌, eqb, not, cond, List, [], ◌∷◌, ◌++◌, map, length, get_or, set, Some, refl, sym, ap, ◌∙◌, subst, ⊎_elim, arith, eq-eqb, ne_eqb, length-set, get_or-set_other, get_or-set_same}
use Rattle.std.specs.Prelude.{Option as Maybe}
use Rattle.std.specs.List.{sum_by, slice_get}
use Rattle.std.proofs.lemmas.List.{length-map}
use Rattle.std.proofs.lemmas.List.Sums.{sum_by_push}
use mathlib.Core.Logic.{dite}
use mathlib.Core.Option.{none, some, some-injective, some-ne-none}
use native.Mathlib.Decide.{ℕ_discrete}
use lib.ListN.{get_elem?}
use lib.Seq.{set-get_or}
use prog.Atomic.{either}
use Rattle.atomic_table.specs.Table.{State, Me, step, keeps, takes, gives, stepped, opening, Allows, Splits, Joins}
use Rattle.atomic_table.proofs.Lists.{at_set, set_here, set_else, at_snoc, at_map}
use Rattle.ss_turns.specs.declared.view.View.{View}
use Rattle.ss_turns.specs.View.{times, fresh, spent, took, missed, gave_back, asked, looked, fewer, one_share, merged}
use Rattle.ss_turns.specs.Rule.{Kept}
use Rattle.ss_turns.specs.Plays.{Takes, GivesBack, Asks, Looks}
use Rattle.ss_turns.proofs.Counting.{times_here, times_else, times_without, times_without_else, sum_set, sum_at, there}

-- how much a look at the stop word adds to what a pass has heard
abbrev told_by : ℕ → ℕ
told_by word = cond (not (eqb word 0)) 1 0

abbrev get_or_zero : List ℕ → ℕ → ℕ
get_or_zero words k = get_or words k 0

only_one : {A : Type 0} (Q : A → Type 0) (a : A) → Q a → (j : ℕ) (b : A) → get_elem? (a ∷ []) j ≡ some b → Q b
only_one Q a mine zero b e = subst Q (some-injective a b e) mine
only_one Q a mine (suc j) b e = absurd (some-ne-none b (sym e))

module _ {T P : Type 0} (place : T → ℕ) (plan : T → P) (numbers : T → List ℕ) (p : P) (passes : ℕ) where
  abbrev V : Type 0
  V = View P

  abbrev St : Type 0
  St = State (Maybe T) V

  abbrev M : Type 0
  M = Me (Maybe T) V

  abbrev Rule : St → Type 0
  Rule = Kept place plan p passes

  abbrev turn_of : St → ℕ → ℕ
  turn_of s k = get_or s.words k 0

  -- what holds of each view holds after one has changed
  views_stay : (Q : V → Type 0) (vs : List V) (id : ℕ) (w : V) → Q w → ((j : ℕ) (v : V) → get_elem? vs j ≡ some v → Q v) → (j : ℕ) (v : V) → get_elem? (set vs id w) j ≡ some v → Q v
  views_stay Q vs id w mine others j v e = ⊎_elim (λ (t : (j ≡ id) × (w ≡ v)). subst Q t.1 mine) (λ (t : (j ≢ id) × (get_elem? vs j ≡ some v)). others j v t.1) (at_set vs id j w v e)

  -- a sum stays where the changed view has the term that it had
  sum_stays : (f : V → ℕ) (s : St) (id : ℕ) (v w : V) → get_elem? s.views id ≡ some v → f w ≡ f v → sum_by f (set s.views id w) ≡ sum_by f s.views
  sum_stays f s id v w at same = let e = sum_set f s.views id v w at in omega arith

  -- where one view changed in what it counts alone, and turns and homes stay
  same_slots : (s : St) (r : Rule s) (id : ℕ) (v w : V) → get_elem? s.views id ≡ some v → 0 < v.share → w.plan ≡ v.plan → w.share ≡ v.share → w.has ≡ v.has
      → (words : List ℕ) → length words ≡ length s.words → ((k : ℕ) → k < length s.homes → get_or words k 0 ≡ turn_of s k)
      → (0 < get_or words (length s.homes) 0 + sum_by (λ u. u.heard) (set s.views id w) → 0 < sum_by (λ u. u.stops) (set s.views id w))
      → (0 < sum_by (λ u. u.stops) (set s.views id w) → 0 < get_or words (length s.homes) 0)
      → Rule record { words = words; homes = s.homes; views = set s.views id w }
  same_slots s r id v w at some_share same_plan same_share same_has words long same told asked = record {
    wide = long ∙ r.wide;
    turn = λ k inside. same k inside ∙ (r.turn k inside ∙ sym (sum_stays (λ u. times k u.has) s id v w at (ap (times k) same_has)));
    single = λ k inside. subst (λ n. n ≤ 1) (sym (same k inside)) (r.single k inside);
    home = λ k inside z. r.home k inside (sym (same k inside) ∙ z);
    shares = sum_stays (λ u. u.share) s id v w at same_share ∙ r.shares;
    same_plan = views_stay (λ u. 0 < u.share → u.plan ≡ Some p) s.views id w (λ _. same_plan ∙ r.same_plan id v at some_share) r.same_plan;
    no_share = views_stay (λ u. u.share ≡ 0 → u ≡ spent) s.views id w (λ z. absurd (omega arith)) r.no_share;
    told = told;
    asked = asked;
  }

  -- the exchange found slot k at home
  taken : (s : St) (r : Rule s) (id k : ℕ) (v : V) (x : T) → get_elem? s.views id ≡ some v → 0 < v.share → k < length s.homes → turn_of s k ≡ 0
      → Rule record { words = set s.words k 1; homes = set s.homes k none; views = set s.views id (took v k (numbers x)) }
  taken s r id k v x at some_share inside free =
      let w = took v k (numbers x) in
      let long = length-set s.homes k none in
      let here : get_or (set s.words k 1) k 0 ≡ 1 = (let wide = r.wide in get_or-set_same s.words k 1 0 (omega arith)) in
      let else : (j : ℕ) → j ≢ k → get_or (set s.words k 1) j 0 ≡ turn_of s j = λ j other. get_or-set_other s.words k j 1 0 other in
      let within : (j : ℕ) → j < length (set s.homes k none) → j < length s.homes = λ j l. omega arith in record {
        wide = length-set s.words k 1 ∙ (r.wide ∙ ap (λ n. n + 1) (sym long));
        turn = λ j l. dite (ℕ_discrete j k)
            (λ e. subst (λ i. get_or (set s.words k 1) i 0 ≡ sum_by (λ u. times i u.has) (set s.views id w)) (sym e)
            (let change = sum_set (λ u. times k u.has) s.views id v w at in let more = times_here k v.has in let count = r.turn k inside in omega arith))
            (λ other. else j other ∙ (r.turn j (within j l) ∙ sym (sum_stays (λ u. times j u.has) s id v w at (times_else j k v.has (λ e. other (sym e))))));
        single = λ j l. dite (ℕ_discrete j k)
            (λ e. subst (λ i. get_or (set s.words k 1) i 0 ≤ 1) (sym e) (omega arith))
            (λ other. subst (λ n. n ≤ 1) (sym (else j other)) (r.single j (within j l)));
        home = λ j l z. dite (ℕ_discrete j k)
            (λ e. let zero_here : get_or (set s.words k 1) k 0 ≡ 0 = subst (λ i. get_or (set s.words k 1) i 0 ≡ 0) e z in absurd (omega arith))
            (λ other. let h = r.home j (within j l) (sym (else j other) ∙ z) in (h.0, set_else s.homes k j none other ∙ h.1, h.2, h.3));
        shares = sum_stays (λ u. u.share) s id v w at refl ∙ r.shares;
        same_plan = views_stay (λ u. 0 < u.share → u.plan ≡ Some p) s.views id w (λ _. r.same_plan id v at some_share) r.same_plan;
        no_share = views_stay (λ u. u.share ≡ 0 → u ≡ spent) s.views id w (λ z. absurd (omega arith)) r.no_share;
        told = let stop = else (length s.homes) (λ e. omega arith) in let heard = sum_stays (λ u. u.heard) s id v w at refl in let stops = sum_stays (λ u. u.stops) s id v w at refl in
            subst (λ n. 0 < get_or (set s.words k 1) n 0 + sum_by (λ u. u.heard) (set s.views id w) → 0 < sum_by (λ u. u.stops) (set s.views id w)) (sym long)
            (λ h. let t = r.told (omega arith) in omega arith);
        asked = let stop = else (length s.homes) (λ e. omega arith) in let stops = sum_stays (λ u. u.stops) s id v w at refl in
            subst (λ n. 0 < sum_by (λ u. u.stops) (set s.views id w) → 0 < get_or (set s.words k 1) n 0) (sym long)
            (λ h. let t = r.asked (omega arith) in omega arith);
      }

  pub takes_it : (slots id k : ℕ) (me : M) → k < slots → 0 < me.0.share → Allows Rule slots id me k (λ n. either (eqb n 0) 1 n) (Takes place plan numbers (step slots k 0 1 none) me)
  takes_it slots id k me inside some_share s r long at small = let found = turn_of s k in dite (ℕ_discrete found 0)
      (λ free.
      let near : k < length s.homes = omega arith in
      let h = r.home k near free in
      let x : T = h.0 in
      let w : V = took me.0 k (numbers x) in (
        w,
        takes k (Some x),
        h.1,
        subst (λ b. Rule (stepped s k (either b 1 found) id me.1 w (takes k (Some x)))) (sym (eq-eqb found 0 free)) (taken s r id k me.0 x at some_share near free),
        (λ _. (x, h.2, r.same_plan id me.0 at some_share ∙ ap Some (sym h.3), refl), λ busy. absurd (busy free)),
      ))
      (λ busy.
      let w : V = missed me.0 in
      let heard = sum_stays (λ u. u.heard) s id me.0 w at refl in
      let stops = sum_stays (λ u. u.stops) s id me.0 w at refl in
      let still = set-get_or s.words k 0 in
      let stop : get_or (set s.words k found) (length s.homes) 0 ≡ turn_of s (length s.homes) = ap (λ ws. get_or ws (length s.homes) 0) still in (
        w,
        keeps,
        tt,
        subst (λ b. Rule (stepped s k (either b 1 found) id me.1 w keeps)) (sym (ne_eqb found 0 busy))
            (same_slots s r id me.0 w at some_share refl refl refl (set s.words k found) (ap length still) (λ j _. ap (λ ws. get_or ws j 0) still)
            (λ h. let t = r.told (omega arith) in omega arith) (λ h. let t = r.asked (omega arith) in omega arith)),
        (λ free. absurd (busy free), λ _. refl),
      ))

  -- slot k goes home with the value x
  given : (s : St) (r : Rule s) (id k : ℕ) (v : V) (x : T) → get_elem? s.views id ≡ some v → 0 < v.share → k < length s.homes → 0 < times k v.has → place x ≡ k → v.plan ≡ Some (plan x)
      → Rule record { words = set s.words k 0; homes = set s.homes k (some (Some x)); views = set s.views id (gave_back v k (numbers x)) }
  given s r id k v x at some_share inside has_it own_place own_plan =
      let w = gave_back v k (numbers x) in
      let long = length-set s.homes k (some (Some x)) in
      let here : get_or (set s.words k 0) k 0 ≡ 0 = (let wide = r.wide in get_or-set_same s.words k 0 0 (omega arith)) in
      let else : (j : ℕ) → j ≢ k → get_or (set s.words k 0) j 0 ≡ turn_of s j = λ j other. get_or-set_other s.words k j 0 0 other in
      let within : (j : ℕ) → j < length (set s.homes k (some (Some x))) → j < length s.homes = λ j l. omega arith in
      let same_plan = r.same_plan id v at some_share in
      let of_plan : plan x ≡ p = (let e : Some (plan x) ≡ Some p = sym own_plan ∙ same_plan in cc) in record {
        wide = length-set s.words k 0 ∙ (r.wide ∙ ap (λ n. n + 1) (sym long));
        turn = λ j l. dite (ℕ_discrete j k)
            (λ e. subst (λ i. get_or (set s.words k 0) i 0 ≡ sum_by (λ u. times i u.has) (set s.views id w)) (sym e)
            (let change = sum_set (λ u. times k u.has) s.views id v w at in let least = sum_at (λ u. times k u.has) s.views id v at in
            let none = times_without k v.has in let count = r.turn k inside in let one = r.single k inside in omega arith))
            (λ other. else j other ∙ (r.turn j (within j l) ∙ sym (sum_stays (λ u. times j u.has) s id v w at (times_without_else j k v.has other))));
        single = λ j l. dite (ℕ_discrete j k)
            (λ e. subst (λ i. get_or (set s.words k 0) i 0 ≤ 1) (sym e) (omega arith))
            (λ other. subst (λ n. n ≤ 1) (sym (else j other)) (r.single j (within j l)));
        home = λ j l z. dite (ℕ_discrete j k)
            (λ e. (x, ap (get_elem? (set s.homes k (some (Some x)))) e ∙ set_here s.homes k (some (Some x)) inside, own_place ∙ sym e, of_plan))
            (λ other. let h = r.home j (within j l) (sym (else j other) ∙ z) in (h.0, set_else s.homes k j (some (Some x)) other ∙ h.1, h.2, h.3));
        shares = sum_stays (λ u. u.share) s id v w at refl ∙ r.shares;
        same_plan = views_stay (λ u. 0 < u.share → u.plan ≡ Some p) s.views id w (λ _. same_plan) r.same_plan;
        no_share = views_stay (λ u. u.share ≡ 0 → u ≡ spent) s.views id w (λ z. absurd (omega arith)) r.no_share;
        told = let stop = else (length s.homes) (λ e. omega arith) in let heard = sum_stays (λ u. u.heard) s id v w at refl in let stops = sum_stays (λ u. u.stops) s id v w at refl in
            subst (λ n. 0 < get_or (set s.words k 0) n 0 + sum_by (λ u. u.heard) (set s.views id w) → 0 < sum_by (λ u. u.stops) (set s.views id w)) (sym long)
            (λ h. let t = r.told (omega arith) in omega arith);
        asked = let stop = else (length s.homes) (λ e. omega arith) in let stops = sum_stays (λ u. u.stops) s id v w at refl in
            subst (λ n. 0 < sum_by (λ u. u.stops) (set s.views id w) → 0 < get_or (set s.words k 0) n 0) (sym long)
            (λ h. let t = r.asked (omega arith) in omega arith);
      }

  gives_first : (slots id k : ℕ) (v : V) (x : T) (out : List (ℕ × Maybe T)) → k < slots → 0 < v.share → 0 < times k v.has → place x ≡ k → v.plan ≡ Some (plan x)
      → Allows Rule slots id (v, (k, Some x) ∷ out) k (λ _. 0) (λ _. GivesBack numbers (step slots k 0 0 none) (v, (k, Some x) ∷ out) 0)
  gives_first slots id k v x out inside some_share has_it own_place own_plan s r long at small =
      (gave_back v k (numbers x), gives, tt, given s r id k v x at some_share (omega arith) has_it own_place own_plan, refl)

  pub gives_it : (slots id k : ℕ) (me : M) (x : T) (out : List (ℕ × Maybe T)) → me.1 ≡ (k, Some x) ∷ out → k < slots → 0 < me.0.share → 0 < times k me.0.has → place x ≡ k → me.0.plan ≡ Some (plan x)
      → Allows Rule slots id me k (λ _. 0) (λ _. GivesBack numbers (step slots k 0 0 none) me 0)
  gives_it slots id k me x out first inside some_share has_it own_place own_plan =
      subst (λ (carried : List (ℕ × Maybe T)). Allows Rule slots id (me.0, carried) k (λ _. 0) (λ _. GivesBack numbers (step slots k 0 0 none) (me.0, carried) 0)) (sym first)
      (gives_first slots id k me.0 x out inside some_share has_it own_place own_plan)

  pub asks_it : (slots id i : ℕ) (me : M) → i ≡ slots → 0 < me.0.share → Allows Rule slots id me i (λ _. 1) (λ _. Asks (step slots i 1 0 none) me 1)
  asks_it slots id i me last some_share s r long at small =
      let w : V = asked me.0 in
      let more = sum_set (λ u. u.stops) s.views id me.0 w at in
      let is_set : get_or (set s.words i 1) (length s.homes) 0 ≡ 1 = ap (get_or_zero (set s.words i 1)) (long ∙ sym last) ∙ (let wide = r.wide in get_or-set_same s.words i 1 0 (omega arith)) in (
        w,
        keeps,
        tt,
        same_slots s r id me.0 w at some_share refl refl refl (set s.words i 1) (length-set s.words i 1) (λ k inside. get_or-set_other s.words i k 1 0 (λ e. omega arith)) (λ _. omega arith) (λ _. omega arith),
        refl,
      )

  pub looks_it : (slots id i : ℕ) (me : M) → i ≡ slots → 0 < me.0.share → Allows Rule slots id me i (λ n. n) (Looks (step slots i 0 0 none) me)
  looks_it slots id i me last some_share s r long at small =
      let word : ℕ = turn_of s i in
      let w : V = looked me.0 (not (eqb word 0)) in
      let stops = sum_stays (λ u. u.stops) s id me.0 w at refl in
      let heard = sum_set (λ u. u.heard) s.views id me.0 w at in
      let still = set-get_or s.words i 0 in
      let same : get_or (set s.words i word) (length s.homes) 0 ≡ turn_of s (length s.homes) = ap (λ ws. get_or ws (length s.homes) 0) still in
      let there : turn_of s (length s.homes) ≡ word = ap (turn_of s) (long ∙ sym last) in (
        w,
        keeps,
        tt,
        same_slots s r id me.0 w at some_share refl refl refl (set s.words i word) (ap length still) (λ j _. ap (λ ws. get_or ws j 0) still)
            (λ h. dite (ℕ_discrete word 0)
            (λ clear. let none : told_by word ≡ 0 = ap (λ b. cond (not b) 1 0) (eq-eqb word 0 clear) in let t = r.told (omega arith) in omega arith)
            (λ set_there. let t = r.told (omega arith) in omega arith))
            (λ h. let t = r.asked (omega arith) in omega arith),
        (
          refl,
          λ h clear.
              let own_stops = sum_at (λ u. u.stops) s.views id me.0 at in
              let own_heard = sum_at (λ u. u.heard) s.views id me.0 at in
              let some : 0 < sum_by (λ (u : V). u.stops) s.views = dite (ℕ_discrete (sum_by (λ (u : V). u.stops) s.views) 0) (λ none. let t = r.told (omega arith) in omega arith) (λ ne. omega arith) in
              let a = r.asked some in absurd (omega arith),
        ),
      )

  pub splits_it : (id : ℕ) (v : V) → 1 < v.share → Splits Rule id v (fewer v) (one_share v)
  splits_it id v two s r at =
      let w = fewer v in let u = one_share v in let vs = set s.views id w in
      let sum_both : (f : V → ℕ) → f w + f u ≡ f v → sum_by f (vs ++ u ∷ []) ≡ sum_by f s.views = λ f same. (let a = sum_by_push f vs u in let b = sum_set f s.views id v w at in omega arith) in
      let each : (Q : V → Type 0) → Q w → Q u → ((j : ℕ) (x : V) → get_elem? s.views j ≡ some x → Q x) → (j : ℕ) (x : V) → get_elem? (vs ++ u ∷ []) j ≡ some x → Q x =
      λ Q left right others j x e. ⊎_elim (views_stay Q s.views id w left others j x) (λ t. subst Q t right) (at_snoc vs u x j e) in
      let plan_there = r.same_plan id v at (omega arith) in record {
        wide = r.wide;
        turn = λ k inside. r.turn k inside ∙ sym (sum_both (λ x. times k x.has) (omega arith));
        single = r.single;
        home = r.home;
        shares = sum_both (λ x. x.share) (omega arith) ∙ r.shares;
        same_plan = each (λ x. 0 < x.share → x.plan ≡ Some p) (λ _. plan_there) (λ _. plan_there) r.same_plan;
        no_share = each (λ x. x.share ≡ 0 → x ≡ spent) (λ z. absurd (omega arith)) (λ z. absurd (omega arith)) r.no_share;
        told = λ h. let heard = sum_both (λ x. x.heard) (omega arith) in let stops = sum_both (λ x. x.stops) (omega arith) in let t = r.told (omega arith) in omega arith;
        asked = λ h. let stops = sum_both (λ x. x.stops) (omega arith) in r.asked (omega arith);
      }

  pub joins_it : (id other : ℕ) (v w : V) → 0 < v.share → 0 < w.share → w.has ≡ [] → Joins Rule id v other w (merged v w) spent
  joins_it id other v w some_share more_share holds_nothing s r at apart beside =
      let both = merged v w in let vs = set s.views id both in
      let sum_both : (f : V → ℕ) → f both + f (spent {P = P}) ≡ f v + f w → sum_by f (set vs other spent) ≡ sum_by f s.views =
      λ f same. (let a = sum_set f s.views id v both at in let b = sum_set f vs other w spent beside in omega arith) in
      let each : (Q : V → Type 0) → Q both → Q spent → ((j : ℕ) (x : V) → get_elem? s.views j ≡ some x → Q x) → (j : ℕ) (x : V) → get_elem? (set vs other spent) j ≡ some x → Q x =
      λ Q left right others. views_stay Q vs other spent right (views_stay Q s.views id both left others) in
      let plan_there = r.same_plan id v at some_share in record {
        wide = r.wide;
        turn = λ k inside. r.turn k inside ∙ sym (sum_both (λ x. times k x.has) (let none : times k w.has ≡ 0 = ap (times k) holds_nothing in omega arith));
        single = r.single;
        home = r.home;
        shares = sum_both (λ x. x.share) (omega arith) ∙ r.shares;
        same_plan = each (λ x. 0 < x.share → x.plan ≡ Some p) (λ _. plan_there) (λ h. absurd (omega arith)) r.same_plan;
        no_share = each (λ x. x.share ≡ 0 → x ≡ spent) (λ z. absurd (omega arith)) (λ _. refl) r.no_share;
        told = λ h. let heard = sum_both (λ x. x.heard) (omega arith) in let stops = sum_both (λ x. x.stops) (omega arith) in let t = r.told (omega arith) in omega arith;
        asked = λ h. let stops = sum_both (λ x. x.stops) (omega arith) in r.asked (omega arith);
      }

  -- every slot at home, every turn 0, and one view that has all shares
  pub begins : (words : List ℕ) (values : List T) → length words ≡ length values + 1 → ((k : ℕ) → get_or words k 0 ≡ 0) → 0 < passes
      → ((k : ℕ) (x : T) → slice_get values k ≡ Some x → (place x ≡ k) × (plan x ≡ p)) → Rule (opening words (map Some values) (fresh (Some p) passes))
  begins words values long zeros some_pass each =
      let homes = map some (map Some values) in
      let count : length homes ≡ length values = length-map (map Some values) some ∙ length-map values Some in
      let only : (Q : V → Type 0) → Q (fresh (Some p) passes) → (j : ℕ) (v : V) → get_elem? (fresh (Some p) passes ∷ []) j ≡ some v → Q v = λ Q mine j v e. only_one Q (fresh (Some p) passes) mine j v e in record {
        wide = long ∙ ap (λ n. n + 1) (sym count);
        turn = λ k _. zeros k;
        single = λ k _. subst (λ n. n ≤ 1) (sym (zeros k)) (omega arith);
        home = λ k inside _. let h = there values k (omega arith) in let e = each k h.0 h.1 in (h.0, at_map some (map Some values) k (Some h.0) (at_map Some values k h.0 h.2), e.0, e.1);
        shares = omega arith;
        same_plan = only (λ v. 0 < v.share → v.plan ≡ Some p) (λ _. refl);
        no_share = only (λ v. v.share ≡ 0 → v ≡ spent) (λ z. absurd (omega arith));
        told = λ h. absurd (let stop = zeros (length homes) in omega arith);
        asked = λ h. absurd (omega arith);
      }
