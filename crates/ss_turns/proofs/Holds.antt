-- What a pass keeps fits its view after each call.
use Rattle.std.proofs.Common.{◌≡◌, ◌≢◌, ℕ, ◌<◌, ◌≤◌, List, [], ◌∷◌, length, refl, sym, ap, ◌∙◌, subst, drop, Option, None, Some, arith}
use mathlib.Core.Logic.{dite}
use native.Mathlib.Decide.{ℕ_discrete}
use Rattle.atomic_table.specs.Seated.{TableId}
use Rattle.atomic_table.specs.Table.{rest}
use Rattle.ss_turns.specs.declared.view.View.{View}
use Rattle.ss_turns.specs.View.{times, without, took, gave_back}
use Rattle.ss_turns.specs.Plays.{Holder, first_numbers}
use Rattle.ss_turns.specs.Fits.{Fits, emptied}
use Rattle.ss_turns.proofs.Counting.{times_here, times_else, times_without, times_without_else, few}

module _ {T P : Type 0} (v : View P) (slots : ℕ) (held : List ℕ) (room : ℕ) (out : List (ℕ × Option T)) where
  -- a call that changes counts alone
  pub recounted : Fits out v slots held room → (w : View P) → w.has ≡ v.has → 0 < w.share → Fits out w slots held room
  recounted f w same some_share = record { order = f.order; same = λ k. f.same k ∙ ap (times k) (sym same); once = f.once; inside = f.inside; room = f.room; share = some_share }

  -- there is room for one more slot
  pub room_left : Fits out v slots held room → (k : ℕ) → k < slots → times k v.has ≡ 0 → length held < room
  room_left f k inside free =
      let none = f.same k in let capacity = f.room in
      let most = few slots (k ∷ held)
      (λ j. dite (ℕ_discrete j k)
      (λ e. let here = times_here k held in subst (λ i. times i (k ∷ held) ≤ 1) (sym e) (omega arith))
      (λ ne. let same = times_else j k held (λ e. ne (sym e)) in let o = f.once j in omega arith))
      (λ j some. dite (ℕ_discrete j k)
      (λ e. omega arith)
      (λ ne. let same = times_else j k held (λ e. ne (sym e)) in f.inside j (omega arith))) in
      omega arith

  pub takes_slot : Fits out v slots held room → (k : ℕ) (numbers : List ℕ) → k < slots → times k v.has ≡ 0 → Fits ((k, None) ∷ out) (took v k numbers) slots (k ∷ held) room
  takes_slot f k numbers inside free =
      let none = f.same k in let here = times_here k held in record {
        order = ap (λ xs. (k, None) ∷ xs) f.order;
        same = λ j. dite (ℕ_discrete j k)
            (λ e. let h = times_here k v.has in subst (λ i. times i (k ∷ held) ≡ times i (k ∷ v.has)) (sym e) (omega arith))
            (λ ne. let a = times_else j k held (λ e. ne (sym e)) in let b = times_else j k v.has (λ e. ne (sym e)) in let s = f.same j in omega arith);
        once = λ j. dite (ℕ_discrete j k)
            (λ e. subst (λ i. times i (k ∷ held) ≤ 1) (sym e) (omega arith))
            (λ ne. let same = times_else j k held (λ e. ne (sym e)) in let o = f.once j in omega arith);
        inside = λ j some. dite (ℕ_discrete j k)
            (λ e. omega arith)
            (λ ne. let same = times_else j k held (λ e. ne (sym e)) in f.inside j (omega arith));
        room = f.room;
        share = f.share;
      }

-- k was brought to the front of the slots held, and goes home
pub gives_slot : {T P : Type 0} (v : View P) (slots : ℕ) (held rest : List ℕ) (room : ℕ) (out : List (ℕ × Option T)) → Fits out v slots held room
    → (k : ℕ) (numbers : List ℕ) → ((j : ℕ) → times j (k ∷ rest) ≡ times j held) → Fits (emptied {T = T} rest) (gave_back v k numbers) slots rest room
gives_slot v slots held rest room out f k numbers brought =
    let here = times_here k rest in let moved = brought k in let one = f.once k in
    let less : (j : ℕ) → j ≢ k → times j rest ≡ times j held = λ j ne. sym (times_else j k rest (λ e. ne (sym e))) ∙ brought j in
    let gone : times k rest ≡ 0 = omega arith in record {
      order = refl;
      same = λ j. dite (ℕ_discrete j k)
          (λ e. subst (λ i. times i rest ≡ times i (without k v.has)) (sym e) (gone ∙ sym (times_without k v.has)))
          (λ ne. less j ne ∙ (f.same j ∙ sym (times_without_else j k v.has ne)));
      once = λ j. dite (ℕ_discrete j k)
          (λ e. subst (λ i. times i rest ≤ 1) (sym e) (omega arith))
          (λ ne. let l = less j ne in let o = f.once j in omega arith);
      inside = λ j some. dite (ℕ_discrete j k)
          (λ e. let none : times j rest ≡ 0 = ap (λ i. times i rest) e ∙ gone in absurd (omega arith))
          (λ ne. let l = less j ne in f.inside j (omega arith));
      room = f.room;
      share = f.share;
    }

-- a pass that holds nothing
pub holds_nothing : {T P : Type 0} (v : View P) (slots room : ℕ) → v.has ≡ [] → slots ≤ room → 0 < v.share → Fits {T = T} [] v slots [] room
holds_nothing v slots room none capacity some_share = record {
  order = refl;
  same = λ k. ap (times k) (sym none);
  once = λ k. omega arith;
  inside = λ k some. absurd (omega arith);
  room = capacity;
  share = some_share;
}

-- the same where it is told by equations, as after a step
pub after_step : {T P : Type 0} (me me' : Holder T P) (t t' : TableId) (held held' : List ℕ) (room room' : ℕ) → t' ≡ t → me' ≡ me → held' ≡ held → room' ≡ room
    → Fits me.1 me.0 t.slots held room → Fits me'.1 me'.0 t'.slots held' room'
after_step {T} {P} me me' t t' held held' room room' same_table same_me same_held same_room f =
    subst (λ (z : TableId). Fits me'.1 me'.0 z.slots held' room') (sym same_table)
    (subst (λ (z : Holder T P). Fits z.1 z.0 t.slots held' room') (sym same_me)
    (subst (λ (z : List ℕ × ℕ). Fits me.1 me.0 t.slots z.0 z.1) (λ i. (sym same_held i, sym same_room i)) f))

-- what is left of the seat when the slot brought to the front has gone home with x
pub gives_away : {T P : Type 0} (numbers : T → List ℕ) (v : View P) (out : List (ℕ × Option T)) (m m' : Holder T P) (k : ℕ) (x : T) (held : List ℕ) → out ≡ emptied held → held ≡ k ∷ drop 1 held
    → m ≡ (v, (k, Some x) ∷ rest out) → m' ≡ (gave_back m.0 k (first_numbers numbers m.1), rest m.1) → m' ≡ (gave_back v k (numbers x), emptied (drop 1 held))
gives_away {T} {P} numbers v out m m' k x held order first put gave =
    let left : rest out ≡ emptied (drop 1 held) = ap rest (order ∙ ap emptied first) in
    gave ∙ (ap (λ (z : Holder T P). (gave_back z.0 k (first_numbers numbers z.1), rest z.1)) put ∙ ap (λ (r : List (ℕ × Option T)). (gave_back v k (numbers x), r)) left)

pub none_held : (xs : List ℕ) → ((k : ℕ) → times k xs ≡ 0) → xs ≡ []
none_held [] none = refl
none_held (x ∷ xs) none = let here = times_here x xs in let no = none x in absurd (omega arith)
