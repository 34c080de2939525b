-- A tail that stands goes on standing.
use Rattle.std.proofs.Common.{◌≡◌, ℕ, nat_lt, Bool, false, Option, None, ap₂, if◌then◌else◌, ◌+◌, ◌-◌, ◌<◌, ◌≤◌, List, [], ◌∷◌, ◌++◌, length, get_or, take, drop, Some, refl, sym, ap, subst, ◌∙◌, arith, inl, inr}
use Rattle.std.specs.Prelude.{slice_get}
use Rattle.std.proofs.lemmas.Bool.{cases_lt}
use Rattle.std.proofs.lemmas.List.{append_assoc, drop-append-le, drop-drop, drop_all, get_or-drop, length-append, length-drop, take-append-drop, take_all, take_at, take_more}
use Rattle.std.proofs.lemmas.Option.{get_or_from_slice_get, slice_get_within}
use Rattle.ss_elem.specs.declared.element.Element.{Element}
use Rattle.ss_state.specs.Tails.{batch_from, dropped_below}
use Rattle.std.proofs.lemmas.Bool.Decides.{nat_tests}
use Rattle.std.specs.Option.{option_map_or}
use Rattle.ss_tail.specs.Answers.{past_end, shown_at}
use Rattle.ss_tail.specs.declared.answers.Shown.TheVariants.{Item, Below}
use Rattle.ss_tail.proofs.Paged.{get_behind, get_front, get_past}
use Rattle.ss_tail.specs.Held.{IsNumbered, Stands, TailHeld, added, batch_items, part, trimmed}

-- a part of a part: what is left of the front of a list, cut off behind
front_part : (xs whole : List Element) (d m : ℕ) → xs ≡ take (length xs) whole → take m (drop d xs) ≡ take (length (take m (drop d xs))) (drop d whole)
front_part xs whole d m is_front =
    let rest : List Element = drop (length xs) whole in
    let parts : whole ≡ xs ++ rest = sym (take-append-drop (length xs) whole) ∙ ap (λ (t : List Element). t ++ rest) (sym is_front) in
    elim (cases_lt d (length xs)) [
      | inl lt ↦
          let behind : drop d whole ≡ take m (drop d xs) ++ (drop m (drop d xs) ++ rest) =
          ap (drop d) parts ∙ drop-append-le d xs rest (omega (arith, lt))
          ∙ ap (λ (t : List Element). t ++ rest) (sym (take-append-drop m (drop d xs))) ∙ append_assoc (take m (drop d xs)) (drop m (drop d xs)) rest in
          sym (ap (take (length (take m (drop d xs)))) behind ∙ take_at (take m (drop d xs)) (drop m (drop d xs) ++ rest) (length (take m (drop d xs))) refl)
      | inr past ↦
          let none : take m (drop d xs) ≡ [] = ap (take m) (drop_all d xs past) ∙ take_all m [] (omega arith) in
          none ∙ ap (λ (t : List Element). take (length t) (drop d whole)) (sym none)
    ]

part_of_part : (xs list : List Element) (from d m : ℕ) → xs ≡ part from (length xs) list
    → take m (drop d xs) ≡ part (from + d) (length (take m (drop d xs))) list
part_of_part xs list from d m is_part =
    front_part xs (drop from list) d m is_part ∙ ap (take (length (take m (drop d xs)))) (drop-drop d from list)

pub batch_stands : (list : List Element) (limit : ℕ) (tail : TailHeld) (most : ℕ) → Stands list limit tail
    → batch_items tail most ≡ part (batch_from tail.numbers) (length (batch_items tail most)) list
batch_stands list limit tail most stands =
    let there : tail.numbers.from + (batch_from tail.numbers - tail.numbers.from) ≡ batch_from tail.numbers = omega arith in
    part_of_part tail.items list tail.numbers.from (batch_from tail.numbers - tail.numbers.from) most stands.items
    ∙ ap (λ (n : ℕ). part n (length (batch_items tail most)) list) there

pub trimmed_stands : (list : List Element) (most : ℕ) (tail : TailHeld) (m : ℕ) → Stands list most tail → Stands list most (trimmed tail m)
trimmed_stands list most tail m stands =
    let from : ℕ = (dropped_below tail.numbers m).from in
    let d : ℕ = from - tail.numbers.from in
    let there : tail.numbers.from + d ≡ from = omega arith in
    let whole : take (length tail.items) (drop d tail.items) ≡ drop d tail.items = take_all (length tail.items) (drop d tail.items) (omega (arith, length-drop d tail.items)) in
    let is_part : drop d tail.items ≡ part (tail.numbers.from + d) (length (drop d tail.items)) list =
    subst (λ (ys : List Element). ys ≡ part (tail.numbers.from + d) (length ys) list) whole
    (part_of_part tail.items list tail.numbers.from d (length tail.items) stands.items) in
    record {
      numbered = let e = stands.numbered in omega (arith, e, length-drop d tail.items);
      items = is_part ∙ ap (λ (n : ℕ). part n (length (drop d tail.items)) list) there;
      end = stands.end;
      seen = stands.seen;
      end_within = stands.end_within;
      seen_within = stands.seen_within;
    }

pub added_stands : (list : List Element) (most : ℕ) (tail : TailHeld) (n : ℕ) (x : Element) → Stands list most tail → tail.numbers.end ≡ n → slice_get list n ≡ Some x → n < most
    → Stands list most (added tail x)
added_stands list most tail n x stands is_next is_item below =
    let k : ℕ = length tail.items in
    let within : n < length list = slice_get_within list n x is_item in
    let numbered : tail.numbers.from + k ≡ tail.numbers.end = stands.numbered in
    let room : k < length (drop tail.numbers.from list) = omega (arith, length-drop tail.numbers.from list) in
    let there : tail.numbers.from + k ≡ n = omega arith in
    let next : get_or (drop tail.numbers.from list) k x ≡ x =
    get_or-drop tail.numbers.from list k x ∙ ap (λ (i : ℕ). get_or list i x) there ∙ get_or_from_slice_get list n x x is_item in
    let more : take (k + 1) (drop tail.numbers.from list) ≡ tail.items ++ x ∷ [] =
    take_more (drop tail.numbers.from list) k x room
    ∙ ap (λ (t : List Element). t ++ get_or (drop tail.numbers.from list) k x ∷ []) (sym stands.items)
    ∙ ap (λ (y : Element). tail.items ++ y ∷ []) next in
    let len : length (tail.items ++ x ∷ []) ≡ k + 1 = length-append tail.items (x ∷ []) in
    record {
      numbered = omega (arith, len);
      items = sym more ∙ ap (λ (i : ℕ). take i (drop tail.numbers.from list)) (sym len);
      end = omega arith;
      seen = stands.seen;
      end_within = omega arith;
      seen_within = stands.seen_within;
    }

-- an element of a tail that stands is that of the list
pub held_is_of : (list : List Element) (most : ℕ) (tail : TailHeld) (n : ℕ) (x : Element) → Stands list most tail → tail.numbers.from ≤ n
    → slice_get tail.items (n - tail.numbers.from) ≡ Some x → slice_get list n ≡ Some x
held_is_of list most tail n x stands above is =
    let from : ℕ = tail.numbers.from in
    let there : from + (n - from) ≡ n = omega (arith, above) in
    ap (slice_get list) (sym there) ∙ sym (get_behind list from (n - from))
    ∙ get_front (length tail.items) (drop from list) (n - from) x (ap (λ (xs : List Element). slice_get xs (n - from)) (sym stands.items) ∙ is)

-- a number past the last element
pub past_is : (tail : TailHeld) (n : ℕ) → IsNumbered tail → tail.numbers.from ≤ n → tail.numbers.end ≤ n → past_end tail.numbers ≡ shown_at tail n
past_is tail n numbered above past =
    let none : slice_get tail.items (n - tail.numbers.from) ≡ None = get_past tail.items (n - tail.numbers.from) (omega (arith, numbered, above, past)) in
    let not_below : nat_lt n tail.numbers.from ≡ false = grind (arith, nat_tests) in
    sym (ap₂ (λ (b : Bool) (o : Option Element). if b then Below tail.numbers.from else option_map_or (λ x. Item x) o (past_end tail.numbers)) not_below none)
