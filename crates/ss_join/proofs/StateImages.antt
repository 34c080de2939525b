-- What a join remembers may stand in an image.
use Rattle.std.proofs.Common.{◌≡◌, ℕ, Bool, true, false, cond, ◌&&◌, nat_lt, nat_le, List, [], ◌∷◌, All, refl, sym, ap, subst}
use Rattle.std.specs.Prelude.{slice_index}
use Rattle.std.specs.List.{AllByRecursion}
use Rattle.std.proofs.lemmas.Bool.{and_parts, and_from}
use Rattle.std.proofs.lemmas.Option.{cond_some}
use Rattle.std.proofs.lemmas.List.Elements.{All-from_recursion, recursion_from_All}
use Rattle.ss_elem.specs.Validity.{top}
use Rattle.ss_elem.specs.declared.element.Event.{Event}
use Rattle.ss_meaning.specs.Bound.{bound, rows}
use Rattle.ss_meaning.specs.Merge.{from_input}
use Rattle.ss_meaning.specs.Entries.{Entries, NoEntries, WindowEntries, JoinRows, SessionEntries, rows_ending_above, join_side, alone_side}
use Rattle.ss_meaning.specs.Emit.{Except}
use Rattle.ss_meaning.specs.Except.{alone}
use Rattle.ss_join.specs.ImageLaws.{MayStand, SidesAreReadAgain, IsTaken, StatesAreReadAgain, StatesAreReadAgainAs}

left_in : Entries → List Event
left_in NoEntries = []
left_in (WindowEntries es) = []
left_in (JoinRows left right) = left
left_in (SessionEntries es) = []

right_in : Entries → List Event
right_in NoEntries = []
right_in (WindowEntries es) = []
right_in (JoinRows left right) = right
right_in (SessionEntries es) = []

same_left : (l r m s : List Event) → JoinRows l r ≡ JoinRows m s → l ≡ m
unfolding left_in
same_left l r m s h = ap left_in h

same_right : (l r m s : List Event) → JoinRows l r ≡ JoinRows m s → r ≡ s
unfolding right_in
same_right l r m s h = ap right_in h

each_above : (b : ℕ) (seen : List Event) → AllByRecursion (λ (row : Event). nat_lt b row.end ≡ true) (rows_ending_above b seen)
each_above b [] = tt
each_above b (y ∷ ys) = by_test (nat_lt b y.end) refl (each_above b ys)
  where
    by_test : (t : Bool) → nat_lt b y.end ≡ t → AllByRecursion (λ (row : Event). nat_lt b row.end ≡ true) (rows_ending_above b ys)
        → AllByRecursion (λ (row : Event). nat_lt b row.end ≡ true) (cond t (y ∷ rows_ending_above b ys) (rows_ending_above b ys))
    by_test true e rest = (e, rest)
    by_test false e rest = rest

may_stand : (b : ℕ) (row : Event) → nat_lt b row.end ≡ true → IsTaken row → MayStand b row
may_stand b row above taken =
    let from = taken.follows.0 in
    let low = nat_lt from top && nat_lt row.end top in
    let near = low && nat_lt row.start row.end in
    let all = (cond_some (near && nat_le from row.start) from from taken.follows.1).0 in
    let span = and_parts low (nat_lt row.start row.end) (and_parts near (nat_le from row.start) all).0 in
    let ends = and_parts (nat_lt from top) (nat_lt row.end top) span.0 in
    record {
      passes = and_from (nat_lt row.start row.end && nat_lt row.end top) (nat_lt b row.end)
          (and_from (nat_lt row.start row.end) (nat_lt row.end top) span.1 ends.1) above;
      is_kept = taken.is_kept;
    }

both : (b : ℕ) (rs : List Event) → AllByRecursion (λ (row : Event). nat_lt b row.end ≡ true) rs → AllByRecursion IsTaken rs → AllByRecursion (MayStand b) rs
both b [] h k = tt
both b (r ∷ rs) h k = (may_stand b r h.0 k.0, both b rs h.1 k.1)

side_may_stand : (b c : ℕ) (seen side : List Event) → side ≡ rows_ending_above b seen → c ≡ b → All IsTaken side → All (MayStand c) side
side_may_stand b c seen side same equal taken =
    subst (λ n. All (MayStand n) side) (sym equal)
    (All-from_recursion (MayStand b) side
    (both b side (subst (AllByRecursion (λ (row : Event). nat_lt b row.end ≡ true)) (sym same) (each_above b seen)) (recursion_from_All IsTaken side taken)))

pub states_are_read_again : SidesAreReadAgain → StatesAreReadAgain
states_are_read_again again sides p bounds stood are left_taken right_taken few =
    again bounds sides few
    (side_may_stand (bound (from_input 1 p)) (slice_index bounds 1) (rows (from_input 0 p)) sides.left
    (same_left sides.left sides.right (join_side 0 p) (join_side 1 p) stood) are.right left_taken)
    (side_may_stand (bound (from_input 0 p)) (slice_index bounds 0) (rows (from_input 1 p)) sides.right
    (same_right sides.left sides.right (join_side 0 p) (join_side 1 p) stood) are.left right_taken)

pub absence_is_read_again : SidesAreReadAgain → StatesAreReadAgainAs Except
absence_is_read_again again sides p bounds stood are left_taken right_taken few =
    again bounds sides few
    (side_may_stand (bound (from_input 1 p)) (slice_index bounds 1) (alone (rows (from_input 1 p)) (rows (from_input 0 p))) sides.left
    (same_left sides.left sides.right (alone_side p) (join_side 1 p) stood) are.right left_taken)
    (side_may_stand (bound (from_input 0 p)) (slice_index bounds 0) (rows (from_input 1 p)) sides.right
    (same_right sides.left sides.right (alone_side p) (join_side 1 p) stood) are.left right_taken)
