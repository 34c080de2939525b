-- One element more of what arrives at a join by absence.
use Rattle.std.proofs.Common.{◌≡◌, ℕ, ◌≤◌, ◌==◌, Bool, true, false, cond, ◌&&◌, nat_lt, nat_le, List, [], ◌∷◌, ◌++◌, length, map, filter, Some, None, Result, Ok, Err, OnOk, refl, sym, ap, ◌∙◌, arith, ltb-true, append-nil}
use Rattle.std.proofs.lemmas.Bool.{and_parts, leb-true}
use Rattle.std.proofs.lemmas.Grind.{flat_map-append}
use Rattle.std.proofs.lemmas.List.{map-append, length-map}
use Rattle.std.proofs.lemmas.List.Elements.{filter-append}
use Rattle.std.specs.Prelude.{slice_index}
use Rattle.ss_elem.specs.Validity.{top, next_bound}
use Rattle.ss_elem.specs.declared.element.Event.{Event}
use Rattle.ss_elem.specs.declared.element.Element.{Element}
use Rattle.ss_elem.specs.declared.element.Element.TheVariants.{Row, Cti, End}
use Rattle.ss_join.specs.States.{Sides, StandsAs, StepsAs, arrival}
use Rattle.ss_meaning.specs.Bound.{bound_after, bound_past, bound, row_of, rows}
use Rattle.ss_meaning.specs.Emit.{Except}
use Rattle.ss_meaning.specs.Entries.{Entries, NoEntries, WindowEntries, JoinRows, SessionEntries, rows_ending_above, join_side, alone_side}
use Rattle.ss_meaning.specs.Except.{absent_row, alone, is_alone, ending_between}
use Rattle.ss_meaning.specs.ExceptLaws.{ending_up_to, EndedRowsNeverMatch, LeftsAfterRightRow, ReachedRowsAreGiven, NoneGivenWithoutRise}
use Rattle.ss_meaning.specs.JoinLaws.{SideAfterRise}
use Rattle.ss_meaning.specs.Merge.{Arrival, is_from, from_input}
use Rattle.ss_session.specs.ExceptStates.{CountsGiven}

-- ---- what arrives

push_same : (i : ℕ) (p : List Arrival) (x : Element) → (i == i) ≡ true → from_input i (p ++ arrival i x ∷ []) ≡ from_input i p ++ x ∷ []
push_same i p x h =
    ap (map (λ (y : Arrival). y.element)) (filter-append (is_from i) p (arrival i x ∷ []) ∙ ap (λ b. filter (is_from i) p ++ cond b (arrival i x ∷ []) []) h)
    ∙ map-append (λ (y : Arrival). y.element) (filter (is_from i) p) (arrival i x ∷ [])

push_other : (i j : ℕ) (p : List Arrival) (x : Element) → (j == i) ≡ false → from_input i (p ++ arrival j x ∷ []) ≡ from_input i p
push_other i j p x h =
    ap (map (λ (y : Arrival). y.element)) (filter-append (is_from i) p (arrival j x ∷ []) ∙ (ap (λ b. filter (is_from i) p ++ cond b (arrival j x ∷ []) []) h ∙ append-nil (filter (is_from i) p)))

bound_push : (b : ℕ) (xs : List Element) (x : Element) → bound_past b (xs ++ x ∷ []) ≡ bound_after (bound_past b xs) x
bound_push b [] x = refl
bound_push b (y ∷ ys) x = bound_push (bound_after b y) ys x

rows_push : (xs : List Element) (x : Element) → rows (xs ++ x ∷ []) ≡ rows xs ++ row_of x
rows_push xs x = flat_map-append row_of xs (x ∷ []) ∙ ap (λ (ys : List Event). rows xs ++ ys) (append-nil (row_of x))

passed : (t : Bool) (b c : ℕ) → cond t (Some b) None ≡ Some c → (t ≡ true) × (b ≡ c)
passed true b c e = (refl, cc)
passed false b c e = absurd (let no : ⊥ = cc in no)

never_falls : (b c : ℕ) (x : Element) → next_bound b x ≡ Some c → b ≤ c
never_falls b c (Row row) e = let t = passed (nat_lt b top && nat_lt row.end top && nat_lt row.start row.end && nat_le b row.start) b c e in omega (arith, t.1)
never_falls b c (Cti time) e =
    let t = passed (nat_lt b time && nat_lt time top) time c e in
    let less = ltb-true b time (and_parts (nat_lt b time) (nat_lt time top) t.0).0 in
    omega (arith, less, t.1)
never_falls b c End e =
    let t = passed (nat_lt b top) top c e in
    let less = ltb-true b top t.0 in
    omega (arith, less, t.1)

-- ---- what is remembered

left_in : Entries → List Event
left_in NoEntries = []
left_in (WindowEntries es) = []
left_in (JoinRows left right) = left
left_in (SessionEntries es) = []

right_in : Entries → List Event
right_in NoEntries = []
right_in (WindowEntries es) = []
right_in (JoinRows left right) = right
right_in (SessionEntries es) = []

left_is : (sides : Sides) (p : List Arrival) → StandsAs Except sides p → sides.left ≡ alone_side p
unfolding left_in
left_is sides p h = ap left_in h

right_is : (sides : Sides) (p : List Arrival) → StandsAs Except sides p → sides.right ≡ join_side 1 p
unfolding right_in
right_is sides p h = ap right_in h

both_sides : (l l' r r' : List Event) → l ≡ l' → r ≡ r' → JoinRows l r ≡ JoinRows l' r'
both_sides l l' r r' h k = ap (λ x. JoinRows x r) h ∙ ap (JoinRows l') k

-- what is alone, and what is remembered of the right, from what came of each input
alone_from : List Element → List Element → List Event
alone_from ls rs = rows_ending_above (bound rs) (alone (rows rs) (rows ls))

right_from : List Element → List Element → List Event
right_from ls rs = rows_ending_above (bound ls) (rows rs)

-- ---- a right row

pub right_row : LeftsAfterRightRow → NoneGivenWithoutRise → (old new : Sides) (before after : List Element) (row : Event) (bounds : List ℕ)
    → new.left ≡ alone (row ∷ []) old.left → new.right ≡ old.right ++ rows_ending_above (slice_index bounds 0) (row ∷ []) → after ≡ before
    → StepsAs Except old new before after 1 (Row row) bounds
right_row lefts none old new before after row bounds left right same p stands follows are =
    let x = arrival 1 (Row row) in
    let ls = from_input 0 p in
    let rs = from_input 1 p in
    let l_is = push_other 0 1 p (Row row) refl in
    let r_is = push_same 1 p (Row row) refl in
    let bound_is : bound (rs ++ Row row ∷ []) ≡ bound rs = bound_push 0 rs (Row row) in
    let rows_is = rows_push rs (Row row) in
    let b0 : slice_index bounds 0 ≡ bound ls = are.left ∙ ap bound l_is in
    let left_now : alone_side (p ++ x ∷ []) ≡ alone (row ∷ []) (alone_side p) =
    ap (λ (xs : List Element). rows_ending_above (bound (from_input 1 (p ++ x ∷ []))) (alone (rows (from_input 1 (p ++ x ∷ []))) (rows xs))) l_is
    ∙ (ap (λ (xs : List Element). rows_ending_above (bound xs) (alone (rows xs) (rows ls))) r_is
    ∙ (ap (λ b. rows_ending_above b (alone (rows (rs ++ Row row ∷ [])) (rows ls))) bound_is
    ∙ (ap (λ (ys : List Event). rows_ending_above (bound rs) (alone ys (rows ls))) rows_is ∙ lefts (rows rs) (rows ls) row (bound rs)))) in
    let right_now : join_side 1 (p ++ x ∷ []) ≡ join_side 1 p ++ rows_ending_above (bound ls) (row ∷ []) =
    ap (λ (xs : List Element). rows_ending_above (bound xs) (rows (from_input 1 (p ++ x ∷ [])))) l_is
    ∙ (ap (λ (xs : List Element). rows_ending_above (bound ls) (rows xs)) r_is
    ∙ (ap (rows_ending_above (bound ls)) rows_is ∙ filter-append (λ (r : Event). nat_lt (bound ls) r.end) (rows rs) (row ∷ []))) in
    let nothing : ending_between (alone (rows rs) (rows ls)) (bound rs) (bound (from_input 1 (p ++ x ∷ []))) ≡ [] =
    ap (ending_between (alone (rows rs) (rows ls)) (bound rs)) (ap bound r_is ∙ bound_is) ∙ none (alone (rows rs) (rows ls)) (bound rs) in
    record {
      stands = both_sides new.left (alone_side (p ++ x ∷ [])) new.right (join_side 1 (p ++ x ∷ []))
          (left ∙ (ap (alone (row ∷ [])) (left_is old p stands) ∙ sym left_now))
          (right ∙ (ap (λ (ys : List Event). ys ++ rows_ending_above (slice_index bounds 0) (row ∷ [])) (right_is old p stands)
          ∙ (ap (λ b. join_side 1 p ++ rows_ending_above b (row ∷ [])) b0 ∙ sym right_now)));
      given = same ∙ (sym (append-nil before) ∙ ap (λ (ys : List Event). before ++ map (λ (r : Event). Row r) (map absent_row ys)) (sym nothing));
    }

-- ---- a rise

pub rise_left : SideAfterRise → (old new : Sides) (before after : List Element) (x : Element) (bounds : List ℕ) → row_of x ≡ []
    → new.left ≡ old.left → new.right ≡ rows_ending_above (slice_index bounds 0) old.right → after ≡ before
    → StepsAs Except old new before after 0 x bounds
rise_left rise old new before after x bounds no_row left right same p stands follows are =
    let y = arrival 0 x in
    let q : List Arrival = p ++ y ∷ [] in
    let ls = from_input 0 p in
    let rs = from_input 1 p in
    let l_is = push_same 0 p x refl in
    let r_is = push_other 1 0 p x refl in
    let rows_is : rows (from_input 0 q) ≡ rows ls = ap rows l_is ∙ (rows_push ls x ∙ (ap (λ (ys : List Event). rows ls ++ ys) no_row ∙ append-nil (rows ls))) in
    let up : bound ls ≤ bound (from_input 0 q) = never_falls (bound ls) (bound (from_input 0 q)) x follows in
    let left_now : alone_side q ≡ alone_side p =
    ap (λ (xs : List Element). rows_ending_above (bound xs) (alone (rows xs) (rows (from_input 0 q)))) r_is
    ∙ ap (λ (ys : List Event). rows_ending_above (bound rs) (alone (rows rs) ys)) rows_is in
    let right_now : join_side 1 q ≡ rows_ending_above (bound (from_input 0 q)) (join_side 1 p) =
    ap (λ (xs : List Element). rows_ending_above (bound (from_input 0 q)) (rows xs)) r_is ∙ rise (rows rs) (bound ls) (bound (from_input 0 q)) up in
    record {
      stands = both_sides new.left (alone_side q) new.right (join_side 1 q)
          (left ∙ (left_is old p stands ∙ sym left_now))
          (right ∙ (ap (rows_ending_above (slice_index bounds 0)) (right_is old p stands)
          ∙ (ap (λ b. rows_ending_above b (join_side 1 p)) are.left ∙ sym right_now)));
      given = same ∙ (sym (append-nil before)
          ∙ ap (λ (ys : List Event). before ++ map (λ (r : Event). Row r) (map absent_row (filter (λ row. nat_le row.end (bound rs) && is_alone (rows rs) row) ys))) (sym no_row));
    }

pub rise_right : SideAfterRise → ReachedRowsAreGiven → (old new : Sides) (before after : List Element) (x : Element) (bounds : List ℕ) → row_of x ≡ []
    → new.left ≡ rows_ending_above (slice_index bounds 1) old.left → new.right ≡ old.right
    → after ≡ before ++ map (λ (r : Event). Row r) (map absent_row (ending_up_to (slice_index bounds 1) old.left))
    → StepsAs Except old new before after 1 x bounds
rise_right rise given old new before after x bounds no_row left right told p stands follows are =
    let y = arrival 1 x in
    let q : List Arrival = p ++ y ∷ [] in
    let ls = from_input 0 p in
    let rs = from_input 1 p in
    let l_is = push_other 0 1 p x refl in
    let r_is = push_same 1 p x refl in
    let rows_is : rows (from_input 1 q) ≡ rows rs = ap rows r_is ∙ (rows_push rs x ∙ (ap (λ (ys : List Event). rows rs ++ ys) no_row ∙ append-nil (rows rs))) in
    let up : bound rs ≤ bound (from_input 1 q) = never_falls (bound rs) (bound (from_input 1 q)) x follows in
    let all = alone (rows rs) (rows ls) in
    let left_now : alone_side q ≡ rows_ending_above (bound (from_input 1 q)) (alone_side p) =
    ap (λ (xs : List Element). rows_ending_above (bound (from_input 1 q)) (alone (rows (from_input 1 q)) (rows xs))) l_is
    ∙ (ap (λ (ys : List Event). rows_ending_above (bound (from_input 1 q)) (alone ys (rows ls))) rows_is
    ∙ rise all (bound rs) (bound (from_input 1 q)) up) in
    let right_now : join_side 1 q ≡ join_side 1 p =
    ap (λ (xs : List Element). rows_ending_above (bound xs) (rows (from_input 1 q))) l_is ∙ ap (rows_ending_above (bound ls)) rows_is in
    record {
      stands = both_sides new.left (alone_side q) new.right (join_side 1 q)
          (left ∙ (ap (rows_ending_above (slice_index bounds 1)) (left_is old p stands) ∙ (ap (λ b. rows_ending_above b (alone_side p)) are.right ∙ sym left_now)))
          (right ∙ (right_is old p stands ∙ sym right_now));
      given = told ∙ ap (λ (ys : List Event). before ++ map (λ (r : Event). Row r) (map absent_row ys))
          (ap (ending_up_to (slice_index bounds 1)) (left_is old p stands) ∙ (ap (λ b. ending_up_to b (alone_side p)) are.right ∙ sym (given all (bound rs) (bound (from_input 1 q)))));
    }

-- ---- how many are given

pub right_row_counts : NoneGivenWithoutRise → (sides : Sides) (row : Event) (bounds : List ℕ) → CountsGiven sides 1 (Row row) bounds 0
right_row_counts none sides row bounds p stands follows are =
    let x = arrival 1 (Row row) in
    let rs = from_input 1 p in
    let all = alone (rows rs) (rows (from_input 0 p)) in
    let r_is = push_same 1 p (Row row) refl in
    let nothing : ending_between all (bound rs) (bound (from_input 1 (p ++ x ∷ []))) ≡ [] =
    ap (ending_between all (bound rs)) (ap bound r_is ∙ bound_push 0 rs (Row row)) ∙ none all (bound rs) in
    ap (λ (ys : List Event). length (map absent_row ys)) (sym nothing)

pub left_row_counts : EndedRowsNeverMatch → (sides : Sides) (row : Event) (bounds : List ℕ) (n : ℕ)
    → n ≡ length (filter (λ r. nat_le r.end (slice_index bounds 1) && is_alone sides.right r) (row ∷ [])) → CountsGiven sides 0 (Row row) bounds n
left_row_counts ended sides row bounds n h p stands follows are =
    let ls = from_input 0 p in
    let rs = from_input 1 p in
    let g_is : slice_index bounds 1 ≡ bound rs = are.right ∙ ap bound (push_other 1 0 p (Row row) refl) in
    let t = passed (nat_lt (bound ls) top && nat_lt row.end top && nat_lt row.start row.end && nat_le (bound ls) row.start) (bound ls) (bound (from_input 0 (p ++ arrival 0 (Row row) ∷ []))) follows in
    let least : bound ls ≤ row.start = least_start (nat_lt (bound ls) top && nat_lt row.end top && nat_lt row.start row.end) (bound ls) row.start t.0 in
    let same : is_alone sides.right row ≡ is_alone (rows rs) row = ap (λ (ys : List Event). is_alone ys row) (right_is sides p stands) ∙ sym (ended row (rows rs) (bound ls) least) in
    h
    ∙ (ap (λ b. length (cond (nat_le row.end (slice_index bounds 1) && b) (row ∷ []) [])) same
    ∙ (ap (λ g. length (cond (nat_le row.end g && is_alone (rows rs) row) (row ∷ []) [])) g_is
    ∙ sym (length-map (filter (λ r. nat_le r.end (bound rs) && is_alone (rows rs) r) (row ∷ [])) absent_row)))
  where
    least_start : (a : Bool) (b s : ℕ) → (a && nat_le b s) ≡ true → b ≤ s
    least_start a b s e = leb-true b s (and_parts a (nat_le b s) e).1

-- ---- by the answer

pub on_ok : {A E : Type 0} (r : Result A E) {P Q R : Type 0} → OnOk r P → OnOk r Q → OnOk r R → {T : Type 0} → (P → Q → R → T) → OnOk r T
on_ok (Ok a) p q r f = f p q r
on_ok (Err e) p q r f = tt
