-- Which left rows are alone, and which have ended.
use Rattle.std.proofs.Common.{◌≡◌, ℕ, suc, ◌+◌, ◌<◌, ◌≤◌, ◌==◌, Bool, true, false, cond, ◌&&◌, ◌||◌, not, nat_lt, nat_le, List, [], ◌∷◌, length, filter, refl, sym, ap, ◌∙◌, arith, ltb-true, ltb-false, eq-eqb, All}
use Rattle.std.proofs.lemmas.Bool.{ne_eqb, eqb-false, eqb-true, le-leb, lt-leb, false≢true}
use Rattle.std.proofs.lemmas.List.{length-map}
use Rattle.std.proofs.lemmas.List.Elements.{All-from_recursion, recursion_from_All}
use Rattle.std.specs.List.{AllByRecursion, list_any, insert, prefix_len}
use Rattle.ss_elem.specs.declared.element.Event.{Event}
use Rattle.ss_elem.specs.declared.element.Element.TheVariants.{Row}
use Rattle.ss_meaning.specs.ByTime.{put_by_time, by_time}
use Rattle.ss_meaning.specs.Except.{is_alone, alone}
use Rattle.ss_meaning.specs.ExceptLaws.{ending_up_to}
use Rattle.ss_meaning.specs.Entries.{rows_ending_above}
use Rattle.ss_meaning.specs.Join.{matches, joined_from, join_rows}
use Rattle.ss_join.specs.States.{joined_elements}

-- none passes just where as many as none pass
none_passes : (p : Event → Bool) (xs : List Event) → (length (filter p xs) == 0) ≡ not (list_any p xs)
none_passes p [] = refl
none_passes p (x ∷ xs) = by_test (p x) (none_passes p xs)
  where
    by_test : (b : Bool) → (length (filter p xs) == 0) ≡ not (list_any p xs) → (length (cond b (x ∷ filter p xs) (filter p xs)) == 0) ≡ not (b || list_any p xs)
    by_test true rest = ne_eqb (suc (length (filter p xs))) 0 (λ e. omega (arith, e))
    by_test false rest = rest

joined_many : (row : Event) (xs : List Event) → length (joined_elements 0 row xs) ≡ length (filter (matches row) xs)
joined_many row xs =
    length-map (join_rows 0 row xs) (λ (joined : Event). Row joined) ∙ length-map (filter (matches row) xs) (joined_from 0 row)

pub alone_by_count : (row : Event) (rights : List Event) (n : ℕ) → n ≡ length (joined_elements 0 row rights) → (n == 0) ≡ is_alone rights row
alone_by_count row rights n h = ap (λ m. m == 0) (h ∙ joined_many row rights) ∙ none_passes (matches row) rights

same_key : (a b : ℕ) → (a == b) ≡ (b == a)
same_key a b = by_test (a == b) refl
  where
    by_test : (t : Bool) → (a == b) ≡ t → t ≡ (b == a)
    by_test true e = sym (eq-eqb b a (sym (eqb-true a b e)))
    by_test false e = sym (ne_eqb b a (λ s. eqb-false a b e (sym s)))

swapped : (a b c d : Bool) → a ≡ b → ((a && c) && d) ≡ ((b && d) && c)
swapped true b c d h = ap (λ t. t) (both c d) ∙ ap (λ t. (t && d) && c) h
  where
    both : (x y : Bool) → (x && y) ≡ (y && x)
    both true true = refl
    both true false = refl
    both false true = refl
    both false false = refl
swapped false b c d h = ap (λ t. (t && d) && c) h

matches-swap : (x y : Event) → matches x y ≡ matches y x
matches-swap x y = swapped (x.key == y.key) (y.key == x.key) (nat_lt x.start y.end) (nat_lt y.start x.end) (same_key x.key y.key)

one_right : (row left : Event) → is_alone (row ∷ []) left ≡ not (matches left row)
one_right row left = by_test (matches left row)
  where
    by_test : (b : Bool) → not (b || false) ≡ not b
    by_test true = refl
    by_test false = refl

filter_alike : (p q : Event → Bool) → ((x : Event) → p x ≡ q x) → (xs : List Event) → filter p xs ≡ filter q xs
filter_alike p q h [] = refl
filter_alike p q h (x ∷ xs) = ap (λ b. cond b (x ∷ filter p xs) (filter p xs)) (h x) ∙ ap (λ (ys : List Event). cond (q x) (x ∷ ys) ys) (filter_alike p q h xs)

pub alone_is_kept : (row : Event) (lefts : List Event) → filter (λ left. not (matches left row)) lefts ≡ alone (row ∷ []) lefts
alone_is_kept row lefts = filter_alike (λ left. not (matches left row)) (is_alone (row ∷ [])) (λ left. sym (one_right row left)) lefts

no_match : (row : Event) (lefts : List Event) → list_any (matches row) lefts ≡ false → filter (λ left. not (matches left row)) lefts ≡ lefts
no_match row [] h = refl
no_match row (left ∷ lefts) h = by_test (matches row left) refl h (no_match row lefts)
  where
    by_test : (b : Bool) → matches row left ≡ b → (b || list_any (matches row) lefts) ≡ false → (list_any (matches row) lefts ≡ false → filter (λ l. not (matches l row)) lefts ≡ lefts)
        → cond (not (matches left row)) (left ∷ filter (λ l. not (matches l row)) lefts) (filter (λ l. not (matches l row)) lefts) ≡ left ∷ lefts
    by_test true e k rest = absurd (false≢true (sym k))
    by_test false e k rest =
        ap (λ b. cond (not b) (left ∷ filter (λ l. not (matches l row)) lefts) (filter (λ l. not (matches l row)) lefts)) (matches-swap left row ∙ e)
        ∙ ap (λ (ys : List Event). left ∷ ys) (rest k)

flipped : (b : Bool) → not b ≡ true → b ≡ false
flipped true h = absurd (false≢true h)
flipped false h = refl

pub none_matched : (row : Event) (lefts : List Event) (n : ℕ) → n ≡ length (joined_elements 0 row lefts) → n ≡ 0 → alone (row ∷ []) lefts ≡ lefts
none_matched row lefts n h zero_is =
    let none = flipped (list_any (matches row) lefts) (sym (alone_by_count row lefts n h) ∙ eq-eqb n 0 zero_is) in
    sym (alone_is_kept row lefts) ∙ no_match row lefts none

-- in the order of ends

one_more : (n : ℕ) → suc n ≡ 1 + n
one_more n = omega arith

pub put_at_place : (end : ℕ) (row : Event) (rows : List Event) → row.end ≡ end
    → put_by_time (λ r. r.end) row rows ≡ insert rows (prefix_len (λ (r : Event). nat_lt r.end end) rows) row
put_at_place end row [] h = refl
put_at_place end row (r ∷ rs) h = by_test (nat_lt r.end end) refl (put_at_place end row rs h)
  where
    by_test : (b : Bool) → nat_lt r.end end ≡ b → put_by_time (λ x. x.end) row rs ≡ insert rs (prefix_len (λ (x : Event). nat_lt x.end end) rs) row
        → cond (nat_le row.end r.end) (row ∷ r ∷ rs) (r ∷ put_by_time (λ x. x.end) row rs) ≡ insert (r ∷ rs) (cond b (1 + prefix_len (λ (x : Event). nat_lt x.end end) rs) 0) row
    by_test true e rest =
        let less = ltb-true r.end end e in
        ap (λ c. cond c (row ∷ r ∷ rs) (r ∷ put_by_time (λ x. x.end) row rs)) (lt-leb row.end r.end (omega (arith, less, h)))
        ∙ (ap (λ (ys : List Event). r ∷ ys) rest ∙ ap (λ n. insert (r ∷ rs) n row) (one_more (prefix_len (λ (x : Event). nat_lt x.end end) rs)))
    by_test false e rest =
        let least = ltb-false r.end end e in
        ap (λ c. cond c (row ∷ r ∷ rs) (r ∷ put_by_time (λ x. x.end) row rs)) (le-leb row.end r.end (omega (arith, least, h)))

-- one row more in front
pub ending_more : (bound : ℕ) (row : Event) (rows : List Event) → row.end ≤ bound → ending_up_to bound (row ∷ rows) ≡ put_by_time (λ r. r.end) row (ending_up_to bound rows)
ending_more bound row rows h = ap (λ b. by_time (λ r. r.end) (cond b (row ∷ filter (λ r. nat_le r.end bound) rows) (filter (λ r. nat_le r.end bound) rows))) (le-leb row.end bound h)

pub ending_same : (bound : ℕ) (row : Event) (rows : List Event) → bound < row.end → ending_up_to bound (row ∷ rows) ≡ ending_up_to bound rows
ending_same bound row rows h = ap (λ b. by_time (λ r. r.end) (cond b (row ∷ filter (λ r. nat_le r.end bound) rows) (filter (λ r. nat_le r.end bound) rows))) (lt-leb row.end bound h)

-- where all stay, none has ended
length_kept : (p : Event → Bool) (xs : List Event) → length (filter p xs) ≤ length xs
length_kept p [] = omega arith
length_kept p (x ∷ xs) = by_test (p x) (length_kept p xs)
  where
    by_test : (b : Bool) → length (filter p xs) ≤ length xs → length (cond b (x ∷ filter p xs) (filter p xs)) ≤ suc (length xs)
    by_test true rest = omega (arith, rest)
    by_test false rest = omega (arith, rest)

all_stay : (bound : ℕ) (rows : List Event) → length (rows_ending_above bound rows) ≡ length rows → filter (λ r. nat_le r.end bound) rows ≡ []
all_stay bound [] h = refl
all_stay bound (row ∷ rows) h = by_test (nat_lt bound row.end) refl h (all_stay bound rows)
  where
    by_test : (b : Bool) → nat_lt bound row.end ≡ b → length (cond b (row ∷ rows_ending_above bound rows) (rows_ending_above bound rows)) ≡ suc (length rows)
        → (length (rows_ending_above bound rows) ≡ length rows → filter (λ r. nat_le r.end bound) rows ≡ [])
        → cond (nat_le row.end bound) (row ∷ filter (λ r. nat_le r.end bound) rows) (filter (λ r. nat_le r.end bound) rows) ≡ []
    by_test true e k rest =
        let late = ltb-true bound row.end e in
        ap (λ b. cond b (row ∷ filter (λ r. nat_le r.end bound) rows) (filter (λ r. nat_le r.end bound) rows)) (lt-leb row.end bound late) ∙ rest (omega (arith, k))
    by_test false e k rest = absurd (let short = length_kept (λ r. nat_lt bound r.end) rows in omega (arith, k, short))

pub none_ended : (bound : ℕ) (rows : List Event) → rows_ending_above bound rows ≡ rows → ending_up_to bound rows ≡ []
none_ended bound rows h = ap (by_time (λ (r : Event). r.end)) (all_stay bound rows (ap (λ (xs : List Event). length xs) h))

-- what holds of each row holds of those that stay, and of those that have ended

each_kept : (P : Event → Type 0) (p : Event → Bool) (xs : List Event) → AllByRecursion P xs → AllByRecursion P (filter p xs)
each_kept P p [] h = tt
each_kept P p (x ∷ xs) h = by_test (p x) (each_kept P p xs h.1)
  where
    by_test : (b : Bool) → AllByRecursion P (filter p xs) → AllByRecursion P (cond b (x ∷ filter p xs) (filter p xs))
    by_test true rest = (h.0, rest)
    by_test false rest = rest

pub all_kept : (P : Event → Type 0) (p : Event → Bool) (xs : List Event) → All P xs → All P (filter p xs)
all_kept P p xs h = All-from_recursion P (filter p xs) (each_kept P p xs (recursion_from_All P xs h))

each_put : (P : Event → Type 0) (row : Event) (rows : List Event) → P row → AllByRecursion P rows → AllByRecursion P (put_by_time (λ r. r.end) row rows)
each_put P row [] h k = (h, tt)
each_put P row (r ∷ rs) h k = by_test (nat_le row.end r.end) (each_put P row rs h k.1)
  where
    by_test : (b : Bool) → AllByRecursion P (put_by_time (λ x. x.end) row rs) → AllByRecursion P (cond b (row ∷ r ∷ rs) (r ∷ put_by_time (λ x. x.end) row rs))
    by_test true rest = (h, k)
    by_test false rest = (k.0, rest)

each_by_time : (P : Event → Type 0) (rows : List Event) → AllByRecursion P rows → AllByRecursion P (by_time (λ r. r.end) rows)
each_by_time P [] h = tt
each_by_time P (row ∷ rows) h = each_put P row (by_time (λ r. r.end) rows) h.0 (each_by_time P rows h.1)

pub all_ended : (P : Event → Type 0) (bound : ℕ) (rows : List Event) → All P rows → All P (ending_up_to bound rows)
all_ended P bound rows h =
    let ended = filter (λ (r : Event). nat_le r.end bound) rows in
    All-from_recursion P (ending_up_to bound rows) (each_by_time P ended (each_kept P (λ r. nat_le r.end bound) rows (recursion_from_All P rows h)))
