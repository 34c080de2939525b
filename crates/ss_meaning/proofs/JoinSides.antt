-- The rows of a join's side, as bounds rise and rows arrive.
use Rattle.std.proofs.Common.{◌≡◌, ℕ, ◌≤◌, ◌==◌, Bool, true, false, cond, ◌&&◌, nat_lt, List, [], ◌∷◌, map, filter, refl, ap, ◌∙◌, arith, ltb-false, le-ltb}
use Rattle.std.proofs.lemmas.List.Elements.{filter-append}
use Rattle.ss_elem.specs.declared.element.Event.{Event}
use Rattle.ss_meaning.specs.Join.{matches, joined_from}
use Rattle.ss_meaning.specs.Entries.{rows_ending_above}
use Rattle.ss_meaning.specs.JoinLaws.{EndedRowsNeverJoin, SideAfterRise, SideAfterRow}

-- a row that has ended by the start of another does not match it
pub ended_is_no_match : (x y : Event) → y.end ≤ x.start → matches x y ≡ false
ended_is_no_match x y h = by_key (x.key == y.key)
  where
    later : nat_lt x.start y.end ≡ false
    later = le-ltb x.start y.end h

    by_key : (b : Bool) → (b && nat_lt x.start y.end && nat_lt y.start x.end) ≡ false
    by_key true = ap (λ c. c && nat_lt y.start x.end) later
    by_key false = refl

ended_are_no_matches : (x : Event) (bound : ℕ) → bound ≤ x.start → (seen : List Event)
    → filter (matches x) seen ≡ filter (matches x) (rows_ending_above bound seen)
ended_are_no_matches x bound h [] = refl
ended_are_no_matches x bound h (y ∷ ys) = by_test (nat_lt bound y.end) refl (ended_are_no_matches x bound h ys)
  where
    by_test : (b : Bool) → nat_lt bound y.end ≡ b → filter (matches x) ys ≡ filter (matches x) (rows_ending_above bound ys)
        → filter (matches x) (y ∷ ys) ≡ filter (matches x) (cond b (y ∷ rows_ending_above bound ys) (rows_ending_above bound ys))
    by_test true t rest = ap (λ rows. cond (matches x y) (y ∷ rows) rows) rest
    by_test false t rest =
        let ended : y.end ≤ x.start = (let most = ltb-false bound y.end t in omega (arith, most, h)) in
        ap (λ b. cond b (y ∷ filter (matches x) ys) (filter (matches x) ys)) (ended_is_no_match x y ended) ∙ rest

pub ended_rows_never_join : EndedRowsNeverJoin
ended_rows_never_join input row seen bound h = ap (map (joined_from input row)) (ended_are_no_matches row bound h seen)

pub side_after_rise : SideAfterRise
side_after_rise [] before after h = refl
side_after_rise (y ∷ ys) before after h = by_test (nat_lt before y.end) refl (side_after_rise ys before after h)
  where
    by_test : (b : Bool) → nat_lt before y.end ≡ b → rows_ending_above after ys ≡ rows_ending_above after (rows_ending_above before ys)
        → rows_ending_above after (y ∷ ys) ≡ rows_ending_above after (cond b (y ∷ rows_ending_above before ys) (rows_ending_above before ys))
    by_test true t rest = ap (λ rows. cond (nat_lt after y.end) (y ∷ rows) rows) rest
    by_test false t rest =
        let ended : y.end ≤ after = (let most = ltb-false before y.end t in omega (arith, most, h)) in
        ap (λ b. cond b (y ∷ rows_ending_above after ys) (rows_ending_above after ys)) (le-ltb after y.end ended) ∙ rest

pub side_after_row : SideAfterRow
side_after_row seen row bound = filter-append (λ (y : Event). nat_lt bound y.end) seen (row ∷ [])
