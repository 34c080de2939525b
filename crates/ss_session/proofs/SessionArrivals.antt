-- A session window that takes an element as its contracts say steps as its operator does.
use Rattle.std.proofs.Common.{◌≡◌, ℕ, suc, ◌^◌, ◌<◌, ◌≤◌, Bool, true, false, cond, ◌&&◌, nat_lt, nat_le, List, [], ◌∷◌, ◌++◌, length, map, filter, min, All, refl, sym, ap, subst, ◌∙◌, arith, ltb-true, lt-ltb}
use Rattle.std.proofs.lemmas.Bool.{lt-leb}
use Rattle.std.proofs.lemmas.List.{append-nil, map-append}
use Rattle.std.proofs.lemmas.List.Elements.{filter-append, All-weaker}
use Rattle.std.proofs.lemmas.Grind.{flat_map-append}
use Rattle.std.specs.Prelude.{Result, Ok, Err, OnOk}
use Rattle.ss_elem.specs.declared.element.Event.{Event}
use Rattle.ss_elem.specs.declared.element.Element.{Element}
use Rattle.ss_elem.specs.declared.element.Element.TheVariants.{Row, Cti, End}
use Rattle.ss_expr.specs.Operators.{HasGap, aggregate_of}
use Rattle.ss_expr.specs.declared.stream_operator.Agg.{Agg}
use Rattle.ss_expr.specs.declared.stream_operator.Agg.TheVariants.{Sum, Least, Greatest}
use Rattle.ss_meaning.specs.Bound.{bound_after, bound_past, bound, row_of, rows}
use Rattle.ss_meaning.specs.ByTime.{by_time}
use Rattle.ss_meaning.specs.Merge.{Arrival, is_from, from_input}
use Rattle.ss_meaning.specs.Low.{low}
use Rattle.ss_meaning.specs.Session.{SessionWindow, SessionEntry, closing, session_row, session_rows, closed}
use Rattle.ss_meaning.specs.SessionRows.{closes_between, ClosedAreByTime}
use Rattle.ss_meaning.specs.Entries.{Entries, NoEntries, WindowEntries, JoinRows, SessionEntries, open_sessions, entries_after}
use Rattle.ss_meaning.specs.SessionLaws.{JoinsBy, AggregatesJoin, SessionsAfterRow, SessionsAfterRise, RowsAreOfSessions, IsSession, SessionsAreApart}
use Rattle.ss_session.specs.SessionHeld.{join_of}
use Rattle.ss_session.specs.States.{State, window_of, kind_of, arrival, StepsFromAll, CountsFew, FewArrivalsAreFewRows, reached}
use Rattle.ss_session.specs.SessionSteps.{with_row, left, in_time, rows_of_sessions}

-- one more arrival

from_input-push : (p : List Arrival) (x : Element) → from_input 0 (p ++ arrival x ∷ []) ≡ from_input 0 p ++ x ∷ []
from_input-push p x =
    ap (map (λ (y : Arrival). y.element)) (filter-append (is_from 0) p (arrival x ∷ []))
    ∙ map-append (λ (y : Arrival). y.element) (filter (is_from 0) p) (arrival x ∷ [])

rows-push : (p : List Arrival) (x : Element) → rows (from_input 0 (p ++ arrival x ∷ [])) ≡ rows (from_input 0 p) ++ row_of x
rows-push p x =
    ap rows (from_input-push p x)
    ∙ (flat_map-append row_of (from_input 0 p) (x ∷ []) ∙ ap (λ ys. rows (from_input 0 p) ++ ys) (append-nil (row_of x)))

bound_past-push : (b : ℕ) (xs : List Element) (x : Element) → bound_past b (xs ++ x ∷ []) ≡ bound_after (bound_past b xs) x
bound_past-push b [] x = refl
bound_past-push b (y ∷ ys) x = bound_past-push (bound_after b y) ys x

low-row : (p : List Arrival) (row : Event) → low 1 (p ++ arrival (Row row) ∷ []) ≡ low 1 p
low-row p row =
    ap (λ n. min n (low 0 p)) (ap bound (from_input-push p (Row row)) ∙ bound_past-push 0 (from_input 0 p) (Row row))

sessions_in : Entries → List SessionEntry
sessions_in NoEntries = []
sessions_in (WindowEntries es) = []
sessions_in (JoinRows left right) = []
sessions_in (SessionEntries es) = es

pub same_list : (es fs : List SessionEntry) → SessionEntries es ≡ SessionEntries fs → es ≡ fs
unfolding sessions_in
same_list es fs h = ap sessions_in h

-- what closes up to a bound is what the bound reaches, since none closes at 0

same_reached : (gap bound : ℕ) (es : List SessionEntry) → 1 ≤ gap → filter (closes_between gap 0 bound) es ≡ reached gap bound es
same_reached gap bound [] some = refl
same_reached gap bound (e ∷ es) some =
    ap (λ b. cond (b && nat_le (closing gap e) bound) (e ∷ filter (closes_between gap 0 bound) es) (filter (closes_between gap 0 bound) es)) (lt-ltb 0 (closing gap e) (omega (arith, some)))
    ∙ ap (λ (l : List SessionEntry). cond (nat_le (closing gap e) bound) (e ∷ l) l) (same_reached gap bound es some)

in_time_is : ClosedAreByTime → (gap bound : ℕ) (es : List SessionEntry) → 1 ≤ gap → closed gap es 0 bound ≡ in_time gap bound es
in_time_is order gap bound es some = order gap es 0 bound ∙ ap (by_time (closing gap)) (same_reached gap bound es some)

-- a row changes no bound, and so none is given

none_both : (gap b : ℕ) (es : List SessionEntry) → reached gap b (left gap b es) ≡ []
none_both gap b [] = refl
none_both gap b (e ∷ es) = by_test (nat_lt b (closing gap e)) refl (none_both gap b es)
  where
    by_test : (t : Bool) → nat_lt b (closing gap e) ≡ t → reached gap b (left gap b es) ≡ []
        → reached gap b (cond t (e ∷ left gap b es) (left gap b es)) ≡ []
    by_test true t rest =
        ap (λ s. cond s (e ∷ reached gap b (left gap b es)) (reached gap b (left gap b es))) (lt-leb (closing gap e) b (ltb-true b (closing gap e) t)) ∙ rest
    by_test false t rest = rest

no_rows : SessionsAfterRise → RowsAreOfSessions → ClosedAreByTime → (window : SessionWindow) (seen : List Event) (b : ℕ) → 1 ≤ window.gap → session_rows window seen b b ≡ []
no_rows rise given order window seen b some =
    given window seen b b
    ∙ ap (map (session_row window.gap))
    (in_time_is order window.gap b (open_sessions window seen b) some
    ∙ ap (by_time (closing window.gap)) (ap (reached window.gap b) (rise window seen b b (omega arith)) ∙ none_both window.gap b (open_sessions window seen b)))

pub joins : AggregatesJoin → (agg : Agg) → JoinsBy (join_of agg) (aggregate_of agg)
joins g Sum = g.0
joins g Least = g.1
joins g Greatest = g.2

pub row_steps : SessionsAfterRow → SessionsAfterRise → RowsAreOfSessions → AggregatesJoin → ClosedAreByTime
    → (old new : State) (before after : List Element) (row : Event) (b : ℕ)
    → HasGap old.settings.gap → new.settings ≡ old.settings → after ≡ before → new.entries ≡ with_row old.settings row old.entries
    → StepsFromAll old new before after (Row row) b
row_steps put rise given join order old new before after row b gaps same_settings same_out puts p stood below is_low starts =
    let window = window_of old.settings in
    let seen = rows (from_input 0 p) in
    let some : 1 ≤ old.settings.gap = gaps.least in
    let same_low : b ≡ low 1 p = is_low ∙ low-row p row in
    let entries : old.entries ≡ open_sessions window seen b = same_list old.entries (open_sessions window seen (low 1 p)) stood ∙ ap (open_sessions window seen) (sym same_low) in
    let now : new.entries ≡ open_sessions window (rows (from_input 0 (p ++ arrival (Row row) ∷ []))) (low 1 (p ++ arrival (Row row) ∷ [])) =
    puts ∙ (ap (with_row old.settings row) entries
    ∙ (sym (put window (join_of old.settings.agg) (joins join old.settings.agg) some seen row b starts)
    ∙ (ap (λ rs. open_sessions window rs b) (sym (rows-push p (Row row)))
    ∙ ap (open_sessions window (rows (from_input 0 (p ++ arrival (Row row) ∷ [])))) is_low))) in
    record {
      stands = subst (λ s. SessionEntries new.entries ≡ entries_after (kind_of s) 1 (p ++ arrival (Row row) ∷ [])) (sym same_settings) (ap SessionEntries now);
      given =
          let none : session_rows window seen (low 1 p) (low 1 (p ++ arrival (Row row) ∷ [])) ≡ [] =
          ap (session_rows window seen (low 1 p)) (low-row p row) ∙ no_rows rise given order window seen (low 1 p) some in
          same_out ∙ (sym (append-nil before) ∙ ap (λ rs. before ++ map (λ (r : Event). Row r) rs) (sym none));
    }

pub rise_steps : SessionsAfterRise → RowsAreOfSessions → ClosedAreByTime
    → (old new : State) (before after : List Element) (x : Element) (b : ℕ)
    → HasGap old.settings.gap → row_of x ≡ [] → new.settings ≡ old.settings → new.entries ≡ left old.settings.gap b old.entries
    → after ≡ before ++ rows_of_sessions old.settings.gap (in_time old.settings.gap b old.entries)
    → StepsFromAll old new before after x b
rise_steps rise given order old new before after x b gaps no_row same_settings kept gives p stood below is_low starts =
    let window = window_of old.settings in
    let gap = old.settings.gap in
    let seen = rows (from_input 0 p) in
    let entries : old.entries ≡ open_sessions window seen (low 1 p) = same_list old.entries (open_sessions window seen (low 1 p)) stood in
    let same_rows : rows (from_input 0 (p ++ arrival x ∷ [])) ≡ seen = rows-push p x ∙ (ap (λ rs. seen ++ rs) no_row ∙ append-nil seen) in
    let now : new.entries ≡ open_sessions window (rows (from_input 0 (p ++ arrival x ∷ []))) (low 1 (p ++ arrival x ∷ [])) =
    kept ∙ (ap (left gap b) entries
    ∙ (sym (rise window seen (low 1 p) b below)
    ∙ (ap (λ rs. open_sessions window rs b) (sym same_rows)
    ∙ ap (open_sessions window (rows (from_input 0 (p ++ arrival x ∷ [])))) is_low))) in
    record {
      stands = subst (λ s. SessionEntries new.entries ≡ entries_after (kind_of s) 1 (p ++ arrival x ∷ [])) (sym same_settings) (ap SessionEntries now);
      given =
          let all : map (session_row gap) (in_time gap b old.entries) ≡ session_rows window seen (low 1 p) (low 1 (p ++ arrival x ∷ [])) =
          ap (λ es. map (session_row gap) (in_time gap b es)) entries
          ∙ (ap (map (session_row gap)) (sym (in_time_is order gap b (open_sessions window seen (low 1 p)) gaps.least))
          ∙ (sym (given window seen (low 1 p) b) ∙ ap (session_rows window seen (low 1 p)) is_low)) in
          gives ∙ ap (λ rs. before ++ map (λ (r : Event). Row r) rs) all;
    }

-- how many rows there can be

rows-le : (xs : List Element) → length (rows xs) ≤ length xs
rows-le [] = omega arith
rows-le (Row row ∷ xs) = let rest = rows-le xs in omega (arith, rest)
rows-le (Cti time ∷ xs) = let rest = rows-le xs in omega (arith, rest)
rows-le (End ∷ xs) = let rest = rows-le xs in omega (arith, rest)

from_input-le : (p : List Arrival) → length (from_input 0 p) ≤ length p
from_input-le [] = omega arith
from_input-le (x ∷ p) = by_test (is_from 0 x) (from_input-le p)
  where
    by_test : (b : Bool) → length (from_input 0 p) ≤ length p
        → length (map (λ (y : Arrival). y.element) (cond b (x ∷ filter (is_from 0) p) (filter (is_from 0) p))) ≤ suc (length p)
    by_test true rest = omega (arith, rest)
    by_test false rest = omega (arith, rest)

pub rows-at_most : (p : List Arrival) → length (rows (from_input 0 p)) ≤ length p
rows-at_most p = let a = rows-le (from_input 0 p) in let b = from_input-le p in omega (arith, a, b)

pub few_arrivals : AggregatesJoin → SessionsAreApart → FewArrivalsAreFewRows
few_arrivals join counts state p gaps stood few =
    let window = window_of state.settings in
    let seen = rows (from_input 0 p) in
    let limit : length seen < 2 ^ 62 = (let most = rows-at_most p in omega (arith, most, few)) in
    subst (All CountsFew) (sym (same_list state.entries (open_sessions window seen (low 1 p)) stood))
    (All-weaker (IsSession seen) CountsFew (λ e k. let n = k.few in omega (arith, n, limit)) (open_sessions window seen (low 1 p))
    (counts window (join_of state.settings.agg) (joins join state.settings.agg) gaps.least seen (low 1 p)).1)

-- what holds where a call succeeds

pub on_both : {T E : Type 0} (r : Result T E) (P Q R : Type 0) → (P → Q → R) → OnOk r P → OnOk r Q → OnOk r R
on_both (Ok x) P Q R f h k = f h k
on_both (Err e) P Q R f h k = h

pub on_three : {T E : Type 0} (r : Result T E) (P Q R S : Type 0) → (P → Q → R → S) → OnOk r P → OnOk r Q → OnOk r R → OnOk r S
on_three (Ok x) P Q R S f h k l = f h k l
on_three (Err e) P Q R S f h k l = h
