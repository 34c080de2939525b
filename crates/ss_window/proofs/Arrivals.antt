-- A window that takes an element as its contracts say steps as its operator does.
use Rattle.std.proofs.Common.{◌≡◌, ℕ, suc, ◌^◌, ◌<◌, ◌≤◌, Bool, true, false, cond, nat_lt, nat_le, List, [], ◌∷◌, ◌++◌, length, map, filter, min, All, refl, sym, ap, subst, ◌∙◌, arith, ltb-true}
use Rattle.std.proofs.lemmas.Bool.{lt-leb}
use Rattle.std.proofs.lemmas.List.{append-nil, map-append}
use Rattle.std.proofs.lemmas.List.Elements.{filter-append, All-weaker}
use Rattle.std.proofs.lemmas.Grind.{flat_map-append}
use Rattle.ss_elem.specs.declared.element.Event.{Event}
use Rattle.ss_elem.specs.declared.element.Element.{Element}
use Rattle.ss_elem.specs.declared.element.Element.TheVariants.{Row, Cti, End}
use Rattle.ss_expr.specs.Operators.{field_of, HasWholeHops}
use Rattle.ss_expr.specs.declared.stream_operator.Agg.{Agg}
use Rattle.ss_expr.specs.declared.stream_operator.Agg.TheVariants.{Sum, Least, Greatest}
use Rattle.ss_expr.specs.Operators.{aggregate_of}
use Rattle.ss_meaning.specs.Bound.{bound_after, bound_past, bound, row_of, rows}
use Rattle.ss_meaning.specs.Merge.{Arrival, is_from, from_input}
use Rattle.ss_meaning.specs.Low.{low}
use Rattle.ss_meaning.specs.Window.{Window, ends_of, window_rows}
use Rattle.ss_meaning.specs.Entries.{WindowEntry, Entries, NoEntries, WindowEntries, JoinRows, SessionEntries, window_entries, entries_after}
use Rattle.ss_meaning.specs.EntryLists.{put_values, row_of_entry}
use Rattle.ss_meaning.specs.EntryLaws.{GrowsBy, AggregatesGrow, EntriesAfterRow, EntriesAfterRise, RowsAreOfEntries, EntriesCountRows}
use Rattle.ss_window.specs.Held.{join_of}
use Rattle.ss_window.specs.States.{State, window_of, kind_of, arrival, StepsFromAll, CountsFew, FewArrivalsAreFewRows}

-- one more arrival

from_input-push : (p : List Arrival) (x : Element) → from_input 0 (p ++ arrival x ∷ []) ≡ from_input 0 p ++ x ∷ []
from_input-push p x =
    ap (map (λ (y : Arrival). y.element)) (filter-append (is_from 0) p (arrival x ∷ []))
    ∙ map-append (λ (y : Arrival). y.element) (filter (is_from 0) p) (arrival x ∷ [])

rows-push : (p : List Arrival) (x : Element) → rows (from_input 0 (p ++ arrival x ∷ [])) ≡ rows (from_input 0 p) ++ row_of x
rows-push p x =
    ap rows (from_input-push p x)
    ∙ (flat_map-append row_of (from_input 0 p) (x ∷ []) ∙ ap (λ ys. rows (from_input 0 p) ++ ys) (append-nil (row_of x)))

bound_past-push : (b : ℕ) (xs : List Element) (x : Element) → bound_past b (xs ++ x ∷ []) ≡ bound_after (bound_past b xs) x
bound_past-push b [] x = refl
bound_past-push b (y ∷ ys) x = bound_past-push (bound_after b y) ys x

low-row : (p : List Arrival) (row : Event) → low 1 (p ++ arrival (Row row) ∷ []) ≡ low 1 p
low-row p row =
    ap (λ n. min n (low 0 p)) (ap bound (from_input-push p (Row row)) ∙ bound_past-push 0 (from_input 0 p) (Row row))

entries_in : Entries → List WindowEntry
entries_in NoEntries = []
entries_in (WindowEntries es) = es
entries_in (JoinRows left right) = []
entries_in (SessionEntries es) = []

pub same_list : (es fs : List WindowEntry) → WindowEntries es ≡ WindowEntries fs → es ≡ fs
unfolding entries_in
same_list es fs h = ap entries_in h

-- a row changes no bound, and so no row is given

none_both : (b : ℕ) (es : List WindowEntry) → filter (λ (e : WindowEntry). nat_le e.end b) (filter (λ (e : WindowEntry). nat_lt b e.end) es) ≡ []
none_both b [] = refl
none_both b (e ∷ es) = by_test (nat_lt b e.end) refl (none_both b es)
  where
    by_test : (t : Bool) → nat_lt b e.end ≡ t → filter (λ (x : WindowEntry). nat_le x.end b) (filter (λ (x : WindowEntry). nat_lt b x.end) es) ≡ []
        → filter (λ (x : WindowEntry). nat_le x.end b) (cond t (e ∷ filter (λ (x : WindowEntry). nat_lt b x.end) es) (filter (λ (x : WindowEntry). nat_lt b x.end) es)) ≡ []
    by_test true t rest =
        ap (λ s. cond s (e ∷ filter (λ (x : WindowEntry). nat_le x.end b) (filter (λ (x : WindowEntry). nat_lt b x.end) es))
        (filter (λ (x : WindowEntry). nat_le x.end b) (filter (λ (x : WindowEntry). nat_lt b x.end) es))) (lt-leb e.end b (ltb-true b e.end t)) ∙ rest
    by_test false t rest = rest

no_rows : EntriesAfterRise → RowsAreOfEntries → (window : Window) (seen : List Event) (b : ℕ) → window_rows window seen b b ≡ []
no_rows rise given window seen b =
    given window seen b b
    ∙ ap (map (row_of_entry window.hop)) (ap (filter (λ (e : WindowEntry). nat_le e.end b)) (rise window seen b b (omega arith)) ∙ none_both b (window_entries window seen b))

grows : AggregatesGrow → (agg : Agg) → GrowsBy (join_of agg) (aggregate_of agg)
grows g Sum = g.0
grows g Least = g.1
grows g Greatest = g.2

pub row_steps : EntriesAfterRow → EntriesAfterRise → RowsAreOfEntries → AggregatesGrow
    → (old new : State) (before after : List Element) (row : Event) (b : ℕ)
    → HasWholeHops old.settings.size old.settings.hop → new.settings ≡ old.settings → after ≡ before
    → new.entries ≡ put_values (join_of old.settings.agg) row.key (field_of old.settings.field row) (filter (nat_lt b) (ends_of (window_of old.settings) row)) old.entries
    → StepsFromAll old new before after (Row row) b
row_steps put rise given grow old new before after row b hops same_settings same_out puts p stood below is_low =
    let window = window_of old.settings in
    let seen = rows (from_input 0 p) in
    let same_low : b ≡ low 1 p = is_low ∙ low-row p row in
    let entries : old.entries ≡ window_entries window seen b = same_list old.entries (window_entries window seen (low 1 p)) stood ∙ ap (window_entries window seen) (sym same_low) in
    let now : new.entries ≡ window_entries window (rows (from_input 0 (p ++ arrival (Row row) ∷ []))) (low 1 (p ++ arrival (Row row) ∷ [])) =
    puts ∙ (ap (put_values (join_of old.settings.agg) row.key (field_of old.settings.field row) (filter (nat_lt b) (ends_of window row))) entries
    ∙ (sym (put window (join_of old.settings.agg) (grows grow old.settings.agg) hops.least_hop seen row b)
    ∙ (ap (λ rs. window_entries window rs b) (sym (rows-push p (Row row)))
    ∙ ap (window_entries window (rows (from_input 0 (p ++ arrival (Row row) ∷ [])))) is_low))) in
    record {
      stands = subst (λ s. WindowEntries new.entries ≡ entries_after (kind_of s) 1 (p ++ arrival (Row row) ∷ [])) (sym same_settings) (ap WindowEntries now);
      given =
          let none : window_rows window seen (low 1 p) (low 1 (p ++ arrival (Row row) ∷ [])) ≡ [] =
          ap (window_rows window seen (low 1 p)) (low-row p row) ∙ no_rows rise given window seen (low 1 p) in
          same_out ∙ (sym (append-nil before) ∙ ap (λ rs. before ++ map (λ (r : Event). Row r) rs) (sym none));
    }

pub rise_steps : EntriesAfterRise → RowsAreOfEntries
    → (old new : State) (before after : List Element) (x : Element) (b : ℕ)
    → row_of x ≡ [] → new.settings ≡ old.settings → new.entries ≡ filter (λ e. nat_lt b e.end) old.entries
    → after ≡ before ++ map (λ (r : Event). Row r) (map (row_of_entry old.settings.hop) (filter (λ e. nat_le e.end b) old.entries))
    → StepsFromAll old new before after x b
rise_steps rise given old new before after x b no_row same_settings kept gives p stood below is_low =
    let window = window_of old.settings in
    let seen = rows (from_input 0 p) in
    let entries : old.entries ≡ window_entries window seen (low 1 p) = same_list old.entries (window_entries window seen (low 1 p)) stood in
    let same_rows : rows (from_input 0 (p ++ arrival x ∷ [])) ≡ seen = rows-push p x ∙ (ap (λ rs. seen ++ rs) no_row ∙ append-nil seen) in
    let now : new.entries ≡ window_entries window (rows (from_input 0 (p ++ arrival x ∷ []))) (low 1 (p ++ arrival x ∷ [])) =
    kept ∙ (ap (filter (λ (e : WindowEntry). nat_lt b e.end)) entries
    ∙ (sym (rise window seen (low 1 p) b below)
    ∙ (ap (λ rs. window_entries window rs b) (sym same_rows)
    ∙ ap (window_entries window (rows (from_input 0 (p ++ arrival x ∷ [])))) is_low))) in
    record {
      stands = subst (λ s. WindowEntries new.entries ≡ entries_after (kind_of s) 1 (p ++ arrival x ∷ [])) (sym same_settings) (ap WindowEntries now);
      given =
          let all : map (row_of_entry old.settings.hop) (filter (λ (e : WindowEntry). nat_le e.end b) old.entries) ≡ window_rows window seen (low 1 p) (low 1 (p ++ arrival x ∷ [])) =
          ap (λ es. map (row_of_entry old.settings.hop) (filter (λ (e : WindowEntry). nat_le e.end b) es)) entries
          ∙ (sym (given window seen (low 1 p) b) ∙ ap (window_rows window seen (low 1 p)) is_low) in
          gives ∙ ap (λ rs. before ++ map (λ (r : Event). Row r) rs) all;
    }

-- how many rows there can be

rows-le : (xs : List Element) → length (rows xs) ≤ length xs
rows-le [] = omega arith
rows-le (Row row ∷ xs) = let rest = rows-le xs in omega (arith, rest)
rows-le (Cti time ∷ xs) = let rest = rows-le xs in omega (arith, rest)
rows-le (End ∷ xs) = let rest = rows-le xs in omega (arith, rest)

from_input-le : (p : List Arrival) → length (from_input 0 p) ≤ length p
from_input-le [] = omega arith
from_input-le (x ∷ p) = by_test (is_from 0 x) (from_input-le p)
  where
    by_test : (b : Bool) → length (from_input 0 p) ≤ length p
        → length (map (λ (y : Arrival). y.element) (cond b (x ∷ filter (is_from 0) p) (filter (is_from 0) p))) ≤ suc (length p)
    by_test true rest = omega (arith, rest)
    by_test false rest = omega (arith, rest)

pub rows-at_most : (p : List Arrival) → length (rows (from_input 0 p)) ≤ length p
rows-at_most p = let a = rows-le (from_input 0 p) in let b = from_input-le p in omega (arith, a, b)

pub few_arrivals : EntriesCountRows → FewArrivalsAreFewRows
few_arrivals counts state p hops stood few =
    let window = window_of state.settings in
    let seen = rows (from_input 0 p) in
    let limit : length seen < 2 ^ 62 = (let most = rows-at_most p in omega (arith, most, few)) in
    subst (All CountsFew) (sym (same_list state.entries (window_entries window seen (low 1 p)) stood))
    (All-weaker (λ (e : WindowEntry). e.rows ≤ length seen) CountsFew (λ e k. omega (arith, k, limit)) (window_entries window seen (low 1 p))
    (counts window seen (low 1 p) hops.least_hop).1)
