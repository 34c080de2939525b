-- How many sessions close.
use Rattle.std.proofs.Common.{◌≡◌, ℕ, Bool, true, false, cond, ◌&&◌, nat_lt, nat_le, List, [], ◌∷◌, length, map, filter, refl, sym, ap, ◌∙◌}
use Rattle.std.proofs.lemmas.List.{length-map}
use Rattle.ss_elem.specs.declared.element.Event.{Event}
use Rattle.ss_meaning.specs.Entries.{Entries, NoEntries, WindowEntries, JoinRows, SessionEntries, open_sessions}
use Rattle.ss_meaning.specs.Session.{SessionWindow, SessionEntry, sessions, closing, session_row, closed, session_rows}
use Rattle.ss_meaning.specs.SessionRows.{closes_between, ClosedAreCounted}
use Rattle.ss_session.specs.States.{reached}

entries_in : Entries → List SessionEntry
entries_in NoEntries = []
entries_in (WindowEntries es) = []
entries_in (JoinRows left right) = []
entries_in (SessionEntries es) = es

same_entries : (es fs : List SessionEntry) → SessionEntries es ≡ SessionEntries fs → es ≡ fs
unfolding entries_in
same_entries es fs h = ap entries_in h

filter-filter : (p q : SessionEntry → Bool) (xs : List SessionEntry) → filter p (filter q xs) ≡ filter (λ x. q x && p x) xs
filter-filter p q [] = refl
filter-filter p q (x ∷ xs) = by_test (q x) (filter-filter p q xs)
  where
    by_test : (b : Bool) → filter p (filter q xs) ≡ filter (λ y. q y && p y) xs
        → filter p (cond b (x ∷ filter q xs) (filter q xs)) ≡ cond (b && p x) (x ∷ filter (λ y. q y && p y) xs) (filter (λ y. q y && p y) xs)
    by_test true rest = ap (λ (ys : List SessionEntry). cond (p x) (x ∷ ys) ys) rest
    by_test false rest = rest

pub closed_count : ClosedAreCounted → (window : SessionWindow) (seen : List Event) (es : List SessionEntry) (before after least n : ℕ)
    → SessionEntries es ≡ SessionEntries (open_sessions window seen before) → least ≡ after → n ≡ length (reached window.gap least es)
    → n ≡ length (session_rows window seen before after)
closed_count law window seen es before after least n stands same due =
    let all = sessions window seen in
    due
    ∙ (ap (λ b. length (reached window.gap b es)) same
    ∙ (ap (λ (xs : List SessionEntry). length (reached window.gap after xs)) (same_entries es (open_sessions window seen before) stands)
    ∙ (ap (λ (xs : List SessionEntry). length xs) (filter-filter (λ s. nat_le (closing window.gap s) after) (λ s. nat_lt before (closing window.gap s)) all)
    ∙ (sym (law window.gap all before after) ∙ sym (length-map (closed window.gap all before after) (session_row window.gap))))))
