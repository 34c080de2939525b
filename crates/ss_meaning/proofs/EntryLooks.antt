-- What is found among the entries of a window is what its rows say.
use Rattle.std.proofs.Common.{◌≡◌, ℕ, ◌*◌, ◌/◌, ◌≤◌, ◌==◌, ◌⊎◌, Bool, true, false, cond, ◌&&◌, ◌||◌, nat_lt, ℤ, List, [], ◌∷◌, ◌++◌, map, filter, Option, Some, None, refl, sym, ap, subst, ◌∙◌, inl, inr, arith, eqb-true, eq-eqb}
use Rattle.std.proofs.lemmas.Bool.{and_parts, and_from}
use Rattle.std.proofs.lemmas.Map.Views.{any-filter_same}
use Rattle.std.proofs.lemmas.List.Folds.{list_any-append}
use Rattle.std.proofs.Math.Nat.{mul-div_cancel_left}
use Rattle.std.specs.List.{list_any, flat_map}
use Rattle.ss_elem.specs.declared.element.Event.{Event}
use Rattle.ss_meaning.specs.Window.{Window, belongs, ends_of, rising, window_keys}
use Rattle.ss_meaning.specs.Entries.{WindowEntry, window_entry, ends_above, window_entries}
use Rattle.ss_meaning.specs.EntryLists.{is_of}
use Rattle.ss_meaning.proofs.Ends.{In, from_rising, in_rising, from_ends_of, in_ends_of}
use Rattle.ss_meaning.proofs.EntryFinds.{told, found}
use Rattle.ss_meaning.proofs.EntryPuts.{among}
use Rattle.ss_meaning.proofs.EntryEnds.{entries_at}

-- tests, and tests on lists

false_true : false ≡ true → ⊥
false_true e = cc

or_true : (b : Bool) → (b || true) ≡ true
or_true true = refl
or_true false = refl

three : (a b c d : Bool) → (d ≡ true → c ≡ true) → ((a && (b && c)) && d) ≡ ((a && b) && d)
three true true c true f = ap (λ b. b && true) (f refl)
three true true true false f = refl
three true true false false f = refl
three true false c d f = refl
three false b c d f = refl

has_first : (p q : Event → Bool) (rows : List Event) → list_any (λ row. p row && q row) rows ≡ true → list_any p rows ≡ true
has_first p q [] h = absurd (false_true h)
has_first p q (row ∷ rows) h = by_test (p row) h (has_first p q rows)
  where
    by_test : (b : Bool) → ((b && q row) || list_any (λ row. p row && q row) rows) ≡ true
        → (list_any (λ row. p row && q row) rows ≡ true → list_any p rows ≡ true) → (b || list_any p rows) ≡ true
    by_test true k rest = refl
    by_test false k rest = rest k

pub same_tests : (a b : Bool) → (a ≡ true → b ≡ true) → (b ≡ true → a ≡ true) → a ≡ b
same_tests true b f g = sym (f refl)
same_tests false true f g = g refl
same_tests false false f g = refl

from_among : (n : ℕ) (ns : List ℕ) → among n ns ≡ true → In ns n
from_among n [] h = absurd (false_true h)
from_among n (m ∷ ms) h = by_test (m == n) refl h (from_among n ms)
  where
    by_test : (b : Bool) → (m == n) ≡ b → (b || among n ms) ≡ true → (among n ms ≡ true → In ms n) → (m ≡ n) ⊎ In ms n
    by_test true e k rest = inl (eqb-true m n e)
    by_test false e k rest = inr (rest k)

among_from : (n : ℕ) (ns : List ℕ) → In ns n → among n ns ≡ true
among_from n [] h = absurd h
among_from n (m ∷ ms) (inl e) = ap (λ b. b || among n ms) (eq-eqb m n e)
among_from n (m ∷ ms) (inr h) = ap (λ b. m == n || b) (among_from n ms h) ∙ or_true (m == n)

pub among-rising : (n : ℕ) (ns : List ℕ) → among n (rising ns) ≡ among n ns
among-rising n ns =
    same_tests (among n (rising ns)) (among n ns) (λ h. among_from n ns (from_rising ns n (from_among n (rising ns) h)))
    (λ h. among_from n (rising ns) (in_rising ns n (from_among n ns h)))

pub among-filter : (test : ℕ → Bool) (n : ℕ) (ns : List ℕ) → among n (filter test ns) ≡ (test n && among n ns)
among-filter test n ns = any-filter_same (λ m. m == n) test (test n) (λ m e. ap test (eqb-true m n e)) ns

among-map : (f : Event → ℕ) (n : ℕ) (rows : List Event) → among n (map f rows) ≡ list_any (λ row. f row == n) rows
among-map f n [] = refl
among-map f n (row ∷ rows) = ap (λ b. f row == n || b) (among-map f n rows)

among-flat_map : (f : Event → List ℕ) (n : ℕ) (rows : List Event) → among n (flat_map f rows) ≡ list_any (λ row. among n (f row)) rows
among-flat_map f n [] = refl
among-flat_map f n (row ∷ rows) =
    list_any-append (λ m. m == n) (f row) (flat_map f rows) ∙ ap (λ b. among n (f row) || b) (among-flat_map f n rows)

any_alike : (p q : Event → Bool) (rows : List Event) → ((row : Event) → p row ≡ q row) → list_any p rows ≡ list_any q rows
any_alike p q [] same = refl
any_alike p q (row ∷ rows) same = ap (λ b. b || list_any p rows) (same row) ∙ ap (λ b. q row || b) (any_alike p q rows same)

any-filter : (p q : Event → Bool) (rows : List Event) → list_any p (filter q rows) ≡ list_any (λ row. q row && p row) rows
any-filter p q [] = refl
any-filter p q (row ∷ rows) = by_test (q row) (any-filter p q rows)
  where
    by_test : (b : Bool) → list_any p (filter q rows) ≡ list_any (λ row. q row && p row) rows
        → list_any p (cond b (row ∷ filter q rows) (filter q rows)) ≡ ((b && p row) || list_any (λ row. q row && p row) rows)
    by_test true rest = ap (λ b. p row || b) rest
    by_test false rest = rest

any-and : (b : Bool) (p : Event → Bool) (rows : List Event) → list_any (λ row. b && p row) rows ≡ (b && list_any p rows)
any-and true p rows = any_alike (λ row. true && p row) p rows (λ row. refl)
any-and false p [] = refl
any-and false p (row ∷ rows) = any-and false p rows

-- the ends of a row

abbrev pub is_multiple : ℕ → ℕ → Bool
is_multiple hop w = hop * (w / hop) == w

pub among-ends_of : (window : Window) (row : Event) (w : ℕ) → 1 ≤ window.hop → among w (ends_of window row) ≡ (is_multiple window.hop w && belongs window w row)
among-ends_of window row w h = same_tests (among w (ends_of window row)) (is_multiple window.hop w && belongs window w row) there back
  where
    there : among w (ends_of window row) ≡ true → (is_multiple window.hop w && belongs window w row) ≡ true
    there k =
        let parts = from_ends_of window row w h (from_among w (ends_of window row) k) in
        let n = parts.0.0 in
        let quotient : w / window.hop ≡ n = ap (λ m. m / window.hop) parts.0.1 ∙ mul-div_cancel_left n {n = window.hop} (omega (arith, h)) in
        and_from (is_multiple window.hop w) (belongs window w row)
        (eq-eqb (window.hop * (w / window.hop)) w (ap (λ m. window.hop * m) quotient ∙ sym parts.0.1)) parts.1

    back : (is_multiple window.hop w && belongs window w row) ≡ true → among w (ends_of window row) ≡ true
    back k =
        let parts = and_parts (is_multiple window.hop w) (belongs window w row) k in
        let same = eqb-true (window.hop * (w / window.hop)) w parts.0 in
        among_from w (ends_of window row)
        (subst (In (ends_of window row)) same (in_ends_of window row (w / window.hop) h (subst (λ m. belongs window m row ≡ true) (sym same) parts.1)))

-- which rows an entry counts

abbrev pub has_row : Window → List Event → ℕ → ℕ → Bool
has_row window seen w key = list_any (λ row. belongs window w row && row.key == key) seen

among-ends : (window : Window) (seen : List Event) (bound w : ℕ) → 1 ≤ window.hop
    → among w (ends_above window seen bound) ≡ (nat_lt bound w && (is_multiple window.hop w && list_any (belongs window w) seen))
among-ends window seen bound w h =
    among-rising w (filter (nat_lt bound) (flat_map (ends_of window) seen))
    ∙ (among-filter (nat_lt bound) w (flat_map (ends_of window) seen)
    ∙ ap (λ b. nat_lt bound w && b) (among-flat_map (ends_of window) w seen
    ∙ (any_alike (λ row. among w (ends_of window row)) (λ row. is_multiple window.hop w && belongs window w row) seen (λ row. among-ends_of window row w h)
    ∙ any-and (is_multiple window.hop w) (belongs window w) seen)))

among-keys : (window : Window) (seen : List Event) (w key : ℕ) → among key (window_keys window seen w) ≡ has_row window seen w key
among-keys window seen w key =
    among-rising key (map (λ row. row.key) (filter (belongs window w) seen))
    ∙ (among-map (λ row. row.key) key (filter (belongs window w) seen) ∙ any-filter (λ row. row.key == key) (belongs window w) seen)

some_belongs : (window : Window) (seen : List Event) (w key : ℕ) → has_row window seen w key ≡ true → list_any (belongs window w) seen ≡ true
some_belongs window seen w key h = has_first (λ row. belongs window w row) (λ row. row.key == key) seen h

-- what is found

or_else : Option (ℤ × ℕ) → Option (ℤ × ℕ) → Option (ℤ × ℕ)
or_else None o = o
or_else (Some h) o = Some h

found-append : (w key : ℕ) (es fs : List WindowEntry) → found w key (es ++ fs) ≡ or_else (found w key es) (found w key fs)
unfolding or_else
found-append w key [] fs = refl
found-append w key (e ∷ es) fs = by_test (is_of w key e) (found-append w key es fs)
  where
    by_test : (b : Bool) → found w key (es ++ fs) ≡ or_else (found w key es) (found w key fs)
        → cond b (Some (told e)) (found w key (es ++ fs)) ≡ or_else (cond b (Some (told e)) (found w key es)) (found w key fs)
    by_test true rest = refl
    by_test false rest = rest

found-one_end : (at of : ℕ) (window : Window) (seen : List Event) (w : ℕ) (keys : List ℕ)
    → found at of (map (window_entry window seen w) keys) ≡ cond (w == at && among of keys) (Some (told (window_entry window seen w of))) None
found-one_end at of window seen w [] = by_test (w == at)
  where
    by_test : (b : Bool) → None ≡ cond (b && false) (Some (told (window_entry window seen w of))) None
    by_test true = refl
    by_test false = refl
found-one_end at of window seen w (key ∷ keys) = by_tests (w == at) (key == of) refl (found-one_end at of window seen w keys)
  where
    by_tests : (p q : Bool) → (key == of) ≡ q
        → found at of (map (window_entry window seen w) keys) ≡ cond (p && among of keys) (Some (told (window_entry window seen w of))) None
        → cond (p && q) (Some (told (window_entry window seen w key))) (found at of (map (window_entry window seen w) keys))
        ≡ cond (p && (q || among of keys)) (Some (told (window_entry window seen w of))) None
    by_tests true true e rest = ap (λ k. Some (told (window_entry window seen w k))) (eqb-true key of e)
    by_tests true false e rest = rest
    by_tests false q e rest = rest

found-entries_at : (at of : ℕ) (window : Window) (seen : List Event) (ws : List ℕ)
    → found at of (entries_at window seen ws) ≡ cond (among at ws && among of (window_keys window seen at)) (Some (told (window_entry window seen at of))) None
unfolding or_else
found-entries_at at of window seen [] = refl
found-entries_at at of window seen (w ∷ ws) =
    found-append at of (map (window_entry window seen w) (window_keys window seen w)) (entries_at window seen ws)
    ∙ (ap (λ o. or_else o (found at of (entries_at window seen ws))) (found-one_end at of window seen w (window_keys window seen w))
    ∙ by_test (w == at) refl (found-entries_at at of window seen ws))
  where
    by_keys : (a b : Bool) → found at of (entries_at window seen ws) ≡ cond (a && b) (Some (told (window_entry window seen at of))) None
        → or_else (cond b (Some (told (window_entry window seen at of))) None) (found at of (entries_at window seen ws))
        ≡ cond b (Some (told (window_entry window seen at of))) None
    by_keys a true rest = refl
    by_keys true false rest = rest
    by_keys false false rest = rest

    by_test : (b : Bool) → (w == at) ≡ b
        → found at of (entries_at window seen ws) ≡ cond (among at ws && among of (window_keys window seen at)) (Some (told (window_entry window seen at of))) None
        → or_else (cond (b && among of (window_keys window seen w)) (Some (told (window_entry window seen w of))) None) (found at of (entries_at window seen ws))
        ≡ cond ((b || among at ws) && among of (window_keys window seen at)) (Some (told (window_entry window seen at of))) None
    by_test true e rest =
        ap (λ v. or_else (cond (among of (window_keys window seen v)) (Some (told (window_entry window seen v of))) None) (found at of (entries_at window seen ws)))
        (eqb-true w at e) ∙ by_keys (among at ws) (among of (window_keys window seen at)) rest
    by_test false e rest = rest

-- what the rows say of an end and a key
abbrev pub said : Window → List Event → ℕ → ℕ → ℕ → Option (ℤ × ℕ)
said window seen bound w key =
    cond ((nat_lt bound w && is_multiple window.hop w) && has_row window seen w key) (Some (told (window_entry window seen w key))) None

pub found-entries : (window : Window) (seen : List Event) (bound w key : ℕ) → 1 ≤ window.hop
    → found w key (window_entries window seen bound) ≡ said window seen bound w key
found-entries window seen bound w key h =
    found-entries_at w key window seen (ends_above window seen bound)
    ∙ ap (λ b. cond b (Some (told (window_entry window seen w key))) None)
    (ap (λ b. b && among key (window_keys window seen w)) (among-ends window seen bound w h)
    ∙ (ap (λ b. (nat_lt bound w && (is_multiple window.hop w && list_any (belongs window w) seen)) && b) (among-keys window seen w key)
    ∙ three (nat_lt bound w) (is_multiple window.hop w) (list_any (belongs window w) seen) (has_row window seen w key) (some_belongs window seen w key)))
