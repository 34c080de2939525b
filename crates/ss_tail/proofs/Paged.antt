-- Elements in pages of 64 numbers each: what a place among all is in a page.
use Rattle.std.proofs.Common.{◌≡◌, ℕ, zero, suc, ◌+◌, ◌-◌, ◌*◌, ◌/◌, ◌%◌, ◌<◌, ◌≤◌, List, [], ◌∷◌, ◌++◌, length, get_or, take, drop, set, Some, None, Bool, true, false, Result, Ok, Err, is_ok, OnOk, if◌then◌else◌, refl, sym, ap, ap₂, subst, ◌∙◌, arith, inl, inr}
use Rattle.std.specs.Prelude.{slice_get}
use Rattle.std.proofs.lemmas.Bool.{cases_lt}
use Rattle.std.proofs.lemmas.Bool.Decides.{nat_tests}
use Rattle.std.proofs.lemmas.List.{append-nil, append_assoc, nil_from_length, set-get_or, drop-append-le, drop-drop, drop_all, drop_at, drop_more, get_or-drop, length-append, length-drop, length-take, take-append-le}
use Rattle.ss_elem.specs.declared.element.Element.{Element}
use Rattle.ss_tail.specs.Pages.{AddsPage, AreFull, ArePages, joined, page_count, with_more}

-- place k of all is place j of page q
pub record IsPlace (pages : List (List Element)) (q j k : ℕ) : Type 0 where
  pub there : q < length pages
  pub inside : j < length (get_or pages q [])
  pub most : length (get_or pages q []) ≤ 64
  pub behind : drop k (joined pages) ≡ drop j (get_or pages q []) ++ joined (drop (suc q) pages)
  pub next : AreFull (drop (suc q) pages)
  pub whole : 0 < length (joined (drop (suc q) pages)) → length (get_or pages q []) ≡ 64

-- what is behind a page of 64
behind_page : (page rest : List Element) (k : ℕ) → length page ≡ 64 → drop (64 + k) (page ++ rest) ≡ drop k rest
behind_page page rest k is = sym (drop-drop k 64 (page ++ rest)) ∙ ap (drop k) (drop_at page rest 64 is)

no_more : (page : List Element) (k : ℕ) → length page ≤ 64 → 64 ≤ k → k < length (page ++ []) → ⊥
no_more page k few past within = omega (arith, length-append page [])

pub place_is : (pages : List (List Element)) (q j k : ℕ) → AreFull pages → j < 64 → k ≡ q * 64 + j → k < length (joined pages) → IsPlace pages q j k
place_is [] q j k full small is within = absurd (omega (arith, within))
place_is (page ∷ []) zero j k full small is within =
    let same : k ≡ j = omega (arith, is) in
    let inside : j < length page = omega (arith, length-append page [], same, within) in
    record {
      there = omega arith;
      inside = inside;
      most = full.1;
      behind = ap (λ (i : ℕ). drop i (page ++ [])) same ∙ drop-append-le j page [] (omega (arith, inside));
      next = tt;
      whole = λ some. absurd (omega (arith, some));
    }
place_is (page ∷ []) (suc q) j k full small is within =
    absurd (no_more page k full.1 (omega (arith, is)) within)
place_is (page ∷ next ∷ pages) zero j k full small is within =
    let same : k ≡ j = omega (arith, is) in
    let long : length page ≡ 64 = full.0 in
    record {
      there = omega arith;
      inside = omega arith;
      most = omega (arith, long);
      behind = ap (λ (i : ℕ). drop i (page ++ joined (next ∷ pages))) same ∙ drop-append-le j page (joined (next ∷ pages)) (omega (arith, long));
      next = full.1;
      whole = λ _. long;
    }
place_is (page ∷ next ∷ pages) (suc q) j k full small is within =
    let long : length page ≡ 64 = full.0 in
    let rest : List Element = joined (next ∷ pages) in
    let behind : k ≡ 64 + (k - 64) = omega (arith, is) in
    let inner : IsPlace (next ∷ pages) q j (k - 64) = place_is (next ∷ pages) q j (k - 64) full.1 small (omega (arith, is)) (omega (arith, length-append page rest, within, long, is)) in
    record {
      there = let there = inner.there in omega (arith, there);
      inside = inner.inside;
      most = inner.most;
      behind = ap (λ (i : ℕ). drop i (page ++ rest)) behind ∙ behind_page page rest (k - 64) long ∙ inner.behind;
      next = inner.next;
      whole = inner.whole;
    }

-- the front of two lists, one after the other
take_both : (xs ys : List Element) (n : ℕ) → take n (xs ++ ys) ≡ take n xs ++ take (n - length xs) ys
take_both [] ys zero = refl
take_both [] ys (suc n) = ap (λ (m : ℕ). take m ys) (let e : suc n ≡ suc n - 0 = omega arith in e)
take_both (x ∷ xs) ys zero = ap (λ (m : ℕ). take m ys) (let e : 0 ≡ 0 - suc (length xs) = omega arith in e)
take_both (x ∷ xs) ys (suc n) =
    ap (λ (zs : List Element). x ∷ zs) (take_both xs ys n ∙ ap (λ (m : ℕ). take n xs ++ take m ys) (let e : n - length xs ≡ suc n - suc (length xs) = omega arith in e))

-- of pages, so few elements are in the first
front_page : (pages : List (List Element)) (n : ℕ) → AreFull pages → n ≤ 64 → take n (joined pages) ≡ take n (get_or pages 0 [])
front_page [] n full few = refl
front_page (page ∷ []) n full few = ap (take n) (append-nil page)
front_page (page ∷ next ∷ pages) n full few =
    let long : length page ≡ 64 = full.0 in take-append-le n page (joined (next ∷ pages)) (omega (arith, long))

-- at most so many elements from place k on are in page q and in the next
pub slices_are : (pages : List (List Element)) (q j k most : ℕ) → IsPlace pages q j k → most ≤ 64
    → take most (drop j (get_or pages q [])) ++ take (most - length (take most (drop j (get_or pages q [])))) (get_or pages (q + 1) [])
    ≡ take most (drop k (joined pages))
slices_are pages q j k most place few =
    let first : List Element = drop j (get_or pages q []) in
    let next : List Element = get_or pages (q + 1) [] in
    let rest : List (List Element) = drop (suc q) pages in
    let left : most - length (take most first) ≡ most - length first = omega (arith, length-take most first) in
    let is_next : get_or rest 0 [] ≡ next = get_or-drop (suc q) pages 0 [] ∙ ap (λ (n : ℕ). get_or pages n []) (let e : suc q + 0 ≡ q + 1 = omega arith in e) in
    let front : take (most - length first) (joined rest) ≡ take (most - length first) next =
    front_page rest (most - length first) place.next (omega (arith, few)) ∙ ap (take (most - length first)) is_next in
    ap (λ (n : ℕ). take most first ++ take n next) left
    ∙ ap (λ (xs : List Element). take most first ++ xs) (sym front)
    ∙ sym (take_both first (joined rest) most) ∙ ap (take most) (sym place.behind)

-- the element at the front of what is behind a place
pub at_front : (xs : List Element) (i : ℕ) (y : Element) (ys : List Element) → drop i xs ≡ y ∷ ys → slice_get xs i ≡ Some y
at_front [] zero y ys is = cc
at_front [] (suc i) y ys is = cc
at_front (x ∷ xs) zero y ys is = cc
at_front (x ∷ xs) (suc i) y ys is = at_front xs i y ys is

-- an element of page q
pub item_is : (pages : List (List Element)) (q j k : ℕ) (x : Element) → IsPlace pages q j k → x ≡ get_or (get_or pages q []) j x
    → slice_get (joined pages) k ≡ Some x
item_is pages q j k x place is =
    let page : List Element = get_or pages q [] in
    let front : drop j page ≡ x ∷ drop (j + 1) page = drop_more page j x place.inside ∙ ap (λ (y : Element). y ∷ drop (j + 1) page) (sym is) in
    at_front (joined pages) k x (drop (j + 1) page ++ joined (drop (suc q) pages))
    (place.behind ∙ ap (λ (ys : List Element). ys ++ joined (drop (suc q) pages)) front)

-- an element of a list whose front is dropped
pub get_behind : (xs : List Element) (d i : ℕ) → slice_get (drop d xs) i ≡ slice_get xs (d + i)
get_behind xs zero i = ap (slice_get xs) (let e : i ≡ 0 + i = omega arith in e)
get_behind [] (suc d) i = refl
get_behind (x ∷ xs) (suc d) i = get_behind xs d i ∙ ap (slice_get (x ∷ xs)) (let e : suc (d + i) ≡ suc d + i = omega arith in e)

-- pages without so many at the front
pub fewer_pages : (pages : List (List Element)) (c k : ℕ) → AreFull pages → k ≡ c * 64 → k < length (joined pages)
    → AreFull (drop c pages) × (joined (drop c pages) ≡ drop k (joined pages))
fewer_pages [] c k full is within = absurd (omega (arith, within))
fewer_pages (page ∷ pages) zero k full is within =
    (full, ap (λ (n : ℕ). drop n (joined (page ∷ pages))) (let e : 0 ≡ k = omega (arith, is) in e))
fewer_pages (page ∷ []) (suc c) k full is within = absurd (no_more page k full.1 (omega (arith, is)) within)
fewer_pages (page ∷ next ∷ pages) (suc c) k full is within =
    let long : length page ≡ 64 = full.0 in
    let rest : List Element = joined (next ∷ pages) in
    let inner = fewer_pages (next ∷ pages) c (k - 64) full.1 (omega (arith, is)) (omega (arith, length-append page rest, within, long, is)) in
    (inner.0, inner.1 ∙ sym (behind_page page rest (k - 64) long) ∙ ap (λ (i : ℕ). drop i (page ++ rest)) (let e : 64 + (k - 64) ≡ k = omega (arith, is) in e))

-- one page more behind pages of 64
pub more_pages : (pages : List (List Element)) (page : List Element) (c : ℕ) → AreFull pages → length (joined pages) ≡ 64 * c
    → 0 < length page → length page ≤ 64 → AreFull (pages ++ page ∷ [])
more_pages [] page c full is some few = (some, few)
more_pages (first ∷ []) page c full is some few =
    let least = full.0 in let most = full.1 in
    (omega (arith, is, length-append first [], least, most), (some, few))
more_pages (first ∷ next ∷ pages) page c full is some few =
    let long : length first ≡ 64 = full.0 in
    (long, more_pages (next ∷ pages) page (c - 1) full.1 (omega (arith, is, length-append first (joined (next ∷ pages)), long)) some few)

pub joined_more : (pages : List (List Element)) (page : List Element) → joined (pages ++ page ∷ []) ≡ joined pages ++ page
joined_more [] page = append-nil page
joined_more (first ∷ pages) page = ap (λ (xs : List Element). first ++ xs) (joined_more pages page) ∙ sym (append_assoc first (joined pages) page)

-- a last page that has room, with an element more
pub more_on_last : (pages : List (List Element)) (x : Element) (c r : ℕ) → AreFull pages → length (joined pages) ≡ 64 * c + r
    → 0 < r → r < 64 → AreFull (with_more pages x) × (joined (with_more pages x) ≡ joined pages ++ x ∷ []) × (length (with_more pages x) ≡ length pages)
more_on_last [] x c r full is some room = absurd (omega (arith, is, some))
more_on_last (page ∷ []) x c r full is some room =
    let least = full.0 in let most = full.1 in (
      (omega (arith, length-append page (x ∷ [])), omega (arith, length-append page (x ∷ []), length-append page [], is, some, room, least, most)),
      append_assoc page (x ∷ []) [] ∙ sym (ap (λ (xs : List Element). xs ++ x ∷ []) (append-nil page)),
      refl,
    )
more_on_last (page ∷ next ∷ []) x c r full is some room =
    let long : length page ≡ 64 = full.0 in
    let inner = more_on_last (next ∷ []) x (c - 1) r full.1 (omega (arith, is, length-append page (joined (next ∷ [])), long, some, room)) some room in (
      (long, inner.0),
      ap (λ (xs : List Element). page ++ xs) inner.1 ∙ sym (append_assoc page (joined (next ∷ [])) (x ∷ [])),
      refl,
    )
more_on_last (page ∷ next ∷ third ∷ pages) x c r full is some room =
    let long : length page ≡ 64 = full.0 in
    let inner = more_on_last (next ∷ third ∷ pages) x (c - 1) r full.1 (omega (arith, is, length-append page (joined (next ∷ third ∷ pages)), long, some, room)) some room in (
      (long, inner.0),
      ap (λ (xs : List Element). page ++ xs) inner.1 ∙ sym (append_assoc page (joined (next ∷ third ∷ pages)) (x ∷ [])),
      ap suc inner.2,
    )

pub count_some : (from end : ℕ) → from < end → page_count from end ≡ (end - 1) / 64 - from / 64 + 1
count_some from end some = grind (arith, nat_tests)

pub count_none : (from end : ℕ) → end ≤ from → page_count from end ≡ 0
count_none from end none = grind (arith, nat_tests)

pub no_pages : (m end : ℕ) (pages : List (List Element)) → ArePages m end pages → m ≡ end → pages ≡ []
no_pages m end pages are is = nil_from_length pages (are.count ∙ count_none m end (omega (arith, is)))

pub are_none : (m : ℕ) → ArePages m m []
are_none m = record {
  order = omega arith;
  count = sym (count_none m m (omega arith));
  full = tt;
  long = λ less. absurd (omega (arith, less));
}

-- how many elements there are
pub long_is : (from end : ℕ) (pages : List (List Element)) → ArePages from end pages
    → from + length (drop (from % 64) (joined pages)) ≡ end
long_is from end pages are = elim (cases_lt from end) [
  | inl some ↦ let long = are.long some in omega (arith, some, long, length-drop (from % 64) (joined pages))
  | inr none ↦
      let order : from ≤ end = are.order in
      let is : pages ≡ [] = no_pages from end pages are (omega (arith, order, none)) in
      let long : length (joined pages) ≡ 0 = ap (λ (p : List (List Element)). length (joined p)) is in
      omega (arith, order, none, long, length-drop (from % 64) (joined pages))
]

-- the first element, in a page of its own
pub first_added : (from end place : ℕ) (x : Element) (pages new : List (List Element)) → ArePages from end pages → from ≡ end → place ≡ end % 64
    → AddsPage pages place x new
    → ArePages from (end + 1) new × (drop (from % 64) (joined new) ≡ drop (from % 64) (joined pages) ++ x ∷ [])
first_added from end place x pages new are empty is_place adds =
    let page : List Element = adds.0 in
    let long : length page ≡ place + 1 = adds.1 in
    let none : pages ≡ [] = no_pages from end pages are empty in
    let is_new : new ≡ page ∷ [] = adds.3 ∙ ap (λ (p : List (List Element)). p ++ page ∷ []) none in
    let count : 1 ≡ page_count from (end + 1) = sym (count_some from (end + 1) (omega (arith, empty)) ∙ (let e : (end + 1 - 1) / 64 - from / 64 + 1 ≡ 1 = omega (arith, ap (λ (n : ℕ). n / 64) (let f : end + 1 - 1 ≡ from = omega (arith, empty) in f)) in e)) in
    let there : from % 64 ≡ place = ap (λ (n : ℕ). n % 64) empty ∙ sym is_place in
    let least : 0 < length page = omega (arith, long) in
    let most : length page ≤ 64 = omega (arith, long, is_place) in
    let all : length (joined (page ∷ [])) ≡ from % 64 + (end + 1 - from) = omega (arith, length-append page [], long, there, empty) in
    let are_new : ArePages from (end + 1) (page ∷ []) = record {
      order = omega (arith, empty);
      count = count;
      full = (least, most);
      long = λ _. all;
    } in
    let items : drop (from % 64) (page ++ []) ≡ x ∷ [] = ap₂ (λ (n : ℕ) (xs : List Element). drop n xs) there (append-nil page) ∙ adds.2 in
    let none_before : drop (from % 64) (joined pages) ≡ [] = ap (λ (p : List (List Element)). drop (from % 64) (joined p)) none ∙ drop_all (from % 64) [] (omega arith) in (
      subst (λ (p : List (List Element)). ArePages from (end + 1) p) (sym is_new) are_new,
      ap (λ (p : List (List Element)). drop (from % 64) (joined p)) is_new ∙ items ∙ sym (ap (λ (xs : List Element). xs ++ x ∷ []) none_before),
    )

-- an element that begins the next page
pub next_added : (from end : ℕ) (x : Element) (pages new : List (List Element)) → ArePages from end pages → from < end → end % 64 ≡ 0
    → AddsPage pages 0 x new
    → ArePages from (end + 1) new × (drop (from % 64) (joined new) ≡ drop (from % 64) (joined pages) ++ x ∷ [])
next_added from end x pages new are some begins adds =
    let page : List Element = adds.0 in
    let one : page ≡ x ∷ [] = adds.2 in
    let long : length (joined pages) ≡ from % 64 + (end - from) = are.long some in
    let whole : length (joined pages) ≡ 64 * (end / 64 - from / 64) = omega (arith, long, some, begins) in
    let is_new : joined new ≡ joined pages ++ x ∷ [] = ap joined adds.3 ∙ joined_more pages page ∙ ap (λ (xs : List Element). joined pages ++ xs) one in
    let is_long : length page ≡ 1 = ap length one in
    let more : AreFull (pages ++ page ∷ []) = more_pages pages page (end / 64 - from / 64) are.full whole (omega (arith, is_long)) (omega (arith, is_long)) in
    let last : (end - 1) / 64 + 1 ≡ (end + 1 - 1) / 64 = omega (arith, some, begins) in
    let count : length new ≡ page_count from (end + 1) = ap length adds.3 ∙ length-append pages (page ∷ [])
    ∙ (let e : length pages + 1 ≡ (end + 1 - 1) / 64 - from / 64 + 1 = omega (arith, are.count, count_some from end some, some, last) in e)
    ∙ sym (count_some from (end + 1) (omega (arith, some))) in (
      record {
        order = omega (arith, some);
        count = count;
        full = subst AreFull (sym adds.3) more;
        long = λ _. ap length is_new ∙ length-append (joined pages) (x ∷ []) ∙ (let e : length (joined pages) + 1 ≡ from % 64 + (end + 1 - from) = omega (arith, long, some) in e);
      },
      ap (drop (from % 64)) is_new ∙ drop-append-le (from % 64) (joined pages) (x ∷ []) (omega (arith, long)),
    )

-- an element in the last page
pub last_added : (from end : ℕ) (x : Element) (pages : List (List Element)) → ArePages from end pages → from < end → 0 < end % 64
    → ArePages from (end + 1) (with_more pages x) × (drop (from % 64) (joined (with_more pages x)) ≡ drop (from % 64) (joined pages) ++ x ∷ [])
last_added from end x pages are some inside =
    let long : length (joined pages) ≡ from % 64 + (end - from) = are.long some in
    let parts : length (joined pages) ≡ 64 * (end / 64 - from / 64) + end % 64 = omega (arith, long, some) in
    let more = more_on_last pages x (end / 64 - from / 64) (end % 64) are.full parts inside (omega arith) in
    let same : (end - 1) / 64 ≡ (end + 1 - 1) / 64 = omega (arith, some, inside) in (
      record {
        order = omega (arith, some);
        count = more.2 ∙ are.count ∙ count_some from end some
            ∙ ap (λ (n : ℕ). n - from / 64 + 1) same
            ∙ sym (count_some from (end + 1) (omega (arith, some)));
        full = more.0;
        long = λ _. ap length more.1 ∙ length-append (joined pages) (x ∷ []) ∙ (let e : length (joined pages) + 1 ≡ from % 64 + (end + 1 - from) = omega (arith, long, some) in e);
      },
      ap (drop (from % 64)) more.1 ∙ drop-append-le (from % 64) (joined pages) (x ∷ []) (omega (arith, long)),
    )

-- pages without the elements below number m
pub fewer_are : (from m end : ℕ) (pages : List (List Element)) → ArePages from end pages → from ≤ m → m < end
    → ArePages m end (drop (m / 64 - from / 64) pages)
    × (drop (m % 64) (joined (drop (m / 64 - from / 64) pages)) ≡ drop (m - from) (drop (from % 64) (joined pages)))
fewer_are from m end pages are above below =
    let c : ℕ = m / 64 - from / 64 in
    let long : length (joined pages) ≡ from % 64 + (end - from) = are.long (omega (arith, above, below)) in
    let there : from % 64 + (m - from) ≡ c * 64 + m % 64 = omega (arith, above) in
    let fewer = fewer_pages pages c (c * 64) are.full refl (omega (arith, long, there, below, above)) in
    let left : length (joined (drop c pages)) ≡ length (joined pages) - c * 64 = ap length fewer.1 ∙ length-drop (c * 64) (joined pages) in (
      record {
        order = omega (arith, below);
        count = length-drop c pages
            ∙ (let e : length pages - c ≡ (end - 1) / 64 - m / 64 + 1 = omega (arith, are.count, count_some from end (omega (arith, above, below)), above, below) in e)
            ∙ sym (count_some m end below);
        full = fewer.0;
        long = λ _. omega (arith, left, long, there, below, above);
      },
      ap (drop (m % 64)) fewer.1 ∙ drop-drop (m % 64) (c * 64) (joined pages)
          ∙ ap (λ (n : ℕ). drop n (joined pages)) (sym there) ∙ sym (drop-drop (m - from) (from % 64) (joined pages)),
    )

-- where an element is
pub place_of : (from n end : ℕ) (pages : List (List Element)) → ArePages from end pages → from ≤ n → n < end
    → IsPlace pages (n / 64 - from / 64) (n % 64) (from % 64 + (n - from))
place_of from n end pages are above below =
    let long : length (joined pages) ≡ from % 64 + (end - from) = are.long (omega (arith, above, below)) in
    place_is pages (n / 64 - from / 64) (n % 64) (from % 64 + (n - from)) are.full (omega arith) (omega (arith, above)) (omega (arith, long, above, below))

-- in the terms of pages that are dropped whole
pub none_left : (from m end : ℕ) (pages : List (List Element)) → ArePages from end pages → from ≤ m → m ≡ end
    → ArePages m end [] × ([] ≡ drop (m - from) (drop (from % 64) (joined pages)))
none_left from m end pages are above is =
    let all = long_is from end pages are in (
      subst (λ (n : ℕ). ArePages m n []) is (are_none m),
      sym (drop_all (m - from) (drop (from % 64) (joined pages)) (omega (arith, all, is))),
    )

-- what is added to the last page
pub set_more : (pages : List (List Element)) (page : List Element) (x : Element) → 0 < length pages → page ≡ get_or pages (length pages - 1) page
    → set pages (length pages - 1) (page ++ x ∷ []) ≡ with_more pages x
set_more [] page x some is = absurd (omega (arith, some))
set_more (first ∷ []) page x some is = ap (λ (p : List Element). (p ++ x ∷ []) ∷ []) is
set_more (first ∷ next ∷ pages) page x some is =
    let place : length (first ∷ next ∷ pages) - 1 ≡ suc (length (next ∷ pages) - 1) = omega arith in
    ap (λ (n : ℕ). set (first ∷ next ∷ pages) n (page ++ x ∷ [])) place
    ∙ ap (λ (p : List (List Element)). first ∷ p) (set_more (next ∷ pages) page x (omega arith) (is ∙ ap (λ (n : ℕ). get_or (first ∷ next ∷ pages) n page) place))

-- the last page is set to what became of it
pub set_last : (pages : List (List Element)) (n : ℕ) (last new : List Element) (x : Element) (ok : Bool) → length pages ≡ n → 0 < n → last ≡ get_or pages (n - 1) last
    → new ≡ (if ok then last ++ x ∷ [] else last) → set pages (n - 1) new ≡ (if ok then with_more pages x else pages)
set_last pages n last new x true long some is made =
    let place : n - 1 ≡ length pages - 1 = omega (arith, long) in
    ap₂ (λ (i : ℕ) (p : List Element). set pages i p) place made
    ∙ set_more pages last x (omega (arith, long, some)) (is ∙ ap (λ (i : ℕ). get_or pages i last) place)
set_last pages n last new x false long some is made =
    ap (set pages (n - 1)) (made ∙ is) ∙ set-get_or pages (n - 1) last

pub on_ok : {A E P Q : Type 0} → (r : Result A E) → (P → Q) → OnOk r P → OnOk r Q
on_ok (Ok a) to p = to p
on_ok (Err e) to p = tt

pub on_ok_of : {A E : Type 0} → (P : List (List Element) → Type 0) (r : Result A E) (new old more : List (List Element))
    → new ≡ (if is_ok r then more else old) → P more → OnOk r (P new)
on_ok_of P (Ok a) new old more is p = subst P (sym is) p
on_ok_of P (Err e) new old more is p = tt

-- an element of the front of a list
pub get_front : (k : ℕ) (xs : List Element) (i : ℕ) (x : Element) → slice_get (take k xs) i ≡ Some x → slice_get xs i ≡ Some x
get_front zero xs i x is = cc
get_front (suc k) [] i x is = is
get_front (suc k) (y ∷ ys) zero x is = is
get_front (suc k) (y ∷ ys) (suc i) x is = get_front k ys i x is

pub get_past : (xs : List Element) (i : ℕ) → length xs ≤ i → slice_get xs i ≡ None
get_past [] i past = refl
get_past (x ∷ xs) zero past = absurd (omega (arith, past))
get_past (x ∷ xs) (suc i) past = get_past xs i (omega (arith, past))
