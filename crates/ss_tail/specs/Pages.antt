-- Elements in pages of 64 numbers each.
use Rattle.std.specs.Prelude.{◌≡◌, ℕ, ◌+◌, ◌-◌, ◌/◌, ◌%◌, ◌≤◌, ◌<◌, nat_lt, List, [], ◌∷◌, ◌++◌, length, drop}
use Rattle.std.specs.Prelude.{if◌then◌else◌}
use Rattle.ss_elem.specs.declared.element.Element.{Element}

-- elements, of which the first has the number `from`
pub record Numbered : Type 0 where
  pub from : ℕ
  pub items : List Element

-- how many pages the numbers from `from` up to and without `end` lie in
abbrev pub page_count : ℕ → ℕ → ℕ
page_count from end = if nat_lt from end then (end - 1) / 64 - from / 64 + 1 else 0

-- the elements of all pages, one page after the other
abbrev pub joined : List (List Element) → List Element
joined [] = []
joined (page ∷ pages) = page ++ joined pages

-- each page but the last has 64 elements, and the last has at least one and no more than that
abbrev pub AreFull : List (List Element) → Type 0
AreFull [] = Unit {0}
AreFull (page ∷ []) = (0 < length page) × (length page ≤ 64)
AreFull (page ∷ next ∷ pages) = (length page ≡ 64) × AreFull (next ∷ pages)

-- what the first page has below number `from` counts for nothing
abbrev pub numbered : ℕ → List (List Element) → Numbered
numbered from pages = record { from = from; items = drop (from % 64) (joined pages) }

-- these are the pages of the numbers from `from` up to and without `end`
pub record ArePages (from end : ℕ) (pages : List (List Element)) : Type 0 where
  pub order : from ≤ end
  pub count : length pages ≡ page_count from end
  pub full : AreFull pages
  pub long : from < end → length (joined pages) ≡ from % 64 + (end - from)

-- pages with an element more in the last one
abbrev pub with_more : List (List Element) → Element → List (List Element)
with_more [] x = []
with_more (page ∷ []) x = (page ++ x ∷ []) ∷ []
with_more (page ∷ next ∷ pages) x = page ∷ with_more (next ∷ pages) x

-- pages with one more behind them, which ends with this element at this place
abbrev pub AddsPage : List (List Element) → ℕ → Element → List (List Element) → Type 0
AddsPage old place x new =
    (page : List Element) × (length page ≡ place + 1) × (drop place page ≡ x ∷ []) × (new ≡ old ++ page ∷ [])
