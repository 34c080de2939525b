use Rattle.std.proofs.Common.{◌≡◌, ℕ, ◌+◌, ◌-◌, ◌/◌, ◌%◌, ◌<◌, ◌≤◌, List, [], length, get_or, drop, ap, subst, sym, ◌∙◌, arith}
use Rattle.std.specs.Prelude.{slice_get}
use Rattle.ss_elem.specs.declared.element.Element.{Element}
use Rattle.ss_tail.specs.Pages.{Numbered, joined}
use Rattle.ss_tail.proofs.Paged.{IsPlace, get_behind, item_is, long_is, place_of}
use Rattle.ss_tail.proofs.pages.Pages.get.Goals as goal

pub bounds-page-n : goal.bounds-page-n
bounds-page-n c =
    let s = c.self.inside in
    let n = c.args.n in
    let from : s.from ≡ c.args.self.now.from = ap (λ (t : Numbered). t.from) c.self.view_is in
    let items : length (drop (s.from % 64) (joined s.pages.items)) ≡ length c.args.self.now.items = ap (λ (t : Numbered). length t.items) c.self.view_is in
    let all = long_is s.from s.end s.pages.items c.self.invariant in
    let above : s.from ≤ n = let r = c.requires.from in omega (arith, r, from) in
    let below : n < s.end = let r = c.requires.within in omega (arith, r, from, items, all) in
    let place : IsPlace s.pages.items (n / 64 - s.from / 64) (n % 64) (s.from % 64 + (n - s.from)) = place_of s.from n s.end s.pages.items c.self.invariant above below in
    subst (λ (xs : List Element). n % 64 < length xs) (sym c.page_at-page.ensures) place.inside

pub returns : goal.returns
returns c =
    let s = c.self.inside in
    let n = c.args.n in
    let x = c.index-page-n.result in
    let from : s.from ≡ c.args.self.now.from = ap (λ (t : Numbered). t.from) c.self.view_is in
    let items : drop (s.from % 64) (joined s.pages.items) ≡ c.args.self.now.items = ap (λ (t : Numbered). t.items) c.self.view_is in
    let all = long_is s.from s.end s.pages.items c.self.invariant in
    let above : s.from ≤ n = let r = c.requires.from in omega (arith, r, from) in
    let below : n < s.end = let r = c.requires.within in omega (arith, r, from, ap (λ (t : List Element). length t) items, all) in
    let place : IsPlace s.pages.items (n / 64 - s.from / 64) (n % 64) (s.from % 64 + (n - s.from)) = place_of s.from n s.end s.pages.items c.self.invariant above below in
    let is : x ≡ get_or (get_or s.pages.items (n / 64 - s.from / 64) []) (n % 64) x = subst (λ (xs : List Element). x ≡ get_or xs (n % 64) x) c.page_at-page.ensures c.index-page-n.is in
    ap (λ (xs : List Element). slice_get xs (n - c.args.self.now.from)) (sym items)
    ∙ ap (λ (f : ℕ). slice_get (drop (s.from % 64) (joined s.pages.items)) (n - f)) (sym from)
    ∙ get_behind (joined s.pages.items) (s.from % 64) (n - s.from)
    ∙ item_is s.pages.items (n / 64 - s.from / 64) (n % 64) (s.from % 64 + (n - s.from)) x place is
