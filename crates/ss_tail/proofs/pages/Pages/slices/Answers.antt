use Rattle.std.proofs.Common.{◌≡◌, ℕ, ◌+◌, ◌-◌, ◌/◌, ◌%◌, ◌≤◌, ◌++◌, List, [], length, get_or, drop, take, sym, ap, ap₂, ◌∙◌, arith}
use Rattle.std.proofs.lemmas.List.{drop-drop}
use Rattle.ss_elem.specs.declared.element.Element.{Element}
use Rattle.ss_tail.specs.Pages.{Numbered, joined}
use Rattle.ss_tail.proofs.Paged.{IsPlace, place_of, slices_are}
use Rattle.ss_tail.proofs.pages.Pages.slices.Goals as goal

pub part-first-requires : goal.part-first-requires
part-first-requires c =
    let s = c.self.inside in
    let n = c.args.n in
    let from : s.from ≡ c.args.self.now.from = ap (λ (t : Numbered). t.from) c.self.view_is in
    let above : s.from ≤ n = let r = c.requires.from in omega (arith, r, from) in
    let place : IsPlace s.pages.items (n / 64 - s.from / 64) (n % 64) (s.from % 64 + (n - s.from)) = place_of s.from n s.end s.pages.items c.self.invariant above c.if-n-self.false in
    let inside = place.inside in
    let is : length c.page_at.result.now ≡ length (get_or s.pages.items (n / 64 - s.from / 64) []) = ap length c.page_at.ensures in
    omega (arith, inside, is)

pub returns : goal.returns
returns c =
    let s = c.self.inside in
    let n = c.args.n in
    let most = c.args.most in
    let from : s.from ≡ c.args.self.now.from = ap (λ (t : Numbered). t.from) c.self.view_is in
    let items : drop (s.from % 64) (joined s.pages.items) ≡ c.args.self.now.items = ap (λ (t : Numbered). t.items) c.self.view_is in
    let above : s.from ≤ n = let r = c.requires.from in omega (arith, r, from) in
    let q : ℕ = n / 64 - s.from / 64 in
    let place : IsPlace s.pages.items q (n % 64) (s.from % 64 + (n - s.from)) = place_of s.from n s.end s.pages.items c.self.invariant above c.if-n-self.false in
    let first : c.part-first.result.now ≡ take most (drop (n % 64) (get_or s.pages.items q [])) =
    c.part-first.ensures ∙ ap (λ (xs : List Element). take most (drop (n % 64) xs)) c.page_at.ensures in
    let rest : c.part-rest.result.now ≡ take (most - length (take most (drop (n % 64) (get_or s.pages.items q [])))) (get_or s.pages.items (q + 1) []) =
    c.part-rest.ensures ∙ ap₂ (λ (xs ys : List Element). take (most - length xs) ys) first c.page_at-2.ensures in
    let behind : drop (s.from % 64 + (n - s.from)) (joined s.pages.items) ≡ drop (n - c.args.self.now.from) c.args.self.now.items =
    sym (drop-drop (n - s.from) (s.from % 64) (joined s.pages.items)) ∙ ap₂ (λ (f : ℕ) (xs : List Element). drop (n - f) xs) from items in
    ap₂ (λ (xs ys : List Element). xs ++ ys) first rest
    ∙ slices_are s.pages.items q (n % 64) (s.from % 64 + (n - s.from)) most place c.requires.most
    ∙ ap (take most) behind
