-- What it means that elements may follow each other.
use Rattle.std.proofs.Common.{◌≡◌, ℕ, ◌<◌, ◌≤◌, ◌&&◌, nat_lt, nat_le, List, [], ◌∷◌, ◌++◌, Option, Some, None, refl, ap, ◌∙◌, arith, lt-ltb, le-leb, ltb-true, leb-true}
use Rattle.std.proofs.lemmas.Bool.{and_parts, and_from, cond-true}
use Rattle.std.proofs.lemmas.Option.{cond_some, option_and_then_some}
use Rattle.std.specs.Option.{option_and_then}
use Rattle.ss_elem.specs.Validity.{top, next_bound, bound_from}
use Rattle.ss_elem.specs.declared.element.Element.{Element}
use Rattle.ss_elem.specs.declared.element.Element.TheVariants.{Row, Cti, End}
use Rattle.ss_meaning.specs.Bound.{bound_after, bound_past}

-- the element may follow at this bound
abbrev pub Follows : ℕ → Element → Type 0
Follows b (Row row) = (b < top) × (b ≤ row.start) × (row.start < row.end) × (row.end < top)
Follows b (Cti time) = (b < top) × (b < time) × (time < top)
Follows b End = b < top

pub follows_below : (b : ℕ) (x : Element) → Follows b x → b < top
follows_below b (Row row) h = h.0
follows_below b (Cti time) h = h.0
follows_below b End h = h

pub follows_rises : (b : ℕ) (x : Element) → Follows b x → b ≤ bound_after b x
follows_rises b (Row row) h = omega arith
follows_rises b (Cti time) h = omega arith
follows_rises b End h = omega arith

-- against the bound that is computed

pub follows_from : (b c : ℕ) (x : Element) → next_bound b x ≡ Some c → Follows b x × (bound_after b x ≡ c)
follows_from b c (Row row) h =
    let t = cond_some (nat_lt b top && nat_lt row.end top && nat_lt row.start row.end && nat_le b row.start) b c h in
    let u = and_parts (nat_lt b top && nat_lt row.end top && nat_lt row.start row.end) (nat_le b row.start) t.0 in
    let v = and_parts (nat_lt b top && nat_lt row.end top) (nat_lt row.start row.end) u.0 in
    let w = and_parts (nat_lt b top) (nat_lt row.end top) v.0 in
    ((ltb-true b top w.0, leb-true b row.start u.1, ltb-true row.start row.end v.1, ltb-true row.end top w.1), t.1)
follows_from b c (Cti time) h =
    let t = cond_some (nat_lt b time && nat_lt time top) time c h in
    let u = and_parts (nat_lt b time) (nat_lt time top) t.0 in
    let low = ltb-true b time u.0 in
    let high = ltb-true time top u.1 in
    ((omega arith, low, high), t.1)
follows_from b c End h = let t = cond_some (nat_lt b top) top c h in (ltb-true b top t.0, t.1)

pub next_bound_is : (b : ℕ) (x : Element) → Follows b x → next_bound b x ≡ Some (bound_after b x)
next_bound_is b (Row row) h =
    cond-true (nat_lt b top && nat_lt row.end top && nat_lt row.start row.end && nat_le b row.start) (Some b) None
    (and_from (nat_lt b top && nat_lt row.end top && nat_lt row.start row.end) (nat_le b row.start)
    (and_from (nat_lt b top && nat_lt row.end top) (nat_lt row.start row.end)
    (and_from (nat_lt b top) (nat_lt row.end top) (lt-ltb b top h.0) (lt-ltb row.end top h.3)) (lt-ltb row.start row.end h.2))
    (le-leb b row.start h.1))
next_bound_is b (Cti time) h =
    cond-true (nat_lt b time && nat_lt time top) (Some time) None (and_from (nat_lt b time) (nat_lt time top) (lt-ltb b time h.1) (lt-ltb time top h.2))
next_bound_is b End h = cond-true (nat_lt b top) (Some top) None (lt-ltb b top h)

-- whole lists

pub bound_from-first : (b c : ℕ) (x : Element) (xs : List Element) → bound_from b (x ∷ xs) ≡ Some c → Follows b x × (bound_from (bound_after b x) xs ≡ Some c)
bound_from-first b c x xs h =
    option_and_then_some (λ after. bound_from after xs) (next_bound b x) c h (λ after e rest.
    let f = follows_from b after x e in
    (f.0, ap (λ n. bound_from n xs) f.1 ∙ rest))

pub bound_from-cons : (b : ℕ) (x : Element) (xs : List Element) → Follows b x → bound_from b (x ∷ xs) ≡ bound_from (bound_after b x) xs
bound_from-cons b x xs h = ap (λ (o : Option ℕ). option_and_then (λ after. bound_from after xs) o) (next_bound_is b x h)

pub bound_past_is : (b c : ℕ) (xs : List Element) → bound_from b xs ≡ Some c → bound_past b xs ≡ c
bound_past_is b c [] h = grind arith
bound_past_is b c (x ∷ xs) h = bound_past_is (bound_after b x) c xs (bound_from-first b c x xs h).1

pub bound_from-split : (b c : ℕ) (xs ys : List Element) → bound_from b (xs ++ ys) ≡ Some c → (bound_from b xs ≡ Some (bound_past b xs)) × (bound_from (bound_past b xs) ys ≡ Some c)
bound_from-split b c [] ys h = (refl, h)
bound_from-split b c (x ∷ xs) ys h =
    let first = bound_from-first b c x (xs ++ ys) h in
    let rest = bound_from-split (bound_after b x) c xs ys first.1 in
    (bound_from-cons b x xs first.0 ∙ rest.0, rest.1)

pub bound_from-append : (b m : ℕ) (xs ys : List Element) → bound_from b xs ≡ Some m → bound_from b (xs ++ ys) ≡ bound_from m ys
bound_from-append b m [] ys h = let e : b ≡ m = grind arith in ap (λ n. bound_from n ys) e
bound_from-append b m (x ∷ xs) ys h =
    let first = bound_from-first b m x xs h in
    bound_from-cons b x (xs ++ ys) first.0 ∙ bound_from-append (bound_after b x) m xs ys first.1

pub bound_past-append : (b : ℕ) (xs ys : List Element) → bound_past b (xs ++ ys) ≡ bound_past (bound_past b xs) ys
bound_past-append b [] ys = refl
bound_past-append b (x ∷ xs) ys = bound_past-append (bound_after b x) xs ys

-- the bound never falls along a list of which each element may follow
pub bound_rises : (b c : ℕ) (xs : List Element) → bound_from b xs ≡ Some c → b ≤ c
bound_rises b c [] h = let e : b ≡ c = grind arith in omega arith
bound_rises b c (x ∷ xs) h =
    let first = bound_from-first b c x xs h in
    let rest = bound_rises (bound_after b x) c xs first.1 in
    let here = follows_rises b x first.0 in
    omega arith

-- of a whole list and the elements before one of its elements: that one follows, at their bound
pub follows_in : (before after : List Element) (x : Element) → bound_from 0 (before ++ x ∷ after) ≡ Some top → Follows (bound_past 0 before) x
follows_in before after x h = (bound_from-first (bound_past 0 before) top x after (bound_from-split 0 top before (x ∷ after) h).1).0
