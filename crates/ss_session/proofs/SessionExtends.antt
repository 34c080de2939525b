-- A session is joined in place.
use Rattle.std.proofs.Common.{◌≡◌, ℕ, zero, suc, ◌+◌, ◌<◌, ℤ, List, [], ◌∷◌, ◌++◌, length, get_or, set, take, drop, refl, ap, ◌∙◌, arith}
use Rattle.ss_meaning.specs.Session.{SessionEntry}
use Rattle.ss_meaning.specs.SessionLists.{joined_sessions, joined_first}
use Rattle.ss_session.specs.SessionHeld.{extended}

set_front : (es fs : List SessionEntry) (at : ℕ) (x : SessionEntry) → at < length es → set (take (suc at) es ++ fs) at x ≡ take at es ++ x ∷ fs
set_front [] fs at x h = absurd (omega (arith, h))
set_front (e ∷ es) fs zero x h = refl
set_front (e ∷ es) fs (suc at) x h = ap (λ (l : List SessionEntry). e ∷ l) (set_front es fs at x (omega (arith, h)))

one_more : (n : ℕ) → n + 1 ≡ suc n
one_more n = omega arith

pub extended_is : (gap : ℕ) (join : ℤ → ℤ → ℤ) (s : SessionEntry) (at : ℕ) (es : List SessionEntry) (first w : SessionEntry) (items : List SessionEntry) → at < length es
    → first ≡ joined_sessions join (get_or es at s) s → w ≡ (joined_first gap join first (drop (at + 1) es)).0
    → items ≡ take (at + 1) es ++ (joined_first gap join first (drop (at + 1) es)).1 → set items at w ≡ extended gap join s at es
extended_is gap join s at es first w items h same is left =
    let rest = (joined_first gap join first (drop (at + 1) es)).1 in
    ap (λ (l : List SessionEntry). set l at w) (left ∙ ap (λ n. take n es ++ rest) (one_more at))
    ∙ (set_front es rest at w h
    ∙ (ap (λ (x : SessionEntry). take at es ++ x ∷ rest) is
    ∙ ap (λ (f : SessionEntry). take at es ++ (joined_first gap join f (drop (at + 1) es)).0 ∷ (joined_first gap join f (drop (at + 1) es)).1) same))
