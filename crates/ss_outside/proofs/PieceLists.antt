-- Strings that stand one behind another: what one more adds, where each stands, and what is left without the first.
use Rattle.std.proofs.Common.{◌≡◌, ℕ, zero, suc, ◌+◌, ◌-◌, ◌<◌, ◌≤◌, true, List, [], ◌∷◌, ◌++◌, length, take, drop}
use Rattle.std.proofs.Common.{Some, refl, ap, ◌∙◌, arith}
use Rattle.std.specs.Prelude.{map, slice_get, slice_index}
use Rattle.std.specs.List.{slice_range}
use Rattle.std.proofs.lemmas.Bool.{and_from, and_parts, eq-eqb, eqb-true, le-leb, leb-true}
use Rattle.std.proofs.lemmas.List.{drop-append-le, drop-drop, length-drop, take-append-le}
use Rattle.std.proofs.Math.Seq.{drop-append_seam, take-length}
use Rattle.ss_outside.specs.Pieces.{are_ends, pieces, start_at}

-- the start isn't behind the end of all
pub start-le : (ends : List ℕ) (start len : ℕ) → are_ends start ends len ≡ true → start ≤ len
start-le [] start len e = let same : start ≡ len = eqb-true start len e in omega arith
start-le (end ∷ ends) start len e =
    let first : start ≤ end = leb-true start end (and_parts _ _ e).0 in
    let rest : end ≤ len = start-le ends end len (and_parts _ _ e).1 in
    omega arith

pub length-pieces : (bytes ends : List ℕ) (start : ℕ) → length (pieces bytes start ends) ≡ length ends
length-pieces bytes [] start = refl
length-pieces bytes (end ∷ ends) start = ap (λ (n : ℕ). suc n) (length-pieces bytes ends end)

-- ---- one more string

range-before : (bytes more : List ℕ) (start end : ℕ) → start ≤ end → end ≤ length bytes
    → slice_range (bytes ++ more) start end ≡ slice_range bytes start end
range-before bytes more start end first within =
    let fits : end - start ≤ length (drop start bytes) = omega (arith, first, within, length-drop start bytes) in
    ap (take (end - start)) (drop-append-le start bytes more (omega (arith, first, within)))
    ∙ take-append-le (end - start) (drop start bytes) more fits

range-behind : (bytes more : List ℕ) → slice_range (bytes ++ more) (length bytes) (length bytes + length more) ≡ more
range-behind bytes more =
    ap (λ (n : ℕ). take n (drop (length bytes) (bytes ++ more))) {x = length bytes + length more - length bytes} {y = length more} (omega arith)
    ∙ ap (take (length more)) (drop-append_seam bytes more) ∙ take-length more

pub pieces-push : (bytes more ends : List ℕ) (start : ℕ) → are_ends start ends (length bytes) ≡ true
    → pieces (bytes ++ more) start (ends ++ (length bytes + length more) ∷ []) ≡ pieces bytes start ends ++ more ∷ []
pieces-push bytes more [] start e =
    let same : start ≡ length bytes = eqb-true start (length bytes) e in
    ap (λ (n : ℕ). slice_range (bytes ++ more) n (length bytes + length more) ∷ []) same
    ∙ ap (λ (x : List ℕ). x ∷ []) (range-behind bytes more)
pieces-push bytes more (end ∷ ends) start e =
    let first : start ≤ end = leb-true start end (and_parts _ _ e).0 in
    let rest = (and_parts _ _ e).1 in
    ap (λ (x : List ℕ). x ∷ pieces (bytes ++ more) end (ends ++ (length bytes + length more) ∷ []))
    (range-before bytes more start end first (start-le ends end (length bytes) rest))
    ∙ ap (λ (xs : List (List ℕ)). slice_range bytes start end ∷ xs) (pieces-push bytes more ends end rest)

pub are_ends-push : (ends : List ℕ) (start len more : ℕ) → are_ends start ends len ≡ true
    → are_ends start (ends ++ (len + more) ∷ []) (len + more) ≡ true
are_ends-push [] start len more e =
    let same : start ≡ len = eqb-true start len e in
    and_from _ _ (le-leb start (len + more) (omega arith)) (eq-eqb (len + more) (len + more) refl)
are_ends-push (end ∷ ends) start len more e =
    and_from _ _ (and_parts _ _ e).0 (are_ends-push ends end len more (and_parts _ _ e).1)

-- ---- the string at a place

pub piece-at : (bytes ends : List ℕ) (start place : ℕ) → place < length ends
    → slice_get (pieces bytes start ends) place ≡ Some (slice_range bytes (start_at start ends place) (slice_index ends place))
piece-at bytes [] start place lt = absurd (omega (arith, lt))
piece-at bytes (end ∷ ends) start zero lt = refl
piece-at bytes (end ∷ ends) start (suc zero) lt = piece-at bytes ends end zero (omega (arith, lt))
piece-at bytes (end ∷ ends) start (suc (suc place)) lt = piece-at bytes ends end (suc place) (omega (arith, lt))

-- a string begins no later than it ends, and ends within the bytes
pub place-within : (ends : List ℕ) (start len place : ℕ) → are_ends start ends len ≡ true → place < length ends
    → (start_at start ends place ≤ slice_index ends place) × (slice_index ends place ≤ len)
place-within [] start len place e lt = absurd (omega (arith, lt))
place-within (end ∷ ends) start len zero e lt =
    (leb-true start end (and_parts _ _ e).0, start-le ends end len (and_parts _ _ e).1)
place-within (end ∷ ends) start len (suc zero) e lt =
    place-within ends end len zero (and_parts _ _ e).1 (omega (arith, lt))
place-within (end ∷ ends) start len (suc (suc place)) e lt =
    place-within ends end len (suc place) (and_parts _ _ e).1 (omega (arith, lt))

-- ---- without the first strings

pub pieces-drop : (bytes ends : List ℕ) (start count : ℕ) → count ≤ length ends
    → pieces bytes (start_at start ends count) (drop count ends) ≡ drop count (pieces bytes start ends)
pieces-drop bytes ends start zero le = refl
pieces-drop bytes [] start (suc count) le = absurd (omega (arith, le))
pieces-drop bytes (end ∷ ends) start (suc zero) le = refl
pieces-drop bytes (end ∷ ends) start (suc (suc count)) le = pieces-drop bytes ends end (suc count) (omega (arith, le))

pub are_ends-drop : (ends : List ℕ) (start len count : ℕ) → are_ends start ends len ≡ true → count ≤ length ends
    → are_ends (start_at start ends count) (drop count ends) len ≡ true
are_ends-drop ends start len zero e le = e
are_ends-drop [] start len (suc count) e le = absurd (omega (arith, le))
are_ends-drop (end ∷ ends) start len (suc zero) e le = (and_parts _ _ e).1
are_ends-drop (end ∷ ends) start len (suc (suc count)) e le =
    are_ends-drop ends end len (suc count) (and_parts _ _ e).1 (omega (arith, le))

range-lower : (bytes : List ℕ) (by start end : ℕ) → by ≤ start → start ≤ end
    → slice_range (drop by bytes) (start - by) (end - by) ≡ slice_range bytes start end
range-lower bytes by start end le first =
    ap (λ (n : ℕ). take n (drop (start - by) (drop by bytes))) {x = end - by - (start - by)} {y = end - start} (omega (arith, le, first))
    ∙ ap (take (end - start)) (drop-drop (start - by) by bytes ∙ ap (λ (n : ℕ). drop n bytes) {x = by + (start - by)} {y = start} (omega (arith, le)))

pieces-lower : (bytes ends : List ℕ) (by start len : ℕ) → by ≤ start → are_ends start ends len ≡ true
    → pieces (drop by bytes) (start - by) (map (λ end. end - by) ends) ≡ pieces bytes start ends
pieces-lower bytes [] by start len le e = refl
pieces-lower bytes (end ∷ ends) by start len le e =
    let first : start ≤ end = leb-true start end (and_parts _ _ e).0 in
    ap (λ (x : List ℕ). x ∷ pieces (drop by bytes) (end - by) (map (λ end. end - by) ends)) (range-lower bytes by start end le first)
    ∙ ap (λ (xs : List (List ℕ)). slice_range bytes start end ∷ xs)
    (pieces-lower bytes ends by end len (omega (arith, le, first)) (and_parts _ _ e).1)

are_ends-lower : (ends : List ℕ) (by start len : ℕ) → by ≤ start → are_ends start ends len ≡ true
    → are_ends (start - by) (map (λ end. end - by) ends) (len - by) ≡ true
are_ends-lower [] by start len le e = eq-eqb (start - by) (len - by) (ap (λ (n : ℕ). n - by) (eqb-true start len e))
are_ends-lower (end ∷ ends) by start len le e =
    let first : start ≤ end = leb-true start end (and_parts _ _ e).0 in
    and_from _ _ (le-leb (start - by) (end - by) (omega (arith, first)))
    (are_ends-lower ends by end len (omega (arith, le, first)) (and_parts _ _ e).1)

-- the first strings are taken out, and the ends of the others are lowered by what these took
pub pieces-out : (bytes ends : List ℕ) (count : ℕ) → are_ends 0 ends (length bytes) ≡ true → count ≤ length ends
    → pieces (drop (start_at 0 ends count) bytes) 0 (map (λ end. end - start_at 0 ends count) (drop count ends))
    ≡ drop count (pieces bytes 0 ends)
pieces-out bytes ends count e le =
    let by = start_at 0 ends count in
    ap (λ (n : ℕ). pieces (drop by bytes) n (map (λ end. end - by) (drop count ends))) {x = 0} {y = by - by} (omega arith)
    ∙ pieces-lower bytes (drop count ends) by by (length bytes) (omega arith) (are_ends-drop ends 0 (length bytes) count e le)
    ∙ pieces-drop bytes ends 0 count le

pub are_ends-out : (bytes ends : List ℕ) (count : ℕ) → are_ends 0 ends (length bytes) ≡ true → count ≤ length ends
    → are_ends 0 (map (λ end. end - start_at 0 ends count) (drop count ends)) (length (drop (start_at 0 ends count) bytes)) ≡ true
are_ends-out bytes ends count e le =
    let by = start_at 0 ends count in
    ap (λ (n : ℕ). are_ends 0 (map (λ end. end - by) (drop count ends)) n) (length-drop by bytes)
    ∙ ap (λ (n : ℕ). are_ends n (map (λ end. end - by) (drop count ends)) (length bytes - by)) {x = 0} {y = by - by} (omega arith)
    ∙ are_ends-lower (drop count ends) by by (length bytes) (omega arith) (are_ends-drop ends 0 (length bytes) count e le)
