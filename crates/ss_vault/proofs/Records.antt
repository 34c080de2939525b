-- Records of the elements of a stream.
use Rattle.std.proofs.Common.{◌≡◌, ℕ, zero, suc, ◌+◌, ◌-◌, ◌<◌, ◌≤◌, List, [], ◌∷◌, ◌++◌, length, get_or, take, drop, refl, sym, ap, ◌∙◌, arith, subst, Some, All}
use Rattle.std.specs.Prelude.{slice_get}
use Rattle.std.proofs.Math.Seq.{take-add}
use Rattle.std.proofs.lemmas.List.{drop-drop, get_or-drop, get_or-take, length-take, length-take-le, length-drop}
use Rattle.std.proofs.lemmas.List.Elements.{All-from_get_or, All-get_or}
use Rattle.std.proofs.lemmas.Option.{slice_get_within, slice_get-get_or, get_or_from_slice_get}
use Rattle.ss_elem.specs.declared.element.Element.{Element}
use Rattle.ss_elem.specs.declared.element.Element.TheVariants.{End}
use Rattle.ss_codec.specs.Record.{record_bytes}
use Rattle.ss_vault.specs.Sound.{records_from}

pub records_from-append : (v n : ℕ) (xs ys : List Element)
    → records_from v n (xs ++ ys) ≡ records_from v n xs ++ records_from v (n + length xs) ys
records_from-append v n [] ys = ap (λ (m : ℕ). records_from v m ys) (omega arith)
records_from-append v n (x ∷ xs) ys =
    ap (λ (rest : List (List ℕ)). record_bytes v n x ∷ rest)
    (records_from-append v (n + 1) xs ys
    ∙ ap (λ (m : ℕ). records_from v (n + 1) xs ++ records_from v m ys) (omega arith))

pub records_from-length : (v n : ℕ) (xs : List Element) → length (records_from v n xs) ≡ length xs
records_from-length v n [] = refl
records_from-length v n (x ∷ xs) = ap (λ (k : ℕ). suc k) (records_from-length v (n + 1) xs)

-- which record stands at a place
records_from-get_or : (v n : ℕ) (xs : List Element) (k : ℕ) → k < length xs
    → get_or (records_from v n xs) k [] ≡ record_bytes v (n + k) (get_or xs k End)
records_from-get_or v n [] k h = absurd (omega (arith, h))
records_from-get_or v n (x ∷ xs) zero h = ap (λ (m : ℕ). record_bytes v m x) (omega arith)
records_from-get_or v n (x ∷ xs) (suc k) h =
    records_from-get_or v (n + 1) xs k (omega (arith, h))
    ∙ ap (λ (m : ℕ). record_bytes v m (get_or xs k End)) (omega arith)

pub records_from-get : (v n k : ℕ) (xs : List Element) (x : Element) → slice_get xs k ≡ Some x
    → slice_get (records_from v n xs) k ≡ Some (record_bytes v (n + k) x)
records_from-get v n k xs x h =
    let within = slice_get_within xs k x h in
    let long = records_from-length v n xs in
    slice_get-get_or (records_from v n xs) k [] (omega (arith, within, long))
    ∙ ap (λ (bytes : List ℕ). Some bytes) (records_from-get_or v n xs k within
    ∙ ap (record_bytes v (n + k)) (get_or_from_slice_get xs k x End h))

-- a part of a list, and what follows it
pub parts_join : (xs : List Element) (base some more : ℕ)
    → take some (drop base xs) ++ take more (drop (base + some) xs) ≡ take (some + more) (drop base xs)
parts_join xs base some more =
    ap (λ (ys : List Element). take some (drop base xs) ++ take more ys)
    (ap (λ (n : ℕ). drop n xs) (omega arith) ∙ sym (drop-drop some base xs))
    ∙ sym (take-add some more (drop base xs))

pub part_length : (xs : List Element) (base some : ℕ) → base + some ≤ length xs → length (take some (drop base xs)) ≡ some
part_length xs base some within =
    length-take-le some (drop base xs) (omega (arith, length-drop base xs, within))

-- the records of a stream up to a number, and those of the elements behind it
pub records_join : (v : ℕ) (xs : List Element) (base dur more : ℕ) → base ≤ dur → dur ≤ length xs
    → records_from v base (take (dur - base) (drop base xs)) ++ records_from v dur (take more (drop dur xs))
    ≡ records_from v base (take (dur + more - base) (drop base xs))
records_join v xs base dur more least within =
    let there : base + (dur - base) ≡ dur = omega arith in
    let long : length (take (dur - base) (drop base xs)) ≡ dur - base = part_length xs base (dur - base) (omega arith) in
    let number : dur ≡ base + length (take (dur - base) (drop base xs)) = omega (arith, long) in
    ap (λ (n : ℕ). records_from v base (take (dur - base) (drop base xs)) ++ records_from v n (take more (drop dur xs))) number
    ∙ sym (records_from-append v base (take (dur - base) (drop base xs)) (take more (drop dur xs)))
    ∙ ap (records_from v base)
    (ap (λ (n : ℕ). take (dur - base) (drop base xs) ++ take more (drop n xs)) (sym there)
    ∙ parts_join xs base (dur - base) more
    ∙ ap (λ (n : ℕ). take n (drop base xs)) (omega arith))

-- what is true of each element of a part of a list
pub part_has : (P : Element → Type 0) (xs : List Element) (from count n : ℕ) (x : Element) → All P (take count (drop from xs))
    → from ≤ n → n < from + count → slice_get xs n ≡ Some x → P x
part_has P xs from count n x all least below is_item =
    let k : ℕ = n - from in
    let there : from + k ≡ n = omega arith in
    let within = slice_get_within xs n x is_item in
    let long : k < length (take count (drop from xs)) = omega (arith, length-take count (drop from xs), length-drop from xs) in
    let is : get_or (take count (drop from xs)) k End ≡ x =
    get_or-take count (drop from xs) k End (omega arith) ∙ get_or-drop from xs k End
    ∙ ap (λ (i : ℕ). get_or xs i End) there ∙ get_or_from_slice_get xs n x End is_item in
    subst P is (All-get_or P (take count (drop from xs)) k End long all)

-- and the other way round
pub part_all : (P : Element → Type 0) (xs : List Element) (from count : ℕ) → All P xs → All P (take count (drop from xs))
part_all P xs from count all = All-from_get_or P (take count (drop from xs)) End (λ k h.
    let long : from + k < length xs = omega (arith, length-take count (drop from xs), length-drop from xs) in
    let is : get_or xs (from + k) End ≡ get_or (take count (drop from xs)) k End =
    sym (get_or-take count (drop from xs) k End (omega (arith, length-take count (drop from xs))) ∙ get_or-drop from xs k End) in
    subst P is (All-get_or P xs (from + k) End long all))
