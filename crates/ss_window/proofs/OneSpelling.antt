-- Bytes that are read as an image are the image of what is read.
use Rattle.std.proofs.Common.{◌≡◌, ℕ, zero, suc, ◌+◌, ◌*◌, ◌^◌, ◌<◌, ◌≤◌, ◌==◌, nat_le, Bool, true, false, cond, ◌&&◌, List, [], ◌∷◌, ◌++◌, length, take, drop, Option, Some, None, Result, Ok, Err, refl, sym, ap, subst, ◌∙◌, arith, append_assoc, eqb-true, leb-true}
use Rattle.std.specs.Int.{w128, cast_signed, cast_unsigned}
use Rattle.std.specs.List.{flat_map}
use Rattle.std.specs.Option.{option_map_or}
use Rattle.std.proofs.lemmas.Bool.{and_parts}
use Rattle.std.proofs.lemmas.Int.{of_z-to_z}
use Rattle.std.proofs.lemmas.List.{get_or-drop, length-drop, nil_from_length, take-append-drop, drop-drop}
use Rattle.std.proofs.lemmas.Option.{option_and_then_some, cond_some}
use Rattle.ss_expr.specs.declared.stream_operator.Agg.{Agg}
use Rattle.ss_meaning.specs.Entries.{WindowEntry}
use Rattle.ss_image.specs.Numbers.{AreBytes, number_bytes, number_at, key_bytes, key_in}
use Rattle.ss_image.specs.NumberLaws.{NumbersHaveOneSpelling}
use Rattle.ss_image.specs.Images.{entry_bytes, window_image}
use Rattle.ss_window.specs.ImageTests.{entry_in, entry_read, entries_read, with_first, is_entry, follows, has_whole_entries, image_read}
use Rattle.ss_window.proofs.EntryReads.{same_ok, err_ok}

bytes-drop : (n : ℕ) (bytes : List ℕ) → AreBytes bytes → AreBytes (drop n bytes)
bytes-drop n bytes h i = rw get_or-drop (h (n + i))

-- the first 48 bytes are those of the entry that they say
entry_in-front : NumbersHaveOneSpelling → (key : ℕ) (bytes : List ℕ) → AreBytes bytes → 48 ≤ length bytes → key_in (take 16 (drop 8 bytes)) ≡ Some key
    → bytes ≡ entry_bytes (entry_in key bytes) ++ drop 48 bytes
unfolding entry_bytes
entry_in-front laws key bytes fits le of_key =
    let e = number_bytes 8 (number_at 8 0 bytes) in
    let k = key_bytes key in
    let v = number_bytes 16 (number_at 16 24 bytes) in
    let v' = number_bytes 16 (cast_unsigned w128 (cast_signed w128 (number_at 16 24 bytes))) in
    let r = number_bytes 8 (number_at 8 40 bytes) in
    let below : number_at 16 24 bytes < 256 ^ 16 = laws.below 16 24 bytes fits in
    let value : v ≡ v' = ap (number_bytes 16) (sym (of_z-to_z w128 (number_at 16 24 bytes) below)) in
    let d0 : bytes ≡ e ++ drop 8 bytes = laws.number 8 0 bytes fits (omega (arith, le)) in
    let d8 : drop 8 bytes ≡ k ++ drop 24 bytes =
    sym (take-append-drop 16 (drop 8 bytes))
    ∙ (ap (λ (xs : List ℕ). xs ++ drop 16 (drop 8 bytes)) (sym (laws.key (take 16 (drop 8 bytes)) key of_key))
    ∙ ap (λ (xs : List ℕ). k ++ xs) (drop-drop 16 8 bytes)) in
    let d24 : drop 24 bytes ≡ v' ++ drop 40 bytes =
    laws.number 16 24 bytes fits (omega (arith, le)) ∙ ap (λ (xs : List ℕ). xs ++ drop 40 bytes) value in
    let d40 : drop 40 bytes ≡ r ++ drop 48 bytes = laws.number 8 40 bytes fits (omega (arith, le)) in
    d0
    ∙ (ap (λ (xs : List ℕ). e ++ xs) (d8 ∙ ap (λ (xs : List ℕ). k ++ xs) (d24 ∙ ap (λ (xs : List ℕ). v' ++ xs) d40))
    ∙ regrouped e k v' r (drop 48 bytes))
  where
    regrouped : (a k v r rest : List ℕ) → a ++ (k ++ (v ++ (r ++ rest))) ≡ (a ++ k ++ v ++ r) ++ rest
    regrouped a k v r rest = simp append_assoc

entry_read-front : NumbersHaveOneSpelling → (hop : ℕ) (agg : Agg) (low : ℕ) (previous : Option WindowEntry) (bytes : List ℕ) (e : WindowEntry)
    → AreBytes bytes → 48 ≤ length bytes → entry_read hop agg low previous bytes ≡ Some e → bytes ≡ entry_bytes e ++ drop 48 bytes
unfolding entry_read
entry_read-front laws hop agg low previous bytes e fits le h =
    option_and_then_some
    (λ key. cond (is_entry hop agg low (entry_in key bytes) && follows previous (entry_in key bytes)) (Some (entry_in key bytes)) None)
    (key_in (take 16 (drop 8 bytes))) e h
    (λ key of_key found.
    let x = entry_in key bytes in
    let same = (cond_some (is_entry hop agg low x && follows previous x) x e found).1 in
    subst (λ (y : WindowEntry). bytes ≡ entry_bytes y ++ drop 48 bytes) same (entry_in-front laws key bytes fits le of_key))

-- so many entries are all of the bytes
abbrev Spelled : ℕ → List ℕ → List WindowEntry → Type 0
Spelled n bytes es = (bytes ≡ flat_map entry_bytes es) × (n ≡ length es)

entries_read-spelled : NumbersHaveOneSpelling → (hop : ℕ) (agg : Agg) (low n at : ℕ) (previous : Option WindowEntry) (bytes : List ℕ) (es : List WindowEntry)
    → AreBytes bytes → length bytes ≡ 48 * n → entries_read hop agg low n at previous bytes ≡ Ok es → Spelled n bytes es
unfolding entries_read
entries_read-spelled laws hop agg low zero at previous bytes es fits long h =
    subst (Spelled zero bytes) (same_ok [] es h) (nil_from_length bytes (omega (arith, long)), refl)
entries_read-spelled laws hop agg low (suc n) at previous bytes es fits long h =
    by_entry (entry_read hop agg low previous bytes) refl h
    (λ e fs. entries_read-spelled laws hop agg low n (at + 48) (Some e) (drop 48 bytes) fs (bytes-drop 48 bytes fits) (omega (arith, length-drop 48 bytes, long)))
  where
    joined : (e : WindowEntry) (fs : List WindowEntry) → bytes ≡ entry_bytes e ++ drop 48 bytes → Spelled n (drop 48 bytes) fs → Spelled (suc n) bytes (e ∷ fs)
    joined e fs front rest = (front ∙ ap (λ (xs : List ℕ). entry_bytes e ++ xs) rest.0, ap suc rest.1)

    by_rest : (e : WindowEntry) (r : Result (List WindowEntry) ℕ) → bytes ≡ entry_bytes e ++ drop 48 bytes → with_first e r ≡ Ok es
        → ((fs : List WindowEntry) → r ≡ Ok fs → Spelled n (drop 48 bytes) fs) → Spelled (suc n) bytes es
    by_rest e (Ok fs) front g rest = subst (Spelled (suc n) bytes) (same_ok (e ∷ fs) es g) (joined e fs front (rest fs refl))
    by_rest e (Err place) front g rest = absurd (err_ok place es g)

    by_entry : (o : Option WindowEntry) → entry_read hop agg low previous bytes ≡ o
        → option_map_or (λ x. with_first x (entries_read hop agg low n (at + 48) (Some x) (drop 48 bytes))) o (Err at) ≡ Ok es
        → ((e : WindowEntry) (fs : List WindowEntry) → entries_read hop agg low n (at + 48) (Some e) (drop 48 bytes) ≡ Ok fs → Spelled n (drop 48 bytes) fs)
        → Spelled (suc n) bytes es
    by_entry None f g rest = absurd (err_ok at es g)
    by_entry (Some e) f g rest =
        by_rest e (entries_read hop agg low n (at + 48) (Some e) (drop 48 bytes))
        (entry_read-front laws hop agg low previous bytes e fits (omega (arith, long)) f) g (rest e)

pub image_read-spelled : NumbersHaveOneSpelling → (hop : ℕ) (agg : Agg) (low : ℕ) (bytes : List ℕ) (es : List WindowEntry) → AreBytes bytes
    → image_read hop agg low bytes ≡ Ok es → bytes ≡ window_image es
unfolding window_image
image_read-spelled laws hop agg low bytes es fits h = by_length (has_whole_entries bytes) refl h
  where
    by_length : (b : Bool) → has_whole_entries bytes ≡ b
        → cond b (entries_read hop agg low (number_at 4 0 bytes) 4 None (drop 4 bytes)) (Err 0) ≡ Ok es
        → bytes ≡ number_bytes 4 (length es) ++ flat_map entry_bytes es
    by_length true t g =
        let parts = and_parts (nat_le 4 (length bytes)) (length bytes == 4 + 48 * number_at 4 0 bytes) t in
        let least = leb-true 4 (length bytes) parts.0 in
        let long = eqb-true (length bytes) (4 + 48 * number_at 4 0 bytes) parts.1 in
        let behind : length (drop 4 bytes) ≡ 48 * number_at 4 0 bytes = omega (arith, length-drop 4 bytes, long) in
        let spelled = entries_read-spelled laws hop agg low (number_at 4 0 bytes) 4 None (drop 4 bytes) es (bytes-drop 4 bytes fits) behind g in
        laws.number 4 0 bytes fits (omega (arith, least))
        ∙ (ap (λ (n : ℕ). number_bytes 4 n ++ drop 4 bytes) spelled.1 ∙ ap (λ (xs : List ℕ). number_bytes 4 (length es) ++ xs) spelled.0)
    by_length false t g = absurd (err_ok 0 es g)
