-- Bytes that are read as an image are the image of what is read.
use Rattle.std.proofs.Common.{◌≡◌, ℕ, zero, suc, ◌+◌, ◌*◌, ◌^◌, ◌<◌, ◌≤◌, ◌==◌, nat_le, Bool, true, false, cond, ◌&&◌, List, [], ◌∷◌, ◌++◌, length, take, drop, Option, Some, None, Result, Ok, Err, refl, sym, ap, subst, ◌∙◌, arith, append_assoc, eqb-true, leb-true}
use Rattle.std.specs.Int.{w128, cast_signed, cast_unsigned}
use Rattle.std.specs.List.{flat_map}
use Rattle.std.specs.Option.{option_map_or}
use Rattle.std.proofs.lemmas.Bool.{and_parts}
use Rattle.std.proofs.lemmas.Int.{of_z-to_z}
use Rattle.std.proofs.lemmas.List.{get_or-drop, length-drop, nil_from_length, take-append-drop}
use Rattle.std.proofs.lemmas.Option.{option_and_then_some, cond_some}
use Rattle.ss_expr.specs.declared.stream_operator.Agg.{Agg}
use Rattle.ss_meaning.specs.Session.{SessionEntry}
use Rattle.ss_image.specs.Numbers.{AreBytes, number_bytes, number_at, key_bytes, key_in}
use Rattle.ss_image.specs.NumberLaws.{NumbersHaveOneSpelling}
use Rattle.ss_image.specs.Images.{session_bytes, session_image}
use Rattle.ss_session.specs.ImageTests.{session_in, session_read, sessions_read, with_first, is_session, follows, has_whole_sessions, image_read}
use Rattle.ss_session.proofs.SessionReads.{same_ok, err_ok}

bytes-drop : (n : ℕ) (bytes : List ℕ) → AreBytes bytes → AreBytes (drop n bytes)
bytes-drop n bytes h i = rw get_or-drop (h (n + i))

-- the first 56 bytes are those of the entry that they say
session_in-front : NumbersHaveOneSpelling → (key : ℕ) (bytes : List ℕ) → AreBytes bytes → 56 ≤ length bytes → key_in (take 16 bytes) ≡ Some key
    → bytes ≡ session_bytes (session_in key bytes) ++ drop 56 bytes
unfolding session_bytes
session_in-front laws key bytes fits le of_key =
    let k = key_bytes key in
    let f = number_bytes 8 (number_at 8 16 bytes) in
    let l = number_bytes 8 (number_at 8 24 bytes) in
    let v = number_bytes 16 (number_at 16 32 bytes) in
    let v' = number_bytes 16 (cast_unsigned w128 (cast_signed w128 (number_at 16 32 bytes))) in
    let r = number_bytes 8 (number_at 8 48 bytes) in
    let below : number_at 16 32 bytes < 256 ^ 16 = laws.below 16 32 bytes fits in
    let value : v ≡ v' = ap (number_bytes 16) (sym (of_z-to_z w128 (number_at 16 32 bytes) below)) in
    let d0 : bytes ≡ k ++ drop 16 bytes =
    sym (take-append-drop 16 bytes) ∙ ap (λ (xs : List ℕ). xs ++ drop 16 bytes) (sym (laws.key (take 16 bytes) key of_key)) in
    let d16 : drop 16 bytes ≡ f ++ drop 24 bytes = laws.number 8 16 bytes fits (omega (arith, le)) in
    let d24 : drop 24 bytes ≡ l ++ drop 32 bytes = laws.number 8 24 bytes fits (omega (arith, le)) in
    let d32 : drop 32 bytes ≡ v' ++ drop 48 bytes =
    laws.number 16 32 bytes fits (omega (arith, le)) ∙ ap (λ (xs : List ℕ). xs ++ drop 48 bytes) value in
    let d48 : drop 48 bytes ≡ r ++ drop 56 bytes = laws.number 8 48 bytes fits (omega (arith, le)) in
    d0
    ∙ (ap (λ (xs : List ℕ). k ++ xs) (d16 ∙ ap (λ (xs : List ℕ). f ++ xs) (d24 ∙ ap (λ (xs : List ℕ). l ++ xs) (d32 ∙ ap (λ (xs : List ℕ). v' ++ xs) d48)))
    ∙ regrouped k f l v' r (drop 56 bytes))
  where
    regrouped : (k f l v r rest : List ℕ) → k ++ (f ++ (l ++ (v ++ (r ++ rest)))) ≡ (k ++ f ++ l ++ v ++ r) ++ rest
    regrouped k f l v r rest = simp append_assoc

session_read-front : NumbersHaveOneSpelling → (gap : ℕ) (agg : Agg) (low : ℕ) (previous : Option SessionEntry) (bytes : List ℕ) (e : SessionEntry)
    → AreBytes bytes → 56 ≤ length bytes → session_read gap agg low previous bytes ≡ Some e → bytes ≡ session_bytes e ++ drop 56 bytes
unfolding session_read
session_read-front laws gap agg low previous bytes e fits le h =
    option_and_then_some
    (λ key. cond (is_session gap agg low (session_in key bytes) && follows gap previous (session_in key bytes)) (Some (session_in key bytes)) None)
    (key_in (take 16 bytes)) e h
    (λ key of_key found.
    let x = session_in key bytes in
    let same = (cond_some (is_session gap agg low x && follows gap previous x) x e found).1 in
    subst (λ (y : SessionEntry). bytes ≡ session_bytes y ++ drop 56 bytes) same (session_in-front laws key bytes fits le of_key))

-- so many entries are all of the bytes
abbrev Spelled : ℕ → List ℕ → List SessionEntry → Type 0
Spelled n bytes es = (bytes ≡ flat_map session_bytes es) × (n ≡ length es)

sessions_read-spelled : NumbersHaveOneSpelling → (gap : ℕ) (agg : Agg) (low n at : ℕ) (previous : Option SessionEntry) (bytes : List ℕ) (es : List SessionEntry)
    → AreBytes bytes → length bytes ≡ 56 * n → sessions_read gap agg low n at previous bytes ≡ Ok es → Spelled n bytes es
unfolding sessions_read
sessions_read-spelled laws gap agg low zero at previous bytes es fits long h =
    subst (Spelled zero bytes) (same_ok [] es h) (nil_from_length bytes (omega (arith, long)), refl)
sessions_read-spelled laws gap agg low (suc n) at previous bytes es fits long h =
    by_entry (session_read gap agg low previous bytes) refl h
    (λ e fs. sessions_read-spelled laws gap agg low n (at + 56) (Some e) (drop 56 bytes) fs (bytes-drop 56 bytes fits) (omega (arith, length-drop 56 bytes, long)))
  where
    joined : (e : SessionEntry) (fs : List SessionEntry) → bytes ≡ session_bytes e ++ drop 56 bytes → Spelled n (drop 56 bytes) fs → Spelled (suc n) bytes (e ∷ fs)
    joined e fs front rest = (front ∙ ap (λ (xs : List ℕ). session_bytes e ++ xs) rest.0, ap suc rest.1)

    by_rest : (e : SessionEntry) (r : Result (List SessionEntry) ℕ) → bytes ≡ session_bytes e ++ drop 56 bytes → with_first e r ≡ Ok es
        → ((fs : List SessionEntry) → r ≡ Ok fs → Spelled n (drop 56 bytes) fs) → Spelled (suc n) bytes es
    by_rest e (Ok fs) front g rest = subst (Spelled (suc n) bytes) (same_ok (e ∷ fs) es g) (joined e fs front (rest fs refl))
    by_rest e (Err place) front g rest = absurd (err_ok place es g)

    by_entry : (o : Option SessionEntry) → session_read gap agg low previous bytes ≡ o
        → option_map_or (λ x. with_first x (sessions_read gap agg low n (at + 56) (Some x) (drop 56 bytes))) o (Err at) ≡ Ok es
        → ((e : SessionEntry) (fs : List SessionEntry) → sessions_read gap agg low n (at + 56) (Some e) (drop 56 bytes) ≡ Ok fs → Spelled n (drop 56 bytes) fs)
        → Spelled (suc n) bytes es
    by_entry None f g rest = absurd (err_ok at es g)
    by_entry (Some e) f g rest =
        by_rest e (sessions_read gap agg low n (at + 56) (Some e) (drop 56 bytes))
        (session_read-front laws gap agg low previous bytes e fits (omega (arith, long)) f) g (rest e)

pub image_read-spelled : NumbersHaveOneSpelling → (gap : ℕ) (agg : Agg) (low : ℕ) (bytes : List ℕ) (es : List SessionEntry) → AreBytes bytes
    → image_read gap agg low bytes ≡ Ok es → bytes ≡ session_image es
unfolding session_image
image_read-spelled laws gap agg low bytes es fits h = by_length (has_whole_sessions bytes) refl h
  where
    by_length : (b : Bool) → has_whole_sessions bytes ≡ b
        → cond b (sessions_read gap agg low (number_at 4 0 bytes) 4 None (drop 4 bytes)) (Err 0) ≡ Ok es
        → bytes ≡ number_bytes 4 (length es) ++ flat_map session_bytes es
    by_length true t g =
        let parts = and_parts (nat_le 4 (length bytes)) (length bytes == 4 + 56 * number_at 4 0 bytes) t in
        let least = leb-true 4 (length bytes) parts.0 in
        let long = eqb-true (length bytes) (4 + 56 * number_at 4 0 bytes) parts.1 in
        let behind : length (drop 4 bytes) ≡ 56 * number_at 4 0 bytes = omega (arith, length-drop 4 bytes, long) in
        let spelled = sessions_read-spelled laws gap agg low (number_at 4 0 bytes) 4 None (drop 4 bytes) es (bytes-drop 4 bytes fits) behind g in
        laws.number 4 0 bytes fits (omega (arith, least))
        ∙ (ap (λ (n : ℕ). number_bytes 4 n ++ drop 4 bytes) spelled.1 ∙ ap (λ (xs : List ℕ). number_bytes 4 (length es) ++ xs) spelled.0)
    by_length false t g = absurd (err_ok 0 es g)
