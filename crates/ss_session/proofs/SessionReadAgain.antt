-- Sessions that may stand in an image are read from it.
use Rattle.std.proofs.Common.{◌≡◌, ℕ, ◌+◌, ◌*◌, ◌^◌, ◌<◌, ◌==◌, nat_lt, nat_le, Bool, true, false, cond, ◌&&◌, ◌||◌, List, [], ◌∷◌, ◌++◌, length, drop, All, Option, Some, None, Ok, Err, refl, ap, subst, ◌∙◌, arith, ltb-false, eq-eqb, le-leb}
use Rattle.std.proofs.lemmas.Bool.{and_from, cond-true}
use Rattle.std.proofs.lemmas.List.{length-append, drop_at}
use Rattle.std.proofs.lemmas.List.Elements.{recursion_from_All}
use Rattle.std.specs.List.{AllByRecursion, flat_map}
use Rattle.std.specs.Option.{option_and_then, option_map_or}
use Rattle.ss_expr.specs.declared.stream_operator.Agg.{Agg}
use Rattle.ss_meaning.specs.Session.{SessionEntry, closing}
use Rattle.ss_meaning.specs.SessionLists.{AreApart, IsApart, is_apart}
use Rattle.ss_elem.specs.Key.{IsKeyNumber}
use Rattle.ss_image.specs.Numbers.{number_bytes, number_at}
use Rattle.ss_image.specs.NumberLaws.{NumbersAreReadAgain}
use Rattle.ss_image.specs.Images.{session_bytes, session_image}
use Rattle.ss_session.specs.ImageTests.{session_in, session_read, sessions_read, with_first, is_session, follows, has_whole_sessions, image_read}
use Rattle.ss_session.proofs.SessionJoins.{fits-held}
use Rattle.ss_session.proofs.SessionPassing.{held}
use Rattle.ss_session.proofs.SessionSpellings.{HasParts, session_bytes-parts, session_in-bytes, length-session_bytes}

-- a session may stand in an image: it passes the tests of its own numbers, and its key is one
pub record MayStand (gap : ℕ) (agg : Agg) (low : ℕ) (e : SessionEntry) : Type 0 where
  pub passes : is_session gap agg low e ≡ true
  pub is_key : IsKeyNumber e.key

parts_of : NumbersAreReadAgain → (gap : ℕ) (agg : Agg) (low : ℕ) (e : SessionEntry) (rest : List ℕ) → MayStand gap agg low e → HasParts e (session_bytes e ++ rest) rest
parts_of laws gap agg low e rest h =
    let can = held gap agg low e h.passes in
    session_bytes-parts laws e rest (omega (arith, can.times, can.late)) (omega (arith, can.late)) h.is_key (fits-held e.value e.rows can.few can.least can.most) (omega (arith, can.few))

session_read-bytes : NumbersAreReadAgain → (gap : ℕ) (agg : Agg) (low : ℕ) (previous : Option SessionEntry) (e : SessionEntry) (rest : List ℕ) → MayStand gap agg low e
    → follows gap previous e ≡ true → session_read gap agg low previous (session_bytes e ++ rest) ≡ Some e
unfolding session_read
session_read-bytes laws gap agg low previous e rest h f =
    let bytes = session_bytes e ++ rest in
    let parts = parts_of laws gap agg low e rest h in
    let same = session_in-bytes e bytes rest parts in
    ap (option_and_then (λ key. cond (is_session gap agg low (session_in key bytes) && follows gap previous (session_in key bytes)) (Some (session_in key bytes)) None)) parts.key
    ∙ (ap (λ x. cond (is_session gap agg low x && follows gap previous x) (Some x) None) same
    ∙ cond-true (is_session gap agg low e && follows gap previous e) (Some e) None (and_from (is_session gap agg low e) (follows gap previous e) h.passes f))

-- a session that stands apart behind another follows it
pub apart_is : (gap : ℕ) (s t : SessionEntry) → IsApart gap s t → is_apart gap s t ≡ true
apart_is gap s t h = by_case (nat_lt s.key t.key) refl
  where
    by_case : (b : Bool) → nat_lt s.key t.key ≡ b → (b || (s.key == t.key && nat_le (closing gap s) t.first)) ≡ true
    by_case true e = refl
    by_case false e =
        let same : s.key ≡ t.key = omega (arith, h.keys, ltb-false s.key t.key e) in
        and_from (s.key == t.key) (nat_le (closing gap s) t.first) (eq-eqb s.key t.key same) (le-leb (closing gap s) t.first (h.times same))

first_follows : (gap : ℕ) (d : SessionEntry) (es : List SessionEntry) → AllByRecursion (IsApart gap d) es → (e : SessionEntry) (fs : List SessionEntry) → es ≡ e ∷ fs
    → follows gap (Some d) e ≡ true
first_follows gap d es h e fs same = apart_is gap d e (subst (AllByRecursion (IsApart gap d)) same h).0

entries_again : NumbersAreReadAgain → (gap : ℕ) (agg : Agg) (low at : ℕ) (previous : Option SessionEntry) (es : List SessionEntry)
    → AreApart gap es → ((e : SessionEntry) (fs : List SessionEntry) → es ≡ e ∷ fs → follows gap previous e ≡ true) → AllByRecursion (MayStand gap agg low) es
    → sessions_read gap agg low (length es) at previous (flat_map session_bytes es) ≡ Ok es
unfolding sessions_read
entries_again laws gap agg low at previous [] h f k = refl
entries_again laws gap agg low at previous (e ∷ es) h f k =
    let rest = flat_map session_bytes es in
    let read = session_read-bytes laws gap agg low previous e rest k.0 (f e es refl) in
    let behind = (parts_of laws gap agg low e rest k.0).behind in
    ap (λ o. option_map_or (λ x. with_first x (sessions_read gap agg low (length es) (at + 56) (Some x) (drop 56 (session_bytes e ++ rest)))) o (Err at)) read
    ∙ (ap (λ xs. with_first e (sessions_read gap agg low (length es) (at + 56) (Some e) xs)) behind
    ∙ ap (with_first e) (entries_again laws gap agg low (at + 56) (Some e) es h.1 (first_follows gap e es h.0) k.1))

length-flat_map_entries : NumbersAreReadAgain → (es : List SessionEntry) → length (flat_map session_bytes es) ≡ 56 * length es
length-flat_map_entries laws [] = omega arith
length-flat_map_entries laws (e ∷ es) =
    let rest = length-flat_map_entries laws es in
    omega (arith, length-append (session_bytes e) (flat_map session_bytes es), length-session_bytes laws e, rest)

pub entries_are_read_again : NumbersAreReadAgain → (gap : ℕ) (agg : Agg) (low : ℕ) (es : List SessionEntry)
    → length es < 2 ^ 32 → AreApart gap es → All (MayStand gap agg low) es → image_read gap agg low (session_image es) ≡ Ok es
unfolding session_image
entries_are_read_again laws gap agg low es few order stand =
    let count = number_bytes 4 (length es) in
    let behind = flat_map session_bytes es in
    let bytes = count ++ behind in
    let said : number_at 4 0 bytes ≡ length es = laws.number 4 0 (length es) bytes behind refl (omega (arith, few)) in
    let long : length bytes ≡ 4 + 56 * length es = omega (arith, length-append count behind, laws.number_len 4 (length es), length-flat_map_entries laws es) in
    let whole : has_whole_sessions bytes ≡ true =
    and_from (nat_le 4 (length bytes)) (length bytes == 4 + 56 * number_at 4 0 bytes) (le-leb 4 (length bytes) (omega (arith, long)))
    (eq-eqb (length bytes) (4 + 56 * number_at 4 0 bytes) (omega (arith, long, said))) in
    cond-true (has_whole_sessions bytes) (sessions_read gap agg low (number_at 4 0 bytes) 4 None (drop 4 bytes)) (Err 0) whole
    ∙ (ap (λ n. sessions_read gap agg low n 4 None (drop 4 bytes)) said
    ∙ (ap (sessions_read gap agg low (length es) 4 None) (drop_at count behind 4 (laws.number_len 4 (length es)))
    ∙ entries_again laws gap agg low 4 None es order (λ e fs same. refl) (recursion_from_All (MayStand gap agg low) es stand)))
