-- What bytes say that spell an entry.
use Rattle.std.proofs.Common.{◌≡◌, ℕ, ◌^◌, ◌<◌, List, ◌++◌, length, take, drop, Some, sym, ap, ◌∙◌, arith, ℤ, FitsSigned}
use Rattle.std.specs.Int.{w128, cast_signed, cast_unsigned}
use Rattle.std.proofs.lemmas.Int.{to_z-of_z}
use Rattle.std.proofs.lemmas.List.{append_assoc, length-append, take_at, drop_at, drop-drop}
use Rattle.std.proofs.Math.Facts.{Fits-of_z}
use Rattle.ss_elem.specs.Key.{IsKeyNumber}
use Rattle.ss_meaning.specs.Session.{SessionEntry}
use Rattle.ss_image.specs.Numbers.{number_bytes, number_at, key_bytes, key_in}
use Rattle.ss_image.specs.NumberLaws.{NumbersAreReadAgain}
use Rattle.ss_image.specs.Images.{session_bytes}
use Rattle.ss_session.specs.ImageTests.{session_in}

regrouped : (k f l v r rest : List ℕ) → (k ++ f ++ l ++ v ++ r) ++ rest ≡ k ++ (f ++ (l ++ (v ++ (r ++ rest))))
regrouped k f l v r rest = simp append_assoc

-- where the parts of a session stand in its bytes
pub record HasParts (e : SessionEntry) (bytes rest : List ℕ) : Type 0 where
  pub key : key_in (take 16 bytes) ≡ Some e.key
  pub first : number_at 8 16 bytes ≡ e.first
  pub last : number_at 8 24 bytes ≡ e.last
  pub value : cast_signed w128 (number_at 16 32 bytes) ≡ e.value
  pub rows : number_at 8 48 bytes ≡ e.rows
  pub behind : drop 56 bytes ≡ rest

pub session_bytes-parts : NumbersAreReadAgain → (e : SessionEntry) (rest : List ℕ) → e.first < 256 ^ 8 → e.last < 256 ^ 8 → IsKeyNumber e.key → FitsSigned w128 e.value → e.rows < 256 ^ 8
    → HasParts e (session_bytes e ++ rest) rest
unfolding session_bytes
session_bytes-parts laws e rest early late is_key fits few =
    let k = key_bytes e.key in
    let f = number_bytes 8 e.first in
    let l = number_bytes 8 e.last in
    let v = number_bytes 16 (cast_unsigned w128 e.value) in
    let r = number_bytes 8 e.rows in
    let bytes = (k ++ f ++ l ++ v ++ r) ++ rest in
    let whole : bytes ≡ k ++ (f ++ (l ++ (v ++ (r ++ rest)))) = regrouped k f l v r rest in
    let d16 : drop 16 bytes ≡ f ++ (l ++ (v ++ (r ++ rest))) = ap (drop 16) whole ∙ drop_at k (f ++ (l ++ (v ++ (r ++ rest)))) 16 (laws.key_len e.key) in
    let d24 : drop 24 bytes ≡ l ++ (v ++ (r ++ rest)) = sym (drop-drop 8 16 bytes) ∙ (ap (drop 8) d16 ∙ drop_at f (l ++ (v ++ (r ++ rest))) 8 (laws.number_len 8 e.first)) in
    let d32 : drop 32 bytes ≡ v ++ (r ++ rest) = sym (drop-drop 8 24 bytes) ∙ (ap (drop 8) d24 ∙ drop_at l (v ++ (r ++ rest)) 8 (laws.number_len 8 e.last)) in
    let d48 : drop 48 bytes ≡ r ++ rest =
    sym (drop-drop 16 32 bytes) ∙ (ap (drop 16) d32 ∙ drop_at v (r ++ rest) 16 (laws.number_len 16 (cast_unsigned w128 e.value))) in
    let d56 : drop 56 bytes ≡ rest = sym (drop-drop 8 48 bytes) ∙ (ap (drop 8) d48 ∙ drop_at r rest 8 (laws.number_len 8 e.rows)) in
    record {
      key = ap (λ xs. key_in (take 16 xs)) whole ∙ (ap key_in (take_at k (f ++ (l ++ (v ++ (r ++ rest)))) 16 (laws.key_len e.key)) ∙ laws.key e.key is_key);
      first = laws.number 8 16 e.first bytes (l ++ (v ++ (r ++ rest))) d16 early;
      last = laws.number 8 24 e.last bytes (v ++ (r ++ rest)) d24 late;
      value =
          let small : cast_unsigned w128 e.value < 256 ^ 16 = (Fits-of_z {w = w128} {z = e.value} fits).fits in
          ap (cast_signed w128) (laws.number 16 32 (cast_unsigned w128 e.value) bytes (r ++ rest) d32 small) ∙ to_z-of_z w128 e.value fits;
      rows = laws.number 8 48 e.rows bytes rest d48 few;
      behind = d56;
    }

-- a session's bytes, with others behind, say the session
pub session_in-bytes : (e : SessionEntry) (bytes rest : List ℕ) → HasParts e bytes rest → session_in e.key bytes ≡ e
session_in-bytes e bytes rest h =
    let made = λ (first last : ℕ) (value : ℤ) (rows : ℕ). let x : SessionEntry = record { key = e.key; first = first; last = last; value = value; rows = rows } in x in
    ap (λ n. made n (number_at 8 24 bytes) (cast_signed w128 (number_at 16 32 bytes)) (number_at 8 48 bytes)) h.first
    ∙ (ap (λ n. made e.first n (cast_signed w128 (number_at 16 32 bytes)) (number_at 8 48 bytes)) h.last
    ∙ (ap (λ z. made e.first e.last z (number_at 8 48 bytes)) h.value ∙ ap (made e.first e.last e.value) h.rows))

pub length-session_bytes : NumbersAreReadAgain → (e : SessionEntry) → length (session_bytes e) ≡ 56
unfolding session_bytes
length-session_bytes laws e =
    let k = key_bytes e.key in
    let f = number_bytes 8 e.first in
    let l = number_bytes 8 e.last in
    let v = number_bytes 16 (cast_unsigned w128 e.value) in
    let r = number_bytes 8 e.rows in
    omega (
      arith,
      length-append (k ++ f ++ l ++ v) r,
      length-append (k ++ f ++ l) v,
      length-append (k ++ f) l,
      length-append k f,
      laws.key_len e.key,
      laws.number_len 8 e.first,
      laws.number_len 8 e.last,
      laws.number_len 16 (cast_unsigned w128 e.value),
      laws.number_len 8 e.rows,
    )
