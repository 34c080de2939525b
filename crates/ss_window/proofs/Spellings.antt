-- What bytes say that spell an entry.
use Rattle.std.proofs.Common.{◌≡◌, ℕ, ◌^◌, ◌<◌, List, ◌++◌, length, take, drop, Some, sym, ap, ◌∙◌, arith, ℤ, FitsSigned}
use Rattle.std.specs.Int.{w128, cast_signed, cast_unsigned}
use Rattle.std.proofs.lemmas.Int.{to_z-of_z}
use Rattle.std.proofs.lemmas.List.{append_assoc, length-append, take_at, drop_at, drop-drop}
use Rattle.std.proofs.Math.Facts.{Fits-of_z}
use Rattle.ss_elem.specs.Key.{IsKeyNumber}
use Rattle.ss_meaning.specs.Entries.{WindowEntry}
use Rattle.ss_image.specs.Numbers.{number_bytes, number_at, key_bytes, key_in}
use Rattle.ss_image.specs.NumberLaws.{NumbersAreReadAgain}
use Rattle.ss_image.specs.Images.{entry_bytes}
use Rattle.ss_window.specs.ImageTests.{entry_in}

regrouped : (a k v r rest : List ℕ) → (a ++ k ++ v ++ r) ++ rest ≡ a ++ (k ++ (v ++ (r ++ rest)))
regrouped a k v r rest = simp append_assoc

-- where the parts of an entry stand in its bytes
pub record HasParts (e : WindowEntry) (bytes rest : List ℕ) : Type 0 where
  pub end : number_at 8 0 bytes ≡ e.end
  pub key : key_in (take 16 (drop 8 bytes)) ≡ Some e.key
  pub value : cast_signed w128 (number_at 16 24 bytes) ≡ e.value
  pub rows : number_at 8 40 bytes ≡ e.rows
  pub behind : drop 48 bytes ≡ rest

pub entry_bytes-parts : NumbersAreReadAgain → (e : WindowEntry) (rest : List ℕ) → e.end < 256 ^ 8 → IsKeyNumber e.key → FitsSigned w128 e.value → e.rows < 256 ^ 8
    → HasParts e (entry_bytes e ++ rest) rest
unfolding entry_bytes
entry_bytes-parts laws e rest ends is_key fits few =
    let a = number_bytes 8 e.end in
    let k = key_bytes e.key in
    let v = number_bytes 16 (cast_unsigned w128 e.value) in
    let r = number_bytes 8 e.rows in
    let bytes = (a ++ k ++ v ++ r) ++ rest in
    let whole : bytes ≡ a ++ (k ++ (v ++ (r ++ rest))) = regrouped a k v r rest in
    let d8 : drop 8 bytes ≡ k ++ (v ++ (r ++ rest)) = ap (drop 8) whole ∙ drop_at a (k ++ (v ++ (r ++ rest))) 8 (laws.number_len 8 e.end) in
    let d24 : drop 24 bytes ≡ v ++ (r ++ rest) = sym (drop-drop 16 8 bytes) ∙ (ap (drop 16) d8 ∙ drop_at k (v ++ (r ++ rest)) 16 (laws.key_len e.key)) in
    let d40 : drop 40 bytes ≡ r ++ rest =
    sym (drop-drop 16 24 bytes) ∙ (ap (drop 16) d24 ∙ drop_at v (r ++ rest) 16 (laws.number_len 16 (cast_unsigned w128 e.value))) in
    let d48 : drop 48 bytes ≡ rest = sym (drop-drop 8 40 bytes) ∙ (ap (drop 8) d40 ∙ drop_at r rest 8 (laws.number_len 8 e.rows)) in
    record {
      end = laws.number 8 0 e.end bytes (k ++ (v ++ (r ++ rest))) whole ends;
      key = ap (λ xs. key_in (take 16 xs)) d8 ∙ (ap key_in (take_at k (v ++ (r ++ rest)) 16 (laws.key_len e.key)) ∙ laws.key e.key is_key);
      value =
          let small : cast_unsigned w128 e.value < 256 ^ 16 = (Fits-of_z {w = w128} {z = e.value} fits).fits in
          ap (cast_signed w128) (laws.number 16 24 (cast_unsigned w128 e.value) bytes (r ++ rest) d24 small) ∙ to_z-of_z w128 e.value fits;
      rows = laws.number 8 40 e.rows bytes rest d40 few;
      behind = d48;
    }

-- an entry's bytes, with others behind, say the entry
pub entry_in-bytes : (e : WindowEntry) (bytes rest : List ℕ) → HasParts e bytes rest → entry_in e.key bytes ≡ e
entry_in-bytes e bytes rest h =
    let made = λ (end : ℕ) (value : ℤ) (rows : ℕ). let x : WindowEntry = record { end = end; key = e.key; value = value; rows = rows } in x in
    ap (λ n. made n (cast_signed w128 (number_at 16 24 bytes)) (number_at 8 40 bytes)) h.end
    ∙ (ap (λ z. made e.end z (number_at 8 40 bytes)) h.value ∙ ap (made e.end e.value) h.rows)

pub length-entry_bytes : NumbersAreReadAgain → (e : WindowEntry) → length (entry_bytes e) ≡ 48
unfolding entry_bytes
length-entry_bytes laws e =
    let a = number_bytes 8 e.end in
    let k = key_bytes e.key in
    let v = number_bytes 16 (cast_unsigned w128 e.value) in
    let r = number_bytes 8 e.rows in
    omega (
      arith,
      length-append (a ++ k ++ v) r,
      length-append (a ++ k) v,
      length-append a k,
      laws.number_len 8 e.end,
      laws.key_len e.key,
      laws.number_len 16 (cast_unsigned w128 e.value),
      laws.number_len 8 e.rows,
    )
