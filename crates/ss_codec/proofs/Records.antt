-- Bytes that pass every test are a record, and no record begins another.
use Rattle.std.proofs.Common.{◌≡◌, ℕ, zero, suc, ◌-◌, ◌^◌, ◌<◌, ◌≤◌, Bool, true, false, leb, ltb, eqb, not, List, [], ◌∷◌, ◌++◌, length, take, drop, Option, Some, None, Result, Ok, Err, refl, sym, ap, subst, ◌∙◌, inl, inr, arith}
use Rattle.std.specs.Prelude.{◌&&◌, ◌||◌, ◌⊎◌, IfOk, IsErr, IsSome, is_some, unwrap_or, slice_index, ◌≢◌}
use Rattle.std.specs.Option.{option_map_or}
use Rattle.std.specs.Int.{w32, w64}
use Rattle.std.proofs.lemmas.Bool.{and_parts, eqb-true, leb-true, le-leb, ltb-true}
use Rattle.std.proofs.lemmas.Slice.Eq.{bytes_eq-Decides}
use Rattle.std.proofs.lemmas.List.{append-nil, nil_from_length, take-append-drop, drop-drop, length-append}
use Rattle.sha2.specs.Sha256.{sha256}
use Rattle.ss_elem.specs.declared.element.Event.{Event}
use Rattle.ss_elem.specs.declared.element.Element.{Element}
use Rattle.ss_elem.specs.declared.element.Element.TheVariants.{Row, Cti, End}
use Rattle.ss_elem.specs.Rows.{has_two_values}
use Rattle.ss_elem.specs.Validity.{next_bound, top}
use Rattle.ss_codec.specs.declared.fault.CodecFault.{CodecFault}
use Rattle.ss_codec.specs.Numbers.{number_at, number_bytes}
use Rattle.ss_codec.specs.OldRecords.{old_front}
use Rattle.ss_codec.specs.Record.{HasRecord, form_number, key_bytes, kind_number, record_bytes, record_front, row_bytes, sealed}
use Rattle.ss_codec.specs.RecordTests.{Shape, TwoValues, FourValues, Time, TheEnd, element_at, is_kind_of, key_at, key_in, long_row_at, record_len, record_read, record_tests, row_at, shape_of, value_tests}
use Rattle.ss_codec.specs.Tests.{first_fault}
use Rattle.ss_codec.proofs.Bytes.{IsBytes, Spells, Spells-append, number_at-spells, signed_at-fits, signed_at-spells, wide32, wide64}
use Rattle.ss_codec.proofs.Fronts.{four_front, length-front, length-long_front, length-old_front, long_front, record_len-le, shape, two_front}
use Rattle.ss_codec.proofs.Keys.{IsFieldOf, key_in-is}
use Rattle.ss_codec.proofs.Seals.{length-sealed, passed, sealed_is}

-- ---- form and kind

abbrev form_of : Shape → ℕ
form_of TwoValues = 1
form_of FourValues = 2
form_of Time = 1
form_of TheEnd = 1

abbrev kind_of : Shape → ℕ
kind_of TwoValues = 0
kind_of FourValues = 0
kind_of Time = 1
kind_of TheEnd = 2

-- the form and the kind are those of a shape
abbrev AreOf : Shape → ℕ → ℕ → Type 0
AreOf s form kind = (form ≡ form_of s) × (kind ≡ kind_of s)

of_first : (kind : ℕ) → is_kind_of 1 kind ≡ true → AreOf (shape_of 1 kind) 1 kind
of_first zero h = (refl, refl)
of_first (suc zero) h = (refl, refl)
of_first (suc (suc zero)) h = (refl, refl)
of_first (suc (suc (suc k))) h = let few = ltb-true (suc (suc (suc k))) 3 h in absurd (omega (arith, few))

of_second : (kind : ℕ) → is_kind_of 2 kind ≡ true → AreOf (shape_of 2 kind) 2 kind
of_second kind h = (refl, eqb-true kind 0 h)

either : (a b : Bool) → (a || b) ≡ true → (a ≡ true) ⊎ (b ≡ true)
either true b h = inl refl
either false b h = inr h

are_of : (form kind : ℕ) → (eqb form 1 || eqb form 2) ≡ true → is_kind_of form kind ≡ true → AreOf (shape_of form kind) form kind
are_of form kind known fits =
    elim (either (eqb form 1) (eqb form 2) known) [
      | inl first ↦ subst (λ (f : ℕ). is_kind_of f kind ≡ true → AreOf (shape_of f kind) f kind) (sym (eqb-true form 1 first)) (of_first kind) fits
      | inr second ↦ subst (λ (f : ℕ). is_kind_of f kind ≡ true → AreOf (shape_of f kind) f kind) (sym (eqb-true form 2 second)) (of_second kind) fits
    ]

-- ---- bytes that pass

-- what the tests tell that records of every shape have
pub record IsNamed (s : Shape) (v n : ℕ) (bytes : List ℕ) : Type 0 where
  pub form : (eqb (slice_index bytes 0) 1 || eqb (slice_index bytes 0) 2) ≡ true
  pub kind : is_kind_of (slice_index bytes 0) (slice_index bytes 1) ≡ true
  pub len : length bytes ≡ record_len s
  pub digest : drop (record_len s - 32) bytes ≡ sha256 (take (record_len s - 32) bytes)
  pub v_is : number_at w32 2 bytes ≡ v
  pub n_is : number_at w64 6 bytes ≡ n
  pub values : first_fault (value_tests s bytes) ≡ None

pub is_named : (s : Shape) (v n : ℕ) (bytes : List ℕ) → first_fault (record_tests s v n bytes) ≡ None → IsNamed s v n bytes
is_named s v n bytes e =
    let p0 = passed _ _ _ e in
    let p1 = passed _ _ _ p0.1 in
    let p2 = passed _ _ _ p1.1 in
    let p3 = passed _ _ _ p2.1 in
    let p4 = passed _ _ _ p3.1 in
    let p5 = passed _ _ _ p4.1 in
    let p6 = passed _ _ _ p5.1 in
    let p7 = passed _ _ _ p6.1 in
    let least : record_len s ≤ length bytes = leb-true _ _ p3.0 in
    let most : length bytes ≤ record_len s = leb-true _ _ p4.0 in
    record {
      form = p1.0;
      kind = p2.0;
      len = omega arith;
      digest = (bytes_eq-Decides _ _).0 p5.0;
      v_is = eqb-true _ _ p6.0;
      n_is = eqb-true _ _ p7.0;
      values = p7.1;
    }

two_bytes : (a b : ℕ) (bytes : List ℕ) → 2 ≤ length bytes → slice_index bytes 0 ≡ a → slice_index bytes 1 ≡ b → Spells 0 2 (a ∷ b ∷ []) bytes
two_bytes a b [] le first second = absurd (omega (arith, le))
two_bytes a b (x ∷ []) le first second = absurd (omega (arith, le))
two_bytes a b (x ∷ y ∷ rest) le first second = record { is = ap (λ (k : ℕ). k ∷ y ∷ rest) first ∙ ap (λ (k : ℕ). a ∷ k ∷ rest) second }

-- form, kind, vertex and number
pub head_spells : (form kind v n : ℕ) (bytes : List ℕ) → IsBytes bytes → 14 ≤ length bytes → slice_index bytes 0 ≡ form → slice_index bytes 1 ≡ kind
    → number_at w32 2 bytes ≡ v → number_at w64 6 bytes ≡ n → Spells 0 14 (form ∷ kind ∷ number_bytes w32 v ++ number_bytes w64 n) bytes
head_spells form kind v n bytes fits le is_form is_kind v_is n_is =
    let first = two_bytes form kind bytes (omega (arith, le)) is_form is_kind in
    let second : Spells 2 6 (number_bytes w32 v) bytes = subst (λ (k : ℕ). Spells 2 6 (number_bytes w32 k) bytes) v_is (number_at-spells w32 wide32 2 bytes fits (omega (arith, le))) in
    let third : Spells 6 14 (number_bytes w64 n) bytes = subst (λ (k : ℕ). Spells 6 14 (number_bytes w64 k) bytes) n_is (number_at-spells w64 wide64 6 bytes fits (omega (arith, le))) in
    Spells-append 0 6 14 _ _ bytes (Spells-append 0 2 6 _ _ bytes first second) third

found_key : (field : List ℕ) (key : Option ℕ) → key_in field ≡ key → is_some key ≡ true → IsFieldOf field (unwrap_or key 0)
found_key field (Some key) is found = key_in-is field key is
found_key field None is found = absurd cc

row_first : (row : Event) → (ltb row.start row.end && ltb row.end top) ≡ true → IsSome (next_bound 0 (Row row))
row_first row h =
    let p = and_parts (ltb row.start row.end) (ltb row.end top) h in
    let least : leb 0 row.start ≡ true = le-leb 0 row.start (omega arith) in
    rw (p.0, p.1, least) refl

cti_first : (time : ℕ) → (ltb 0 time && ltb time top) ≡ true → IsSome (next_bound 0 (Cti time))
cti_first time h = rw h refl

-- the bytes of the first two values of a row and of what stands before them
row_spells : (bytes : List ℕ) → IsBytes bytes → 62 ≤ length bytes → IsFieldOf (take 16 (drop 30 bytes)) (unwrap_or (key_at 30 bytes) 0)
    → Spells 14 62 (row_bytes (row_at bytes)) bytes
row_spells bytes fits le is_key =
    let start = number_at-spells w64 wide64 14 bytes fits (omega (arith, le)) in
    let end = number_at-spells w64 wide64 22 bytes fits (omega (arith, le)) in
    let field : Spells 30 46 (take 16 (drop 30 bytes)) bytes = record { is = sym (take-append-drop 16 (drop 30 bytes)) ∙ ap (λ (t : List ℕ). take 16 (drop 30 bytes) ++ t) (drop-drop 16 30 bytes) } in
    let key_spells : Spells 30 46 (key_bytes (row_at bytes).key) bytes = subst (λ (t : List ℕ). Spells 30 46 t bytes) (sym is_key.bytes) field in
    let a = signed_at-spells 46 bytes fits (omega (arith, le)) in
    let b = signed_at-spells 54 bytes fits (omega (arith, le)) in
    Spells-append 14 54 62 _ _ bytes (Spells-append 14 46 54 _ _ bytes (Spells-append 14 30 46 _ _ bytes (Spells-append 14 22 30 _ _ bytes start end) key_spells) a) b

is_row : (v n : ℕ) (bytes : List ℕ) → IsBytes bytes → AreOf TwoValues (slice_index bytes 0) (slice_index bytes 1) → IsNamed TwoValues v n bytes
    → HasRecord (element_at TwoValues bytes) × (bytes ≡ record_bytes v n (element_at TwoValues bytes))
unfolding value_tests element_at record_bytes
is_row v n bytes fits tags named =
    let span = passed _ _ _ named.values in
    let key = passed _ _ _ span.1 in
    let len : length bytes ≡ 94 = named.len in
    let is_key = found_key (take 16 (drop 30 bytes)) (key_at 30 bytes) refl key.0 in
    let head = head_spells 1 0 v n bytes fits (omega (arith, len)) tags.0 tags.1 named.v_is named.n_is in
    let body = row_spells bytes fits (omega (arith, len)) is_key in
    let front : Spells 0 62 (old_front v n (Row (row_at bytes))) bytes = Spells-append 0 14 62 _ _ bytes head body in (
      record {
        first = row_first (row_at bytes) span.0;
        kept = record { is_key = is_key.is_key; a = signed_at-fits 46 bytes fits; b = signed_at-fits 54 bytes fits; c = omega arith; d = omega arith };
      },
      sealed_is (old_front v n (Row (row_at bytes))) bytes 62 front (length-old_front v n (row_at bytes)) named.digest
          ∙ ap sealed (sym (two_front v n (row_at bytes) refl)),
    )

not_false : (b : Bool) → not b ≡ true → b ≡ false
not_false true h = absurd cc
not_false false h = refl

is_long_row : (v n : ℕ) (bytes : List ℕ) → IsBytes bytes → AreOf FourValues (slice_index bytes 0) (slice_index bytes 1) → IsNamed FourValues v n bytes
    → HasRecord (element_at FourValues bytes) × (bytes ≡ record_bytes v n (element_at FourValues bytes))
unfolding value_tests element_at record_bytes
is_long_row v n bytes fits tags named =
    let row : Event = long_row_at bytes in
    let span = passed _ _ _ named.values in
    let key = passed _ _ _ span.1 in
    let long = passed _ _ _ key.1 in
    let len : length bytes ≡ 110 = named.len in
    let is_key = found_key (take 16 (drop 30 bytes)) (key_at 30 bytes) refl key.0 in
    let head = head_spells 2 0 v n bytes fits (omega (arith, len)) tags.0 tags.1 named.v_is named.n_is in
    let first_two = row_spells bytes fits (omega (arith, len)) is_key in
    let c = signed_at-spells 62 bytes fits (omega (arith, len)) in
    let d = signed_at-spells 70 bytes fits (omega (arith, len)) in
    let body = Spells-append 14 62 78 _ _ bytes first_two (Spells-append 62 70 78 _ _ bytes c d) in
    let front : Spells 0 78 (long_front v n (long_row_at bytes)) bytes = Spells-append 0 14 78 _ _ bytes head body in (
      record {
        first = row_first (long_row_at bytes) span.0;
        kept = record { is_key = is_key.is_key; a = signed_at-fits 46 bytes fits; b = signed_at-fits 54 bytes fits; c = signed_at-fits 62 bytes fits; d = signed_at-fits 70 bytes fits };
      },
      sealed_is (long_front v n (long_row_at bytes)) bytes 78 front (length-long_front v n (long_row_at bytes)) named.digest
          ∙ ap sealed (sym (four_front v n (long_row_at bytes) (not_false (has_two_values (long_row_at bytes)) long.0))),
    )

is_cti : (v n : ℕ) (bytes : List ℕ) → IsBytes bytes → AreOf Time (slice_index bytes 0) (slice_index bytes 1) → IsNamed Time v n bytes
    → HasRecord (element_at Time bytes) × (bytes ≡ record_bytes v n (element_at Time bytes))
unfolding value_tests element_at record_bytes
is_cti v n bytes fits tags named =
    let time : (ltb 0 (number_at w64 14 bytes) && ltb (number_at w64 14 bytes) top) ≡ true = (passed _ _ _ named.values).0 in
    let len : length bytes ≡ 54 = named.len in
    let head = head_spells 1 1 v n bytes fits (omega (arith, len)) tags.0 tags.1 named.v_is named.n_is in
    let body : Spells 14 22 (number_bytes w64 (number_at w64 14 bytes)) bytes = number_at-spells w64 wide64 14 bytes fits (omega (arith, len)) in
    let front : Spells 0 22 (record_front v n (Cti (number_at w64 14 bytes))) bytes = Spells-append 0 14 22 _ _ bytes head body in (
      record { first = cti_first (number_at w64 14 bytes) time; kept = tt },
      sealed_is (record_front v n (Cti (number_at w64 14 bytes))) bytes 22 front (omega (arith, length-front v n (Cti (number_at w64 14 bytes)))) named.digest,
    )

is_end : (v n : ℕ) (bytes : List ℕ) → IsBytes bytes → AreOf TheEnd (slice_index bytes 0) (slice_index bytes 1) → IsNamed TheEnd v n bytes
    → HasRecord (element_at TheEnd bytes) × (bytes ≡ record_bytes v n (element_at TheEnd bytes))
unfolding value_tests element_at record_bytes
is_end v n bytes fits tags named =
    let len : length bytes ≡ 46 = named.len in
    let head = head_spells 1 2 v n bytes fits (omega (arith, len)) tags.0 tags.1 named.v_is named.n_is in
    let front : Spells 0 14 (record_front v n End) bytes = record { is = head.is ∙ ap (λ (t : List ℕ). t ++ drop 14 bytes) (sym (append-nil (1 ∷ 2 ∷ number_bytes w32 v ++ number_bytes w64 n))) } in (
      record { first = refl; kept = tt },
      sealed_is (record_front v n End) bytes 14 front (omega (arith, length-front v n End)) named.digest,
    )

is_record : (s : Shape) (v n : ℕ) (bytes : List ℕ) → IsBytes bytes → AreOf s (slice_index bytes 0) (slice_index bytes 1) → IsNamed s v n bytes
    → HasRecord (element_at s bytes) × (bytes ≡ record_bytes v n (element_at s bytes))
is_record TwoValues v n bytes fits tags named = is_row v n bytes fits tags named
is_record FourValues v n bytes fits tags named = is_long_row v n bytes fits tags named
is_record Time v n bytes fits tags named = is_cti v n bytes fits tags named
is_record TheEnd v n bytes fits tags named = is_end v n bytes fits tags named

read_if : (P : Element → Type 0) (fault : Option CodecFault) (x : Element) → (fault ≡ None → P x) → IfOk (option_map_or {T = CodecFault} (λ f. Err f) fault (Ok x)) P
read_if P None x h = h refl
read_if P (Some fault) x h = tt

-- what is read has a record, and it is these bytes
pub read_is_record : (v n : ℕ) (bytes : List ℕ) → IsBytes bytes → IfOk (record_read v n bytes) (λ x. HasRecord x × (bytes ≡ record_bytes v n x))
unfolding record_read
read_is_record v n bytes fits =
    let s : Shape = shape_of (slice_index bytes 0) (slice_index bytes 1) in
    read_if (λ x. HasRecord x × (bytes ≡ record_bytes v n x)) (first_fault (record_tests s v n bytes)) (element_at s bytes)
    (λ none.
    let named = is_named s v n bytes none in
    is_record s v n bytes fits (are_of (slice_index bytes 0) (slice_index bytes 1) named.form named.kind) named)

-- ---- no record begins another

pub length-record : (v n : ℕ) (x : Element) → length (record_bytes v n x) ≡ record_len (shape x)
unfolding record_bytes
length-record v n x = omega (arith, length-sealed (record_front v n x), length-front v n x)

pub short-record : (v n : ℕ) (x : Element) → length (record_bytes v n x) < 2 ^ 32
short-record v n x = omega (arith, length-record v n x, record_len-le (shape x))

pub no_record_begins : (v n w m : ℕ) (x y : Element) (rest : List ℕ) → record_bytes v n x ≡ record_bytes w m y ++ rest → rest ≡ []
unfolding record_bytes
no_record_begins v n w m x y rest e =
    let form : form_number x ≡ form_number y = ap (λ (t : List ℕ). slice_index t 0) e in
    let kind : kind_number x ≡ kind_number y = ap (λ (t : List ℕ). slice_index t 1) e in
    let len : record_len (shape x) ≡ record_len (shape y) =
    ap (λ (f : ℕ). record_len (shape_of f (kind_number x))) form ∙ ap (λ (k : ℕ). record_len (shape_of (form_number y) k)) kind in
    nil_from_length rest (omega (arith, len, ap length e, length-append (record_bytes w m y) rest, length-record v n x, length-record w m y))

is_refused : (v n : ℕ) (x : Element) (bytes rest : List ℕ) (r : Result Element CodecFault) → record_bytes v n x ≡ bytes ++ rest → rest ≢ []
    → IfOk r (λ y. HasRecord y × (bytes ≡ record_bytes v n y)) → IsErr r
is_refused v n x bytes rest (Ok y) e some h = absurd (some (no_record_begins v n v n x y rest (e ∙ ap (λ (t : List ℕ). t ++ rest) h.1)))
is_refused v n x bytes rest (Err fault) e some h = refl

-- bytes that lack the end of a record are refused
pub short_is_refused : (v n : ℕ) (x : Element) (bytes rest : List ℕ) → IsBytes bytes → record_bytes v n x ≡ bytes ++ rest → rest ≢ [] → IsErr (record_read v n bytes)
short_is_refused v n x bytes rest fits e some = is_refused v n x bytes rest (record_read v n bytes) e some (read_is_record v n bytes fits)
