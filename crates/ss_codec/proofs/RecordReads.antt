-- A record passes every test and is read as its element.
use Rattle.std.proofs.Common.{◌≡◌, ℕ, zero, suc, ◌^◌, ◌<◌, Bool, true, false, cond, leb, ltb, eqb, not, List, [], ◌∷◌, ◌++◌, length, take, drop, Option, Some, None, Ok, Err, refl, sym, ap, ◌∙◌, append_assoc, inl, inr, arith}
use Rattle.std.specs.Prelude.{ℤ, pos, negsuc, nat_abs, ◌&&◌, IsSome, is_some, unwrap_or, slice_index}
use Rattle.std.specs.Option.{option_map_or}
use Rattle.std.specs.Int.{w32, w64, cast_unsigned}
use Rattle.std.proofs.lemmas.Bool.{cases_Bool, and_parts, and_from, eqb-true, eq-eqb, le-leb, ltb-true, lt-ltb}
use Rattle.std.proofs.lemmas.List.{append-nil, take_at}
use Rattle.sha2.specs.Sha256.{sha256}
use Rattle.ss_elem.specs.declared.element.Event.{Event}
use Rattle.ss_elem.specs.declared.element.Element.{Element}
use Rattle.ss_elem.specs.declared.element.Element.TheVariants.{Row, Cti, End}
use Rattle.ss_elem.specs.Rows.{has_two_values}
use Rattle.ss_elem.specs.Validity.{next_bound, top}
use Rattle.ss_codec.specs.declared.fault.CodecFault.{CodecFault}
use Rattle.ss_codec.specs.Laws.{OldRecordsAreRead}
use Rattle.ss_codec.specs.Numbers.{number_at, number_bytes, signed_at, signed_bytes}
use Rattle.ss_codec.specs.OldRecords.{IsOld, old_front, old_record}
use Rattle.ss_codec.specs.Record.{HasRecord, key_bytes, record_bytes, record_front, row_bytes, sealed}
use Rattle.ss_codec.specs.RecordTests.{Shape, TwoValues, FourValues, Time, TheEnd, element_at, key_at, key_in, long_row_at, record_read, record_tests, shape_of, value_tests}
use Rattle.ss_codec.specs.Tests.{first_fault}
use Rattle.ss_codec.proofs.Bytes.{drop_past, length-number_bytes, number_at-is, signed_at-is, wide32, wide64}
use Rattle.ss_codec.proofs.Fronts.{four_front, length-front, length-long_front, length-old_front, long_front, two_front}
use Rattle.ss_codec.proofs.Keys.{key_in-key_bytes, length-key_bytes}
use Rattle.ss_codec.proofs.Seals.{is_sealed, length-sealed, passes}

-- bytes pass the tests of their shape, and say this element
pub record Says (s : Shape) (v n : ℕ) (x : Element) (bytes : List ℕ) : Type 0 where
  pub shape : shape_of (slice_index bytes 0) (slice_index bytes 1) ≡ s
  pub tests : first_fault (record_tests s v n bytes) ≡ None
  pub element : element_at s bytes ≡ x

is_read : (s : Shape) (v n : ℕ) (x : Element) (bytes : List ℕ) → Says s v n x bytes → record_read v n bytes ≡ Ok x
unfolding record_read
is_read s v n x bytes says =
    ap (λ (t : Shape). option_map_or {T = CodecFault} (λ f. Err f) (first_fault (record_tests t v n bytes)) (Ok (element_at t bytes))) says.shape
    ∙ ap (λ (f : Option CodecFault). option_map_or {T = CodecFault} (λ g. Err g) f (Ok (element_at s bytes))) says.tests
    ∙ ap (λ (y : Element). Ok y) says.element

-- ---- rows

-- the bytes of a row behind its form and kind, field by field
row_grouped : (a b c d e f g rest : List ℕ) → a ++ b ++ (c ++ d ++ e ++ f ++ g) ++ rest ≡ a ++ (b ++ (c ++ (d ++ (e ++ (f ++ (g ++ rest))))))
row_grouped a b c d e f g rest = simp append_assoc

long_grouped : (a b row last rest : List ℕ) → a ++ b ++ (row ++ last) ++ rest ≡ a ++ b ++ row ++ (last ++ rest)
long_grouped a b row last rest = simp append_assoc

abbrev row_fields : ℕ → ℕ → Event → List ℕ → List ℕ
row_fields v n row rest =
    number_bytes w32 v ++ (number_bytes w64 n ++ (number_bytes w64 row.start ++ (number_bytes w64 row.end ++ (key_bytes row.key ++ (signed_bytes row.a ++ (signed_bytes row.b ++ rest))))))

row_parts : (v n : ℕ) (row : Event) (rest : List ℕ) → number_bytes w32 v ++ number_bytes w64 n ++ row_bytes row ++ rest ≡ row_fields v n row rest
row_parts v n row rest =
    row_grouped (number_bytes w32 v) (number_bytes w64 n) (number_bytes w64 row.start) (number_bytes w64 row.end) (key_bytes row.key) (signed_bytes row.a) (signed_bytes row.b) rest

some_if : (b : Bool) (k : ℕ) → IsSome (cond b (Some k) None) → b ≡ true
some_if true k h = refl
some_if false k h = absurd cc

row_span : (row : Event) → IsSome (next_bound 0 (Row row)) → (row.start < row.end) × (row.end < top)
row_span row h =
    let p = and_parts _ _ (some_if (ltb row.end top && ltb row.start row.end && leb 0 row.start) 0 h) in
    let q = and_parts (ltb row.end top) (ltb row.start row.end) p.0 in
    (ltb-true row.start row.end q.1, ltb-true row.end top q.0)

cti_span : (time : ℕ) → IsSome (next_bound 0 (Cti time)) → (0 < time) × (time < top)
cti_span time h =
    let p = and_parts _ _ (some_if (ltb 0 time && ltb time top) time h) in
    (ltb-true 0 time p.0, ltb-true time top p.1)

-- what stands in the fields of a row's record up to its second value, and what stands behind them
record RowSaid (v n : ℕ) (row : Event) (rest bytes : List ℕ) : Type 0 where
  v_is : number_at w32 2 bytes ≡ v
  n_is : number_at w64 6 bytes ≡ n
  in_span : (ltb (number_at w64 14 bytes) (number_at w64 22 bytes) && ltb (number_at w64 22 bytes) top) ≡ true
  start_is : number_at w64 14 bytes ≡ row.start
  end_is : number_at w64 22 bytes ≡ row.end
  key_is : key_at 30 bytes ≡ Some row.key
  a_is : signed_at 46 bytes ≡ row.a
  b_is : signed_at 54 bytes ≡ row.b
  behind : drop 62 bytes ≡ rest

row_said : (v n : ℕ) (row : Event) (rest bytes : List ℕ) → v < 2 ^ 32 → n < 2 ^ 64 → HasRecord (Row row) → drop 2 bytes ≡ row_fields v n row rest
    → RowSaid v n row rest bytes
row_said v n row rest bytes v_fits n_fits has d2 =
    let span = row_span row has.first in
    let d6 = drop_past 2 (number_bytes w32 v) _ bytes 4 d2 (length-number_bytes w32 wide32 v) in
    let d14 = drop_past 6 (number_bytes w64 n) _ bytes 8 d6 (length-number_bytes w64 wide64 n) in
    let d22 = drop_past 14 (number_bytes w64 row.start) _ bytes 8 d14 (length-number_bytes w64 wide64 row.start) in
    let d30 = drop_past 22 (number_bytes w64 row.end) _ bytes 8 d22 (length-number_bytes w64 wide64 row.end) in
    let d46 = drop_past 30 (key_bytes row.key) _ bytes 16 d30 (length-key_bytes row.key) in
    let d54 = drop_past 46 (signed_bytes row.a) _ bytes 8 d46 (length-number_bytes w64 wide64 (cast_unsigned w64 row.a)) in
    let d62 = drop_past 54 (signed_bytes row.b) _ bytes 8 d54 (length-number_bytes w64 wide64 (cast_unsigned w64 row.b)) in
    let start_is = number_at-is w64 wide64 14 row.start _ bytes (omega (arith, span.0, span.1)) d14 in
    let end_is = number_at-is w64 wide64 22 row.end _ bytes (omega (arith, span.1)) d22 in
    let field : take 16 (drop 30 bytes) ≡ key_bytes row.key = ap (take 16) d30 ∙ take_at (key_bytes row.key) _ 16 (length-key_bytes row.key) in
    record {
      v_is = number_at-is w32 wide32 2 v _ bytes v_fits d2;
      n_is = number_at-is w64 wide64 6 n _ bytes n_fits d6;
      in_span = and_from _ _ (lt-ltb (number_at w64 14 bytes) (number_at w64 22 bytes) (rw (start_is, end_is) span.0)) (lt-ltb (number_at w64 22 bytes) top (rw end_is span.1));
      start_is = start_is;
      end_is = end_is;
      key_is = ap key_in field ∙ key_in-key_bytes row.key has.kept.is_key;
      a_is = signed_at-is 46 row.a _ bytes has.kept.a d46;
      b_is = signed_at-is 54 row.b _ bytes has.kept.b d54;
      behind = d62;
    }

row_is : (row : Event) (s e k : ℕ) (a b c d : ℤ) → s ≡ row.start → e ≡ row.end → k ≡ row.key → a ≡ row.a → b ≡ row.b → c ≡ row.c → d ≡ row.d
    → Row (record { start = s; end = e; key = k; a = a; b = b; c = c; d = d }) ≡ Row row
row_is row s e k a b c d p q r t u w x =
    ap (λ (i : ℕ). Row (record { start = i; end = e; key = k; a = a; b = b; c = c; d = d })) p
    ∙ ap (λ (i : ℕ). Row (record { start = row.start; end = i; key = k; a = a; b = b; c = c; d = d })) q
    ∙ ap (λ (i : ℕ). Row (record { start = row.start; end = row.end; key = i; a = a; b = b; c = c; d = d })) r
    ∙ ap (λ (i : ℤ). Row (record { start = row.start; end = row.end; key = row.key; a = i; b = b; c = c; d = d })) t
    ∙ ap (λ (i : ℤ). Row (record { start = row.start; end = row.end; key = row.key; a = row.a; b = i; c = c; d = d })) u
    ∙ ap (λ (i : ℤ). Row (record { start = row.start; end = row.end; key = row.key; a = row.a; b = row.b; c = i; d = d })) w
    ∙ ap (λ (i : ℤ). Row (record { start = row.start; end = row.end; key = row.key; a = row.a; b = row.b; c = row.c; d = i })) x

none_is_zero : (z : ℤ) → eqb (nat_abs z) 0 ≡ true → pos 0 ≡ z
none_is_zero (pos zero) h = refl
none_is_zero (pos (suc n)) h = let e = eqb-true (suc n) 0 h in absurd (omega (arith, e))
none_is_zero (negsuc n) h = let e = eqb-true (suc n) 0 h in absurd (omega (arith, e))

two_says : (v n : ℕ) (row : Event) → v < 2 ^ 32 → n < 2 ^ 64 → HasRecord (Row row) → has_two_values row ≡ true → Says TwoValues v n (Row row) (old_record v n (Row row))
unfolding value_tests element_at
two_says v n row v_fits n_fits has two =
    let front : List ℕ = old_front v n (Row row) in
    let bytes : List ℕ = sealed front in
    let seal = is_sealed front 62 (length-old_front v n row) in
    let said = row_said v n row (sha256 front) bytes v_fits n_fits has (row_parts v n row (sha256 front)) in
    let zeros = and_parts _ _ two in
    record {
      shape = refl;
      tests =
          passes _ _ _ (le-leb 2 (length bytes) (omega (arith, length-sealed front, length-old_front v n row)))
          (passes _ _ _ seal.least (passes _ _ _ seal.most (passes _ _ _ seal.digest
          (passes _ _ _ (eq-eqb _ _ said.v_is) (passes _ _ _ (eq-eqb _ _ said.n_is) (passes _ _ _ said.in_span (passes _ _ _ (ap is_some said.key_is) refl)))))));
      element = row_is row _ _ _ _ _ _ _ said.start_is said.end_is (ap (λ (k : Option ℕ). unwrap_or k 0) said.key_is) said.a_is said.b_is
          (none_is_zero row.c zeros.0) (none_is_zero row.d zeros.1);
    }

four_says : (v n : ℕ) (row : Event) → v < 2 ^ 32 → n < 2 ^ 64 → HasRecord (Row row) → has_two_values row ≡ false → Says FourValues v n (Row row) (sealed (long_front v n row))
unfolding value_tests element_at
four_says v n row v_fits n_fits has four =
    let front : List ℕ = long_front v n row in
    let bytes : List ℕ = sealed front in
    let seal = is_sealed front 78 (length-long_front v n row) in
    let d2 : drop 2 bytes ≡ row_fields v n row (signed_bytes row.c ++ signed_bytes row.d ++ sha256 front) =
    long_grouped (number_bytes w32 v) (number_bytes w64 n) (row_bytes row) (signed_bytes row.c ++ signed_bytes row.d) (sha256 front)
    ∙ row_parts v n row (signed_bytes row.c ++ signed_bytes row.d ++ sha256 front) in
    let said = row_said v n row (signed_bytes row.c ++ signed_bytes row.d ++ sha256 front) bytes v_fits n_fits has d2 in
    let d62 : drop 62 bytes ≡ signed_bytes row.c ++ (signed_bytes row.d ++ sha256 front) = said.behind ∙ append_assoc (signed_bytes row.c) (signed_bytes row.d) (sha256 front) in
    let d70 = drop_past 62 (signed_bytes row.c) _ bytes 8 d62 (length-number_bytes w64 wide64 (cast_unsigned w64 row.c)) in
    let c_is : signed_at 62 bytes ≡ row.c = signed_at-is 62 row.c _ bytes has.kept.c d62 in
    let d_is : signed_at 70 bytes ≡ row.d = signed_at-is 70 row.d _ bytes has.kept.d d70 in
    let long : not (has_two_values (long_row_at bytes)) ≡ true =
    ap (λ (c : ℤ). not (eqb (nat_abs c) 0 && eqb (nat_abs (signed_at 70 bytes)) 0)) c_is
    ∙ ap (λ (d : ℤ). not (eqb (nat_abs row.c) 0 && eqb (nat_abs d) 0)) d_is ∙ ap not four in
    record {
      shape = refl;
      tests =
          passes _ _ _ (le-leb 2 (length bytes) (omega (arith, length-sealed front, length-long_front v n row)))
          (passes _ _ _ seal.least (passes _ _ _ seal.most (passes _ _ _ seal.digest
          (passes _ _ _ (eq-eqb _ _ said.v_is) (passes _ _ _ (eq-eqb _ _ said.n_is) (passes _ _ _ said.in_span (passes _ _ _ (ap is_some said.key_is)
          (passes _ _ _ long refl))))))));
      element = row_is row _ _ _ _ _ _ _ said.start_is said.end_is (ap (λ (k : Option ℕ). unwrap_or k 0) said.key_is) said.a_is said.b_is c_is d_is;
    }

row_read : (v n : ℕ) (row : Event) → v < 2 ^ 32 → n < 2 ^ 64 → HasRecord (Row row) → record_read v n (record_bytes v n (Row row)) ≡ Ok (Row row)
unfolding record_bytes
row_read v n row v_fits n_fits has =
    elim (cases_Bool (has_two_values row)) [
      | inl two ↦ ap (λ (f : List ℕ). record_read v n (sealed f)) (two_front v n row two)
          ∙ is_read TwoValues v n (Row row) (old_record v n (Row row)) (two_says v n row v_fits n_fits has two)
      | inr four ↦ ap (λ (f : List ℕ). record_read v n (sealed f)) (four_front v n row four)
          ∙ is_read FourValues v n (Row row) (sealed (long_front v n row)) (four_says v n row v_fits n_fits has four)
    ]

-- ---- times and ends

four_grouped : (a b c rest : List ℕ) → a ++ b ++ c ++ rest ≡ a ++ (b ++ (c ++ rest))
four_grouped a b c rest = simp append_assoc

cti_says : (v n time : ℕ) → v < 2 ^ 32 → n < 2 ^ 64 → HasRecord (Cti time) → Says Time v n (Cti time) (record_bytes v n (Cti time))
unfolding record_bytes value_tests element_at
cti_says v n time v_fits n_fits has =
    let front : List ℕ = record_front v n (Cti time) in
    let bytes : List ℕ = sealed front in
    let seal = is_sealed front 22 (omega (arith, length-front v n (Cti time))) in
    let span = cti_span time has.first in
    let grouped : front ++ sha256 front ≡ 1 ∷ 1 ∷ (number_bytes w32 v ++ (number_bytes w64 n ++ (number_bytes w64 time ++ sha256 front))) =
    ap (λ (t : List ℕ). 1 ∷ 1 ∷ t) (four_grouped (number_bytes w32 v) (number_bytes w64 n) (number_bytes w64 time) (sha256 front)) in
    let d2 : drop 2 bytes ≡ _ = ap (drop 2) grouped in
    let d6 = drop_past 2 (number_bytes w32 v) _ bytes 4 d2 (length-number_bytes w32 wide32 v) in
    let d14 = drop_past 6 (number_bytes w64 n) _ bytes 8 d6 (length-number_bytes w64 wide64 n) in
    let v_is = number_at-is w32 wide32 2 v _ bytes v_fits d2 in
    let n_is = number_at-is w64 wide64 6 n _ bytes n_fits d6 in
    let time_is = number_at-is w64 wide64 14 time _ bytes (omega (arith, span.1)) d14 in
    let in_span : (ltb 0 (number_at w64 14 bytes) && ltb (number_at w64 14 bytes) top) ≡ true =
    and_from _ _ (lt-ltb 0 (number_at w64 14 bytes) (rw time_is span.0)) (lt-ltb (number_at w64 14 bytes) top (rw time_is span.1)) in
    record {
      shape = refl;
      tests =
          passes _ _ _ (le-leb 2 (length bytes) (omega (arith, length-sealed front, length-front v n (Cti time))))
          (passes _ _ _ seal.least (passes _ _ _ seal.most (passes _ _ _ seal.digest
          (passes _ _ _ (eq-eqb _ _ v_is) (passes _ _ _ (eq-eqb _ _ n_is) (passes _ _ _ in_span refl))))));
      element = ap (λ (t : ℕ). Cti t) time_is;
    }

end_says : (v n : ℕ) → v < 2 ^ 32 → n < 2 ^ 64 → Says TheEnd v n End (record_bytes v n End)
unfolding record_bytes value_tests element_at
end_says v n v_fits n_fits =
    let front : List ℕ = record_front v n End in
    let bytes : List ℕ = sealed front in
    let seal = is_sealed front 14 (omega (arith, length-front v n End)) in
    let grouped : front ++ sha256 front ≡ 1 ∷ 2 ∷ (number_bytes w32 v ++ (number_bytes w64 n ++ sha256 front)) =
    ap (λ (t : List ℕ). 1 ∷ 2 ∷ t) (four_grouped (number_bytes w32 v) (number_bytes w64 n) [] (sha256 front)) in
    let d2 : drop 2 bytes ≡ _ = ap (drop 2) grouped in
    let d6 = drop_past 2 (number_bytes w32 v) _ bytes 4 d2 (length-number_bytes w32 wide32 v) in
    let v_is = number_at-is w32 wide32 2 v _ bytes v_fits d2 in
    let n_is = number_at-is w64 wide64 6 n _ bytes n_fits d6 in
    record {
      shape = refl;
      tests =
          passes _ _ _ (le-leb 2 (length bytes) (omega (arith, length-sealed front, length-front v n End)))
          (passes _ _ _ seal.least (passes _ _ _ seal.most (passes _ _ _ seal.digest
          (passes _ _ _ (eq-eqb _ _ v_is) (passes _ _ _ (eq-eqb _ _ n_is) refl)))));
      element = refl;
    }

-- a record is read as its element
pub record_is_read : (v n : ℕ) (x : Element) → v < 2 ^ 32 → n < 2 ^ 64 → HasRecord x → record_read v n (record_bytes v n x) ≡ Ok x
record_is_read v n (Row row) v_fits n_fits has = row_read v n row v_fits n_fits has
record_is_read v n (Cti time) v_fits n_fits has = is_read Time v n (Cti time) (record_bytes v n (Cti time)) (cti_says v n time v_fits n_fits has)
record_is_read v n End v_fits n_fits has = is_read TheEnd v n End (record_bytes v n End) (end_says v n v_fits n_fits)

-- ---- old records

is_old : (v n : ℕ) (x : Element) → IsOld x → record_bytes v n x ≡ old_record v n x
unfolding record_bytes
is_old v n (Row row) old = ap sealed (two_front v n row old)
is_old v n (Cti time) old = refl
is_old v n End old = ap sealed (append-nil (1 ∷ 2 ∷ number_bytes w32 v ++ number_bytes w64 n))

pub old_is_read : OldRecordsAreRead
old_is_read v n x v_fits n_fits has old =
    (is_old v n x old, ap (record_read v n) (sym (is_old v n x old)) ∙ record_is_read v n x v_fits n_fits has)
