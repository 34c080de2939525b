-- A read takes the first of the records that are left.
use Rattle.std.proofs.Common.{subst, inl, add-one, ◌≡◌, ◌<◌, ◌≤◌, ◌+◌, ℕ, zero, suc, List, [], ◌∷◌, ◌++◌, length, Bool, true, false, Option, Some, None, refl, sym, ap, arith, ◌∙◌, cond}
use Rattle.std.specs.Prelude.{◌==◌, ◌-◌, IsSome, IfSome, ◌||◌}
use Rattle.std.specs.Borrow.{Bor}
use Rattle.std.specs.Bool.{MatchBool}
use Rattle.csv.specs.Machine.{Read, after_end, ends_at_end, field_after, fields_after, in_field, is_end, next_record, start_field, start_record, step}
use Rattle.csv.specs.Reading.{Reached, ReadRecord, default_config, is_flexible, reader_state, records_from, records_next, took_first}
use Rattle.csv.specs.declared.reader.Reader.{Reader}
use Rattle.csv.proofs.ReadFacts.{rows-end, rows-more}
use Rattle.ss_events.specs.Records.{IsReading, records_after, records_left, source}
use Rattle.csv.specs.declared.parser.Action.{Action}
use Rattle.csv.specs.declared.parser.State.{State}
use Rattle.csv.specs.declared.parser.State.TheVariants as st

-- what a step leaves, where it ends a record
abbrev Between : State × Action → Type 0
Between next = is_end next.1 ≡ true → ends_at_end next.0 ≡ false

choice : (test : Bool) (a b : State × Action) → Between a → Between b → Between (cond test a b)
choice true a b x y = x
choice false a b x y = y

after-end : (c : ℕ) → ends_at_end (after_end default_config.terminator c) ≡ false
after-end c = elim (c == 13) as (λ b. ends_at_end (cond b st.AfterCr st.StartRecord) ≡ false) [ true ↦ refl | false ↦ refl ]

in-field : (c : ℕ) → Between (in_field default_config c)
in-field c =
    choice (c == 44) _ _ (λ e. cc) (choice ((c == 13) || (c == 10)) _ _ (λ e. after-end c) (λ e. cc))

start-field : (c : ℕ) → Between (start_field default_config c)
start-field c = choice (c == 34) _ _ (λ e. cc) (in-field c)

start-record : (c : ℕ) → Between (start_record default_config c)
start-record c = choice ((c == 13) || (c == 10)) _ _ (λ e. cc) (start-field c)

step-between : (s : State) (c : ℕ) → Between (step default_config s c)
step-between st.StartRecord c = start-record c
step-between st.StartField c = start-field c
step-between st.InField c = in-field c
step-between st.InQuoted c = choice (c == 34) _ _ (λ e. cc) (λ e. cc)
step-between st.InEscape c = λ e. cc
step-between st.AfterQuote c = choice (c == 34) _ _ (λ e. cc) (in-field c)
step-between st.InComment c = choice (c == 10) _ _ (λ e. cc) (λ e. cc)
step-between st.AfterCr c = choice (c == 10) _ _ (λ e. cc) (start-record c)

-- what a read leaves: a state between records, and fewer bytes where there was one
abbrev Leaves : List ℕ → Read → Type 0
Leaves xs read = (ends_at_end read.1 ≡ false) × (length read.2 ≤ length xs - 1)

longer : (c : ℕ) (rest : List ℕ) (found : Option Read) → IfSome found (Leaves rest) → IfSome found (Leaves (c ∷ rest))
longer c rest None h = h
longer c rest (Some read) h = (h.0, omega (arith, h.1))

leaves : (s : State) (fields : List (List ℕ)) (field xs : List ℕ) → IfSome (next_record default_config s fields field xs) (Leaves xs)
unfolding next_record
leaves s fields field [] =
    elim (ends_at_end s) as (λ b. IfSome (cond b (Some (fields ++ (field ∷ []), st.StartRecord, [])) None) (Leaves [])) [
      | true ↦ (refl, omega arith)
      | false ↦ tt
    ]
leaves s fields field (c ∷ rest) =
    let next = step default_config s c in
    let fields2 = fields_after next.1 fields field in
    elim (is_end next.1) as (λ b. is_end next.1 ≡ b → IfSome (cond b (Some (fields2, next.0, rest)) (next_record default_config next.0 fields2 (field_after next.1 c field) rest)) (Leaves (c ∷ rest))) [
      | true ↦ λ ended. (step-between s c ended, omega arith)
      | false ↦ λ goes. longer c rest _ (leaves next.0 fields2 (field_after next.1 c field) rest)
    ] refl

same-rest : (m n c : ℕ) (rest : List ℕ) (found : Option Read) → IfSome found (Leaves (c ∷ rest)) → length rest < m → length rest < n
    → ((s : State) (xs : List ℕ) → ends_at_end s ≡ false → length xs < m → length xs < n → records_from default_config m s xs ≡ records_from default_config n s xs)
    → records_next (records_from default_config m) found ≡ records_next (records_from default_config n) found
same-rest m n c rest None left below_m below_n same = refl
same-rest m n c rest (Some read) left below_m below_n same =
    ap (λ (rows : List (List (List ℕ))). read.0 ∷ rows) (same read.1 read.2 left.0 (omega (arith, left.1)) (omega (arith, left.1)))

-- any count of turns above the number of bytes gives all the records
enough : (m n : ℕ) (s : State) (xs : List ℕ) → ends_at_end s ≡ false → length xs < m → length xs < n
    → records_from default_config m s xs ≡ records_from default_config n s xs
unfolding records_from next_record
enough zero n s xs between below_m below_n = absurd (omega arith)
enough (suc m) zero s xs between below_m below_n = absurd (omega arith)
enough (suc m) (suc n) s [] between below_m below_n = rw between refl
enough (suc m) (suc n) s (c ∷ rest) between below_m below_n =
    same-rest m n c rest (next_record default_config s [] [] (c ∷ rest)) (leaves s [] [] (c ∷ rest)) (omega arith) (omega arith)
    (λ s2 xs between2 m2 n2. enough m n s2 xs between2 m2 n2)

bytes-of : (known : Option (List ℕ)) → IsSome known → (bytes : List ℕ) × (known ≡ Some bytes)
bytes-of None h = cc h
bytes-of (Some bytes) h = (bytes, refl)

-- what a read that found a record leaves
pub record Taken (old new : Reader (Bor (List ℕ))) (fields : List (List ℕ)) : Type 0 where
  pub first : records_after (source old) (reader_state old) ≡ fields ∷ records_after (source new) (reader_state new)
  pub known : IsSome (source new)
  pub between : ends_at_end (reader_state new) ≡ false

left-by : (s : State) (xs : List ℕ) (read : Read) → next_record default_config s [] [] xs ≡ Some read → Leaves xs read
left-by s xs read e = let P : Option Read → Type 0 = λ found. IfSome found (Leaves xs) in subst P e (leaves s [] [] xs)

first-of : (s : State) (xs : List ℕ) (read : Read) → ends_at_end s ≡ false → next_record default_config s [] [] xs ≡ Some read
    → records_from default_config (length xs + 1) s xs ≡ read.0 ∷ records_from default_config (length read.2 + 1) read.1 read.2
unfolding records_from next_record
first-of s [] read between e = absurd (let h : ◌≡◌ {A = Option Read} None (Some read) = rw between at e in cc h)
first-of s (c ∷ rest) read between e =
    let left = left-by s (c ∷ rest) read e in
    let same = enough (suc (length rest)) (length read.2 + 1) read.1 read.2 left.0 (omega (arith, left.1)) (omega arith) in
    rw (add-one (length (c ∷ rest)))
    (ap (records_next (records_from default_config (suc (length rest)))) e ∙ ap (λ (rows : List (List (List ℕ))). read.0 ∷ rows) same)

taken : (old new : Reader (Bor (List ℕ))) (fields : List (List ℕ)) (bytes : List ℕ) → IsReading old → source old ≡ Some bytes
    → (rest : List ℕ) × (source new ≡ Some rest) × Reached default_config (reader_state old) bytes (fields ∷ []) (reader_state new) rest
    → Taken old new fields
unfolding Reached
taken old new fields bytes reading known step =
    let read = step.2.0 in
    let left = left-by (reader_state old) bytes read step.2.1 in
    let all = first-of (reader_state old) bytes read reading.between step.2.1 in
    record {
      first =
          ap (λ (o : Option (List ℕ)). records_after o (reader_state old)) known
          ∙ all
          ∙ ap (λ (r : List (List ℕ)). r ∷ records_after (Some read.2) read.1) (sym step.2.2)
          ∙ ap (λ (s : State). fields ∷ records_after (Some read.2) s) step.2.3.0
          ∙ ap (λ (ys : List ℕ). fields ∷ records_after (Some ys) (reader_state new)) step.2.3.1
          ∙ ap (λ (o : Option (List ℕ)). fields ∷ records_after o (reader_state new)) (sym step.1);
      known = rw (step.1) refl;
      between = ap ends_at_end (sym step.2.3.0) ∙ left.0;
    }

pub takes : (old new : Reader (Bor (List ℕ))) (fields : List (List ℕ)) → IsReading old
    → ReadRecord (λ (slice : Bor (List ℕ)). Some slice.now) old new true fields → Taken old new fields
unfolding Reached
takes old new fields reading read =
    let known = bytes-of (source old) reading.known in
    taken old new fields known.0 reading known.1
    (rows-more (λ (slice : Bor (List ℕ)). Some slice.now) old new fields default_config (reader_state old) known.0 known.0 [] reading.config known.1 (refl, refl) read)

-- a read that found none: there was none
pub ends : (old new : Reader (Bor (List ℕ))) (fields : List (List ℕ)) → IsReading old
    → ReadRecord (λ (slice : Bor (List ℕ)). Some slice.now) old new false fields → records_after (source old) (reader_state old) ≡ []
unfolding records_from
ends old new fields reading read =
    let known = bytes-of (source old) reading.known in
    let none = rows-end (λ (slice : Bor (List ℕ)). Some slice.now) old new fields default_config known.0 reading.config known.1 read in
    rw (known.1, add-one (length known.0), none) refl

-- a reader that found a record stands between two again
pub goes-on : (old new : Reader (Bor (List ℕ))) (fields : List (List ℕ)) → IsReading old
    → ReadRecord (λ (slice : Bor (List ℕ)). Some slice.now) old new true fields → took_first new ≡ true → is_flexible new ≡ is_flexible old → IsReading new
goes-on old new fields reading read first flexible =
    let taken = takes old new fields reading read in
    record {
      config = read.2 ∙ reading.config;
      trim = read.3 ∙ reading.trim;
      ready = inl first;
      flexible = flexible ∙ reading.flexible;
      known = taken.known;
      between = taken.between;
    }

-- the record that was read is the first of those that were left
pub row-or-end : (old new : Reader (Bor (List ℕ))) (found : Bool) (fields : List (List ℕ)) → IsReading old
    → ReadRecord (λ (slice : Bor (List ℕ)). Some slice.now) old new found fields
    → MatchBool found
    (records_after (source old) (reader_state old) ≡ fields ∷ records_left found (source new) (reader_state new))
    (records_after (source old) (reader_state old) ≡ [])
row-or-end old new true fields reading read = (takes old new fields reading read).first
row-or-end old new false fields reading read = ends old new fields reading read
