use Rattle.std.proofs.Common.{◌≡◌, ℕ, suc, ◌+◌, ◌-◌, ◌*◌, ◌≤◌, ◌==◌, Bool, true, false, ◌&&◌, length, take, drop, List, refl, sym, ap, subst, ◌∙◌, arith, eq-eqb, ◌⊎◌, inl, inr}
use Rattle.std.proofs.lemmas.Bool.{ne_eqb}
use Rattle.std.proofs.lemmas.List.{drop-drop, take_rest}
use Rattle.ss_image.specs.Numbers.{number_at}
use Rattle.ss_join.specs.ImageTests.{say_two_values}
use Rattle.ss_join.proofs.image_reader.say_two_values.Goals.{then-u64_at-ne0-via-then-u64_at-ne0, then-u64_at-ne0-via-else-u64_at-ne0+then-u64_at-ne0-2}
use Rattle.ss_join.proofs.image_reader.say_two_values.Goals as goal

-- a number in what is left of the bytes
there : (place n m : ℕ) (bytes : List ℕ) → m ≡ number_at 8 place (take (length bytes - 64 * n) (drop (64 * n) bytes)) → m ≡ number_at 8 place (drop (64 * n) bytes)
there place n m bytes h = h ∙ ap (number_at 8 place) (take_rest bytes (64 * n))

one : (count n : ℕ) (bytes : List ℕ) → 1 + n ≤ count
    → say_two_values (count - n) (drop (64 * n) bytes)
    ≡ ((number_at 8 48 (drop (64 * n) bytes) == 0 && number_at 8 56 (drop (64 * n) bytes) == 0) && say_two_values (count - (n + 1)) (drop (64 * (n + 1)) bytes))
unfolding say_two_values
one count n bytes le =
    let left : count - n ≡ suc (count - (n + 1)) = omega (arith, le) in
    let place : drop 64 (drop (64 * n) bytes) ≡ drop (64 * (n + 1)) bytes = drop-drop 64 (64 * n) bytes ∙ ap (λ (m : ℕ). drop m bytes) (omega arith) in
    ap (λ (m : ℕ). say_two_values m (drop (64 * n) bytes)) left
    ∙ ap (λ (xs : List ℕ). (number_at 8 48 (drop (64 * n) bytes) == 0 && number_at 8 56 (drop (64 * n) bytes) == 0) && say_two_values (count - (n + 1)) xs) place

and_false : (b : Bool) → (b && false) ≡ false
and_false true = refl
and_false false = refl

-- where one of its numbers isn't 0, not all rows of what is left say two values
not_zero : (count n place m : ℕ) (bytes : List ℕ) → (place ≡ 48) ⊎ (place ≡ 56) → 1 + n ≤ count → m ≡ number_at 8 place (drop (64 * n) bytes) → (m ≡ 0 → ⊥)
    → say_two_values (count - n) (drop (64 * n) bytes) ≡ false
not_zero count n place m bytes which le is other =
    one count n bytes le
    ∙ ap (λ b. b && say_two_values (count - (n + 1)) (drop (64 * (n + 1)) bytes)) (by_place which (ne_eqb (number_at 8 place (drop (64 * n) bytes)) 0 (λ e. other (is ∙ e))))
  where
    by_place : (place ≡ 48) ⊎ (place ≡ 56) → (number_at 8 place (drop (64 * n) bytes) == 0) ≡ false
        → (number_at 8 48 (drop (64 * n) bytes) == 0 && number_at 8 56 (drop (64 * n) bytes) == 0) ≡ false
    by_place (inl e) h =
        ap (λ b. b && number_at 8 56 (drop (64 * n) bytes) == 0) (subst (λ (k : ℕ). (number_at 8 k (drop (64 * n) bytes) == 0) ≡ false) e h)
    by_place (inr e) h =
        ap (λ b. number_at 8 48 (drop (64 * n) bytes) == 0 && b) (subst (λ (k : ℕ). (number_at 8 k (drop (64 * n) bytes) == 0) ≡ false) e h)
        ∙ and_false (number_at 8 48 (drop (64 * n) bytes) == 0)

pub returns-then-u64_at-ne0 : goal.returns-then-u64_at-ne0
returns-then-u64_at-ne0 c =
    let n = c.loop-number.number in
    let bytes = c.args.bytes.now in
    let le : 1 + n ≤ c.args.count = omega (arith, c.loop-number-test.true) in
    elim c.then-u64_at-ne0.branch [
      | then-u64_at-ne0-via-then-u64_at-ne0 w ↦
          sym (not_zero c.args.count n 48 c.u64_at.result bytes (inl refl) le (there 48 n c.u64_at.result bytes c.u64_at.ensures) w.if-u64_at-ne0.true) ∙ c.loop-number.invariant
      | then-u64_at-ne0-via-else-u64_at-ne0+then-u64_at-ne0-2 w ↦
          sym (not_zero c.args.count n 56 w.u64_at-else-u64_at-ne0.result bytes (inr refl) le
          (there 56 n w.u64_at-else-u64_at-ne0.result bytes w.u64_at-else-u64_at-ne0.ensures) w.if-u64_at-ne0-2.true) ∙ c.loop-number.invariant
    ]

pub loop-number-preserved : goal.loop-number-preserved
loop-number-preserved c =
    let n = c.loop-number.number in
    let bytes = c.args.bytes.now in
    let le : 1 + n ≤ c.args.count = omega (arith, c.loop-number-test.true) in
    let rest = say_two_values (c.args.count - (n + 1)) (drop (64 * (n + 1)) bytes) in
    let third : (number_at 8 48 (drop (64 * n) bytes) == 0) ≡ true =
    eq-eqb (number_at 8 48 (drop (64 * n) bytes)) 0 (sym (there 48 n c.u64_at.result bytes c.u64_at.ensures) ∙ c.if-u64_at-ne0.false) in
    let fourth : (number_at 8 56 (drop (64 * n) bytes) == 0) ≡ true =
    eq-eqb (number_at 8 56 (drop (64 * n) bytes)) 0
    (sym (there 56 n c.u64_at-else-u64_at-ne0.result bytes c.u64_at-else-u64_at-ne0.ensures) ∙ c.if-u64_at-ne0-2.false) in
    sym (ap (λ b. (b && number_at 8 56 (drop (64 * n) bytes) == 0) && rest) third ∙ ap (λ b. (true && b) && rest) fourth)
    ∙ (sym (one c.args.count n bytes le) ∙ c.loop-number.invariant)

pub returns : goal.returns
unfolding say_two_values
returns c =
    let none : c.args.count - c.loop-number.number ≡ 0 = omega (arith, c.loop-number-test.false) in
    sym (ap (λ (m : ℕ). say_two_values m (drop (64 * c.loop-number.number) c.args.bytes.now)) none) ∙ c.loop-number.invariant
