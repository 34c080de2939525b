-- How many ends a row has, and how late they are.
use Rattle.std.proofs.Common.{◌≡◌, ℕ, ◌+◌, ◌*◌, ◌/◌, ◌%◌, ◌^◌, ◌<◌, ◌≤◌, ⊎_elim, arith, mul-le-mul_left}
use Rattle.std.proofs.lemmas.Bool.{cases_lt}
use Rattle.std.proofs.Math.Nat.{mul-div-le}
use Rattle.std.specs.Prelude.{Result, Ok, Err, OnOk}

pub few_ends : (hop start size : ℕ) → 1 ≤ hop → size ≤ 64 * hop → (start + size) / hop ≤ start / hop + 64
few_ends hop start size h k = ⊎_elim (λ l. absurd (too_many l)) (λ r. r) (cases_lt (start / hop + 64) ((start + size) / hop))
  where
    too_many : start / hop + 64 < (start + size) / hop → ⊥
    too_many l =
        let up : hop * (start / hop + 65) ≤ hop * ((start + size) / hop) = mul-le-mul_left hop (omega (arith, l)) in
        let below = mul-div-le (start + size) hop in
        let rest : hop * (start / hop) + start % hop ≡ start = omega (arith, h) in
        let short : start % hop < hop = omega (arith, h) in
        omega (arith, up, below, rest, short, k)

pub last_end : (hop start size : ℕ) → hop ≤ 2 ^ 40 → size ≤ 64 * hop → start < 2 ^ 63 → hop * ((start + size) / hop + 1) ≤ 2 ^ 63 + 2 ^ 47
last_end hop start size h k l =
    let below = mul-div-le (start + size) hop in
    omega (arith, below, h, k, l)

pub on_ok : {T E : Type 0} (r : Result T E) (P Q : Type 0) → (P → Q) → OnOk r P → OnOk r Q
on_ok (Ok x) P Q f h = f h
on_ok (Err e) P Q f h = h

pub on_both : {T E : Type 0} (r : Result T E) (P Q R : Type 0) → (P → Q → R) → OnOk r P → OnOk r Q → OnOk r R
on_both (Ok x) P Q R f h k = f h k
on_both (Err e) P Q R f h k = h
