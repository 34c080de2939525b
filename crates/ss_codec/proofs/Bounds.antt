-- The bounds of inputs, tested one after another.
use Rattle.std.proofs.Common.{◌≡◌, ℕ, zero, suc, ◌+◌, ◌-◌, ◌*◌, ◌<◌, ◌≤◌, cond, leb, List, Option, Some, None, refl, sym, ap, ◌∙◌, add-zero, arith}
use Rattle.std.specs.Int.{w64}
use Rattle.std.proofs.lemmas.Bool.{cond-true, cond-false, leb-true, le-leb, lt-leb}
use Rattle.ss_elem.specs.Validity.{top}
use Rattle.ss_codec.specs.declared.fault.CodecFault.{CodecFault}
use Rattle.ss_codec.specs.declared.fault.CodecFault.TheVariants.{BadValue}
use Rattle.ss_codec.specs.Numbers.{number_at}
use Rattle.ss_codec.specs.FrameTests.{bound_tests}
use Rattle.ss_codec.specs.Tests.{first_fault}
use Rattle.ss_codec.proofs.Seals.{passed, passes}

abbrev pub bound_fault : ℕ → ℕ → List ℕ → Option CodecFault
bound_fault left place bytes = first_fault (bound_tests left place bytes)

bound_fault-suc : (left place : ℕ) (bytes : List ℕ) → bound_fault (suc left) place bytes ≡ cond (leb (number_at w64 place bytes) top) (bound_fault left (place + 16) bytes) (Some (BadValue place))
unfolding bound_tests
bound_fault-suc left place bytes = refl

-- a bound that passes leaves the tests behind it
pub goes_on : (width k : ℕ) (bytes : List ℕ) → k < width → number_at w64 (31 + 16 * k) bytes ≤ top
    → bound_fault (width - k) (31 + 16 * k) bytes ≡ bound_fault (width - (k + 1)) (31 + 16 * (k + 1)) bytes
goes_on width k bytes lt le =
    let one : width - k ≡ suc (width - (k + 1)) = omega arith in
    let next : 31 + 16 * k + 16 ≡ 31 + 16 * (k + 1) = omega arith in
    ap (λ (left : ℕ). bound_fault left (31 + 16 * k) bytes) one
    ∙ bound_fault-suc (width - (k + 1)) (31 + 16 * k) bytes
    ∙ cond-true (leb (number_at w64 (31 + 16 * k) bytes) top) (bound_fault (width - (k + 1)) (31 + 16 * k + 16) bytes) (Some (BadValue (31 + 16 * k))) (le-leb (number_at w64 (31 + 16 * k) bytes) top le)
    ∙ ap (λ (place : ℕ). bound_fault (width - (k + 1)) place bytes) next

-- and one that doesn't is the fault
pub fails : (width k : ℕ) (bytes : List ℕ) → k < width → top < number_at w64 (31 + 16 * k) bytes → bound_fault (width - k) (31 + 16 * k) bytes ≡ Some (BadValue (31 + 16 * k))
fails width k bytes lt above =
    let one : width - k ≡ suc (width - (k + 1)) = omega arith in
    ap (λ (left : ℕ). bound_fault left (31 + 16 * k) bytes) one
    ∙ bound_fault-suc (width - (k + 1)) (31 + 16 * k) bytes
    ∙ cond-false (leb (number_at w64 (31 + 16 * k) bytes) top) (bound_fault (width - (k + 1)) (31 + 16 * k + 16) bytes) (Some (BadValue (31 + 16 * k))) (lt-leb (number_at w64 (31 + 16 * k) bytes) top above)

pub ends : (width k : ℕ) (bytes : List ℕ) → width ≤ k → bound_fault (width - k) (31 + 16 * k) bytes ≡ None
unfolding bound_tests
ends width k bytes le =
    let none : width - k ≡ 0 = omega arith in
    ap (λ (left : ℕ). bound_fault left (31 + 16 * k) bytes) none

-- bounds of which each passes
pub bounds_pass : (left place : ℕ) (bytes : List ℕ) → ((k : ℕ) → k < left → number_at w64 (place + 16 * k) bytes ≤ top) → bound_fault left place bytes ≡ None
unfolding bound_tests
bounds_pass zero place bytes h = refl
bounds_pass (suc left) place bytes h =
    let here : number_at w64 place bytes ≤ top = rw (add-zero place) at (h 0 (omega arith)) in
    let behind : bound_fault left (place + 16) bytes ≡ None = bounds_pass left (place + 16) bytes (λ k lt.
    let same : place + 16 * suc k ≡ place + 16 + 16 * k = omega arith in
    rw same at (h (suc k) (omega arith))) in
    bound_fault-suc left place bytes ∙ passes (leb (number_at w64 place bytes) top) (bound_fault left (place + 16) bytes) (BadValue place) (le-leb (number_at w64 place bytes) top here) behind

pub bounds_passed : (left place : ℕ) (bytes : List ℕ) → bound_fault left place bytes ≡ None → (k : ℕ) → k < left → number_at w64 (place + 16 * k) bytes ≤ top
bounds_passed zero place bytes e k lt = absurd (omega (arith, lt))
bounds_passed (suc left) place bytes e zero lt =
    let p = passed (leb (number_at w64 place bytes) top) (bound_fault left (place + 16) bytes) (BadValue place) (sym (bound_fault-suc left place bytes) ∙ e) in
    rw (add-zero place) (leb-true (number_at w64 place bytes) top p.0)
bounds_passed (suc left) place bytes e (suc k) lt =
    let p = passed (leb (number_at w64 place bytes) top) (bound_fault left (place + 16) bytes) (BadValue place) (sym (bound_fault-suc left place bytes) ∙ e) in
    let same : place + 16 + 16 * k ≡ place + 16 * suc k = omega arith in
    rw same at (bounds_passed left (place + 16) bytes p.1 k (omega (arith, lt)))
