-- Tests that are passed, and seals.
use Rattle.std.proofs.Common.{◌≡◌, ℕ, ◌+◌, Bool, true, false, cond, List, [], ◌∷◌, ◌++◌, length, take, drop, Option, Some, None, refl, sym, ap, ◌∙◌, arith}
use Rattle.std.specs.Prelude.{nat_le, bytes_eq}
use Rattle.std.proofs.lemmas.Bool.{le-leb}
use Rattle.std.proofs.lemmas.Slice.Eq.{bytes_eq-Decides}
use Rattle.std.proofs.lemmas.List.{take_at, drop_at, length-append}
use Rattle.sha2.specs.Sha256.{sha256}
use Rattle.sha2.proofs.Facts256.{length-sha256}
use Rattle.ss_codec.specs.Record.{sealed}
use Rattle.ss_codec.specs.Tests.{Test, first_fault}
use Rattle.ss_codec.proofs.Bytes.{Spells}

-- a test is passed, and so are those behind it
pub passed : {A : Type 0} (b : Bool) (others : Option A) (fault : A) → cond b others (Some fault) ≡ None → (b ≡ true) × (others ≡ None)
passed true others fault e = (refl, e)
passed false others fault e = absurd cc

pub passes : {A : Type 0} (b : Bool) (others : Option A) (fault : A) → b ≡ true → others ≡ None → cond b others (Some fault) ≡ None
passes b others fault here behind = rw here behind

-- what the last of some tests says, where those before it are passed
pub last_fault : (tests : List Test) (test : Test) → first_fault tests ≡ None → first_fault (tests ++ test ∷ []) ≡ cond test.passed None (Some test.fault)
last_fault [] test h = refl
last_fault (one ∷ others) test h =
    let here = passed one.passed (first_fault others) one.fault h in
    passes_to one.passed (first_fault (others ++ test ∷ [])) one.fault here.0 ∙ last_fault others test here.1
  where
    passes_to : {A : Type 0} (b : Bool) (others : Option A) (fault : A) → b ≡ true → cond b others (Some fault) ≡ others
    passes_to true others fault h = refl
    passes_to false others fault h = absurd cc

pub length-sealed : (front : List ℕ) → length (sealed front) ≡ length front + 32
length-sealed front = omega (arith, length-append front (sha256 front), length-sha256 front)

-- bytes whose front is sealed by their last 32
pub sealed_is : (front bytes : List ℕ) (n : ℕ) → Spells 0 n front bytes → length front ≡ n → drop n bytes ≡ sha256 (take n bytes) → bytes ≡ sealed front
sealed_is front bytes n spells len digest =
    let begins : take n bytes ≡ front = ap (take n) spells.is ∙ take_at front (drop n bytes) n len in
    spells.is ∙ ap (λ (t : List ℕ). front ++ t) (digest ∙ ap sha256 begins)

pub record IsSealed (front : List ℕ) (n : ℕ) : Type 0 where
  pub least : nat_le (n + 32) (length (sealed front)) ≡ true
  pub most : nat_le (length (sealed front)) (n + 32) ≡ true
  pub digest : bytes_eq (drop n (sealed front)) (sha256 (take n (sealed front))) ≡ true

pub is_sealed : (front : List ℕ) (n : ℕ) → length front ≡ n → IsSealed front n
is_sealed front n len = record {
  least = le-leb (n + 32) (length (sealed front)) (omega (arith, length-sealed front));
  most = le-leb (length (sealed front)) (n + 32) (omega (arith, length-sealed front));
  digest = (bytes_eq-Decides (drop n (sealed front)) (sha256 (take n (sealed front)))).1
      (drop_at front (sha256 front) n len ∙ ap sha256 (sym (take_at front (sha256 front) n len)));
}
