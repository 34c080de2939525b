-- Where a list has what is sought.
use Rattle.std.proofs.Common.{◌≡◌, ℕ, ◌+◌, Bool, true, false, List, [], ◌∷◌, Option, Some, refl}
use Rattle.std.specs.Prelude.{is_some}
use Rattle.std.specs.List.{list_any, position, position_from}
use Rattle.std.proofs.Common.{if◌then◌else◌, Result, Ok, Err}
use Rattle.std.specs.Prelude.{IfErr, IsErrOf}
use Rattle.ss_outside.specs.declared.outputs.PutFault.{PutFault}
use Rattle.ss_outside.specs.declared.outputs.PutFault.TheVariants.{Failed, Memory}
use Rattle.std.proofs.lemmas.Iterator.Adapters.{position_from-zero}
use Rattle.std.proofs.Common.{◌||◌, cond, ◌++◌, ◌∙◌, ap, String, Global, string_bytes, rules}
use Rattle.std.specs.Str.{bytes_eq}
use Rattle.std.proofs.lemmas.List.Folds.{list_any-append}
use Rattle.std.proofs.lemmas.Slice.Eq.{bytes_eq-Decides}

pub found_or_later : (b : Bool) (i : ℕ) (o : Option ℕ) (later : Bool) → is_some o ≡ later → is_some (cond b (Some i) o) ≡ (b || later)
found_or_later true i o later h = refl
found_or_later false i o later h = h

pub is_some-position_from : {X : Type 0} (test : X → Bool) (i : ℕ) (xs : List X) → is_some (position_from test i xs) ≡ list_any test xs
is_some-position_from test i [] = refl
is_some-position_from test i (x ∷ xs) =
    found_or_later (test x) i (position_from test (i + 1) xs) (list_any test xs) (is_some-position_from test (i + 1) xs)

pub is_some-position : {X : Type 0} → (test : X → Bool) (xs : List X) → is_some (position test xs) ≡ list_any test xs
is_some-position {X = X} test xs = ap (λ (o : Option ℕ). is_some o) (position_from-zero {B = X} test xs) ∙ is_some-position_from test 0 xs

-- the last of three
pub chosen-last : (a b x y z : Bool) → a ≡ false → b ≡ false → (if a then x else (if b then y else z)) ≡ z
chosen-last a b x y z h k = rw (h, k) refl

-- ---- the names of open files

abbrev named : List ℕ → String Global → Bool
named name open_name = bytes_eq name (string_bytes open_name)

pub or_true : (b : Bool) → (b || true) ≡ true
or_true true = refl
or_true false = refl

pub or_false : (b : Bool) → (b || false) ≡ b
or_false true = refl
or_false false = refl

pub bytes_eq-same : (name : List ℕ) → bytes_eq name name ≡ true
bytes_eq-same name = search (rules, bytes_eq-Decides)

-- a name that has joined is among them
pub joined_is_open : (names : List (String Global)) (last : String Global) (name : List ℕ) → string_bytes last ≡ name →
    list_any (λ o. bytes_eq name (string_bytes o)) (names ++ last ∷ []) ≡ true
joined_is_open names last name is =
    list_any-append (named name) names (last ∷ [])
    ∙ ap (λ (bytes : List ℕ). list_any (named name) names || (bytes_eq name bytes || false)) is
    ∙ ap (λ (b : Bool). list_any (named name) names || (b || false)) (bytes_eq-same name)
    ∙ or_true (list_any (named name) names)

-- and every other name is as before
pub others_stay : (names : List (String Global)) (last : String Global) (name other : List ℕ) → string_bytes last ≡ name →
    bytes_eq other name ≡ false →
    list_any (λ o. bytes_eq other (string_bytes o)) (names ++ last ∷ []) ≡ list_any (λ o. bytes_eq other (string_bytes o)) names
others_stay names last name other is differs =
    list_any-append (named other) names (last ∷ [])
    ∙ ap (λ (bytes : List ℕ). list_any (named other) names || (bytes_eq other bytes || false)) is
    ∙ ap (λ (b : Bool). list_any (named other) names || (b || false)) differs
    ∙ or_false (list_any (named other) names)

-- a write that was begun never wants memory
pub not_wanting : (answer : Result (Unit {0}) PutFault) → IfErr answer (λ fault. fault ≡ Failed) → IsErrOf answer Memory → ⊥
not_wanting (Ok x) failed wanting = absurd (cc wanting)
not_wanting (Err fault) failed wanting = absurd (cc (failed, wanting))
