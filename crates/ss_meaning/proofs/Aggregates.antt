-- The three aggregates grow value by value.
use Rattle.std.proofs.Common.{◌≡◌, ℤ, ◌+ℤ◌, List, [], ◌∷◌, ◌++◌, refl, arith}
use Rattle.std.proofs.lemmas.Int.{ints}
use Rattle.std.specs.Int.{int_min, int_max}
use Rattle.std.specs.List.{fold}
use Rattle.ss_meaning.specs.Window.{total, least, greatest}
use Rattle.ss_meaning.specs.EntryLaws.{GrowsBy, AggregatesGrow}

total-push : (xs : List ℤ) (v : ℤ) → total (xs ++ v ∷ []) ≡ total xs +ℤ v
total-push [] v = omega (arith, ints)
total-push (x ∷ xs) v = let rest = total-push xs v in omega (arith, ints, rest)

fold-push : (f : ℤ → ℤ → ℤ) (a : ℤ) (xs : List ℤ) (v : ℤ) → fold f a (xs ++ v ∷ []) ≡ f (fold f a xs) v
fold-push f a [] v = refl
fold-push f a (x ∷ xs) v = fold-push f (f a x) xs v

total_grows : GrowsBy ◌+ℤ◌ total
total_grows = record { one = λ v. omega (arith, ints); more = λ x v xs. total-push (x ∷ xs) v }

least_grows : GrowsBy int_min least
least_grows = record { one = λ v. refl; more = λ x v xs. fold-push int_min x xs v }

greatest_grows : GrowsBy int_max greatest
greatest_grows = record { one = λ v. refl; more = λ x v xs. fold-push int_max x xs v }

pub aggregates_grow : AggregatesGrow
aggregates_grow = (total_grows, least_grows, greatest_grows)
