-- Two numbers as one, and sums of such pairs.
use Rattle.std.proofs.Common.{◌≡◌, ℕ, zero, suc, ◌+◌, ◌<◌, ◌≤◌, ◌⊎◌, inl, inr, ⊎_elim, arith, subst, sym}
use Rattle.std.proofs.lemmas.Bool.{cases_eq}
use Rattle.ss_rounds.specs.Measure.{rank, sum_to}

-- of two pairs the second is lower: its first number is, or its second where the first is no higher
abbrev pub Lower : ℕ → ℕ → ℕ → ℕ → Type 0
Lower a b c d = (c < a) ⊎ ((c ≤ a) × (d < b))

-- or it is lower or the same
abbrev pub NoHigher : ℕ → ℕ → ℕ → ℕ → Type 0
NoHigher a b c d = (c < a) ⊎ ((c ≤ a) × (d ≤ b))

pub rank_first : (k a b c d : ℕ) → c < a → d ≤ k → rank k c d < rank k a b
rank_first k a b c d h l = grind arith

pub rank_second : (k a b c d : ℕ) → c ≤ a → d < b → rank k c d < rank k a b
rank_second k a b c d h l = grind arith

pub rank_both : (k a b c d : ℕ) → c ≤ a → d ≤ b → rank k c d ≤ rank k a b
rank_both k a b c d h l = grind arith

pub rank_lower : (k a b c d : ℕ) → d ≤ k → Lower a b c d → rank k c d < rank k a b
rank_lower k a b c d l (inl h) = rank_first k a b c d h l
rank_lower k a b c d l (inr h) = rank_second k a b c d h.0 h.1

pub rank_no_higher : (k a b c d : ℕ) → d ≤ k → NoHigher a b c d → rank k c d ≤ rank k a b
rank_no_higher k a b c d l (inl h) = let less = rank_first k a b c d h l in omega arith
rank_no_higher k a b c d l (inr h) = rank_both k a b c d h.0 h.1

pub same_no_higher : (a b c d : ℕ) → c ≡ a → d ≡ b → NoHigher a b c d
same_no_higher a b c d h l = inr (omega arith, omega arith)

pub lower_no_higher : (a b c d : ℕ) → Lower a b c d → NoHigher a b c d
lower_no_higher a b c d (inl h) = inl h
lower_no_higher a b c d (inr h) = inr (h.0, omega arith)

add_no_higher : (a b c d p q r t : ℕ) → NoHigher a b c d → NoHigher p q r t → NoHigher (a + p) (b + q) (c + r) (d + t)
add_no_higher a b c d p q r t (inl h) (inl k) = inl (omega arith)
add_no_higher a b c d p q r t (inl h) (inr k) = inl (omega arith)
add_no_higher a b c d p q r t (inr h) (inl k) = inl (omega arith)
add_no_higher a b c d p q r t (inr h) (inr k) = inr (omega arith, omega arith)

add_lower_first : (a b c d p q r t : ℕ) → Lower a b c d → NoHigher p q r t → Lower (a + p) (b + q) (c + r) (d + t)
add_lower_first a b c d p q r t (inl h) (inl k) = inl (omega arith)
add_lower_first a b c d p q r t (inl h) (inr k) = inl (omega arith)
add_lower_first a b c d p q r t (inr h) (inl k) = inl (omega arith)
add_lower_first a b c d p q r t (inr h) (inr k) = inr (omega arith, omega arith)

add_lower_last : (a b c d p q r t : ℕ) → NoHigher a b c d → Lower p q r t → Lower (a + p) (b + q) (c + r) (d + t)
add_lower_last a b c d p q r t (inl h) (inl k) = inl (omega arith)
add_lower_last a b c d p q r t (inl h) (inr k) = inl (omega arith)
add_lower_last a b c d p q r t (inr h) (inl k) = inl (omega arith)
add_lower_last a b c d p q r t (inr h) (inr k) = inr (omega arith, omega arith)

pub sums_no_higher : (a b c d : ℕ → ℕ) (n : ℕ) → ((u : ℕ) → u < n → NoHigher (a u) (b u) (c u) (d u))
    → NoHigher (sum_to a n) (sum_to b n) (sum_to c n) (sum_to d n)
sums_no_higher a b c d zero each = inr (omega arith, omega arith)
sums_no_higher a b c d (suc n) each =
    add_no_higher (sum_to a n) (sum_to b n) (sum_to c n) (sum_to d n) (a n) (b n) (c n) (d n)
    (sums_no_higher a b c d n (λ u h. each u (omega arith))) (each n (omega arith))

pub sums_lower : (a b c d : ℕ → ℕ) (n v : ℕ) → v < n → Lower (a v) (b v) (c v) (d v)
    → ((u : ℕ) → u < n → (u ≡ v → ⊥) → NoHigher (a u) (b u) (c u) (d u))
    → Lower (sum_to a n) (sum_to b n) (sum_to c n) (sum_to d n)
sums_lower a b c d zero v h here other = absurd (omega arith)
sums_lower a b c d (suc n) v h here other = ⊎_elim
    (λ same. add_lower_last (sum_to a n) (sum_to b n) (sum_to c n) (sum_to d n) (a n) (b n) (c n) (d n)
    (sums_no_higher a b c d n (λ u l. other u (omega arith) (λ e. absurd (omega arith))))
    (subst (λ k. Lower (a k) (b k) (c k) (d k)) same here))
    (λ differs. add_lower_first (sum_to a n) (sum_to b n) (sum_to c n) (sum_to d n) (a n) (b n) (c n) (d n)
    (sums_lower a b c d n v (omega (arith, differs)) here (λ u l. other u (omega arith)))
    (other n (omega arith) (λ e. differs (sym e))))
    (cases_eq v n)

pub sums_le : (a b : ℕ → ℕ) (n : ℕ) → ((u : ℕ) → u < n → a u ≤ b u) → sum_to a n ≤ sum_to b n
sums_le a b zero each = omega arith
sums_le a b (suc n) each = let rest = sums_le a b n (λ u h. each u (omega arith)) in let last = each n (omega arith) in omega arith
