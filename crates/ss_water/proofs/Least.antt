-- The least of numbers that are told one after another.
use Rattle.std.proofs.Common.{◌≡◌, ◌⊎◌, ℕ, ◌+◌, ◌<◌, ◌≤◌, min, Option, Some, None, List, refl, subst, arith, inl, inr, ⊎_elim}
use Rattle.std.specs.Prelude.{slice_index}
use Rattle.std.proofs.lemmas.Bool.{cases_eq, cases_lt}
use Rattle.ss_water.specs.Needs.{IsAtInput, IsLeast, IsLeastIfAny, lesser}
use Rattle.ss_water.specs.declared.node.Node.{Node}

-- the same property in other words
pub same_least : (P R : ℕ → Type 0) (o : Option ℕ) → ((n : ℕ) → P n → R n) → ((n : ℕ) → R n → P n) → IsLeastIfAny P o → IsLeastIfAny R o
same_least P R None to from h = λ n r. h n (from n r)
same_least P R (Some a) to from h = record { one = to a h.one; least = λ m r. h.least m (from m r) }

min_least : (P Q R : ℕ → Type 0) (a b : ℕ) → IsLeast P a → IsLeast Q b → ((n : ℕ) → R n → P n ⊎ Q n) → ((n : ℕ) → P n ⊎ Q n → R n)
    → IsLeast R (min a b)
min_least P Q R a b p q from to = record {
  one = ⊎_elim
      (λ (h : a < b). let e : a ≡ min a b = omega arith in subst R e (to a (inl p.one)))
      (λ (h : b ≤ a). let e : b ≡ min a b = omega arith in subst R e (to b (inr q.one)))
      (cases_lt a b);
  least = λ m r. ⊎_elim (λ h. let k = p.least m h in omega arith) (λ h. let k = q.least m h in omega arith) (from m r);
}

-- the least with one property or another
pub lesser_least : (P Q R : ℕ → Type 0) (a b : Option ℕ) → IsLeastIfAny P a → IsLeastIfAny Q b → ((n : ℕ) → R n → P n ⊎ Q n)
    → ((n : ℕ) → P n ⊎ Q n → R n) → IsLeastIfAny R (lesser a b)
lesser_least P Q R None None p q from to = λ n r. ⊎_elim (p n) (q n) (from n r)
lesser_least P Q R None (Some b) p q from to = record {
  one = to b (inr q.one);
  least = λ m r. ⊎_elim (λ h. absurd (p m h)) (q.least m) (from m r);
}
lesser_least P Q R (Some a) None p q from to = record {
  one = to a (inl p.one);
  least = λ m r. ⊎_elim (p.least m) (λ h. absurd (q m h)) (from m r);
}
lesser_least P Q R (Some a) (Some b) p q from to = min_least P Q R a b p q from to

-- one input more is the stream, or isn't
pub input_read : (node : Node) (positions : List ℕ) (j i : ℕ) (o : Option ℕ) → IsLeastIfAny (IsAtInput node positions j i) o
    → slice_index node.inputs i ≡ j → IsLeastIfAny (IsAtInput node positions j (i + 1)) (lesser o (Some (slice_index positions i)))
input_read node positions j i o had is =
    lesser_least (IsAtInput node positions j i) (λ n. n ≡ slice_index positions i) (IsAtInput node positions j (i + 1)) o (Some (slice_index positions i)) had
    (record { one = refl; least = λ m e. omega (arith, e) })
    (λ n r. ⊎_elim
    (λ (same : r.0 ≡ i). inr (subst (λ (k : ℕ). n ≡ slice_index positions k) same r.3))
    (λ other. inl (r.0, omega (arith, r.1, other), r.2, r.3))
    (cases_eq r.0 i))
    (λ n h. ⊎_elim
    (λ p. (p.0, omega (arith, p.1), p.2, p.3))
    (λ (e : n ≡ slice_index positions i). (i, omega arith, is, e)) h)

pub input_not_read : (node : Node) (positions : List ℕ) (j i : ℕ) (o : Option ℕ) → IsLeastIfAny (IsAtInput node positions j i) o
    → (slice_index node.inputs i ≡ j → ⊥) → IsLeastIfAny (IsAtInput node positions j (i + 1)) o
input_not_read node positions j i o had isnt =
    same_least (IsAtInput node positions j i) (IsAtInput node positions j (i + 1)) o
    (λ n p. (p.0, omega (arith, p.1), p.2, p.3))
    (λ n r. ⊎_elim
    (λ (same : r.0 ≡ i). absurd (isnt (subst (λ (k : ℕ). slice_index node.inputs k ≡ j) same r.2)))
    (λ other. (r.0, omega (arith, r.1, other), r.2, r.3))
    (cases_eq r.0 i)) had
