-- A binary search finds how many sessions in front stand before one.
use Rattle.std.proofs.Common.{◌≡◌, ℕ, zero, suc, ◌+◌, ◌<◌, ◌≤◌, ◌⊎◌, Bool, true, false, cond, List, [], ◌∷◌, length, get_or, All, refl, sym, ap, ◌∙◌, inl, inr, arith}
use Rattle.std.proofs.lemmas.Bool.{cases_order}
use Rattle.std.specs.List.{AllByRecursion, prefix_len}
use Rattle.std.specs.List.Sorted.{IsPartitionPoint, IsPartitionedBy}
use Rattle.ss_meaning.specs.Session.{SessionEntry}
use Rattle.ss_meaning.specs.SessionLists.{IsApart, is_apart, AreApart}
use Rattle.ss_session.proofs.SessionReads.{apart_from, apart_trans}
use Rattle.ss_session.proofs.SessionReadAgain.{apart_is}

true_false : true ≡ false → ⊥
true_false e = cc

-- as many in front as pass a test, where those and no others do
pub prefix_is : (p : SessionEntry → Bool) (es : List SessionEntry) (i : ℕ) → i ≤ length es → IsPartitionPoint (λ e. p e ≡ true) (λ e. p e ≡ false) es i → i ≡ prefix_len p es
prefix_is p [] i h k = omega (arith, h)
prefix_is p (e ∷ es) zero h k = by_test (p e) (k.1 0 e (omega arith) (omega arith))
  where
    by_test : (b : Bool) → b ≡ false → 0 ≡ cond b (1 + prefix_len p es) 0
    by_test true f = absurd (true_false f)
    by_test false f = refl
prefix_is p (e ∷ es) (suc i) h k =
    by_test (p e) (k.0 0 e (omega arith) (omega arith))
    (prefix_is p es i (omega (arith, h)) (λ n d l m. k.0 (suc n) d (omega arith) (omega (arith, m)), λ n d l m. k.1 (suc n) d (omega (arith, l)) (omega (arith, m))))
  where
    by_test : (b : Bool) → b ≡ true → i ≡ prefix_len p es → suc i ≡ cond b (1 + prefix_len p es) 0
    by_test true f rest = omega (arith, rest)
    by_test false f rest = absurd (true_false (sym f))

each_at : (P : SessionEntry → Type 0) (es : List SessionEntry) (j : ℕ) (d : SessionEntry) → AllByRecursion P es → j < length es → P (get_or es j d)
each_at P [] j d h l = absurd (omega (arith, l))
each_at P (e ∷ es) zero d h l = h.0
each_at P (e ∷ es) (suc j) d h l = each_at P es j d h.1 (omega (arith, l))

apart_at : (gap : ℕ) (es : List SessionEntry) (i j : ℕ) (d : SessionEntry) → AreApart gap es → i < j → j < length es → IsApart gap (get_or es i d) (get_or es j d)
apart_at gap [] i j d h l m = absurd (omega (arith, m))
apart_at gap (e ∷ es) i zero d h l m = absurd (omega (arith, l))
apart_at gap (e ∷ es) zero (suc j) d h l m = each_at (IsApart gap e) es j d h.0 (omega (arith, m))
apart_at gap (e ∷ es) (suc i) (suc j) d h l m = apart_at gap es i j d h.1 (omega (arith, l)) (omega (arith, m))

-- where one stands before a session, those in front of it do
pub partitioned : (gap : ℕ) (s : SessionEntry) (es : List SessionEntry) → AreApart gap es → All (λ (e : SessionEntry). e.first ≤ e.last) es
    → IsPartitionedBy (λ (e : SessionEntry). is_apart gap e s) es
partitioned gap s es h f i j d le m p = by_order (cases_order i j)
  where
    by_order : (i ≡ j) ⊎ ((i < j) ⊎ (j < i)) → is_apart gap (get_or es i d) s ≡ true
    by_order (inl e) = ap (λ n. is_apart gap (get_or es n d) s) e ∙ p
    by_order (inr (inl l)) =
        apart_is gap (get_or es i d) s (apart_trans gap (get_or es i d) (get_or es j d) s (f j d m) (apart_at gap es i j d h l m) (apart_from gap (get_or es j d) s p))
    by_order (inr (inr l)) = absurd (omega (arith, le, l))
