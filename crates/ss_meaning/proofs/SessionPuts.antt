-- Sessions are put in their places in any order.
use Rattle.std.proofs.Common.{◌≡◌, ℕ, ◌+◌, ◌<◌, ◌≤◌, ◌==◌, ◌⊎◌, Bool, true, false, cond, ◌&&◌, nat_lt, nat_le, ℤ, List, [], ◌∷◌, refl, sym, ap, subst, ◌∙◌, inl, inr, arith, ltb-true, leb-true, eqb-true}
use Rattle.std.proofs.lemmas.Bool.{and_parts, or_cases, cases_order, cond-true, cond-false}
use Rattle.std.proofs.lemmas.Bool.Decides.{nat_tests}
use Rattle.std.specs.List.{AllByRecursion}
use Rattle.ss_meaning.specs.Session.{SessionEntry, closing}
use Rattle.ss_meaning.specs.SessionLists.{IsApart, is_apart, AreApart, joined_sessions, put_session}
use Rattle.ss_meaning.proofs.Each.{each_weaker}

-- values are joined in any order
pub record JoinsFreely (join : ℤ → ℤ → ℤ) : Type 0 where
  pub swapped : (v w : ℤ) → join v w ≡ join w v
  pub regrouped : (v w x : ℤ) → join (join v w) x ≡ join v (join w x)

-- two sessions of one key that aren't apart
pub record Touches (gap : ℕ) (s t : SessionEntry) : Type 0 where
  pub keys : s.key ≡ t.key
  pub right : t.first < s.last + gap
  pub left : s.first < t.last + gap

-- a session doesn't end before it begins
pub record IsForward (s : SessionEntry) : Type 0 where
  pub times : s.first ≤ s.last

pub apart_from : (gap : ℕ) (s t : SessionEntry) → is_apart gap s t ≡ true → IsApart gap s t
apart_from gap s t h = by_case (or_cases (nat_lt s.key t.key) (s.key == t.key && nat_le (closing gap s) t.first) h)
  where
    by_case : (nat_lt s.key t.key ≡ true) ⊎ ((s.key == t.key && nat_le (closing gap s) t.first) ≡ true) → IsApart gap s t
    by_case (inl l) = let less = ltb-true s.key t.key l in record { keys = omega (arith, less); times = λ e. absurd (omega (arith, less)) }
    by_case (inr r) =
        let parts = and_parts (s.key == t.key) (nat_le (closing gap s) t.first) r in
        let same = eqb-true s.key t.key parts.0 in
        let most = leb-true (closing gap s) t.first parts.1 in
        record { keys = omega (arith, same); times = λ e. most }

pub apart_is : (gap : ℕ) (s t : SessionEntry) → IsApart gap s t → is_apart gap s t ≡ true
apart_is gap s t h = by_order (cases_order s.key t.key)
  where
    by_order : (s.key ≡ t.key) ⊎ ((s.key < t.key) ⊎ (t.key < s.key)) → is_apart gap s t ≡ true
    by_order (inl e) = let k = h.times e in grind (arith, nat_tests)
    by_order (inr (inl l)) = grind (arith, nat_tests)
    by_order (inr (inr l)) = absurd (let k = h.keys in omega arith)

pub not_apart : (gap : ℕ) (s t : SessionEntry) → (s.key ≡ t.key → t.first < s.last + gap) → t.key ≤ s.key → is_apart gap s t ≡ false
not_apart gap s t h k = by_order (cases_order s.key t.key)
  where
    by_order : (s.key ≡ t.key) ⊎ ((s.key < t.key) ⊎ (t.key < s.key)) → is_apart gap s t ≡ false
    by_order (inl e) = let l = h e in grind (arith, nat_tests)
    by_order (inr (inl l)) = absurd (omega arith)
    by_order (inr (inr l)) = grind (arith, nat_tests)

-- how two sessions stand to each other

abbrev pub Stand : ℕ → SessionEntry → SessionEntry → Type 0
Stand gap s t = IsApart gap s t ⊎ (IsApart gap t s ⊎ Touches gap s t)

pub stand : (gap : ℕ) (s t : SessionEntry) → Stand gap s t
stand gap s t = by_keys (cases_order s.key t.key) (cases_order (s.last + gap) t.first) (cases_order (t.last + gap) s.first)
  where
    by_keys : (s.key ≡ t.key) ⊎ ((s.key < t.key) ⊎ (t.key < s.key))
        → (s.last + gap ≡ t.first) ⊎ ((s.last + gap < t.first) ⊎ (t.first < s.last + gap))
        → (t.last + gap ≡ s.first) ⊎ ((t.last + gap < s.first) ⊎ (s.first < t.last + gap)) → Stand gap s t
    by_keys (inr (inl l)) p q = inl (record { keys = omega arith; times = λ e. absurd (omega arith) })
    by_keys (inr (inr l)) p q = inr (inl (record { keys = omega arith; times = λ e. absurd (omega arith) }))
    by_keys (inl k) (inl p) q = inl (record { keys = omega arith; times = λ e. omega arith })
    by_keys (inl k) (inr (inl p)) q = inl (record { keys = omega arith; times = λ e. omega arith })
    by_keys (inl k) (inr (inr p)) (inl q) = inr (inl (record { keys = omega arith; times = λ e. omega arith }))
    by_keys (inl k) (inr (inr p)) (inr (inl q)) = inr (inl (record { keys = omega arith; times = λ e. omega arith }))
    by_keys (inl k) (inr (inr p)) (inr (inr q)) = inr (inr (record { keys = k; right = p; left = q }))

-- what a put does at the first of the others

pub put_behind : (gap : ℕ) (join : ℤ → ℤ → ℤ) (s e : SessionEntry) (es : List SessionEntry) → IsApart gap e s
    → put_session gap join s (e ∷ es) ≡ e ∷ put_session gap join s es
put_behind gap join s e es h =
    cond-true (is_apart gap e s) (e ∷ put_session gap join s es) (cond (is_apart gap s e) (s ∷ e ∷ es) (put_session gap join (joined_sessions join e s) es)) (apart_is gap e s h)

pub put_before : (gap : ℕ) (join : ℤ → ℤ → ℤ) (s e : SessionEntry) (es : List SessionEntry) → 1 ≤ gap → IsForward s → IsForward e → IsApart gap s e
    → put_session gap join s (e ∷ es) ≡ s ∷ e ∷ es
put_before gap join s e es some a b h =
    cond-false (is_apart gap e s) (e ∷ put_session gap join s es) (cond (is_apart gap s e) (s ∷ e ∷ es) (put_session gap join (joined_sessions join e s) es))
    (not_apart gap e s (λ k. let m = h.times (sym k) in omega (arith, some, a.times, b.times, m)) h.keys)
    ∙ cond-true (is_apart gap s e) (s ∷ e ∷ es) (put_session gap join (joined_sessions join e s) es) (apart_is gap s e h)

pub put_touching : (gap : ℕ) (join : ℤ → ℤ → ℤ) (s e : SessionEntry) (es : List SessionEntry) → Touches gap e s
    → put_session gap join s (e ∷ es) ≡ put_session gap join (joined_sessions join e s) es
put_touching gap join s e es h =
    cond-false (is_apart gap e s) (e ∷ put_session gap join s es) (cond (is_apart gap s e) (s ∷ e ∷ es) (put_session gap join (joined_sessions join e s) es))
    (not_apart gap e s (λ k. h.right) (let k = h.keys in omega arith))
    ∙ cond-false (is_apart gap s e) (s ∷ e ∷ es) (put_session gap join (joined_sessions join e s) es)
    (not_apart gap s e (λ k. h.left) (let k = h.keys in omega arith))

-- sessions joined in any order and grouping are one

pub same_session : (s t : SessionEntry) → s.key ≡ t.key → s.first ≡ t.first → s.last ≡ t.last → s.value ≡ t.value → s.rows ≡ t.rows → s ≡ t
same_session s t k f l v r =
    let made = λ (key first last : ℕ) (value : ℤ) (rows : ℕ). let e : SessionEntry = record { key = key; first = first; last = last; value = value; rows = rows } in e in
    ap (λ n. made n s.first s.last s.value s.rows) k ∙ (ap (λ n. made t.key n s.last s.value s.rows) f
    ∙ (ap (λ n. made t.key t.first n s.value s.rows) l ∙ (ap (λ x. made t.key t.first t.last x s.rows) v
    ∙ ap (λ n. made t.key t.first t.last t.value n) r)))

pub joined_swapped : (join : ℤ → ℤ → ℤ) (s t : SessionEntry) → JoinsFreely join → s.key ≡ t.key → joined_sessions join s t ≡ joined_sessions join t s
joined_swapped join s t j k = same_session (joined_sessions join s t) (joined_sessions join t s) k (omega arith) (omega arith) (j.swapped s.value t.value) (omega arith)

-- (e and u) and s
joined_right : (join : ℤ → ℤ → ℤ) (e u s : SessionEntry) → JoinsFreely join
    → joined_sessions join (joined_sessions join e u) s ≡ joined_sessions join e (joined_sessions join u s)
joined_right join e u s j =
    same_session (joined_sessions join (joined_sessions join e u) s) (joined_sessions join e (joined_sessions join u s)) refl (omega arith) (omega arith)
    (j.regrouped e.value u.value s.value) (omega arith)

-- (e and t) and s is (e and s) and t
joined_around : (join : ℤ → ℤ → ℤ) (e t s : SessionEntry) → JoinsFreely join
    → joined_sessions join (joined_sessions join e t) s ≡ joined_sessions join (joined_sessions join e s) t
joined_around join e t s j =
    same_session (joined_sessions join (joined_sessions join e t) s) (joined_sessions join (joined_sessions join e s) t) refl (omega arith) (omega arith)
    (j.regrouped e.value t.value s.value ∙ (ap (join e.value) (j.swapped t.value s.value) ∙ sym (j.regrouped e.value s.value t.value))) (omega arith)

-- u and (e and s) is e and (u and s)
joined_across : (join : ℤ → ℤ → ℤ) (u e s : SessionEntry) → JoinsFreely join → u.key ≡ e.key
    → joined_sessions join u (joined_sessions join e s) ≡ joined_sessions join e (joined_sessions join u s)
joined_across join u e s j k =
    sym (joined_right join u e s j) ∙ (ap (λ (x : SessionEntry). joined_sessions join x s) (joined_swapped join u e j k) ∙ joined_right join e u s j)

pub joined_forward : (join : ℤ → ℤ → ℤ) (s t : SessionEntry) → IsForward s → IsForward t → IsForward (joined_sessions join s t)
joined_forward join s t a b = record { times = omega (arith, a.times, b.times) }

pub apart_joined : (gap : ℕ) (join : ℤ → ℤ → ℤ) (e s t : SessionEntry) → s.key ≡ t.key → IsApart gap e s → IsApart gap e t → IsApart gap e (joined_sessions join s t)
apart_joined gap join e s t k a b = record {
  keys = a.keys;
  times = λ m. let x = a.times m in let y = b.times (m ∙ k) in omega (arith, x, y);
}

pub joined_apart : (gap : ℕ) (join : ℤ → ℤ → ℤ) (e s t : SessionEntry) → s.key ≡ t.key → IsApart gap s e → IsApart gap t e → IsApart gap (joined_sessions join s t) e
joined_apart gap join e s t k a b = record {
  keys = a.keys;
  times = λ m. let x = a.times m in let y = b.times (sym k ∙ m) in omega (arith, x, y);
}

pub apart_trans : (gap : ℕ) (s t u : SessionEntry) → IsForward t → IsApart gap s t → IsApart gap t u → IsApart gap s u
apart_trans gap s t u f a b = record {
  keys = omega (arith, a.keys, b.keys);
  times = λ k.
      let k1 : s.key ≡ t.key = omega (arith, a.keys, b.keys, k) in
      let k2 : t.key ≡ u.key = omega (arith, a.keys, b.keys, k) in
      omega (arith, f.times, a.times k1, b.times k2);
}

pub touches_back : (gap : ℕ) (s t : SessionEntry) → Touches gap s t → Touches gap t s
touches_back gap s t h = record { keys = sym h.keys; right = h.left; left = h.right }

touches_joined : (gap : ℕ) (join : ℤ → ℤ → ℤ) (s t u : SessionEntry) → IsForward s → IsForward t → IsForward u → t.key ≡ u.key → Touches gap s t → Touches gap s (joined_sessions join t u)
touches_joined gap join s t u a b c k h = record {
  keys = h.keys;
  right = omega (arith, h.right);
  left = omega (arith, h.left);
}

touches_joined_second : (gap : ℕ) (join : ℤ → ℤ → ℤ) (s t u : SessionEntry) → t.key ≡ u.key → Touches gap s u → Touches gap s (joined_sessions join t u)
touches_joined_second gap join s t u k h = record {
  keys = h.keys ∙ sym k;
  right = omega (arith, h.right);
  left = omega (arith, h.left);
}

-- what is joined to a session that was put is put with it
pub put_absorbs : (gap : ℕ) (join : ℤ → ℤ → ℤ) (s u : SessionEntry) (es : List SessionEntry) → 1 ≤ gap → JoinsFreely join
    → IsForward s → IsForward u → AllByRecursion IsForward es → Touches gap u s
    → put_session gap join s (put_session gap join u es) ≡ put_session gap join (joined_sessions join u s) es
put_absorbs gap join s u [] some j a b f h = put_touching gap join s u [] h
put_absorbs gap join s u (e ∷ es) some j a b f h =
    by_u (stand gap e u) (stand gap e s) (put_absorbs gap join s u es some j a b f.1 h)
    (λ t. put_absorbs gap join (joined_sessions join e s) u es some j (joined_forward join e s f.0 a) b f.1 t)
    (λ t. put_absorbs gap join s (joined_sessions join e u) es some j a (joined_forward join e u f.0 b) f.1 t)
  where
    by_u : Stand gap e u → Stand gap e s
        → put_session gap join s (put_session gap join u es) ≡ put_session gap join (joined_sessions join u s) es
        → (Touches gap u (joined_sessions join e s) → put_session gap join (joined_sessions join e s) (put_session gap join u es) ≡ put_session gap join (joined_sessions join u (joined_sessions join e s)) es)
        → (Touches gap (joined_sessions join e u) s → put_session gap join s (put_session gap join (joined_sessions join e u) es) ≡ put_session gap join (joined_sessions join (joined_sessions join e u) s) es)
        → put_session gap join s (put_session gap join u (e ∷ es)) ≡ put_session gap join (joined_sessions join u s) (e ∷ es)
    by_u (inl p) (inl q) x y z =
        ap (put_session gap join s) (put_behind gap join u e es p) ∙ (put_behind gap join s e (put_session gap join u es) q
        ∙ (ap (λ (l : List SessionEntry). e ∷ l) x ∙ sym (put_behind gap join (joined_sessions join u s) e es (apart_joined gap join e u s h.keys p q))))
    by_u (inl p) (inr (inl q)) x y z =
        let keys = h.keys in let right = h.right in let left = h.left in
        let k1 : s.key ≡ e.key = omega (arith, p.keys, q.keys) in
        let k2 : e.key ≡ u.key = omega (arith, p.keys, q.keys) in
        absurd (omega (arith, q.times k1, p.times k2, f.0.times))
    by_u (inl p) (inr (inr q)) x y z =
        ap (put_session gap join s) (put_behind gap join u e es p) ∙ (put_touching gap join s e (put_session gap join u es) q
        ∙ (y (touches_joined_second gap join u e s q.keys h)
        ∙ (ap (λ (w : SessionEntry). put_session gap join w es) (joined_across join u e s j (h.keys ∙ sym q.keys))
        ∙ sym (put_touching gap join (joined_sessions join u s) e es (touches_joined_second gap join e u s h.keys q)))))
    by_u (inr (inl p)) t x y z =
        ap (put_session gap join s) (put_before gap join u e es some b f.0 p) ∙ put_touching gap join s u (e ∷ es) h
    by_u (inr (inr p)) t x y z =
        ap (put_session gap join s) (put_touching gap join u e es p)
        ∙ (z (touches_back gap s (joined_sessions join e u) (touches_joined_second gap join s e u p.keys (touches_back gap u s h)))
        ∙ (ap (λ (w : SessionEntry). put_session gap join w es) (joined_right join e u s j)
        ∙ sym (put_touching gap join (joined_sessions join u s) e es (touches_joined gap join e u s f.0 b a h.keys p))))

-- what holds of sessions and of those that are joined of them holds where one was put
pub each-put : (P : SessionEntry → Type 0) (gap : ℕ) (join : ℤ → ℤ → ℤ) (s : SessionEntry) (es : List SessionEntry)
    → ((a b : SessionEntry) → a.key ≡ b.key → P a → P b → P (joined_sessions join a b)) → P s → AllByRecursion P es → AllByRecursion P (put_session gap join s es)
each-put P gap join s [] f a h = (a, tt)
each-put P gap join s (e ∷ es) f a h =
    by_stand (stand gap e s) (is_apart gap e s) (is_apart gap s e) refl refl (each-put P gap join s es f a h.1)
    (λ k. each-put P gap join (joined_sessions join e s) es f (f e s k h.0 a) h.1)
  where
    same_key : Stand gap e s → is_apart gap e s ≡ false → is_apart gap s e ≡ false → e.key ≡ s.key
    same_key (inl p) x y = absurd (let z = sym (apart_is gap e s p) ∙ x in cc)
    same_key (inr (inl p)) x y = absurd (let z = sym (apart_is gap s e p) ∙ y in cc)
    same_key (inr (inr p)) x y = p.keys

    by_stand : Stand gap e s → (x y : Bool) → is_apart gap e s ≡ x → is_apart gap s e ≡ y → AllByRecursion P (put_session gap join s es)
        → (e.key ≡ s.key → AllByRecursion P (put_session gap join (joined_sessions join e s) es))
        → AllByRecursion P (cond x (e ∷ put_session gap join s es) (cond y (s ∷ e ∷ es) (put_session gap join (joined_sessions join e s) es)))
    by_stand t true y p q rest more = (h.0, rest)
    by_stand t false true p q rest more = (a, h)
    by_stand t false false p q rest more = more (same_key t p q)

-- a session before all others is put in front of them
pub put_first : (gap : ℕ) (join : ℤ → ℤ → ℤ) (s : SessionEntry) (es : List SessionEntry) → 1 ≤ gap → IsForward s → AllByRecursion IsForward es
    → AllByRecursion (IsApart gap s) es → put_session gap join s es ≡ s ∷ es
put_first gap join s [] some a f h = refl
put_first gap join s (e ∷ es) some a f h = put_before gap join s e es some a f.0 h.0

pub each_apart : (gap : ℕ) (s e : SessionEntry) (es : List SessionEntry) → IsForward e → IsApart gap s e → AllByRecursion (IsApart gap e) es → AllByRecursion (IsApart gap s) es
each_apart gap s e es f h k = each_weaker (IsApart gap e) (IsApart gap s) (λ t g. apart_trans gap s e t f h g) es k

pub forward-put : (gap : ℕ) (join : ℤ → ℤ → ℤ) (s : SessionEntry) (es : List SessionEntry) → IsForward s → AllByRecursion IsForward es → AllByRecursion IsForward (put_session gap join s es)
forward-put gap join s es a f = each-put IsForward gap join s es (λ x y k m n. joined_forward join x y m n) a f

-- two sessions are put in either order

abbrev Swaps : ℕ → (ℤ → ℤ → ℤ) → SessionEntry → SessionEntry → List SessionEntry → Type 0
Swaps gap join s t es = put_session gap join s (put_session gap join t es) ≡ put_session gap join t (put_session gap join s es)

-- where the first of the others touches one of them and stands behind the other
touching_before : (gap : ℕ) (join : ℤ → ℤ → ℤ) (s t e : SessionEntry) (es : List SessionEntry) → 1 ≤ gap → JoinsFreely join
    → IsForward s → IsForward t → IsForward e → AllByRecursion IsForward es → AllByRecursion (IsApart gap e) es
    → Touches gap e s → IsApart gap t e → Swaps gap join s t (e ∷ es)
touching_before gap join s t e es some j a b ef f h p q =
    ap (put_session gap join s) (put_before gap join t e es some b ef q)
    ∙ (by_stand (stand gap t s) ∙ sym (ap (put_session gap join t) (put_touching gap join s e es p)))
  where
    by_stand : Stand gap t s → put_session gap join s (t ∷ e ∷ es) ≡ put_session gap join t (put_session gap join (joined_sessions join e s) es)
    by_stand (inl r) =
        put_behind gap join s t (e ∷ es) r
        ∙ (ap (λ (l : List SessionEntry). t ∷ l) (put_touching gap join s e es p)
        ∙ sym (put_first gap join t (put_session gap join (joined_sessions join e s) es) some b (forward-put gap join (joined_sessions join e s) es (joined_forward join e s ef a) f)
        (each-put (IsApart gap t) gap join (joined_sessions join e s) es (λ x y k m n. apart_joined gap join t x y k m n) (apart_joined gap join t e s p.keys q r) (each_apart gap t e es ef q h))))
    by_stand (inr (inl r)) =
        let keys = p.keys in
        let k1 : s.key ≡ t.key = omega (arith, r.keys, q.keys) in
        let k2 : t.key ≡ e.key = omega (arith, r.keys, q.keys) in
        absurd (omega (arith, r.times k1, q.times k2, b.times, p.right, p.left, some))
    by_stand (inr (inr r)) =
        put_touching gap join s t (e ∷ es) r
        ∙ (put_touching gap join (joined_sessions join t s) e es (touches_joined_second gap join e t s r.keys p)
        ∙ (ap (λ (w : SessionEntry). put_session gap join w es) (ap (joined_sessions join e) (joined_swapped join t s j r.keys) ∙ sym (joined_right join e s t j))
        ∙ sym (put_absorbs gap join t (joined_sessions join e s) es some j b (joined_forward join e s ef a) f
        (touches_back gap t (joined_sessions join e s) (touches_joined_second gap join t e s p.keys r)))))

-- where it stands behind both
both_before : (gap : ℕ) (join : ℤ → ℤ → ℤ) (s t e : SessionEntry) (es : List SessionEntry) → 1 ≤ gap → JoinsFreely join
    → IsForward s → IsForward t → IsForward e → IsApart gap s e → IsApart gap t e → Swaps gap join s t (e ∷ es)
both_before gap join s t e es some j a b ef p q =
    ap (put_session gap join s) (put_before gap join t e es some b ef q)
    ∙ (by_stand (stand gap s t) ∙ sym (ap (put_session gap join t) (put_before gap join s e es some a ef p)))
  where
    by_stand : Stand gap s t → put_session gap join s (t ∷ e ∷ es) ≡ put_session gap join t (s ∷ e ∷ es)
    by_stand (inl r) =
        put_before gap join s t (e ∷ es) some a b r
        ∙ sym (put_behind gap join t s (e ∷ es) r ∙ ap (λ (l : List SessionEntry). s ∷ l) (put_before gap join t e es some b ef q))
    by_stand (inr (inl r)) =
        put_behind gap join s t (e ∷ es) r ∙ ap (λ (l : List SessionEntry). t ∷ l) (put_before gap join s e es some a ef p)
        ∙ sym (put_before gap join t s (e ∷ es) some b a r)
    by_stand (inr (inr r)) =
        put_touching gap join s t (e ∷ es) (touches_back gap s t r)
        ∙ (ap (λ (w : SessionEntry). put_session gap join w (e ∷ es)) (joined_swapped join t s j (sym r.keys)) ∙ sym (put_touching gap join t s (e ∷ es) r))

pub put_swapped : (gap : ℕ) (join : ℤ → ℤ → ℤ) (s t : SessionEntry) (es : List SessionEntry) → 1 ≤ gap → JoinsFreely join
    → IsForward s → IsForward t → AllByRecursion IsForward es → AreApart gap es → Swaps gap join s t es
put_swapped gap join s t [] some j a b f h = by_stand (stand gap s t)
  where
    by_stand : Stand gap s t → put_session gap join s (t ∷ []) ≡ put_session gap join t (s ∷ [])
    by_stand (inl r) = put_before gap join s t [] some a b r ∙ sym (put_behind gap join t s [] r)
    by_stand (inr (inl r)) = put_behind gap join s t [] r ∙ sym (put_before gap join t s [] some b a r)
    by_stand (inr (inr r)) =
        put_touching gap join s t [] (touches_back gap s t r)
        ∙ (ap (λ (w : SessionEntry). put_session gap join w []) (joined_swapped join t s j (sym r.keys)) ∙ sym (put_touching gap join t s [] r))
put_swapped gap join s t (e ∷ es) some j a b f h =
    by_both (stand gap e s) (stand gap e t) (put_swapped gap join s t es some j a b f.1 h.1)
    (put_swapped gap join s (joined_sessions join e t) es some j a (joined_forward join e t f.0 b) f.1 h.1)
    (put_swapped gap join (joined_sessions join e s) t es some j (joined_forward join e s f.0 a) b f.1 h.1)
  where
    by_both : Stand gap e s → Stand gap e t → Swaps gap join s t es → Swaps gap join s (joined_sessions join e t) es → Swaps gap join (joined_sessions join e s) t es
        → Swaps gap join s t (e ∷ es)
    by_both (inl p) (inl q) x y z =
        ap (put_session gap join s) (put_behind gap join t e es q) ∙ (put_behind gap join s e (put_session gap join t es) p
        ∙ (ap (λ (l : List SessionEntry). e ∷ l) x
        ∙ sym (ap (put_session gap join t) (put_behind gap join s e es p) ∙ put_behind gap join t e (put_session gap join s es) q)))
    by_both (inl p) (inr (inr q)) x y z =
        ap (put_session gap join s) (put_touching gap join t e es q) ∙ (y
        ∙ sym (ap (put_session gap join t) (put_behind gap join s e es p) ∙ put_touching gap join t e (put_session gap join s es) q))
    by_both (inr (inr p)) (inl q) x y z =
        ap (put_session gap join s) (put_behind gap join t e es q) ∙ (put_touching gap join s e (put_session gap join t es) p
        ∙ (z ∙ sym (ap (put_session gap join t) (put_touching gap join s e es p))))
    by_both (inl p) (inr (inl q)) x y z =
        ap (put_session gap join s) (put_before gap join t e es some b f.0 q)
        ∙ (put_behind gap join s t (e ∷ es) (apart_trans gap t e s f.0 q p) ∙ (ap (λ (l : List SessionEntry). t ∷ l) (put_behind gap join s e es p)
        ∙ sym (ap (put_session gap join t) (put_behind gap join s e es p) ∙ put_before gap join t e (put_session gap join s es) some b f.0 q)))
    by_both (inr (inl p)) (inl q) x y z =
        ap (put_session gap join s) (put_behind gap join t e es q) ∙ (put_before gap join s e (put_session gap join t es) some a f.0 p
        ∙ sym (ap (put_session gap join t) (put_before gap join s e es some a f.0 p)
        ∙ (put_behind gap join t s (e ∷ es) (apart_trans gap s e t f.0 p q) ∙ ap (λ (l : List SessionEntry). s ∷ l) (put_behind gap join t e es q))))
    by_both (inr (inr p)) (inr (inr q)) x y z =
        ap (put_session gap join s) (put_touching gap join t e es q)
        ∙ (put_absorbs gap join s (joined_sessions join e t) es some j a (joined_forward join e t f.0 b) f.1
        (touches_back gap s (joined_sessions join e t) (touches_joined gap join s e t a f.0 b q.keys (touches_back gap e s p)))
        ∙ (ap (λ (w : SessionEntry). put_session gap join w es) (joined_around join e t s j)
        ∙ sym (ap (put_session gap join t) (put_touching gap join s e es p)
        ∙ put_absorbs gap join t (joined_sessions join e s) es some j b (joined_forward join e s f.0 a) f.1
        (touches_back gap t (joined_sessions join e s) (touches_joined gap join t e s b f.0 a p.keys (touches_back gap e t q))))))
    by_both (inr (inr p)) (inr (inl q)) x y z = touching_before gap join s t e es some j a b f.0 f.1 h.0 p q
    by_both (inr (inl p)) (inr (inr q)) x y z = sym (touching_before gap join t s e es some j b a f.0 f.1 h.0 q p)
    by_both (inr (inl p)) (inr (inl q)) x y z = both_before gap join s t e es some j a b f.0 p q

-- and they stay apart
pub apart-put : (gap : ℕ) (join : ℤ → ℤ → ℤ) (s : SessionEntry) (es : List SessionEntry) → 1 ≤ gap → IsForward s → AllByRecursion IsForward es → AreApart gap es
    → AreApart gap (put_session gap join s es)
apart-put gap join s [] some a f h = (tt, tt)
apart-put gap join s (e ∷ es) some a f h =
    by_stand (stand gap e s) (apart-put gap join s es some a f.1 h.1) (apart-put gap join (joined_sessions join e s) es some (joined_forward join e s f.0 a) f.1 h.1)
  where
    by_stand : Stand gap e s → AreApart gap (put_session gap join s es) → AreApart gap (put_session gap join (joined_sessions join e s) es)
        → AreApart gap (put_session gap join s (e ∷ es))
    by_stand (inl p) x y =
        subst (AreApart gap) (sym (put_behind gap join s e es p))
        (each-put (IsApart gap e) gap join s es (λ u v k m n. apart_joined gap join e u v k m n) p h.0, x)
    by_stand (inr (inl p)) x y =
        subst (AreApart gap) (sym (put_before gap join s e es some a f.0 p)) ((p, each_apart gap s e es f.0 p h.0), h)
    by_stand (inr (inr p)) x y = subst (AreApart gap) (sym (put_touching gap join s e es p)) y
