-- A session of one start touches at most two others, which stand at its place.
use Rattle.std.proofs.Common.{◌≡◌, ℕ, zero, suc, ◌+◌, ◌≤◌, Bool, true, false, cond, ℤ, List, [], ◌∷◌, ◌++◌, take, drop, refl, sym, ap, ◌∙◌, inl, inr, arith}
use Rattle.std.proofs.lemmas.Bool.{cond-true, cond-false}
use Rattle.std.proofs.lemmas.List.Elements.{recursion_from_All}
use Rattle.std.specs.List.{AllByRecursion, prefix_len}
use Rattle.ss_meaning.specs.Session.{SessionEntry}
use Rattle.ss_meaning.specs.SessionLists.{IsApart, is_apart, AreApart, joined_sessions, put_session, joined_first}
use Rattle.ss_meaning.specs.SessionLaws.{PutJoinsAtMostTwo}
use Rattle.ss_meaning.proofs.Each.{each_weaker}
use Rattle.ss_meaning.proofs.SessionPuts.{Touches, IsForward, Stand, stand, apart_is, not_apart, put_before, put_touching, put_first, joined_forward}

-- whether the first of some sessions stands before a session
abbrev first_apart : ℕ → SessionEntry → List SessionEntry → Bool
first_apart gap s [] = false
first_apart gap s (e ∷ es) = is_apart gap e s

true_false : true ≡ false → ⊥
true_false e = cc

one_more : (n : ℕ) → 1 + n ≡ suc n
one_more n = omega arith

placed : (gap : ℕ) (join : ℤ → ℤ → ℤ) (s : SessionEntry) (es : List SessionEntry)
    → put_session gap join s es ≡ take (prefix_len (λ (e : SessionEntry). is_apart gap e s) es) es ++ put_session gap join s (drop (prefix_len (λ (e : SessionEntry). is_apart gap e s) es) es)
placed gap join s [] = refl
placed gap join s (e ∷ es) = by_test (is_apart gap e s) refl (placed gap join s es)
  where
    by_test : (b : Bool) → is_apart gap e s ≡ b
        → put_session gap join s es ≡ take (prefix_len (λ (x : SessionEntry). is_apart gap x s) es) es ++ put_session gap join s (drop (prefix_len (λ (x : SessionEntry). is_apart gap x s) es) es)
        → put_session gap join s (e ∷ es)
        ≡ take (cond b (1 + prefix_len (λ (x : SessionEntry). is_apart gap x s) es) 0) (e ∷ es)
        ++ put_session gap join s (drop (cond b (1 + prefix_len (λ (x : SessionEntry). is_apart gap x s) es) 0) (e ∷ es))
    by_test true t rest =
        cond-true (is_apart gap e s) (e ∷ put_session gap join s es) (cond (is_apart gap s e) (s ∷ e ∷ es) (put_session gap join (joined_sessions join e s) es)) t
        ∙ (ap (λ (l : List SessionEntry). e ∷ l) rest
        ∙ ap (λ n. take n (e ∷ es) ++ put_session gap join s (drop n (e ∷ es))) (sym (one_more (prefix_len (λ (x : SessionEntry). is_apart gap x s) es))))
    by_test false t rest = refl

first_placed : (gap : ℕ) (s : SessionEntry) (es : List SessionEntry) → first_apart gap s (drop (prefix_len (λ (e : SessionEntry). is_apart gap e s) es) es) ≡ false
first_placed gap s [] = refl
first_placed gap s (e ∷ es) = by_test (is_apart gap e s) refl (first_placed gap s es)
  where
    by_test : (b : Bool) → is_apart gap e s ≡ b → first_apart gap s (drop (prefix_len (λ (x : SessionEntry). is_apart gap x s) es) es) ≡ false
        → first_apart gap s (drop (cond b (1 + prefix_len (λ (x : SessionEntry). is_apart gap x s) es) 0) (e ∷ es)) ≡ false
    by_test true t rest = ap (λ n. first_apart gap s (drop n (e ∷ es))) (one_more (prefix_len (λ (x : SessionEntry). is_apart gap x s) es)) ∙ rest
    by_test false t rest = t

each-drop : (P : SessionEntry → Type 0) (n : ℕ) (es : List SessionEntry) → AllByRecursion P es → AllByRecursion P (drop n es)
each-drop P zero es h = h
each-drop P (suc n) [] h = tt
each-drop P (suc n) (e ∷ es) h = each-drop P n es h.1

apart-drop : (gap n : ℕ) (es : List SessionEntry) → AreApart gap es → AreApart gap (drop n es)
apart-drop gap zero es h = h
apart-drop gap (suc n) [] h = tt
apart-drop gap (suc n) (e ∷ es) h = apart-drop gap n es h.1

-- one put, where the first of the others doesn't stand before it, is behind no other where it has been joined
abbrev Put : ℕ → (ℤ → ℤ → ℤ) → SessionEntry → List SessionEntry → Type 0
Put gap join s es = put_session gap join s es ≡ (joined_first gap join s es).0 ∷ (joined_first gap join s es).1

stays : (gap : ℕ) (join : ℤ → ℤ → ℤ) (s e : SessionEntry) (es : List SessionEntry) → IsApart gap s e → joined_first gap join s (e ∷ es) ≡ (s, e ∷ es)
stays gap join s e es h = let all : SessionEntry × List SessionEntry = (s, e ∷ es) in let less : SessionEntry × List SessionEntry = (joined_sessions join e s, es) in cond-true (is_apart gap s e) all less (apart_is gap s e h)

joins : (gap : ℕ) (join : ℤ → ℤ → ℤ) (s e : SessionEntry) (es : List SessionEntry) → Touches gap e s → joined_first gap join s (e ∷ es) ≡ (joined_sessions join e s, es)
joins gap join s e es h =
    let all : SessionEntry × List SessionEntry = (s, e ∷ es) in
    let less : SessionEntry × List SessionEntry = (joined_sessions join e s, es) in
    cond-false (is_apart gap s e) all less (not_apart gap s e (λ k. h.left) (let k = h.keys in omega arith))

-- the second, where the first is joined already
second : (gap : ℕ) (join : ℤ → ℤ → ℤ) (s e : SessionEntry) (es : List SessionEntry) → 1 ≤ gap → s.first ≡ s.last → IsForward e → AllByRecursion IsForward es
    → AllByRecursion (IsApart gap e) es → AreApart gap es → Touches gap e s → Put gap join (joined_sessions join e s) es
second gap join s e [] some one ef f a h t = refl
second gap join s e (x ∷ xs) some one ef f a h t = by_stand (stand gap x (joined_sessions join e s))
  where
    forward : IsForward (joined_sessions join e s)
    forward = joined_forward join e s ef (record { times = omega (arith, one) })

    by_stand : Stand gap x (joined_sessions join e s) → Put gap join (joined_sessions join e s) (x ∷ xs)
    by_stand (inl p) =
        let k : e.key ≡ x.key = omega (arith, p.keys, a.0.keys) in
        absurd (let l = a.0.times k in let m = p.times (sym k) in omega (arith, l, m, f.0.times, ef.times, some))
    by_stand (inr (inl p)) =
        put_before gap join (joined_sessions join e s) x xs some forward f.0 p
        ∙ ap (λ (q : SessionEntry × List SessionEntry). q.0 ∷ q.1) (sym (stays gap join (joined_sessions join e s) x xs p))
    by_stand (inr (inr p)) =
        put_touching gap join (joined_sessions join e s) x xs p
        ∙ (put_first gap join (joined_sessions join x (joined_sessions join e s)) xs some (joined_forward join x (joined_sessions join e s) f.0 forward) f.1
        (each_weaker (IsApart gap x) (IsApart gap (joined_sessions join x (joined_sessions join e s)))
        (λ y g. record {
          keys = g.keys;
          times = λ k. let l = g.times k in let m = a.0.times (sym p.keys) in let right = t.right in omega (arith, l, m, right, one, f.0.times, ef.times);
        }) xs h.0)
        ∙ ap (λ (q : SessionEntry × List SessionEntry). q.0 ∷ q.1) (sym (joins gap join (joined_sessions join e s) x xs p)))

abbrev Twice : ℕ → (ℤ → ℤ → ℤ) → SessionEntry × List SessionEntry → List SessionEntry
Twice gap join one = (joined_first gap join one.0 one.1).0 ∷ (joined_first gap join one.0 one.1).1

put_two : (gap : ℕ) (join : ℤ → ℤ → ℤ) (s : SessionEntry) (es : List SessionEntry) → 1 ≤ gap → s.first ≡ s.last → AllByRecursion IsForward es → AreApart gap es
    → first_apart gap s es ≡ false → put_session gap join s es ≡ Twice gap join (joined_first gap join s es)
put_two gap join s [] some one f h none = refl
put_two gap join s (e ∷ es) some one f h none = by_stand (stand gap e s)
  where
    by_stand : Stand gap e s → put_session gap join s (e ∷ es) ≡ Twice gap join (joined_first gap join s (e ∷ es))
    by_stand (inl p) = absurd (true_false (sym (apart_is gap e s p) ∙ none))
    by_stand (inr (inl p)) =
        put_before gap join s e es some (record { times = omega (arith, one) }) f.0 p
        ∙ (ap (λ (q : SessionEntry × List SessionEntry). q.0 ∷ q.1) (sym (stays gap join s e es p))
        ∙ ap (λ (q : SessionEntry × List SessionEntry). Twice gap join q) (sym (stays gap join s e es p)))
    by_stand (inr (inr p)) =
        put_touching gap join s e es p
        ∙ (second gap join s e es some one f.0 f.1 h.0 h.1 p
        ∙ ap (λ (q : SessionEntry × List SessionEntry). Twice gap join q) (sym (joins gap join s e es p)))

pub put_joins_at_most_two : PutJoinsAtMostTwo
put_joins_at_most_two gap join s es some one times h =
    let at = prefix_len (λ (e : SessionEntry). is_apart gap e s) es in
    let forward : AllByRecursion IsForward es =
    each_weaker (λ (e : SessionEntry). e.first ≤ e.last) IsForward (λ e k. record { times = k }) es (recursion_from_All (λ (e : SessionEntry). e.first ≤ e.last) es times) in
    placed gap join s es
    ∙ ap (λ (l : List SessionEntry). take at es ++ l)
    (put_two gap join s (drop at es) some one (each-drop IsForward at es forward) (apart-drop gap at es h) (first_placed gap s es))
