-- The greatest of the snapshots that pass a test.
use Rattle.std.proofs.Common.{◌≡◌, ℕ, ◌≤◌, max, Bool, true, cond, nat_eq, nat_lt, nat_le, List, [], ◌∷◌, filter, refl, subst, ⊎_elim, arith, leb-true, le-leb}
use Rattle.std.proofs.lemmas.Bool.{cases_lt, cond_both, cond-true, or_cases, eqb-true, leb-false}
use Rattle.ss_state.specs.Numbers.{VertexNumbers, out}
use Rattle.ss_state.specs.LowWater.{greatest_where, snap_within}
use Rattle.ss_state.specs.Journal.{is_one_of, put_in}
use Rattle.ss_state.specs.Rule.{last_snap}

-- each snapshot is at most the newest
pub one_le_last : (n : ℕ) (ns : List ℕ) → is_one_of n ns ≡ true → n ≤ last_snap ns
one_le_last n [] h = cc
one_le_last n (m ∷ ns) h = ⊎_elim
    (λ here. let same = eqb-true m n here in omega arith)
    (λ there. let rest = one_le_last n ns there in omega arith)
    (or_cases (nat_eq m n) (is_one_of n ns) h)

-- so is the greatest of those that pass a test
pub greatest_le_last : (f : ℕ → Bool) (ns : List ℕ) → greatest_where f ns ≤ last_snap ns
greatest_le_last f [] = omega arith
greatest_le_last f (n ∷ ns) =
    let rest = greatest_le_last f ns in
    cond_both (f n) n 0 (λ k. max k (greatest_where f ns) ≤ max n (last_snap ns)) (λ e. omega arith) (λ e. omega arith)

pub within_le_last : (x : VertexNumbers) (snaps : List ℕ) (limit : ℕ) → snap_within x snaps limit ≤ last_snap snaps
unfolding snap_within
within_le_last x snaps limit = greatest_le_last (λ n. nat_le (out x n) limit) snaps

-- it passes, where 0 does
greatest_passes : (test : ℕ → Bool) (ns : List ℕ) → test 0 ≡ true → test (greatest_where test ns) ≡ true
greatest_passes test [] z = z
greatest_passes test (n ∷ ns) z =
    let g = greatest_where test ns in
    let rest = greatest_passes test ns z in
    let P : ℕ → Type 0 = λ k. test (max k g) ≡ true in
    cond_both (test n) n 0 P
    (λ t. ⊎_elim (λ less. subst (λ j. test j ≡ true) (let e : g ≡ max n g = omega arith in e) rest) (λ more. subst (λ j. test j ≡ true) (let e : n ≡ max n g = omega arith in e) t) (cases_lt n g))
    (λ t. subst (λ j. test j ≡ true) (let e : g ≡ max 0 g = omega arith in e) rest)

out_zero : (x : VertexNumbers) → out x 0 ≡ 0
unfolding out
out_zero x = refl

pub within_limit : (x : VertexNumbers) (snaps : List ℕ) (limit : ℕ) → out x (snap_within x snaps limit) ≤ limit
unfolding snap_within
within_limit x snaps limit =
    leb-true (out x (greatest_where (λ n. nat_le (out x n) limit) snaps)) limit
    (greatest_passes (λ n. nat_le (out x n) limit) snaps (le-leb (out x 0) limit (omega (arith, out_zero x))))

-- it doesn't fall where more pass
greatest_grows : (f g : ℕ → Bool) (ns : List ℕ) → ((n : ℕ) → f n ≡ true → g n ≡ true) → greatest_where f ns ≤ greatest_where g ns
greatest_grows f g [] h = omega arith
greatest_grows f g (n ∷ ns) h =
    let rest = greatest_grows f g ns h in
    cond_both (f n) n 0 (λ k. max k (greatest_where f ns) ≤ max (cond (g n) n 0) (greatest_where g ns))
    (λ e. let same : cond (g n) n 0 ≡ n = cond-true (g n) n 0 (h n e) in omega arith)
    (λ e. omega arith)

pub within_grows : (x : VertexNumbers) (snaps : List ℕ) (a b : ℕ) → a ≤ b → snap_within x snaps a ≤ snap_within x snaps b
unfolding snap_within
within_grows x snaps a b h =
    greatest_grows (λ n. nat_le (out x n) a) (λ n. nat_le (out x n) b) snaps (λ n e. let less = leb-true (out x n) a e in le-leb (out x n) b (omega arith))

-- one more snapshot

greatest_put : (f : ℕ → Bool) (n : ℕ) (ns : List ℕ) → greatest_where f (put_in n ns) ≤ max n (greatest_where f ns)
greatest_put f n [] = cond_both (f n) n 0 (λ k. max k 0 ≤ max n 0) (λ e. omega arith) (λ e. omega arith)
greatest_put f n (m ∷ ms) =
    let P : List ℕ → Type 0 = λ xs. greatest_where f xs ≤ max n (greatest_where f (m ∷ ms)) in
    let rest = greatest_put f n ms in
    cond_both (nat_lt n m) (n ∷ m ∷ ms) (m ∷ put_in n ms) P
    (λ e. cond_both (f n) n 0 (λ k. max k (greatest_where f (m ∷ ms)) ≤ max n (greatest_where f (m ∷ ms))) (λ t. omega arith) (λ t. omega arith))
    (λ e. omega arith)

pub within_put : (x : VertexNumbers) (n : ℕ) (snaps : List ℕ) (limit : ℕ) → snap_within x (put_in n snaps) limit ≤ max n (snap_within x snaps limit)
unfolding snap_within
within_put x n snaps limit = greatest_put (λ m. nat_le (out x m) limit) n snaps

pub put_le_last : (n : ℕ) (ns : List ℕ) → n ≤ last_snap (put_in n ns)
put_le_last n [] = omega arith
put_le_last n (m ∷ ms) =
    let rest = put_le_last n ms in
    cond_both (nat_lt n m) (n ∷ m ∷ ms) (m ∷ put_in n ms) (λ xs. n ≤ last_snap xs) (λ e. omega arith) (λ e. omega arith)

-- snapshots that go

greatest_filter : (f g : ℕ → Bool) (ns : List ℕ) → greatest_where f (filter g ns) ≤ greatest_where f ns
greatest_filter f g [] = omega arith
greatest_filter f g (n ∷ ns) =
    let rest = greatest_filter f g ns in
    let P : List ℕ → Type 0 = λ xs. greatest_where f xs ≤ greatest_where f (n ∷ ns) in
    cond_both (g n) (n ∷ filter g ns) (filter g ns) P (λ e. omega arith) (λ e. omega arith)

pub within_filter : (x : VertexNumbers) (g : ℕ → Bool) (snaps : List ℕ) (limit : ℕ) → snap_within x (filter g snaps) limit ≤ snap_within x snaps limit
unfolding snap_within
within_filter x g snaps limit = greatest_filter (λ n. nat_le (out x n) limit) g snaps

-- the newest stays, where it isn't below the bound
pub last_filter : (k : ℕ) (ns : List ℕ) → k ≤ last_snap ns → last_snap ns ≤ last_snap (filter (λ n. nat_le k n) ns)
last_filter k [] h = omega arith
last_filter k (n ∷ ns) h =
    let P : List ℕ → Type 0 = λ xs. max n (last_snap ns) ≤ last_snap xs in
    cond_both (nat_le k n) (n ∷ filter (λ n. nat_le k n) ns) (filter (λ n. nat_le k n) ns) P
    (λ e. ⊎_elim (λ less. let above = leb-true k n e in let rest = last_filter k ns (omega arith) in omega arith) (λ more. omega arith) (cases_lt n (last_snap ns)))
    (λ e. let below = leb-false k n e in let rest = last_filter k ns (omega arith) in omega arith)
