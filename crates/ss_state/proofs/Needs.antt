-- What is wanted of a stream, as the least of its readers' numbers.
use Rattle.std.proofs.Common.{◌≡◌, ℕ, zero, suc, ◌+◌, ◌<◌, ◌≤◌, min, true, nat_eq, List, [], ◌∷◌, ◌++◌, length, map, refl, sym, ap, subst, ◌⊎◌, inl, inr, ⊎_elim, arith, eq-eqb}
use Rattle.std.specs.List.{flat_map, range_with_len}
use Rattle.std.proofs.lemmas.Bool.{cases_lt, eqb-true, false≢true}
use Rattle.ss_water.specs.declared.node.Kind.{Kind}
use Rattle.ss_water.specs.declared.node.Kind.TheVariants.{Source, Inner, Sink}
use Rattle.ss_state.specs.Numbers.{VertexNumbers, JobNumbers, is_inner, vertex, vertices, input, pos, IsStream, IsSink}
use Rattle.ss_state.specs.LowWater.{least_of, inputs_from, reader_wants, all_wanted, least_wanted}
use Rattle.ss_state.specs.Journal.{is_one_of}
use Rattle.ss_state.specs.IsNumbers.{Reads, IsNumbers}
use Rattle.ss_state.proofs.Snapshots.{one_of_nil, one_of_cons, one_of_here, one_of_there, one_of_filter, filter_keeps}
use Rattle.ss_state.proofs.Frames.{in_job}

-- the least of some numbers

pub least_in : (n : ℕ) (ns : List ℕ) → is_one_of (least_of (n ∷ ns)) (n ∷ ns) ≡ true
least_in n [] = one_of_here n n [] refl
least_in n (m ∷ ms) = ⊎_elim
    (λ less. one_of_here (min n (least_of (m ∷ ms))) n (m ∷ ms) (omega arith))
    (λ more. one_of_there (min n (least_of (m ∷ ms))) n (m ∷ ms)
    (subst (λ k. is_one_of k (m ∷ ms) ≡ true) (let e : least_of (m ∷ ms) ≡ min n (least_of (m ∷ ms)) = omega arith in e) (least_in m ms)))
    (cases_lt n (least_of (m ∷ ms)))

pub least_le : (k n : ℕ) (ns : List ℕ) → is_one_of k (n ∷ ns) ≡ true → least_of (n ∷ ns) ≤ k
least_le k n [] h = ⊎_elim (λ e. omega arith) (λ none. absurd (one_of_nil k none)) (one_of_cons k n [] h)
least_le k n (m ∷ ms) h = ⊎_elim (λ e. omega arith) (λ rest. let less = least_le k m ms rest in omega arith) (one_of_cons k n (m ∷ ms) h)

-- where some number is one of them, the least is, and no other is less
least_among : (k : ℕ) (ns : List ℕ) → is_one_of k ns ≡ true → (is_one_of (least_of ns) ns ≡ true) × ((j : ℕ) → is_one_of j ns ≡ true → least_of ns ≤ j)
least_among k [] h = absurd (one_of_nil k h)
least_among k (n ∷ ns) h = (least_in n ns, λ j e. least_le j n ns e)

-- membership in lists that are made of others

one_of_append : (n : ℕ) (xs ys : List ℕ) → is_one_of n (xs ++ ys) ≡ true → (is_one_of n xs ≡ true) ⊎ (is_one_of n ys ≡ true)
one_of_append n [] ys h = inr h
one_of_append n (x ∷ xs) ys h = ⊎_elim (λ here. inl (one_of_here n x xs here))
    (λ there. ⊎_elim (λ left. inl (one_of_there n x xs left)) (λ right. inr right) (one_of_append n xs ys there)) (one_of_cons n x (xs ++ ys) h)

in_left : (n : ℕ) (xs ys : List ℕ) → is_one_of n xs ≡ true → is_one_of n (xs ++ ys) ≡ true
in_left n [] ys h = absurd (one_of_nil n h)
in_left n (x ∷ xs) ys h = ⊎_elim (λ here. one_of_here n x (xs ++ ys) here) (λ there. one_of_there n x (xs ++ ys) (in_left n xs ys there)) (one_of_cons n x xs h)

in_right : (n : ℕ) (xs ys : List ℕ) → is_one_of n ys ≡ true → is_one_of n (xs ++ ys) ≡ true
in_right n [] ys h = h
in_right n (x ∷ xs) ys h = one_of_there n x (xs ++ ys) (in_right n xs ys h)

one_of_map : (f : ℕ → ℕ) (n : ℕ) (xs : List ℕ) → is_one_of n (map f xs) ≡ true → (i : ℕ) × (is_one_of i xs ≡ true) × (f i ≡ n)
one_of_map f n [] h = absurd (one_of_nil n h)
one_of_map f n (x ∷ xs) h = ⊎_elim (λ here. (x, one_of_here x x xs refl, here))
    (λ there. let rest = one_of_map f n xs there in (rest.0, one_of_there rest.0 x xs rest.1, rest.2)) (one_of_cons n (f x) (map f xs) h)

in_map : (f : ℕ → ℕ) (i : ℕ) (xs : List ℕ) → is_one_of i xs ≡ true → is_one_of (f i) (map f xs) ≡ true
in_map f i [] h = absurd (one_of_nil i h)
in_map f i (x ∷ xs) h = ⊎_elim (λ here. one_of_here (f i) (f x) (map f xs) (ap f here)) (λ there. one_of_there (f i) (f x) (map f xs) (in_map f i xs there)) (one_of_cons i x xs h)

one_of_flat : (f : ℕ → List ℕ) (n : ℕ) (xs : List ℕ) → is_one_of n (flat_map f xs) ≡ true → (w : ℕ) × (is_one_of w xs ≡ true) × (is_one_of n (f w) ≡ true)
one_of_flat f n [] h = absurd (one_of_nil n h)
one_of_flat f n (x ∷ xs) h = ⊎_elim (λ here. (x, one_of_here x x xs refl, here))
    (λ there. let rest = one_of_flat f n xs there in (rest.0, one_of_there rest.0 x xs rest.1, rest.2)) (one_of_append n (f x) (flat_map f xs) h)

in_flat : (f : ℕ → List ℕ) (n w : ℕ) (xs : List ℕ) → is_one_of w xs ≡ true → is_one_of n (f w) ≡ true → is_one_of n (flat_map f xs) ≡ true
in_flat f n w [] h k = absurd (one_of_nil w h)
in_flat f n w (x ∷ xs) h k = ⊎_elim (λ here. in_left n (f x) (flat_map f xs) (subst (λ j. is_one_of n (f j) ≡ true) (sym here) k))
    (λ there. in_right n (f x) (flat_map f xs) (in_flat f n w xs there k)) (one_of_cons w x xs h)

pub one_of_range : (w a n : ℕ) → is_one_of w (range_with_len a n) ≡ true → (a ≤ w) × (w < a + n)
one_of_range w a zero h = absurd (one_of_nil w h)
one_of_range w a (suc n) h = ⊎_elim (λ here. (omega arith, omega arith))
    (λ there. let rest = one_of_range w (a + 1) n there in (omega (arith, rest.0), omega (arith, rest.1))) (one_of_cons w a (range_with_len (a + 1) n) h)

pub in_range : (w a n : ℕ) → a ≤ w → w < a + n → is_one_of w (range_with_len a n) ≡ true
in_range w a zero h k = absurd (omega arith)
in_range w a (suc n) h k = ⊎_elim (λ less. one_of_there w a (range_with_len (a + 1) n) (in_range w (a + 1) n (omega arith) (omega arith)))
    (λ more. one_of_here w a (range_with_len (a + 1) n) (omega arith)) (cases_lt a w)

-- the inputs by which a vertex reads u

one_of_inputs : (x : VertexNumbers) (u i : ℕ) → is_one_of i (inputs_from x u) ≡ true → (i < length x.inputs) × (input x i ≡ u)
one_of_inputs x u i h =
    let found = one_of_filter (λ j. nat_eq (input x j) u) i (range_with_len 0 (length x.inputs)) h in
    let within = one_of_range i 0 (length x.inputs) found.1 in
    (omega (arith, within.1), eqb-true (input x i) u found.0)

in_inputs : (x : VertexNumbers) (u i : ℕ) → i < length x.inputs → input x i ≡ u → is_one_of i (inputs_from x u) ≡ true
in_inputs x u i h e = filter_keeps (λ j. nat_eq (input x j) u) i (range_with_len 0 (length x.inputs)) (eq-eqb (input x i) u e)
    (in_range i 0 (length x.inputs) (omega arith) (omega arith))

-- n is the least of what the readers of v want
pub record IsLeast (job : JobNumbers) (start taken : ℕ → ℕ) (v n : ℕ) : Type 0 where
  pub readers : (w i : ℕ) → is_inner (vertex job w).kind ≡ true → i < length (vertex job w).inputs → input (vertex job w) i ≡ v → n ≤ pos (vertex job w) (start w) i
  pub sinks : (k : ℕ) → IsSink job k → input (vertex job k) 0 ≡ v → n ≤ taken k
  pub one : ((w i : ℕ) × (is_inner (vertex job w).kind ≡ true) × (i < length (vertex job w).inputs) × (input (vertex job w) i ≡ v) × (n ≡ pos (vertex job w) (start w) i))
      ⊎ ((k : ℕ) × IsSink job k × (input (vertex job k) 0 ≡ v) × (n ≡ taken k))

inner_wants : (job : JobNumbers) (start taken : ℕ → ℕ) (w i v : ℕ) → is_inner (vertex job w).kind ≡ true → i < length (vertex job w).inputs → input (vertex job w) i ≡ v
    → is_one_of (pos (vertex job w) (start w) i) (all_wanted job start taken v) ≡ true
inner_wants job start taken w i v e h is =
    let x = vertex job w in
    in_flat (λ u. reader_wants (vertex job u).kind (vertex job u) v (start u) (taken u)) (pos x (start w) i) w (vertices job)
    (in_range w 0 (length job.vertices) (omega arith) (omega (arith, in_job job w i h))) (by_kind (vertex job w).kind e)
  where
    by_kind : (k : Kind) → is_inner k ≡ true → is_one_of (pos (vertex job w) (start w) i) (reader_wants k (vertex job w) v (start w) (taken w)) ≡ true
    by_kind Source e = absurd (false≢true e)
    by_kind Inner e = in_map (pos (vertex job w) (start w)) i (inputs_from (vertex job w) v) (in_inputs (vertex job w) v i h is)
    by_kind Sink e = absurd (false≢true e)

sink_wants : (job : JobNumbers) → IsNumbers job → (start taken : ℕ → ℕ) (k v : ℕ) → IsSink job k → input (vertex job k) 0 ≡ v → is_one_of (taken k) (all_wanted job start taken v) ≡ true
sink_wants job numbers start taken k v sink is =
    let one = (numbers.each k sink.0).sink sink.1 in
    in_flat (λ u. reader_wants (vertex job u).kind (vertex job u) v (start u) (taken u)) (taken k) k (vertices job)
    (in_range k 0 (length job.vertices) (omega arith) (omega (arith, sink.0)))
    (subst (λ j. is_one_of (taken k) (reader_wants j (vertex job k) v (start k) (taken k)) ≡ true) (sym sink.1)
    (in_map (λ i. taken k) 0 (inputs_from (vertex job k) v) (in_inputs (vertex job k) v 0 (omega arith) is)))

wanted_by : (job : JobNumbers) → IsNumbers job → (start taken : ℕ → ℕ) (v n w : ℕ) → w < length job.vertices
    → is_one_of n (reader_wants (vertex job w).kind (vertex job w) v (start w) (taken w)) ≡ true
    → ((w i : ℕ) × (is_inner (vertex job w).kind ≡ true) × (i < length (vertex job w).inputs) × (input (vertex job w) i ≡ v) × (n ≡ pos (vertex job w) (start w) i))
    ⊎ ((k : ℕ) × IsSink job k × (input (vertex job k) 0 ≡ v) × (n ≡ taken k))
wanted_by job numbers start taken v n w h has = by_kind (vertex job w).kind refl has
  where
    by_kind : (k : Kind) → (vertex job w).kind ≡ k → is_one_of n (reader_wants k (vertex job w) v (start w) (taken w)) ≡ true
        → ((w i : ℕ) × (is_inner (vertex job w).kind ≡ true) × (i < length (vertex job w).inputs) × (input (vertex job w) i ≡ v) × (n ≡ pos (vertex job w) (start w) i))
        ⊎ ((k : ℕ) × IsSink job k × (input (vertex job k) 0 ≡ v) × (n ≡ taken k))
    by_kind Source e m = absurd (one_of_nil n m)
    by_kind Inner e m =
        let found = one_of_map (pos (vertex job w) (start w)) n (inputs_from (vertex job w) v) m in
        let read = one_of_inputs (vertex job w) v found.0 found.1 in
        inl (w, found.0, ap is_inner e, read.0, read.1, sym found.2)
    by_kind Sink e m =
        let found = one_of_map (λ i. taken w) n (inputs_from (vertex job w) v) m in
        let read = one_of_inputs (vertex job w) v found.0 found.1 in
        let one = (numbers.each w h).sink e in
        let first : found.0 ≡ 0 = omega (arith, read.0) in
        inr (w, (h, e), subst (λ i. input (vertex job w) i ≡ v) first read.1, sym found.2)

-- some reader wants something of each stream
some_wants : (job : JobNumbers) → IsNumbers job → (start taken : ℕ → ℕ) (v : ℕ) → IsStream job v → (k : ℕ) × (is_one_of k (all_wanted job start taken v) ≡ true)
some_wants job numbers start taken v stream =
    let reader = numbers.read v stream in by_kind reader.0 reader.1 reader.2 (vertex job reader.0).kind refl
  where
    by_kind : (w i : ℕ) → Reads job v w i → (kind : Kind) → (vertex job w).kind ≡ kind → (k : ℕ) × (is_one_of k (all_wanted job start taken v) ≡ true)
    by_kind w i r Source e = let none = (numbers.each w r.is_vertex).source e in let within = r.is_input in absurd (omega arith)
    by_kind w i r Inner e = (pos (vertex job w) (start w) i, inner_wants job start taken w i v (ap is_inner e) r.is_input r.is_stream)
    by_kind w i r Sink e =
        let one = (numbers.each w r.is_vertex).sink e in
        let within = r.is_input in
        let first : i ≡ 0 = omega arith in
        (taken w, sink_wants job numbers start taken w v (r.is_vertex, e) (subst (λ j. input (vertex job w) j ≡ v) first r.is_stream))

pub least_is : (job : JobNumbers) → IsNumbers job → (start taken : ℕ → ℕ) (v : ℕ) → IsStream job v → IsLeast job start taken v (least_wanted job start taken v)
unfolding least_wanted
least_is job numbers start taken v stream =
    let some = some_wants job numbers start taken v stream in
    let all = least_among some.0 (all_wanted job start taken v) some.1 in
    let found = one_of_flat (λ w. reader_wants (vertex job w).kind (vertex job w) v (start w) (taken w)) (least_of (all_wanted job start taken v)) (vertices job) all.0 in
    let within = one_of_range found.0 0 (length job.vertices) found.1 in
    record {
      readers = λ w i e h is. all.1 (pos (vertex job w) (start w) i) (inner_wants job start taken w i v e h is);
      sinks = λ k sink is. all.1 (taken k) (sink_wants job numbers start taken k v sink is);
      one = wanted_by job numbers start taken v (least_of (all_wanted job start taken v)) found.0 (omega (arith, within.1)) found.2;
    }
