-- Which nodes read a stream, and what they want of it.
use Rattle.std.proofs.Common.{◌≡◌, ◌⊎◌, ℕ, suc, ◌+◌, ◌<◌, ◌≤◌, ◌==◌, ◌||◌, Bool, true, false, Option, Some, None, Vec, List, [], ◌∷◌, length, get_or, map, take, refl, sym, ap, ◌∙◌, subst, arith, inl, inr, ⊎_elim}
use Rattle.std.specs.Prelude.{IsSome, slice_get, slice_index}
use Rattle.std.specs.declared.alloc.Global.{Global}
use Rattle.std.specs.List.{list_any}
use Rattle.std.specs.Option.{option_map_or}
use Rattle.std.proofs.lemmas.Bool.{cases_eq, false≢true}
use Rattle.std.proofs.lemmas.Bool.Decides.{nat_tests}
use Rattle.std.proofs.lemmas.List.{get_or-map, get_or-take, length-map, length-take}
use Rattle.std.proofs.lemmas.List.Folds.{list_any_at}
use Rattle.std.proofs.lemmas.Option.{slice_get-get_or}
use Rattle.ss_water.specs.Graph.{IsGraph, is_stream, reads}
use Rattle.ss_water.specs.Needs.{AreWanted, InputWants, IsAtInput, IsLeastIfAny, IsStart, NodeWants, SomeWant, Stored, lesser, pos_at, rows_at}
use Rattle.ss_water.specs.Starts.{RisesInN, n_at}
use Rattle.ss_water.specs.declared.node.Kind.TheVariants.{Inner}
use Rattle.ss_water.specs.declared.node.Node.{Node}
use Rattle.ss_water.specs.declared.snap_row.SnapRow.{SnapRow}
use Rattle.ss_water.proofs.Least.{lesser_least, same_least}

-- ---- which inputs read a stream

any_at : (v : ℕ) (xs : List ℕ) → list_any (λ (u : ℕ). u == v) xs ≡ true → (i : ℕ) × (i < length xs) × (get_or xs i 0 ≡ v)
any_at v [] h = absurd (false≢true h)
any_at v (x ∷ xs) h = step (x == v) refl h (any_at v xs)
  where
    same : (a b : ℕ) → (a == b) ≡ true → a ≡ b
    same a b e = grind (arith, nat_tests)

    step : (b : Bool) → (x == v) ≡ b → (b || list_any (λ (u : ℕ). u == v) xs) ≡ true
        → (list_any (λ (u : ℕ). u == v) xs ≡ true → (i : ℕ) × (i < length xs) × (get_or xs i 0 ≡ v))
        → (i : ℕ) × (i < length (x ∷ xs)) × (get_or (x ∷ xs) i 0 ≡ v)
    step true e h rest = (0, omega arith, same x v e)
    step false e h rest = let r = rest h in (suc r.0, omega (arith, r.1), r.2)

pub input_found : (node : Node) (j : ℕ) → length node.inputs ≡ 8 → node.width ≤ 8 → reads node j ≡ true
    → (i : ℕ) × (i < node.width) × (slice_index node.inputs i ≡ j)
input_found node j eight few h =
    let found = any_at j (take node.width node.inputs) h in
    let less : found.0 < node.width = omega (arith, found.1, length-take node.width node.inputs) in
    (found.0, less, sym (get_or-take node.width node.inputs found.0 0 less) ∙ found.2)

pub input_reads : (node : Node) (j i : ℕ) → length node.inputs ≡ 8 → node.width ≤ 8 → i < node.width → slice_index node.inputs i ≡ j
    → reads node j ≡ true
input_reads node j i eight few less is =
    list_any_at (λ (u : ℕ). u == j) (take node.width node.inputs) i 0 (omega (arith, less, length-take node.width node.inputs))
    (ap (λ (u : ℕ). u == j) (get_or-take node.width node.inputs i 0 less ∙ is) ∙ itself j)
  where
    itself : (n : ℕ) → (n == n) ≡ true
    itself n = grind (arith, nat_tests)

-- ---- what they want

-- a vertex is recovered from one snapshot alone
start_one : (rows : List SnapRow) (dur a b : ℕ) → RisesInN rows → IsStart rows dur a → IsStart rows dur b → a ≡ b
start_one rows dur a b rises at other =
    let up : n_at rows a ≤ n_at rows b = other.greatest a at.within at.given in
    let down : n_at rows b ≤ n_at rows a = at.greatest b other.within other.given in
    ⊎_elim (λ (same : a ≡ b). same) (λ apart. absurd (unequal up down apart)) (cases_eq a b)
  where
    unequal : n_at rows a ≤ n_at rows b → n_at rows b ≤ n_at rows a → (a ≡ b → ⊥) → ⊥
    unequal up down apart = ordered (cases a b apart)
      where
        cases : (k m : ℕ) → (k ≡ m → ⊥) → (k < m) ⊎ (m < k)
        cases k m h = grind arith

        ordered : (a < b) ⊎ (b < a) → ⊥
        ordered h = ⊎_elim
            (λ (l : a < b). let k = rises a b l other.within in omega (arith, k, down))
            (λ (l : b < a). let k = rises b a l at.within in omega (arith, k, up)) h

-- an operator's inputs want what the snapshot at its start had accepted
pub recovered : (rows : List SnapRow) (dur taken start : ℕ) (row : SnapRow) → RisesInN rows → IsStart rows dur start
    → AreWanted Inner rows dur taken (get_or rows start row).pos
recovered rows dur taken start row rises at = record {
  wants = λ i less. (start, at, sym (pos_read i));
  no_other = λ i n less w. w.2 ∙ ap (λ (k : ℕ). pos_at rows k i) (start_one rows dur w.0 start rises w.1 at) ∙ pos_read i;
}
  where
    pos_read : (i : ℕ) → pos_at rows start i ≡ slice_index (get_or rows start row).pos i
    pos_read i = ap (λ (o : Option SnapRow). option_map_or (λ (r : SnapRow). slice_index r.pos i) o 0) (slice_get-get_or rows start row at.within)

pub node_least : (node : Node) (rows : List SnapRow) (dur taken j : ℕ) (positions : List ℕ) (o : Option ℕ) → node.width ≤ 8
    → AreWanted node.kind rows dur taken positions → IsLeastIfAny (IsAtInput node positions j node.width) o
    → IsLeastIfAny (NodeWants node rows dur taken j) o
node_least node rows dur taken j positions o few wanted had =
    same_least (IsAtInput node positions j node.width) (NodeWants node rows dur taken j) o
    (λ n p. (p.0, p.1, p.2, subst (InputWants node.kind rows dur taken p.0) (sym p.3) (wanted.wants p.0 (omega (arith, p.1, few)))))
    (λ n r. (r.0, r.1, r.2, wanted.no_other r.0 n (omega (arith, r.1, few)) r.3))
    had

pub node_some : (node : Node) (positions : List ℕ) (j : ℕ) (o : Option ℕ) → length node.inputs ≡ 8 → node.width ≤ 8
    → IsLeastIfAny (IsAtInput node positions j node.width) o → reads node j ≡ true → IsSome o
node_some node positions j None eight few had h =
    let found = input_found node j eight few h in
    absurd (had (slice_index positions found.0) (found.0, found.1, found.2, refl))
node_some node positions j (Some a) eight few had h = refl

-- ---- one node more

pub some_left : (a b : Option ℕ) → IsSome a → IsSome (lesser a b)
some_left None b h = absurd (false≢true h)
some_left (Some a) None h = refl
some_left (Some a) (Some b) h = refl

pub some_right : (a b : Option ℕ) → IsSome b → IsSome (lesser a b)
some_right None b h = h
some_right (Some a) None h = absurd (false≢true h)
some_right (Some a) (Some b) h = refl

same_node : (x y : Node) → Some x ≡ Some y → x ≡ y
same_node x y h = cc

pub node_more : (nodes : List Node) (stored : Stored) (j w : ℕ) (node : Node) (a b : Option ℕ) → slice_get nodes w ≡ Some node
    → IsLeastIfAny (SomeWant nodes stored j w) a
    → IsLeastIfAny (NodeWants node (rows_at stored w) (slice_index stored.dur w) (slice_index stored.taken w) j) b
    → IsLeastIfAny (SomeWant nodes stored j (w + 1)) (lesser a b)
node_more nodes stored j w node a b at had here =
    lesser_least (SomeWant nodes stored j w) (NodeWants node (rows_at stored w) (slice_index stored.dur w) (slice_index stored.taken w) j)
    (SomeWant nodes stored j (w + 1)) a b had here
    (λ n r. ⊎_elim
    (λ (same : r.0 ≡ w).
    let is : r.1 ≡ node = same_node r.1 node (sym (subst (λ (k : ℕ). slice_get nodes k ≡ Some r.1) same r.3) ∙ at) in
    inr (subst (λ (x : Node). NodeWants x (rows_at stored w) (slice_index stored.dur w) (slice_index stored.taken w) j n) is
    (subst (λ (k : ℕ). NodeWants r.1 (rows_at stored k) (slice_index stored.dur k) (slice_index stored.taken k) j n) same r.4)))
    (λ other. inl (r.0, r.1, omega (arith, r.2, other), r.3, r.4))
    (cases_eq r.0 w))
    (λ n h. ⊎_elim
    (λ p. (p.0, p.1, omega (arith, p.2), p.3, p.4))
    (λ (q : NodeWants node (rows_at stored w) (slice_index stored.dur w) (slice_index stored.taken w) j n). (w, node, omega arith, at, q)) h)

-- whether some node is known that reads the stream
pub some_more : (nodes : List Node) (j w : ℕ) (node : Node) (a b : Option ℕ) → slice_get nodes w ≡ Some node
    → ((u : ℕ) (x : Node) → u < w → slice_get nodes u ≡ Some x → reads x j ≡ true → IsSome a)
    → (reads node j ≡ true → IsSome b)
    → (u : ℕ) (x : Node) → u < w + 1 → slice_get nodes u ≡ Some x → reads x j ≡ true → IsSome (lesser a b)
some_more nodes j w node a b at had here u x less is h =
    ⊎_elim
    (λ (same : u ≡ w).
    let one : x ≡ node = same_node x node (sym (subst (λ (k : ℕ). slice_get nodes k ≡ Some x) same is) ∙ at) in
    some_right a b (here (subst (λ (y : Node). reads y j ≡ true) one h)))
    (λ other. some_left a b (had u x (omega (arith, less, other)) is h))
    (cases_eq u w)

-- the snapshots of a node among those of all
pub rows_read : (rows : List (Vec SnapRow Global)) (w : ℕ) (row : Vec SnapRow Global) (snaps : List SnapRow) → w < length rows
    → row ≡ get_or rows w row → snaps ≡ row.items → snaps ≡ get_or (map (λ (r : Vec SnapRow Global). r.items) rows) w []
rows_read rows w row snaps within at is =
    is ∙ ap (λ (r : Vec SnapRow Global). r.items) at
    ∙ sym (get_or-map (λ (r : Vec SnapRow Global). r.items) rows w row [] within)

pub few_rows : (rows : List (Vec SnapRow Global)) (nodes : List Node) (w end : ℕ)
    → length (map (λ (r : Vec SnapRow Global). r.items) rows) ≡ length nodes → end ≡ length nodes → w < end → w < length rows
few_rows rows nodes w end e is less = let l = length-map rows (λ (r : Vec SnapRow Global). r.items) in omega (arith, l, e, is, less)

-- ---- each stream is read

any_node : (p : Node → Bool) (nodes : List Node) → list_any p nodes ≡ true → (u : ℕ) × (x : Node) × (u < length nodes) × (slice_get nodes u ≡ Some x) × (p x ≡ true)
any_node p [] h = absurd (false≢true h)
any_node p (x ∷ xs) h = step (p x) refl h (any_node p xs)
  where
    step : (b : Bool) → p x ≡ b → (b || list_any p xs) ≡ true
        → (list_any p xs ≡ true → (u : ℕ) × (y : Node) × (u < length xs) × (slice_get xs u ≡ Some y) × (p y ≡ true))
        → (u : ℕ) × (y : Node) × (u < length (x ∷ xs)) × (slice_get (x ∷ xs) u ≡ Some y) × (p y ≡ true)
    step true e h rest = (0, x, omega arith, refl, e)
    step false e h rest = let r = rest h in (suc r.0, r.1, omega (arith, r.2), r.3, r.4)

pub reader_found : (nodes : List Node) (j : ℕ) → IsGraph nodes → is_stream nodes j ≡ true
    → (u : ℕ) × (x : Node) × (u < length nodes) × (slice_get nodes u ≡ Some x) × (reads x j ≡ true)
reader_found nodes j graph h = any_node (λ (x : Node). reads x j) nodes (graph.read j h)
