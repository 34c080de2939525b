-- From which stored snapshot a vertex is recovered.
use Rattle.std.proofs.Common.{◌≡◌, ◌≢◌, ℕ, zero, suc, max, ◌<◌, ◌≤◌, ◌==◌, ◌||◌, ◌⊎◌, inl, inr, nat_le, Bool, true, false, List, [], ◌∷◌, length, get_or, map, refl, sym, ap, ap₂, ◌∙◌, subst, arith, ⊎_elim, if◌then◌else◌}
use Rattle.std.specs.Option.{option_map_or}
use Rattle.std.specs.List.{AllByRecursion}
use Rattle.std.proofs.lemmas.Bool.{cases_eq, cases_lt, eq-eqb, ne_eqb}
use Rattle.std.proofs.lemmas.Bool.Decides.{nat_tests}
use Rattle.std.proofs.lemmas.List.{get_or-map, length-map}
use Rattle.std.proofs.lemmas.Option.{slice_get-get_or}
use Rattle.ss_frames.specs.Plans.{plan_numbers}
use Rattle.ss_plan.specs.Plan.{PlanText}
use Rattle.ss_state.specs.Joint.{Rises}
use Rattle.ss_state.specs.Journal.{is_one_of}
use Rattle.ss_state.specs.LowWater.{greatest_where, low, snap_within}
use Rattle.ss_state.specs.Numbers.{VertexNumbers, IsOperator, is_inner, out, vertex}
use Rattle.ss_state.specs.State.{LedgerRow}
use Rattle.ss_water.specs.Starts.{HasStart, IsGreatestStart, RisesInN, n_at, out_at}
use Rattle.ss_water.specs.declared.snap_row.SnapRow.{SnapRow}
use Rattle.ss_vault.specs.Facts.{SnapshotFacts}
use Rattle.ss_vault.specs.NumbersHeld.{greatest_within, snaps_held}
use Rattle.ss_vault.specs.Sound.{Sound, snap_at}
use Rattle.ss_vault.specs.Told.{VaultTold, durable_of}

-- ---- the greatest of some snapshots

le_true : (m n : ℕ) → m ≤ n → nat_le m n ≡ true
le_true m n h = grind (arith, nat_tests)

chosen_least : (test : Bool) (n rest b : ℕ) → (test ≡ true → n ≤ b) → rest ≤ b → max (if test then n else 0) rest ≤ b
chosen_least true n rest b h k = let first = h refl in omega (arith, first, k)
chosen_least false n rest b h k = omega (arith, k)

le_of : (m n : ℕ) → nat_le m n ≡ true → m ≤ n
le_of m n h = grind (arith, nat_tests)

pub at_most : (snaps : List SnapRow) (limit b : ℕ) → ((k : ℕ) → k < length snaps → out_at snaps k ≤ limit → n_at snaps k ≤ b) → greatest_within snaps limit ≤ b
at_most [] limit b each = omega arith
at_most (snap ∷ snaps) limit b each =
    chosen_least (nat_le snap.out limit) snap.n (greatest_within snaps limit) b
    (λ h. each 0 (omega arith) (le_of snap.out limit h))
    (at_most snaps limit b (λ k h o. each (suc k) (omega (arith, h)) o))

pub at_least : (snaps : List SnapRow) (limit k : ℕ) → k < length snaps → out_at snaps k ≤ limit → n_at snaps k ≤ greatest_within snaps limit
at_least [] limit k h o = absurd (omega (arith, h))
at_least (snap ∷ snaps) limit zero h o =
    subst (λ (b : Bool). snap.n ≤ max (if b then snap.n else 0) (greatest_within snaps limit)) (sym (le_true snap.out limit o)) (omega arith)
at_least (snap ∷ snaps) limit (suc k) h o =
    let rest = at_least snaps limit k (omega (arith, h)) o in omega (arith, rest)

-- the place that was found is that of the greatest
pub greatest_is : (snaps : List SnapRow) (limit place : ℕ) → place < length snaps → out_at snaps place ≤ limit → IsGreatestStart snaps limit place
    → n_at snaps place ≡ greatest_within snaps limit
greatest_is snaps limit place within given greatest =
    let least = at_least snaps limit place within given in
    let most = at_most snaps limit (n_at snaps place) greatest in
    omega (arith, least, most)

pub n_read : (snaps : List SnapRow) (place : ℕ) (d : SnapRow) → place < length snaps → (get_or snaps place d).n ≡ n_at snaps place
n_read snaps place d within =
    sym (ap (λ o. option_map_or (λ (row : SnapRow). row.n) o 0) (slice_get-get_or snaps place d within))

-- ---- snapshots of a plan, told in the order of their numbers

-- what snapshots say of these numbers
pub record Tells (x : VertexNumbers) (f : ℕ → SnapRow) (ns : List ℕ) : Type 0 where
  pub number : (n : ℕ) → is_one_of n ns ≡ true → (f n).n ≡ n
  pub given : (n : ℕ) → is_one_of n ns ≡ true → (f n).out ≡ out x n

first_is : (m : ℕ) (ms : List ℕ) → is_one_of m (m ∷ ms) ≡ true
first_is m ms = ap (λ (b : Bool). b || is_one_of m ms) (eq-eqb m m refl)

rest_is : (n m : ℕ) (ms : List ℕ) → is_one_of n ms ≡ true → is_one_of n (m ∷ ms) ≡ true
rest_is n m ms h = later (m == n) (is_one_of n ms) h
  where
    later : (a b : Bool) → b ≡ true → (a || b) ≡ true
    later true b h = refl
    later false b h = h

rest_tells : (x : VertexNumbers) (f : ℕ → SnapRow) (m : ℕ) (ms : List ℕ) → Tells x f (m ∷ ms) → Tells x f ms
rest_tells x f m ms tells = record {
  number = λ n h. tells.number n (rest_is n m ms h);
  given = λ n h. tells.given n (rest_is n m ms h);
}

pub greatest_told : (x : VertexNumbers) (f : ℕ → SnapRow) (ns : List ℕ) (limit : ℕ) → Tells x f ns
    → greatest_within (map f ns) limit ≡ snap_within x ns limit
unfolding snap_within
greatest_told x f [] limit tells = refl
greatest_told x f (m ∷ ms) limit tells =
    ap₂ (λ (o n : ℕ). max (if nat_le o limit then n else 0) (greatest_within (map f ms) limit))
    (tells.given m (first_is m ms)) (tells.number m (first_is m ms))
    ∙ ap (λ (rest : ℕ). max (if nat_le (out x m) limit then m else 0) rest) (greatest_told x f ms limit (rest_tells x f m ms tells))

-- a number at a place is one of them
at_is_one : (ns : List ℕ) (k : ℕ) → k < length ns → is_one_of (get_or ns k 0) ns ≡ true
at_is_one [] k h = absurd (omega (arith, h))
at_is_one (m ∷ ms) zero h = first_is m ms
at_is_one (m ∷ ms) (suc k) h = rest_is (get_or ms k 0) m ms (at_is_one ms k (omega (arith, h)))

-- and one of them has a place
pub place_of : (n : ℕ) (ns : List ℕ) → is_one_of n ns ≡ true → (k : ℕ) × (k < length ns) × (get_or ns k 0 ≡ n)
place_of n [] h = absurd cc
place_of n (m ∷ ms) h = ⊎_elim
    (λ (same : m ≡ n). (0, omega arith, same))
    (λ (other : m ≢ n).
    let rest = place_of n ms (sym (ap (λ (b : Bool). b || is_one_of n ms) (ne_eqb m n other)) ∙ h) in
    (suc rest.0, let i = rest.1 in omega (arith, i), rest.2))
    (cases_eq m n)

pub told_n : (x : VertexNumbers) (f : ℕ → SnapRow) (ns : List ℕ) (k : ℕ) → Tells x f ns → k < length ns → n_at (map f ns) k ≡ get_or ns k 0
told_n x f ns k tells h =
    ap (λ o. option_map_or (λ (row : SnapRow). row.n) o 0) (slice_get-get_or (map f ns) k (f 0) (omega (arith, h, length-map ns f)))
    ∙ ap (λ (s : SnapRow). s.n) (get_or-map f ns k 0 (f 0) h)
    ∙ tells.number (get_or ns k 0) (at_is_one ns k h)

pub told_out : (x : VertexNumbers) (f : ℕ → SnapRow) (ns : List ℕ) (k : ℕ) → Tells x f ns → k < length ns → out_at (map f ns) k ≡ out x (get_or ns k 0)
told_out x f ns k tells h =
    ap (λ o. option_map_or (λ (row : SnapRow). row.out) o 0) (slice_get-get_or (map f ns) k (f 0) (omega (arith, h, length-map ns f)))
    ∙ ap (λ (s : SnapRow). s.out) (get_or-map f ns k 0 (f 0) h)
    ∙ tells.given (get_or ns k 0) (at_is_one ns k h)

all_at : (m : ℕ) (ns : List ℕ) (k : ℕ) → AllByRecursion (λ n. m < n) ns → k < length ns → m < get_or ns k 0
all_at m [] k all h = absurd (omega (arith, h))
all_at m (n ∷ ns) zero all h = all.0
all_at m (n ∷ ns) (suc k) all h = all_at m ns k all.1 (omega (arith, h))

rise_at : (ns : List ℕ) (j k : ℕ) → Rises ns → j < k → k < length ns → get_or ns j 0 < get_or ns k 0
rise_at [] j k rises less within = absurd (omega (arith, within))
rise_at (n ∷ ns) j zero rises less within = absurd (omega (arith, less))
rise_at (n ∷ ns) zero (suc k) rises less within = all_at n ns k rises.0 (omega (arith, within))
rise_at (n ∷ ns) (suc j) (suc k) rises less within = rise_at ns j k rises.1 (omega (arith, less)) (omega (arith, within))

pub told_rise : (x : VertexNumbers) (f : ℕ → SnapRow) (ns : List ℕ) → Tells x f ns → Rises ns → RisesInN (map f ns)
told_rise x f ns tells rises j k less within =
    let inside : k < length ns = omega (arith, within, length-map ns f) in
    let here : j < length ns = omega (arith, inside, less) in
    let rise = rise_at ns j k rises less inside in
    omega (arith, rise, told_n x f ns j tells here, told_n x f ns k tells inside)

-- ---- the low-water mark

either : (test : ℕ → Bool) (n : ℕ) (rest : ℕ) (b : Bool) → test n ≡ b → (rest ≡ 0) ⊎ (test rest ≡ true)
    → (max (if b then n else 0) rest ≡ 0) ⊎ (test (max (if b then n else 0) rest) ≡ true)
either test n rest false e h =
    let same : rest ≡ max 0 rest = omega arith in
    subst (λ (m : ℕ). (m ≡ 0) ⊎ (test m ≡ true)) same h
either test n rest true e h = ⊎_elim
    (λ (less : n < rest).
    let same : rest ≡ max n rest = omega (arith, less) in
    subst (λ (m : ℕ). (m ≡ 0) ⊎ (test m ≡ true)) same h)
    (λ (past : rest ≤ n).
    let same : n ≡ max n rest = omega (arith, past) in
    subst (λ (m : ℕ). (m ≡ 0) ⊎ (test m ≡ true)) same (inr e))
    (cases_lt n rest)

greatest_passes : (test : ℕ → Bool) (ns : List ℕ) → (greatest_where test ns ≡ 0) ⊎ (test (greatest_where test ns) ≡ true)
greatest_passes test [] = inl refl
greatest_passes test (n ∷ ns) = either test n (greatest_where test ns) (test n) refl (greatest_passes test ns)

none_given : (x : VertexNumbers) → out x 0 ≡ 0
unfolding out
none_given x = refl

pub low_is : (x : VertexNumbers) (row : LedgerRow) → is_inner x.kind ≡ true → low x row ≡ snap_within x row.snaps row.dur
unfolding low
low_is x row inner = ap (λ (b : Bool). if b then snap_within x row.snaps row.dur else row.mark) inner

within_given : (x : VertexNumbers) (snaps : List ℕ) (dur : ℕ) → out x (snap_within x snaps dur) ≤ dur
unfolding snap_within
within_given x snaps dur = ⊎_elim
    (λ (none : greatest_where (λ n. nat_le (out x n) dur) snaps ≡ 0).
    let e : out x (greatest_where (λ n. nat_le (out x n) dur) snaps) ≡ 0 = ap (out x) none ∙ none_given x in omega (arith, e))
    (λ (some : nat_le (out x (greatest_where (λ n. nat_le (out x n) dur) snaps)) dur ≡ true).
    le_of (out x (greatest_where (λ n. nat_le (out x n) dur) snaps)) dur some)
    (greatest_passes (λ n. nat_le (out x n) dur) snaps)

pub low_given : (x : VertexNumbers) (row : LedgerRow) → is_inner x.kind ≡ true → out x (low x row) ≤ row.dur
low_given x row inner =
    let given = within_given x row.snaps row.dur in
    let same : out x (low x row) ≡ out x (snap_within x row.snaps row.dur) = ap (out x) (low_is x row inner) in
    omega (arith, given, same)

-- the greatest that passes is one of them, or 0
member_step : (test : ℕ → Bool) (m : ℕ) (ms : List ℕ) (b : Bool) (g : ℕ) → (g ≡ 0) ⊎ (is_one_of g ms ≡ true)
    → (max (if b then m else 0) g ≡ 0) ⊎ (is_one_of (max (if b then m else 0) g) (m ∷ ms) ≡ true)
member_step test m ms false g h = ⊎_elim
    (λ (none : g ≡ 0). let e : max 0 g ≡ 0 = omega (arith, none) in inl e)
    (λ (one : is_one_of g ms ≡ true).
    let same : g ≡ max 0 g = omega arith in
    inr (subst (λ (i : ℕ). is_one_of i (m ∷ ms) ≡ true) same (rest_is g m ms one)))
    h
member_step test m ms true g h = ⊎_elim
    (λ (less : m < g). ⊎_elim
    (λ (none : g ≡ 0). absurd (omega (arith, none, less)))
    (λ (one : is_one_of g ms ≡ true).
    let same : g ≡ max m g = omega (arith, less) in
    inr (subst (λ (i : ℕ). is_one_of i (m ∷ ms) ≡ true) same (rest_is g m ms one)))
    h)
    (λ (past : g ≤ m).
    let same : m ≡ max m g = omega (arith, past) in
    inr (subst (λ (i : ℕ). is_one_of i (m ∷ ms) ≡ true) same (first_is m ms)))
    (cases_lt m g)

greatest_member : (test : ℕ → Bool) (ns : List ℕ) → (greatest_where test ns ≡ 0) ⊎ (is_one_of (greatest_where test ns) ns ≡ true)
greatest_member test [] = inl refl
greatest_member test (m ∷ ms) = member_step test m ms (test m) (greatest_where test ms) (greatest_member test ms)

-- and no other that passes is above it
none_above : (test : ℕ → Bool) (ns : List ℕ) (n : ℕ) → is_one_of n ns ≡ true → test n ≡ true → n ≤ greatest_where test ns
none_above test [] n one passes = absurd cc
none_above test (m ∷ ms) n one passes = ⊎_elim
    (λ (same : m ≡ n).
    let first : test m ≡ true = ap test same ∙ passes in
    subst (λ (b : Bool). n ≤ max (if b then m else 0) (greatest_where test ms)) (sym first) (omega (arith, same)))
    (λ (other : m ≢ n).
    let rest = none_above test ms n (sym (ap (λ (b : Bool). b || is_one_of n ms) (ne_eqb m n other)) ∙ one) passes in
    omega (arith, rest))
    (cases_eq m n)

-- where 0 is the greatest that passes and some number does, 0 is that number
is_one_at_most : (test : ℕ → Bool) (ns : List ℕ) (n : ℕ) → is_one_of n ns ≡ true → test n ≡ true
    → is_one_of (greatest_where test ns) ns ≡ true
is_one_at_most test ns n one passes = ⊎_elim
    (λ (none : greatest_where test ns ≡ 0).
    let most = none_above test ns n one passes in
    let same : n ≡ greatest_where test ns = omega (arith, none, most) in
    subst (λ (i : ℕ). is_one_of i ns ≡ true) same one)
    (λ (some : is_one_of (greatest_where test ns) ns ≡ true). some)
    (greatest_member test ns)

pub within_is_one : (x : VertexNumbers) (snaps : List ℕ) (limit n : ℕ) → is_one_of n snaps ≡ true → out x n ≤ limit
    → is_one_of (snap_within x snaps limit) snaps ≡ true
unfolding snap_within
within_is_one x snaps limit n one given =
    is_one_at_most (λ k. nat_le (out x k) limit) snaps n one (le_true (out x n) limit given)

pub told_start : (x : VertexNumbers) (f : ℕ → SnapRow) (row : LedgerRow) (limit : ℕ) → Tells x f row.snaps → is_inner x.kind ≡ true
    → is_one_of (low x row) row.snaps ≡ true → row.dur ≤ limit → HasStart (map f row.snaps) limit
told_start x f row limit tells inner is_low least =
    let place = place_of (low x row) row.snaps is_low in
    let given = low_given x row inner in
    let there : out x (get_or row.snaps place.0 0) ≡ out x (low x row) = ap (out x) place.2 in
    let inside = place.1 in
    (place.0, omega (arith, inside, length-map row.snaps f), omega (arith, told_out x f row.snaps place.0 tells inside, there, given, least))

-- ---- the snapshots of a sound vault

pub sound_tells : (plan : PlanText) → SnapshotFacts plan → (s : VaultTold) (v : ℕ) → Sound plan s → IsOperator (plan_numbers plan) v
    → Tells (vertex (plan_numbers plan) v) (snap_at plan v) (durable_of s v).snaps
sound_tells plan snaps s v sound operator = record {
  number = λ n h. (snaps.coded v n operator ((sound.numbers.stands.row v).snaps n h)).number;
  given = λ n h. (snaps.coded v n operator ((sound.numbers.stands.row v).snaps n h)).given;
}

pub sound_rise : (plan : PlanText) → SnapshotFacts plan → (s : VaultTold) (v : ℕ) → Sound plan s → IsOperator (plan_numbers plan) v
    → RisesInN (snaps_held s.held v)
sound_rise plan snaps s v sound operator =
    subst RisesInN (sym (sound.snapshots v).told)
    (told_rise (vertex (plan_numbers plan) v) (snap_at plan v) (durable_of s v).snaps (sound_tells plan snaps s v sound operator) (sound.numbers.stands.row v).rises)

pub sound_start : (plan : PlanText) → SnapshotFacts plan → (s : VaultTold) (v limit : ℕ) → Sound plan s → IsOperator (plan_numbers plan) v
    → (durable_of s v).dur ≤ limit → HasStart (snaps_held s.held v) limit
sound_start plan snaps s v limit sound operator least =
    subst (λ (rows : List SnapRow). HasStart rows limit) (sym (sound.snapshots v).told)
    (told_start (vertex (plan_numbers plan) v) (snap_at plan v) (durable_of s v) limit (sound_tells plan snaps s v sound operator) operator.1
    ((sound.numbers.stands.row v).low operator.1) least)

pub sound_within : (plan : PlanText) → SnapshotFacts plan → (s : VaultTold) (v limit : ℕ) → Sound plan s → IsOperator (plan_numbers plan) v
    → greatest_within (snaps_held s.held v) limit ≡ snap_within (vertex (plan_numbers plan) v) (durable_of s v).snaps limit
sound_within plan snaps s v limit sound operator =
    ap (λ (rows : List SnapRow). greatest_within rows limit) (sound.snapshots v).told
    ∙ greatest_told (vertex (plan_numbers plan) v) (snap_at plan v) (durable_of s v).snaps limit (sound_tells plan snaps s v sound operator)
