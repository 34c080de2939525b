-- The numbers of the vault, place by place.
use Rattle.std.proofs.Common.{◌≡◌, ℕ, ◌+◌, ◌*◌, ◌<◌, ◌≤◌, ◌||◌, not, nat_le, Bool, true, false, List, [], ◌∷◌, ◌++◌, length, map, get_or, refl, sym, ap, ◌∙◌, subst, arith}
use Rattle.std.specs.List.{range_with_len}
use Rattle.std.specs.Prelude.{if◌then◌else◌}
use Rattle.std.proofs.lemmas.Bool.Decides.{nat_tests}
use Rattle.std.proofs.lemmas.List.Elements.{All-get_or, All-from_get_or}
use Rattle.std.proofs.lemmas.List.FromFn.{get_or-range_with_len, length-range_with_len, length-map-range_with_len, map-range_with_len_more}
use Rattle.std.proofs.lemmas.List.Sums.{AllPass-from_list_all, list_all-from_AllPass}
use Rattle.ss_crew.specs.Rows.{Three, have_ended, put_all, put_three, stored_row, stored_rows}
use Rattle.ss_frames.specs.Plans.{plan_numbers}
use Rattle.ss_plan.specs.Plan.{PlanText}
use Rattle.ss_state.specs.LowWater.{low, snap_within}
use Rattle.ss_state.specs.Numbers.{JobNumbers, VertexNumbers, input, is_inner, size, vertex, vertices}
use Rattle.ss_state.specs.State.{LedgerRow}
use Rattle.ss_vault.specs.Readers.{HaveAllEnded}
use Rattle.ss_vault.specs.Sound.{Sound, takes_no_more}
use Rattle.ss_vault.specs.Told.{VaultTold, durable_of, numbers_of}
use Rattle.ss_water.specs.Graph.{is_sink}
use Rattle.ss_water.specs.declared.node.Kind.{Kind}
use Rattle.ss_water.specs.declared.node.Kind.TheVariants.{Inner, Sink, Source}

-- one row more behind others
put_more : (xs : List ℕ) (place : ℕ) (rs : List Three) (r : Three)
    → put_all xs place (rs ++ r ∷ []) ≡ put_three (put_all xs place rs) (place + 3 * length rs) r
put_more xs place [] r = ap (λ (n : ℕ). put_three xs n r) (omega arith)
put_more xs place (q ∷ rs) r =
    put_more (put_three xs place q) (place + 3) rs r
    ∙ ap (λ (n : ℕ). put_three (put_all (put_three xs place q) (place + 3) rs) n r) (omega arith)

-- the row of the next vertex
pub put_next : (job : JobNumbers) (s : VaultTold) (xs ys : List ℕ) (v place : ℕ) (r : Three) → place ≡ 8 + 3 * v
    → r ≡ stored_row (vertex job v) (durable_of s v)
    → ys ≡ put_all xs 8 (stored_rows job s (range_with_len 0 v))
    → put_three ys place r ≡ put_all xs 8 (stored_rows job s (range_with_len 0 (v + 1)))
put_next job s xs ys v place r at is before =
    let rows = λ (w : ℕ). stored_row (vertex job w) (durable_of s w) in
    let start : 0 + v ≡ v = omega arith in
    let more = map-range_with_len_more rows 0 v v start in
    let len = length-map-range_with_len rows 0 v in
    ap (λ (zs : List ℕ). put_three zs place r) before
    ∙ (ap (λ (q : Three). put_three (put_all xs 8 (map rows (range_with_len 0 v))) place q) is
    ∙ (ap (λ (n : ℕ). put_three (put_all xs 8 (map rows (range_with_len 0 v))) n (rows v)) (omega (arith, at, len))
    ∙ (sym (put_more xs 8 (map rows (range_with_len 0 v)) (rows v))
    ∙ ap (put_all xs 8) (sym more))))

le_of : (m n : ℕ) → nat_le m n ≡ true → m ≤ n
le_of m n h = grind (arith, nat_tests)

le_yes : (m n : ℕ) → m ≤ n → nat_le m n ≡ true
le_yes m n h = grind (arith, nat_tests)

sink_ended : (k : Kind) (b : Bool) → k ≡ Sink → (not (is_sink k) || b) ≡ b
sink_ended Source b e = absurd cc
sink_ended Inner b e = absurd cc
sink_ended Sink b e = refl

vertex_ended : (k : Kind) (b : Bool) → (k ≡ Sink → b ≡ true) → (not (is_sink k) || b) ≡ true
vertex_ended Source b h = refl
vertex_ended Inner b h = refl
vertex_ended Sink b h = h refl

ended_means : (plan : PlanText) (s : VaultTold) → Sound plan s → have_ended (plan_numbers plan) s ≡ true → HaveAllEnded plan s
ended_means plan s sound e k sink =
    let job : JobNumbers = plan_numbers plan in
    let u : ℕ = input (vertex job k) 0 in
    let inside = sink.0 in
    let test = takes_no_more job (numbers_of s).ledger in
    let all = AllPass-from_list_all test (vertices job) e in
    let len = length-range_with_len 0 (length job.vertices) in
    let here = All-get_or (λ (j : ℕ). test j ≡ true) (vertices job) k 0 (omega (arith, inside, len)) all in
    let at = get_or-range_with_len 0 (length job.vertices) k 0 inside in
    let yes : test k ≡ true = subst (λ (j : ℕ). test j ≡ true) (at ∙ omega arith) here in
    let least = le_of (size (vertex job u)) (durable_of s k).taken (sym (sink_ended (vertex job k).kind (nat_le (size (vertex job u)) (durable_of s k).taken) sink.1) ∙ yes) in
    let taken = sound.numbers.stands.taken k sink in
    let dur = (sound.numbers.stands.row u).dur in
    omega (arith, least, taken, dur)

means_ended : (plan : PlanText) (s : VaultTold) → HaveAllEnded plan s → have_ended (plan_numbers plan) s ≡ true
means_ended plan s all =
    let job : JobNumbers = plan_numbers plan in
    let test = takes_no_more job (numbers_of s).ledger in
    let len = length-range_with_len 0 (length job.vertices) in
    list_all-from_AllPass test (vertices job)
    (All-from_get_or (λ (j : ℕ). test j ≡ true) (vertices job) 0 (λ k inside.
    let within : k < length job.vertices = omega (arith, inside, len) in
    let at : get_or (vertices job) k 0 ≡ k = get_or-range_with_len 0 (length job.vertices) k 0 within ∙ omega arith in
    subst (λ (j : ℕ). test j ≡ true) (sym at)
    (vertex_ended (vertex job k).kind (nat_le (size (vertex job (input (vertex job k) 0))) (durable_of s k).taken)
    (λ sink. let e = all k (within, sink) in le_yes (size (vertex job (input (vertex job k) 0))) (durable_of s k).taken (omega (arith, e))))))

same_truth : (a b : Bool) → (a ≡ true → b ≡ true) → (b ≡ true → a ≡ true) → a ≡ b
same_truth true b to from = sym (to refl)
same_truth false true to from = from refl
same_truth false false to from = refl

-- the vault's own answer tells whether every sink has ended
pub ended_is : (plan : PlanText) (s : VaultTold) (answer : Bool) → Sound plan s → (answer ≡ true → HaveAllEnded plan s)
    → (HaveAllEnded plan s → answer ≡ true) → answer ≡ have_ended (plan_numbers plan) s
ended_is plan s answer sound to from =
    same_truth answer (have_ended (plan_numbers plan) s) (λ e. means_ended plan s (to e)) (λ e. from (ended_means plan s sound e))

abbrev three : ℕ → ℕ → ℕ → Three
three a b c = record { first = a; second = b; third = c }

stream_is : (b : Bool) (row : LedgerRow) (mark : ℕ) → b ≡ false
    → three row.base row.dur mark ≡ (if b then three row.taken 0 0 else three row.base row.dur mark)
stream_is false row mark e = refl
stream_is true row mark e = absurd cc

sink_is : (b : Bool) (row : LedgerRow) (mark : ℕ) → b ≡ true
    → three row.taken 0 0 ≡ (if b then three row.taken 0 0 else three row.base row.dur mark)
sink_is true row mark e = refl
sink_is false row mark e = absurd cc

same_three : (a b c d e f : ℕ) → a ≡ d → b ≡ e → c ≡ f → three a b c ≡ three d e f
same_three a b c d e f p q r = cc

-- what is stored of a stream
pub stored_stream : (x : VertexNumbers) (row : LedgerRow) (base dur mark : ℕ) → is_sink x.kind ≡ false → base ≡ row.base
    → dur ≡ row.dur → mark ≡ low x row → three base dur mark ≡ stored_row x row
stored_stream x row base dur mark e p q r =
    same_three base dur mark row.base row.dur (low x row) p q r ∙ stream_is (is_sink x.kind) row (low x row) e

-- what is stored of a sink
pub stored_sink : (x : VertexNumbers) (row : LedgerRow) (taken : ℕ) → x.kind ≡ Sink → taken ≡ row.taken
    → three taken 0 0 ≡ stored_row x row
stored_sink x row taken e p =
    ap (λ (n : ℕ). three n 0 0) p ∙ sink_is (is_sink x.kind) row (low x row) (ap is_sink e)

-- the mark of a source
pub low_source : (x : VertexNumbers) (row : LedgerRow) → x.kind ≡ Source → low x row ≡ row.mark
unfolding low
low_source x row e = ap (λ (k : Kind). if is_inner k then snap_within x row.snaps row.dur else row.mark) e
