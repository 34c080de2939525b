-- What is left at one vertex, over its parts.
use Rattle.std.proofs.Common.{◌≡◌, ℕ, ◌+◌, ◌-◌, ◌<◌, ◌≤◌, ◌⊎◌, nat_eq, nat_lt, Bool, true, false, ◌&&◌, ◌||◌, cond, Option, Some, None, List, [], ◌∷◌, refl, ap, inl, inr, ⊎_elim, arith, ltb-true, lt-ltb, le-ltb}
use Rattle.ss_fail.specs.declared.trigger.Trigger.{Trigger}
use Rattle.ss_state.specs.Numbers.{VertexNumbers, size}
use Rattle.ss_state.specs.State.{TailNumbers, InstNumbers, LedgerRow, next}
use Rattle.ss_state.specs.Rule.{snap_due, last_snap}
use Rattle.ss_rounds.specs.Measure.{rank, bit, waiting, store_left, floor, stage, effort, effort_most, work_left, work_most}
use Rattle.ss_rounds.proofs.Sums.{Lower, rank_first, rank_second, rank_both, rank_lower}

pub bit_most : (b : Bool) → bit b ≤ 1
bit_most true = omega arith
bit_most false = omega arith

pub effort_fits : (x : VertexNumbers) (inst : Option InstNumbers) (last : ℕ) → effort x inst last ≤ effort_most x
effort_fits x None last = omega arith
effort_fits x (Some up) last = let one = bit_most (snap_due x up.n last) in omega arith

stage_fits : (x : VertexNumbers) (inst : Option InstNumbers) (end floor : ℕ) → stage x inst end floor ≤ 2
stage_fits x None end floor = omega arith
stage_fits x (Some up) end floor = by_test (nat_lt end (next x up) || nat_lt up.n floor)
  where
    by_test : (b : Bool) → cond b 2 0 ≤ 2
    by_test true = omega arith
    by_test false = omega arith

pub work_fits : (x : VertexNumbers) (tail : TailNumbers) (inst : Option InstNumbers) (row : LedgerRow) → work_left x tail inst row ≤ work_most x
unfolding work_left
work_fits x tail inst row =
    let few = stage_fits x inst tail.end (floor x row) in
    let less = rank_first (effort_most x) 3 0 (stage x inst tail.end (floor x row)) (effort x inst (last_snap row.snaps)) (omega arith) (effort_fits x inst (last_snap row.snaps)) in
    omega arith

-- work is lower where the stage is, or the effort at no higher stage
pub work_lower : (x : VertexNumbers) (tail new_tail : TailNumbers) (inst new_inst : Option InstNumbers) (row new_row : LedgerRow)
    → Lower (stage x inst tail.end (floor x row)) (effort x inst (last_snap row.snaps)) (stage x new_inst new_tail.end (floor x new_row)) (effort x new_inst (last_snap new_row.snaps))
    → work_left x new_tail new_inst new_row < work_left x tail inst row
unfolding work_left
work_lower x tail new_tail inst new_inst row new_row h =
    rank_lower (effort_most x) (stage x inst tail.end (floor x row)) (effort x inst (last_snap row.snaps))
    (stage x new_inst new_tail.end (floor x new_row)) (effort x new_inst (last_snap new_row.snaps)) (effort_fits x new_inst (last_snap new_row.snaps)) h

-- a stage that falls from 2 or from 1, or stays
pub stage_two : (x : VertexNumbers) (up : InstNumbers) (end floor : ℕ) → (end < next x up) ⊎ (up.n < floor) → stage x (Some up) end floor ≡ 2
stage_two x up end floor h = by_tests (nat_lt end (next x up)) (nat_lt up.n floor) (⊎_elim (λ l. inl (lt-ltb end (next x up) l)) (λ l. inr (lt-ltb up.n floor l)) h)
  where
    by_tests : (a b : Bool) → (a ≡ true) ⊎ (b ≡ true) → ◌≡◌ {A = ℕ} (cond (a || b) 2 0) 2
    by_tests true b k = refl
    by_tests false true k = refl
    by_tests false false (inl k) = cc
    by_tests false false (inr k) = cc

pub stage_none : (x : VertexNumbers) (up : InstNumbers) (end floor : ℕ) → next x up ≤ end → floor ≤ up.n → stage x (Some up) end floor ≡ 0
stage_none x up end floor h l = by_tests (nat_lt end (next x up)) (nat_lt up.n floor) (le-ltb end (next x up) h) (le-ltb up.n floor l)
  where
    by_tests : (a b : Bool) → a ≡ false → b ≡ false → ◌≡◌ {A = ℕ} (cond (a || b) 2 0) 0
    by_tests true b h k = cc
    by_tests false true h k = cc
    by_tests false false h k = refl

-- a replica no further behind than another
pub stage_le : (x : VertexNumbers) (up new : InstNumbers) (end new_end floor new_floor : ℕ) → (new_end < next x new → end < next x up) → (new.n < new_floor → up.n < floor)
    → stage x (Some new) new_end new_floor ≤ stage x (Some up) end floor
stage_le x up new end new_end floor new_floor h l =
    by_tests (nat_lt end (next x up)) (nat_lt up.n floor) (nat_lt new_end (next x new)) (nat_lt new.n new_floor)
    (λ e. lt-ltb end (next x up) (h (ltb-true new_end (next x new) e))) (λ e. lt-ltb up.n floor (l (ltb-true new.n new_floor e)))
  where
    by_tests : (a b c d : Bool) → (c ≡ true → a ≡ true) → (d ≡ true → b ≡ true) → cond (c || d) 2 0 ≤ cond (a || b) 2 0
    by_tests true b true d h l = omega arith
    by_tests true b false true h l = omega arith
    by_tests true b false false h l = omega arith
    by_tests false true true d h l = omega arith
    by_tests false true false true h l = omega arith
    by_tests false true false false h l = omega arith
    by_tests false false true d h l = let e = h refl in cc
    by_tests false false false true h l = let e = l refl in cc
    by_tests false false false false h l = omega arith

-- no trigger more waits for a later count
pub waiting_le : (ts : List Trigger) (v count new : ℕ) → count ≤ new → waiting ts v new ≤ waiting ts v count
waiting_le [] v count new h = omega arith
waiting_le (t ∷ ts) v count new h =
    by_tests (nat_eq t.v v) (nat_lt new t.count) (nat_lt count t.count)
    (λ e. let less = ltb-true new t.count e in lt-ltb count t.count (omega arith)) (waiting_le ts v count new h)
  where
    by_tests : (a b c : Bool) → (b ≡ true → c ≡ true) → waiting ts v new ≤ waiting ts v count
        → cond (a && b) (waiting ts v new + 1) (waiting ts v new) ≤ cond (a && c) (waiting ts v count + 1) (waiting ts v count)
    by_tests false b c h k = k
    by_tests true true true h k = omega arith
    by_tests true true false h k = let e = h refl in cc
    by_tests true false true h k = omega arith
    by_tests true false false h k = omega arith

-- what is left to store isn't more where no trigger more waits, the tail was told of no less, and as much is stored
pub store_le : (x : VertexNumbers) (waiting new_waiting : ℕ) (tail new_tail : TailNumbers) (row new_row : LedgerRow) → new_waiting ≤ waiting → tail.seen ≤ new_tail.seen → new_row.dur ≡ row.dur
    → store_left x new_waiting new_tail new_row ≤ store_left x waiting tail row
unfolding store_left
store_le x waiting new_waiting tail new_tail row new_row h told same =
    rank_both 1 (rank (size x) waiting (size x - row.dur)) (bit (nat_lt tail.seen row.dur)) (rank (size x) new_waiting (size x - new_row.dur)) (bit (nat_lt new_tail.seen new_row.dur))
    (rank_both (size x) waiting (size x - row.dur) new_waiting (size x - new_row.dur) h (omega arith))
    (by_tests (nat_lt tail.seen row.dur) (nat_lt new_tail.seen new_row.dur)
    (λ e. let less = ltb-true new_tail.seen new_row.dur e in lt-ltb tail.seen row.dur (omega arith)))
  where
    by_tests : (a b : Bool) → (b ≡ true → a ≡ true) → bit b ≤ bit a
    by_tests true true k = omega arith
    by_tests true false k = omega arith
    by_tests false true k = let e = k refl in cc
    by_tests false false k = omega arith

-- it is less where fewer triggers wait
pub store_by_waiting : (x : VertexNumbers) (waiting new_waiting : ℕ) (tail new_tail : TailNumbers) (row new_row : LedgerRow) → new_waiting < waiting
    → store_left x new_waiting new_tail new_row < store_left x waiting tail row
unfolding store_left
store_by_waiting x waiting new_waiting tail new_tail row new_row h =
    let few = rank_first (size x) waiting (size x - row.dur) new_waiting (size x - new_row.dur) h (omega arith) in
    rank_first 1 (rank (size x) waiting (size x - row.dur)) (bit (nat_lt tail.seen row.dur)) (rank (size x) new_waiting (size x - new_row.dur)) (bit (nat_lt new_tail.seen new_row.dur)) few (bit_most (nat_lt new_tail.seen new_row.dur))

-- where more is stored
pub store_by_dur : (x : VertexNumbers) (waiting : ℕ) (tail new_tail : TailNumbers) (row new_row : LedgerRow) → row.dur < new_row.dur → new_row.dur ≤ size x
    → store_left x waiting new_tail new_row < store_left x waiting tail row
unfolding store_left
store_by_dur x waiting tail new_tail row new_row h l =
    let few = rank_second (size x) waiting (size x - row.dur) waiting (size x - new_row.dur) (omega arith) (omega arith) in
    rank_first 1 (rank (size x) waiting (size x - row.dur)) (bit (nat_lt tail.seen row.dur)) (rank (size x) waiting (size x - new_row.dur)) (bit (nat_lt new_tail.seen new_row.dur)) few (bit_most (nat_lt new_tail.seen new_row.dur))

-- and where the tail is told of all that is stored
pub store_by_seen : (x : VertexNumbers) (waiting : ℕ) (tail new_tail : TailNumbers) (row new_row : LedgerRow) → new_row.dur ≡ row.dur → tail.seen < row.dur → row.dur ≤ new_tail.seen
    → store_left x waiting new_tail new_row < store_left x waiting tail row
unfolding store_left
store_by_seen x waiting tail new_tail row new_row same h l =
    let was : bit (nat_lt tail.seen row.dur) ≡ 1 = ap bit (lt-ltb tail.seen row.dur h) in
    let is : bit (nat_lt new_tail.seen new_row.dur) ≡ 0 = ap bit (le-ltb new_tail.seen new_row.dur (omega arith)) in
    rank_second 1 (rank (size x) waiting (size x - row.dur)) (bit (nat_lt tail.seen row.dur)) (rank (size x) waiting (size x - new_row.dur)) (bit (nat_lt new_tail.seen new_row.dur))
    (rank_both (size x) waiting (size x - row.dur) waiting (size x - new_row.dur) (omega arith) (omega arith)) (omega arith)
