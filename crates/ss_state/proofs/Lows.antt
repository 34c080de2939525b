-- Low-water marks: where they lie, and that they rise.
use Rattle.std.proofs.Common.{◌≡◌, ℕ, ◌≤◌, Bool, true, false, nat_le, List, filter, refl, sym, subst, ◌⊎◌, ⊎_elim, arith, leb-true, le-leb}
use Rattle.std.proofs.lemmas.Bool.{cond-true, cond-false, both_ways, true≢false, false≢true}
use Rattle.ss_water.specs.declared.node.Kind.{Kind}
use Rattle.ss_water.specs.declared.node.Kind.TheVariants.{Source, Inner, Sink}
use Rattle.ss_water.specs.Graph.{is_sink}
use Rattle.ss_state.specs.Numbers.{VertexNumbers, is_inner, out}
use Rattle.ss_state.specs.State.{LedgerRow}
use Rattle.ss_state.specs.LowWater.{greatest_where, snap_within, low}
use Rattle.ss_state.specs.Journal.{is_one_of, put_in, trimmed_row}
use Rattle.ss_state.specs.Joint.{MayAccept, Suits}
use Rattle.ss_state.proofs.Parts.{RowFits}
use Rattle.ss_state.proofs.Counting.{pos_zero, out_zero}
use Rattle.ss_state.proofs.Snapshots.{one_of_put, put_other, one_of_filter, filter_keeps, greatest_in, greatest_least, greatest_passes, greatest_grows, rises_put, rises_filter}

gives_none : (x : VertexNumbers) (limit : ℕ) → nat_le (out x 0) limit ≡ true
gives_none x limit = le-leb (out x 0) limit (omega (arith, out_zero x))

pub within_limit : (x : VertexNumbers) (snaps : List ℕ) (limit : ℕ) → out x (snap_within x snaps limit) ≤ limit
unfolding snap_within
within_limit x snaps limit = leb-true (out x (greatest_where (λ n. nat_le (out x n) limit) snaps)) limit (greatest_passes (λ n. nat_le (out x n) limit) snaps (gives_none x limit))

pub within_in : (x : VertexNumbers) (snaps : List ℕ) (limit : ℕ) → (snap_within x snaps limit ≡ 0) ⊎ (is_one_of (snap_within x snaps limit) snaps ≡ true)
unfolding snap_within
within_in x snaps limit = greatest_in (λ n. nat_le (out x n) limit) snaps

pub within_least : (x : VertexNumbers) (snaps : List ℕ) (limit n : ℕ) → is_one_of n snaps ≡ true → out x n ≤ limit → n ≤ snap_within x snaps limit
unfolding snap_within
within_least x snaps limit n h k = greatest_least (λ m. nat_le (out x m) limit) n snaps h (le-leb (out x n) limit k)

pub within_grows : (x : VertexNumbers) (ms ns : List ℕ) (a b : ℕ) → a ≤ b → ((n : ℕ) → is_one_of n ms ≡ true → out x n ≤ a → is_one_of n ns ≡ true)
    → snap_within x ms a ≤ snap_within x ns b
unfolding snap_within
within_grows x ms ns a b h more =
    greatest_grows (λ n. nat_le (out x n) a) (λ n. nat_le (out x n) b) ms ns (gives_none x a)
    (λ n i t. let early = leb-true (out x n) a t in (more n i early, le-leb (out x n) b (omega arith)))

pub low_inner : (x : VertexNumbers) (row : LedgerRow) → is_inner x.kind ≡ true → low x row ≡ snap_within x row.snaps row.dur
unfolding low
low_inner x row e = cond-true (is_inner x.kind) (snap_within x row.snaps row.dur) row.mark e

pub low_plain : (x : VertexNumbers) (row : LedgerRow) → is_inner x.kind ≡ false → low x row ≡ row.mark
unfolding low
low_plain x row e = cond-false (is_inner x.kind) (snap_within x row.snaps row.dur) row.mark e

-- a fact of each kind
pub by_kind : (x : VertexNumbers) (P : Type 0) → (is_inner x.kind ≡ true → P) → (is_inner x.kind ≡ false → P) → P
by_kind x P inner plain = by_test (is_inner x.kind) refl
  where
    by_test : (b : Bool) → is_inner x.kind ≡ b → P
    by_test true e = inner e
    by_test false e = plain e

-- low doesn't fall where dur and mark don't, and no snapshot goes that lies within dur
pub low_grows : (x : VertexNumbers) (row new : LedgerRow) → row.dur ≤ new.dur → row.mark ≤ new.mark
    → (is_inner x.kind ≡ true → (n : ℕ) → is_one_of n row.snaps ≡ true → out x n ≤ row.dur → is_one_of n new.snaps ≡ true)
    → low x row ≤ low x new
low_grows x row new dur mark snaps = by_kind x (low x row ≤ low x new)
    (λ e. let more = within_grows x row.snaps new.snaps row.dur new.dur dur (snaps e) in omega (arith, low_inner x row e, low_inner x new e))
    (λ e. omega (arith, low_plain x row e, low_plain x new e))

-- what it is of a row whose snapshots have the old mark
pub low_stored : (x : VertexNumbers) (row new : LedgerRow) → low x row ≤ low x new
    → (is_inner x.kind ≡ true → is_one_of (low x row) new.snaps ≡ true) → is_inner x.kind ≡ true → is_one_of (low x new) new.snaps ≡ true
low_stored x row new more has e =
    ⊎_elim
    (λ none. let same : low x row ≡ low x new = omega (arith, low_inner x new e) in subst (λ n. is_one_of n new.snaps ≡ true) same (has e))
    (λ some. subst (λ n. is_one_of n new.snaps ≡ true) (sym (low_inner x new e)) some) (within_in x new.snaps new.dur)

-- every vertex may have accepted nothing
pub may_accept_none : (most : ℕ) (x : VertexNumbers) → MayAccept most x 0
may_accept_none most x = record { within = omega arith; out = omega (arith, out_zero x); pos = λ i. omega (arith, pos_zero x i) }

-- what a vertex of each kind has

pub suits_dur : (k : Kind) (row : LedgerRow) (base dur : ℕ) → is_sink k ≡ false → Suits k row → Suits k (record row { base = base; dur = dur })
suits_dur Source row base dur e suits = suits
suits_dur Inner row base dur e suits = suits
suits_dur Sink row base dur e suits = absurd (true≢false e)

pub suits_taken : (k : Kind) (row : LedgerRow) (taken : ℕ) → k ≡ Sink → Suits k row → Suits k (record row { taken = taken })
suits_taken k row taken e suits = subst (λ j. Suits j (record row { taken = taken })) (sym e) (subst (λ j. Suits j row) e suits)

suits_snaps : (k : Kind) (row : LedgerRow) (snaps : List ℕ) → is_inner k ≡ true → Suits k row → Suits k (record row { snaps = snaps })
suits_snaps Source row snaps e suits = absurd (false≢true e)
suits_snaps Inner row snaps e suits = suits
suits_snaps Sink row snaps e suits = absurd (false≢true e)

suits_mark : (k : Kind) (row : LedgerRow) (mark : ℕ) → is_inner k ≡ false → is_sink k ≡ false → Suits k row → Suits k (record row { mark = mark })
suits_mark Source row mark e f suits = suits
suits_mark Inner row mark e f suits = absurd (true≢false e)
suits_mark Sink row mark e f suits = absurd (true≢false f)

-- each change of a row

pub raised_stands : (most : ℕ) (x : VertexNumbers) (row : LedgerRow) (base dur taken : ℕ) → RowFits most x row → base ≤ dur → row.dur ≤ dur
    → Suits x.kind (record row { base = base; dur = dur; taken = taken }) → RowFits most x (record row { base = base; dur = dur; taken = taken })
raised_stands most x row base dur taken stands b d suits =
    let new : LedgerRow = record row { base = base; dur = dur; taken = taken } in
    let more = low_grows x row new d (omega arith) (λ e n i o. i) in
    record {
      suits = suits;
      base = b;
      mark = omega (arith, stands.mark);
      rises = stands.rises;
      snaps = stands.snaps;
      low = low_stored x row new more stands.low;
    }

pub put_stands : (most : ℕ) (x : VertexNumbers) (row : LedgerRow) (n : ℕ) → is_inner x.kind ≡ true → RowFits most x row → MayAccept most x n
    → is_one_of n row.snaps ≡ false → RowFits most x (record row { snaps = put_in n row.snaps })
put_stands most x row n inner stands may new_one =
    let new : LedgerRow = record row { snaps = put_in n row.snaps } in
    let more = low_grows x row new (omega arith) (omega arith) (λ e m i o. put_other m n row.snaps i) in
    record {
      suits = suits_snaps x.kind row (put_in n row.snaps) inner stands.suits;
      base = stands.base;
      mark = stands.mark;
      rises = rises_put n row.snaps new_one stands.rises;
      snaps = λ m i. ⊎_elim (λ same. subst (MayAccept most x) same may) (λ other. stands.snaps m other) (one_of_put m n row.snaps i);
      low = low_stored x row new more (λ e. put_other (low x row) n row.snaps (stands.low e));
    }

pub trimmed_inner : (x : VertexNumbers) (row : LedgerRow) → is_inner x.kind ≡ true → trimmed_row x row ≡ record row { snaps = filter (λ n. nat_le (low x row) n) row.snaps }
trimmed_inner x row e = cond-true (is_inner x.kind) (record row { snaps = filter (λ n. nat_le (low x row) n) row.snaps }) (record row { mark = row.dur }) e

pub trimmed_plain : (x : VertexNumbers) (row : LedgerRow) → is_inner x.kind ≡ false → trimmed_row x row ≡ record row { mark = row.dur }
trimmed_plain x row e = cond-false (is_inner x.kind) (record row { snaps = filter (λ n. nat_le (low x row) n) row.snaps }) (record row { mark = row.dur }) e

-- a trim leaves a row that stands, with no snapshot more, and the mark doesn't fall
pub record Trims (most : ℕ) (x : VertexNumbers) (row new : LedgerRow) : Type 0 where
  pub stands : RowFits most x new
  pub snaps : (n : ℕ) → is_one_of n new.snaps ≡ true → is_one_of n row.snaps ≡ true
  pub rise : low x row ≤ low x new
  pub base : new.base ≡ row.base
  pub dur : new.dur ≡ row.dur
  pub taken : new.taken ≡ row.taken

cut_trims : (most : ℕ) (x : VertexNumbers) (row : LedgerRow) → is_inner x.kind ≡ true → RowFits most x row
    → Trims most x row (record row { snaps = filter (λ n. nat_le (low x row) n) row.snaps })
cut_trims most x row e stands =
    let f : ℕ → Bool = λ n. nat_le (low x row) n in
    let new : LedgerRow = record row { snaps = filter f row.snaps } in
    let here : is_one_of (low x row) new.snaps ≡ true = filter_keeps f (low x row) row.snaps (le-leb (low x row) (low x row) (omega arith)) (stands.low e) in
    let within = within_least x new.snaps row.dur (low x row) here (subst (λ n. out x n ≤ row.dur) (sym (low_inner x row e)) (within_limit x row.snaps row.dur)) in
    let more : low x row ≤ low x new = omega (arith, within, low_inner x new e) in
    record {
      stands = record {
        suits = suits_snaps x.kind row (filter f row.snaps) e stands.suits;
        base = stands.base;
        mark = stands.mark;
        rises = rises_filter f row.snaps stands.rises;
        snaps = λ n i. stands.snaps n (one_of_filter f n row.snaps i).1;
        low = low_stored x row new more (λ inner. here);
      };
      snaps = λ n i. (one_of_filter f n row.snaps i).1;
      rise = more;
      base = refl;
      dur = refl;
      taken = refl;
    }

mark_trims : (most : ℕ) (x : VertexNumbers) (row : LedgerRow) → is_inner x.kind ≡ false → is_sink x.kind ≡ false → RowFits most x row
    → Trims most x row (record row { mark = row.dur })
mark_trims most x row e f stands =
    let new : LedgerRow = record row { mark = row.dur } in
    record {
      stands = record {
        suits = suits_mark x.kind row row.dur e f stands.suits;
        base = stands.base;
        mark = omega arith;
        rises = stands.rises;
        snaps = stands.snaps;
        low = λ inner. absurd (both_ways (is_inner x.kind) e inner);
      };
      snaps = λ n i. i;
      rise = omega (arith, low_plain x row e, low_plain x new e, stands.mark);
      base = refl;
      dur = refl;
      taken = refl;
    }

pub trims : (most : ℕ) (x : VertexNumbers) (row : LedgerRow) → is_sink x.kind ≡ false → RowFits most x row → Trims most x row (trimmed_row x row)
trims most x row f stands = by_kind x (Trims most x row (trimmed_row x row))
    (λ e. subst (Trims most x row) (sym (trimmed_inner x row e)) (cut_trims most x row e stands))
    (λ e. subst (Trims most x row) (sym (trimmed_plain x row e)) (mark_trims most x row e f stands))
