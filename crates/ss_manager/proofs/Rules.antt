-- The rule, by its tests.
use Rattle.std.proofs.Common.{◌≡◌, ℕ, nat_lt, nat_le, Bool, true, false, Option, Some, None, if◌then◌else◌, length, refl, sym, le-leb, ltb-false, ltb-true}
use Rattle.std.proofs.Common.{⊎_elim}
use Rattle.std.proofs.lemmas.Bool.{cases_Bool, lt-leb, cond-true, cond-false}
use Rattle.std.specs.Prelude.{is_some, option_map}
use Rattle.std.specs.Option.{option_map_or}
use Rattle.ss_fail.specs.declared.act.Act.{Act}
use Rattle.ss_fail.specs.declared.act.Act.TheVariants as act
use Rattle.ss_state.specs.Numbers.{VertexNumbers, mlen}
use Rattle.ss_state.specs.Rule.{rule, snap_due}
use Rattle.ss_state.specs.State.{InstNumbers}
use Rattle.ss_vertex.specs.Inst.{Running, InstState, inst_numbers, is_up, left_of, n_of, running_numbers}
use Rattle.ss_vertex.specs.Laws.{wanted_in}

-- whether something is left to write, whether a snapshot is due, and whether all has arrived
abbrev pub by_tests : Bool → Bool → Bool → ℕ → ℕ → Act
by_tests left due ended v r =
    if left then act.Write v r else (if due then act.Snap v r else (if ended then act.Write v r else act.Read v r))

up_decides : (x : VertexNumbers) (v r last : ℕ) (up : InstNumbers) (left due ended : Bool) → nat_lt 0 up.left ≡ left
    → snap_due x up.n last ≡ due → nat_le (mlen x) up.n ≡ ended → rule x v r (Some up) last ≡ by_tests left due ended v r
unfolding rule
up_decides x v r last up left due ended a b c = rw (a, b, c) refl

down : (x : VertexNumbers) (v r last : ℕ) (running : Option Running) → is_some running ≡ false
    → act.Load v r ≡ rule x v r (option_map running_numbers running) last
unfolding rule
down x v r last None e = refl
down x v r last (Some up) e = absurd (cc)

pub down_loads : (x : VertexNumbers) (v r last : ℕ) (inst : InstState) → is_up inst ≡ false → act.Load v r ≡ rule x v r (inst_numbers inst) last
down_loads x v r last inst e = down x v r last inst.running e

-- of one that is up or down: how many outputs are left, and how many elements it has accepted
abbrev left_in : Option Running → ℕ
left_in running = option_map_or (λ up. length up.left) running 0

abbrev n_in : Option Running → ℕ
n_in running = option_map_or (λ up. up.n) running 0

up : (x : VertexNumbers) (v r last : ℕ) (running : Option Running) (left due ended : Bool) → is_some running ≡ true → nat_lt 0 (left_in running) ≡ left
    → snap_due x (n_in running) last ≡ due → nat_le (mlen x) (n_in running) ≡ ended
    → by_tests left due ended v r ≡ rule x v r (option_map running_numbers running) last
up x v r last None left due ended e a b c = absurd (cc)
up x v r last (Some i) left due ended e a b c = sym (up_decides x v r last (running_numbers i) left due ended a b c)

pub decides : (x : VertexNumbers) (v r last : ℕ) (inst : InstState) (left due ended : Bool) → is_up inst ≡ true → nat_lt 0 (left_of inst) ≡ left
    → snap_due x (n_of inst) last ≡ due → nat_le (mlen x) (n_of inst) ≡ ended → by_tests left due ended v r ≡ rule x v r (inst_numbers inst) last
decides x v r last inst left due ended e a b c = up x v r last inst.running left due ended e a b c

-- whether all has arrived, from what is wanted

pub more_arrives : (x : VertexNumbers) (n : ℕ) (pair : ℕ × ℕ) → Some pair ≡ wanted_in x n → nat_le (mlen x) n ≡ false
more_arrives x n pair e =
    ⊎_elim (λ less. lt-leb (mlen x) n (ltb-true n (mlen x) less))
    (λ past. let none : wanted_in x n ≡ None = cond-false (nat_lt n (mlen x)) _ _ past in absurd (cc))
    (cases_Bool (nat_lt n (mlen x)))

pub all_arrived : (x : VertexNumbers) (n : ℕ) → None ≡ wanted_in x n → nat_le (mlen x) n ≡ true
all_arrived x n e =
    ⊎_elim (λ less. let some : wanted_in x n ≡ Some _ = cond-true (nat_lt n (mlen x)) _ _ less in absurd (cc))
    (λ past. le-leb (mlen x) n (ltb-false n (mlen x) past))
    (cases_Bool (nat_lt n (mlen x)))
