-- The vertex from which a replica of an operator wants its next element.
use Rattle.std.proofs.Common.{◌≡◌, ℕ, ◌<◌, Bool, true, false, not, ◌||◌, nat_lt, nat_le, Option, Some, None, length, ap, refl, arith, ltb-true, if◌then◌else◌}
use Rattle.std.specs.Prelude.{option_map, is_some}
use Rattle.std.specs.Option.{option_map_or}
use Rattle.std.proofs.lemmas.Bool.Decides.{nat_tests}
use Rattle.ss_acts.specs.Readings.{is_ready}
use Rattle.ss_state.specs.IsNumbers.{IsNumbers}
use Rattle.ss_state.specs.Numbers.{JobNumbers, VertexNumbers, IsOperator, is_inner, vertex, input, mlen, wanted_input, wanted_number}
use Rattle.ss_state.specs.Step.{wanted_vertex}
use Rattle.ss_vertex.specs.Inst.{Running, running_numbers}
use Rattle.ss_vertex.specs.Laws.{wanted_in}
use Rattle.ss_water.specs.Graph.{is_sink}
use Rattle.ss_water.specs.declared.node.Kind.{Kind}
use Rattle.ss_water.specs.declared.node.Kind.TheVariants.{Source, Inner, Sink}

abbrev count_of : Option Running → ℕ
count_of running = option_map_or (λ (up : Running). up.n) running 0

-- one that is down may not read
pub down_waits : (x : VertexNumbers) (running : Option Running) → is_some running ≡ false
    → is_ready x (option_map running_numbers running) ≡ true → ⊥
down_waits x None down ready = cc
down_waits x (Some up) down ready = cc

not_past : (left ended : Bool) → not (left || ended) ≡ true → ended ≡ false
not_past true ended e = cc
not_past false true e = cc
not_past false false e = refl

not_behind : (m n : ℕ) → nat_le m n ≡ false → nat_lt n m ≡ true
not_behind m n e = grind (arith, nat_tests)

-- one that may read has an element to come
pub ready_wants : (x : VertexNumbers) (running : Option Running) → is_ready x (option_map running_numbers running) ≡ true
    → nat_lt (count_of running) (mlen x) ≡ true
ready_wants x None ready = cc
ready_wants x (Some up) ready =
    not_behind (mlen x) up.n (not_past (nat_lt 0 (length up.left)) (nat_le (mlen x) up.n) ready)

-- and wants it from here
pub ready_from : (x : VertexNumbers) (running : Option Running) → is_ready x (option_map running_numbers running) ≡ true
    → wanted_vertex x (option_map running_numbers running) ≡ input x (wanted_input x (count_of running))
ready_from x None ready = cc
ready_from x (Some up) ready = refl

-- what is wanted, where something is
some_wanted : (b : Bool) (i n : ℕ) (place : ℕ × ℕ) → Some place ≡ (if b then Some (i, n) else None) → (b ≡ true) × (place ≡ (i, n))
some_wanted true i n place e = (refl, cc)
some_wanted false i n place e = absurd (cc)

pub wanted_place : (x : VertexNumbers) (n : ℕ) (place : ℕ × ℕ) → Some place ≡ wanted_in x n
    → (nat_lt n (mlen x) ≡ true) × (place.0 ≡ wanted_input x n)
wanted_place x n place e =
    let both = some_wanted (nat_lt n (mlen x)) (wanted_input x n) (wanted_number x n) place e in
    (both.0, ap (λ (p : ℕ × ℕ). p.0) both.1)

none_wanted : (b : Bool) (place : ℕ × ℕ) → None ≡ (if b then Some place else None) → b ≡ true → ⊥
none_wanted true place e more = absurd cc
none_wanted false place e more = absurd cc

pub nothing_wanted : (x : VertexNumbers) (n : ℕ) → None ≡ wanted_in x n → nat_lt n (mlen x) ≡ true → ⊥
nothing_wanted x n e more = none_wanted (nat_lt n (mlen x)) (wanted_input x n, wanted_number x n) e more

-- the inputs of an operator are vertices of the job
pub input_within : (job : JobNumbers) (v n : ℕ) → IsNumbers job → IsOperator job v → nat_lt n (mlen (vertex job v)) ≡ true
    → (wanted_input (vertex job v) n < length (vertex job v).inputs) × (input (vertex job v) (wanted_input (vertex job v) n) < length job.vertices)
input_within job v n numbers operator more =
    let x = numbers.each v operator.0 in
    let among = x.arrivals operator.1 n (ltb-true n (mlen (vertex job v)) more) in
    let earlier = x.earlier (wanted_input (vertex job v) n) among in
    let within = operator.0 in
    (among, omega (arith, earlier, within))

-- what gives a stream and is no operator is a source
pub source_kind : (k : Kind) → is_inner k ≡ false → is_sink k ≡ false → k ≡ Source
source_kind Source e f = refl
source_kind Inner e f = cc
source_kind Sink e f = cc
