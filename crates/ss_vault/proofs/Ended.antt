-- When every sink has ended.
use Rattle.std.proofs.Common.{◌≡◌, ℕ, ◌<◌, ◌≤◌, ◌||◌, not, nat_le, Bool, true, length, refl, sym, ◌∙◌, arith}
use Rattle.std.proofs.lemmas.Bool.Decides.{nat_tests}
use Rattle.ss_frames.specs.Plans.{plan_numbers}
use Rattle.ss_plan.specs.Plan.{PlanText}
use Rattle.ss_state.specs.Numbers.{JobNumbers, input, size, vertex}
use Rattle.ss_water.specs.Graph.{is_sink}
use Rattle.ss_water.specs.declared.node.Kind.{Kind}
use Rattle.ss_water.specs.declared.node.Kind.TheVariants.{Inner, Sink, Source}
use Rattle.ss_vault.specs.NumbersHeld.{ended_held}
use Rattle.ss_vault.specs.Readers.{HaveAllEnded}
use Rattle.ss_vault.specs.Sound.{Sound}
use Rattle.ss_vault.specs.Told.{VaultTold, durable_of, numbers_of}

le_of : (m n : ℕ) → nat_le m n ≡ true → m ≤ n
le_of m n h = grind (arith, nat_tests)

le_yes : (m n : ℕ) → m ≤ n → nat_le m n ≡ true
le_yes m n h = grind (arith, nat_tests)

-- of a sink
sink_ended : (k : Kind) (b : Bool) → k ≡ Sink → (not (is_sink k) || b) ≡ b
sink_ended Source b e = absurd cc
sink_ended Inner b e = absurd cc
sink_ended Sink b e = refl

-- of any vertex
vertex_ended : (k : Kind) (b : Bool) → (k ≡ Sink → b ≡ true) → (not (is_sink k) || b) ≡ true
vertex_ended Source b h = refl
vertex_ended Inner b h = refl
vertex_ended Sink b h = h refl

pub ended_all : (plan : PlanText) (vault : VaultTold) → Sound plan vault
    → ((k : ℕ) → k < length (numbers_of vault).ledger.rows → ended_held vault.held k ≡ true) → HaveAllEnded plan vault
ended_all plan vault sound each k sink =
    let job : JobNumbers = plan_numbers plan in
    let u : ℕ = input (vertex job k) 0 in
    let inside = sink.0 in
    let rows = sound.numbers.stands.rows in
    let ended = each k (omega (arith, inside, rows)) in
    let test : nat_le (size (vertex job u)) (durable_of vault k).taken ≡ true =
    sym (sink_ended (vertex job k).kind (nat_le (size (vertex job u)) (durable_of vault k).taken) sink.1)
    ∙ sym (sound.delivered.ended k inside) ∙ ended in
    let least = le_of (size (vertex job u)) (durable_of vault k).taken test in
    let taken = sound.numbers.stands.taken k sink in
    let dur = (sound.numbers.stands.row u).dur in
    omega (arith, least, taken, dur)

pub all_ended : (plan : PlanText) (vault : VaultTold) → Sound plan vault → HaveAllEnded plan vault
    → (k : ℕ) → k < length (numbers_of vault).ledger.rows → ended_held vault.held k ≡ true
all_ended plan vault sound all k inside =
    let job : JobNumbers = plan_numbers plan in
    let u : ℕ = input (vertex job k) 0 in
    let rows = sound.numbers.stands.rows in
    let here : k < length job.vertices = omega (arith, inside, rows) in
    sound.delivered.ended k here
    ∙ vertex_ended (vertex job k).kind (nat_le (size (vertex job u)) (durable_of vault k).taken)
    (λ sink. let e = all k (here, sink) in le_yes (size (vertex job u)) (durable_of vault k).taken (omega (arith, e)))
