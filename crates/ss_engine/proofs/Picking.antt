-- A read of an operator's replica: whether the tail of the wanted input answers, or what is stored.
use Rattle.std.proofs.Common.{◌≡◌, Bool, true, false, not, ◌&&◌, ◌||◌, nat_lt, nat_le, Option, Some, None, ap, sym, ◌∙◌, refl, if◌then◌else◌}
use Rattle.ss_acts.specs.Readings.{is_ready}
use Rattle.ss_fail.specs.declared.outcome.Outcome.{Outcome}
use Rattle.ss_fail.specs.declared.outcome.Outcome.TheVariants as outcome
use Rattle.ss_state.specs.Acts.{InstStep, asks_vault, needs_vault, read_tail, read_vault, tail_answer, vault_answer}
use Rattle.ss_state.specs.Numbers.{VertexNumbers, mlen}
use Rattle.ss_state.specs.State.{TailNumbers, InstNumbers, LedgerRow}

-- a read beside this tail and what is stored of the input
abbrev pub chosen : VertexNumbers → Option InstNumbers → TailNumbers → LedgerRow → InstStep
chosen x inst tail row = if needs_vault x inst tail then read_vault x inst row else read_tail x inst tail

abbrev step_to : InstNumbers → Outcome → InstStep
step_to up o = record { inst = Some up; outcome = o }

abbrev first_of : Bool → Bool → InstStep → InstStep → InstStep → InstStep
first_of left ended pending end answer = if left then pending else (if ended then end else answer)

abbrev picked : Bool → Bool → Bool → InstStep → InstStep → InstStep → InstStep → InstStep
picked left ended asks pending end stored held =
    if not (left || ended) && asks then first_of left ended pending end stored else first_of left ended pending end held

pick_tail : (left ended : Bool) (pending end stored : InstStep) (asks : TailNumbers → Bool) (held : TailNumbers → InstStep) (t u : TailNumbers)
    → (not (left || ended) ≡ true → t ≡ u) → (not (left || ended) && asks t) ≡ false
    → picked left ended (asks u) pending end stored (held u) ≡ first_of left ended pending end (held t)
pick_tail true ended pending end stored asks held t u same quiet = refl
pick_tail false true pending end stored asks held t u same quiet = refl
pick_tail false false pending end stored asks held t u same quiet =
    let e : t ≡ u = same refl in
    ap (λ (w : TailNumbers). picked false false (asks w) pending end stored (held w)) (sym e)
    ∙ ap (λ (b : Bool). picked false false b pending end stored (held t)) quiet

pick_vault : (left ended : Bool) (pending end stored : InstStep) (asks : TailNumbers → Bool) (held : TailNumbers → InstStep) (t u : TailNumbers)
    → (not (left || ended) ≡ true → t ≡ u) → (not (left || ended) && asks t) ≡ true
    → picked left ended (asks u) pending end stored (held u) ≡ first_of left ended pending end stored
pick_vault true ended pending end stored asks held t u same asked = cc
pick_vault false true pending end stored asks held t u same asked = cc
pick_vault false false pending end stored asks held t u same asked =
    let e : t ≡ u = same refl in
    ap (λ (w : TailNumbers). picked false false (asks w) pending end stored (held w)) (sym e)
    ∙ ap (λ (b : Bool). picked false false b pending end stored (held t)) asked

-- the tail that was asked answers, where it needn't be that of the input while the replica may not read
pub tail_answers : (x : VertexNumbers) (inst : Option InstNumbers) (t u : TailNumbers) (row : LedgerRow)
    → (is_ready x inst ≡ true → t ≡ u) → needs_vault x inst t ≡ false → chosen x inst u row ≡ read_tail x inst t
tail_answers x None t u row same quiet = refl
tail_answers x (Some up) t u row same quiet =
    pick_tail (nat_lt 0 up.left) (nat_le (mlen x) up.n) (step_to up (outcome.Pending up.left)) (step_to up outcome.Ended) (vault_answer x up.n row) (asks_vault x up.n) (tail_answer x up.n) t u same quiet

pub vault_answers : (x : VertexNumbers) (inst : Option InstNumbers) (t u : TailNumbers) (row : LedgerRow)
    → (is_ready x inst ≡ true → t ≡ u) → needs_vault x inst t ≡ true → chosen x inst u row ≡ read_vault x inst row
vault_answers x None t u row same asked = cc
vault_answers x (Some up) t u row same asked =
    pick_vault (nat_lt 0 up.left) (nat_le (mlen x) up.n) (step_to up (outcome.Pending up.left)) (step_to up outcome.Ended) (vault_answer x up.n row) (asks_vault x up.n) (tail_answer x up.n) t u same asked

-- and whether the vault must be asked doesn't depend on it either
pick_asks : (left ended : Bool) (asks : TailNumbers → Bool) (t u : TailNumbers) → (not (left || ended) ≡ true → t ≡ u)
    → (not (left || ended) && asks u) ≡ (not (left || ended) && asks t)
pick_asks true ended asks t u same = refl
pick_asks false true asks t u same = refl
pick_asks false false asks t u same = ap asks (sym (same refl))

pub asks_alike : (x : VertexNumbers) (inst : Option InstNumbers) (t u : TailNumbers) → (is_ready x inst ≡ true → t ≡ u)
    → needs_vault x inst u ≡ needs_vault x inst t
asks_alike x None t u same = refl
asks_alike x (Some up) t u same = pick_asks (nat_lt 0 up.left) (nat_le (mlen x) up.n) (asks_vault x up.n) t u same

-- who must ask the vault may read
first_part : (a b : Bool) → (a && b) ≡ true → a ≡ true
first_part true b e = refl
first_part false b e = e

pub asker_is_ready : (x : VertexNumbers) (inst : Option InstNumbers) (t : TailNumbers) → needs_vault x inst t ≡ true → is_ready x inst ≡ true
asker_is_ready x None t asked = asked
asker_is_ready x (Some up) t asked = first_part (not (nat_lt 0 up.left || nat_le (mlen x) up.n)) (asks_vault x up.n t) asked
