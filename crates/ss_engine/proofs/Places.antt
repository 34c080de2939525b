-- Where a replica and a tail stand in the vectors of a running job, and what the job tells where one was written.
use Rattle.std.proofs.Common.{◌≡◌, ℕ, ◌<◌, Some, List, [], Vec, Global, length, vec_len, get_or, set, map, ap, sym, ◌∙◌, arith}
use Rattle.std.specs.Prelude.{slice_get}
use Rattle.std.specs.Vec.{with_item}
use Rattle.std.proofs.lemmas.List.{map-set, get_or-map, get_or_read, length-map}
use Rattle.std.proofs.lemmas.Option.{slice_get_read}
use Rattle.ss_frames.specs.Plans.{plan_numbers}
use Rattle.ss_state.specs.Step.{IsReplica}
use Rattle.ss_tail.specs.Held.{TailHeld, empty}
use Rattle.ss_vertex.specs.Inst.{InstState}
use Rattle.ss_engine.specs.Joint.{Joint}
use Rattle.ss_engine.specs.Told.{PlantTold, inst_of, replicas_of, tail_of}
use Rattle.ss_engine.proofs.Parts.{has_tail, has_replicas, has_replica, replace_inst}

abbrev pub items_of : Vec InstState Global → List InstState
items_of replicas = replicas.items

-- ---- replicas

pub v_within : (p : PlantTold) (insts : Vec (Vec InstState Global) Global) (v : ℕ) → p.insts ≡ map items_of insts.items
    → Joint p → v < length (plan_numbers p.plan).vertices → v < vec_len insts
v_within p insts v e joint within =
    let n : v < length p.insts = has_replicas p v joint within in
    let same : length p.insts ≡ length insts.items = ap (λ (xs : List (List InstState)). length xs) e ∙ length-map insts.items items_of in
    let len = insts.ok.0 in
    omega (arith, n, same, len)

-- the replicas of v
replicas_here : (p : PlantTold) (insts : Vec (Vec InstState Global) Global) (v : ℕ) (z : Vec InstState Global)
    → p.insts ≡ map items_of insts.items → Joint p → v < length (plan_numbers p.plan).vertices → z ≡ get_or insts.items v z
    → replicas_of p v ≡ z.items
replicas_here p insts v z e joint within is =
    let len = insts.ok.0 in
    let n = v_within p insts v e joint within in
    ap (λ (xs : List (List InstState)). get_or xs v []) e
    ∙ get_or-map items_of insts.items v z [] (omega (arith, n, len)) ∙ ap items_of (sym is)

pub r_within : (p : PlantTold) (insts : Vec (Vec InstState Global) Global) (v r : ℕ) (z : Vec InstState Global)
    → p.insts ≡ map items_of insts.items → Joint p → IsReplica (plan_numbers p.plan) v r → z ≡ get_or insts.items v z → r < vec_len z
r_within p insts v r z e joint replica is =
    let n = has_replica p v r joint replica in
    let same : length (replicas_of p v) ≡ length z.items =
    ap (λ (xs : List InstState). length xs) (replicas_here p insts v z e joint replica.0.0 is) in
    let len = z.ok.0 in
    omega (arith, n, same, len)

pub inst_here : (p : PlantTold) (insts : Vec (Vec InstState Global) Global) (v r : ℕ) (z : Vec InstState Global) (x : InstState)
    → p.insts ≡ map items_of insts.items → Joint p → IsReplica (plan_numbers p.plan) v r → z ≡ get_or insts.items v z
    → x ≡ get_or z.items r x → inst_of p v r ≡ Some x
inst_here p insts v r z x e joint replica is at =
    let n = r_within p insts v r z e joint replica is in
    let len = z.ok.0 in
    ap (λ (xs : List InstState). slice_get xs r) (replicas_here p insts v z e joint replica.0.0 is)
    ∙ slice_get_read z.items (vec_len z) r x len n at

pub inst_written : (p : PlantTold) (insts : Vec (Vec InstState Global) Global) (v r : ℕ) (z : Vec InstState Global) (x : InstState)
    → p.insts ≡ map items_of insts.items → Joint p → IsReplica (plan_numbers p.plan) v r → z ≡ get_or insts.items v z
    → (replace_inst p v r x).insts ≡ map items_of (set insts.items v (with_item z r x))
inst_written p insts v r z x e joint replica is =
    ap (λ (xs : List InstState). set p.insts v (set xs r x)) (replicas_here p insts v z e joint replica.0.0 is)
    ∙ ap (λ (xs : List (List InstState)). set xs v (set z.items r x)) e
    ∙ sym (map-set items_of insts.items v (with_item z r x))

-- ---- tails

pub t_within : (p : PlantTold) (tails : Vec TailHeld Global) (v : ℕ) → p.tails ≡ tails.items
    → Joint p → v < length (plan_numbers p.plan).vertices → v < vec_len tails
t_within p tails v e joint within =
    let n : v < length p.tails = has_tail p v joint within in
    let same : length p.tails ≡ length tails.items = ap (λ (xs : List TailHeld). length xs) e in
    let len = tails.ok.0 in
    omega (arith, n, same, len)

pub tail_here : (p : PlantTold) (tails : Vec TailHeld Global) (v : ℕ) (t : TailHeld) → p.tails ≡ tails.items
    → Joint p → v < length (plan_numbers p.plan).vertices → t ≡ get_or tails.items v t → t ≡ tail_of p v
tail_here p tails v t e joint within is =
    let n = t_within p tails v e joint within in
    let len = tails.ok.0 in
    get_or_read tails.items v t (omega (arith, n, len)) is empty ∙ ap (λ (xs : List TailHeld). get_or xs v empty) (sym e)
