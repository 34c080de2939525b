-- The first snapshots of a plan's operators, one behind the other.
use Rattle.std.proofs.Common.{◌≡◌, ◌≢◌, ℕ, ◌+◌, ◌<◌, ◌==◌, ◌&&◌, nat_lt, Bool, true, false, Option, Some, None, Result, Ok, Err, List, length, refl, sym, ap, ap₂, ◌∙◌, subst, arith, ⊎_elim, if◌then◌else◌}
use Rattle.std.specs.Prelude.{is_some, slice_get}
use Rattle.std.proofs.lemmas.Bool.{cases_eq}
use Rattle.std.proofs.lemmas.Bool.Decides.{nat_tests}
use Rattle.ss_codec.specs.Frame.{frame_bytes}
use Rattle.ss_codec.specs.declared.frame.Frame.{Frame}
use Rattle.ss_expr.specs.declared.stream_operator.Spec.{Spec}
use Rattle.ss_frames.specs.First.{first_frame}
use Rattle.ss_frames.specs.Frames.{frame_of}
use Rattle.ss_frames.specs.Plans.{plan_numbers}
use Rattle.ss_job.specs.JobText.{spec_of}
use Rattle.ss_outside.specs.Depot.{Contents, DepotTold, replaced_at, with_frame}
use Rattle.ss_plan.specs.Plan.{PlanText}
use Rattle.ss_state.specs.Joint.{MayAccept}
use Rattle.ss_state.specs.Numbers.{VertexNumbers, IsOperator, is_inner, out, pos, vertex}
use Rattle.ss_water.specs.declared.node.Node.{Node}
use Rattle.ss_vault.specs.Devices.{HoldsFirstBelow, KeepsFirst, NoFewer, StoresCode, StopsAtFirst, first_frame_below}
use Rattle.ss_vault.specs.Facts.{IsCoded, PlanFacts, SnapshotFacts}
use Rattle.ss_vault.specs.declared.fault.VaultFault.{VaultFault}
use Rattle.ss_vault.specs.declared.fault.VaultFault.TheVariants as fault
use Rattle.ss_vault.proofs.Flushed.{chosen_other, chosen_same}
use Rattle.ss_vault.proofs.Moved.{rose_on}

-- an operator may stand before all elements
may_begin : (most : ℕ) (x : VertexNumbers) → MayAccept most x 0
unfolding out pos
may_begin most x = record { within = omega arith; out = omega arith; pos = λ i. omega arith }

-- the frame that is stored first
pub record IsFirstOf (plan : PlanText) (v : ℕ) (f : Frame) : Type 0 where
  pub operator : IsOperator (plan_numbers plan) v
  pub is : f ≡ frame_of plan v 0
  pub coded : IsCoded plan v 0 (frame_of plan v 0)

pub is_first_of : (plan : PlanText) → PlanFacts plan → SnapshotFacts plan → (v : ℕ) (operator : Spec) (node : Node) (f : Frame)
    → spec_of plan.job v ≡ Some operator → slice_get plan.job.graph v ≡ Some node → f ≡ first_frame v operator node.width → IsFirstOf plan v f
is_first_of plan facts snaps v operator node f has at is =
    let here = facts.computes v operator has in
    record {
      operator = here;
      is = is ∙ sym (snaps.first v operator node has at);
      coded = snaps.coded v 0 here (may_begin (plan_numbers plan).max_elements (vertex (plan_numbers plan) v));
    }

-- one vertex more
lt_more : (w v : ℕ) → w ≢ v → nat_lt w (v + 1) ≡ nat_lt w v
lt_more w v other = grind (arith, nat_tests)

lt_same : (v : ℕ) → nat_lt v (v + 1) ≡ true
lt_same v = grind (arith, nat_tests)

lt_self : (v : ℕ) → nat_lt v v ≡ false
lt_self v = grind (arith, nat_tests)

abbrev below : PlanText → ℕ → ℕ → Bool → Bool → Option (List ℕ)
below plan v n a b = if (a && b) && n == 0 then Some (frame_bytes (frame_of plan v 0)) else None

none_left : (plan : PlanText) (v n : ℕ) (a : Bool) → below plan v n a false ≡ None
none_left plan v n true = refl
none_left plan v n false = refl

pub none_first : (plan : PlanText) (v : ℕ) (c : Contents) → is_inner (vertex (plan_numbers plan) v).kind ≡ false → HoldsFirstBelow plan v c
    → HoldsFirstBelow plan (v + 1) c
none_first plan v c inner holds = record {
  first = holds.first;
  records = holds.records;
  frames = λ w n. holds.frames w n ∙ ⊎_elim
      (λ (same : w ≡ v). subst (λ (i : ℕ). first_frame_below plan v i n ≡ first_frame_below plan (v + 1) i n) (sym same)
      (ap (below plan v n (nat_lt v v)) inner ∙ none_left plan v n (nat_lt v v)
      ∙ sym (ap (below plan v n (nat_lt v (v + 1))) inner ∙ none_left plan v n (nat_lt v (v + 1)))))
      (λ (other : w ≢ v). ap (λ (a : Bool). below plan w n a (is_inner (vertex (plan_numbers plan) w).kind)) (sym (lt_more w v other)))
      (cases_eq w v);
}

zero_frame : (plan : PlanText) (v n : ℕ) (had : Option (List ℕ)) → had ≡ None
    → (if n == 0 then Some (frame_bytes (frame_of plan v 0)) else had) ≡ below plan v n true true
zero_frame plan v n had e = ap (λ (o : Option (List ℕ)). if n == 0 then Some (frame_bytes (frame_of plan v 0)) else o) e

pub one_first : (plan : PlanText) (v : ℕ) (old new : Contents) → is_inner (vertex (plan_numbers plan) v).kind ≡ true
    → new ≡ with_frame v 0 (frame_bytes (frame_of plan v 0)) old → HoldsFirstBelow plan v old → HoldsFirstBelow plan (v + 1) new
one_first plan v old new inner e holds = record {
  first = λ w. ap (λ (c : Contents). c.first w) e ∙ holds.first w;
  records = λ w. ap (λ (c : Contents). c.records w) e ∙ holds.records w;
  frames = λ w n. ap (λ (c : Contents). c.frames w n) e ∙ ⊎_elim
      (λ (same : w ≡ v). subst (λ (i : ℕ). (with_frame v 0 (frame_bytes (frame_of plan v 0)) old).frames i n ≡ first_frame_below plan (v + 1) i n) (sym same)
      (ap (λ (f : ℕ → Option (List ℕ)). f n) (chosen_same v (replaced_at 0 (Some (frame_bytes (frame_of plan v 0))) (old.frames v)) (old.frames v))
      ∙ zero_frame plan v n (old.frames v n) (holds.frames v n ∙ ap (λ (a : Bool). below plan v n a (is_inner (vertex (plan_numbers plan) v).kind)) (lt_self v))
      ∙ sym (ap₂ (below plan v n) (lt_same v) inner)))
      (λ (other : w ≢ v).
      ap (λ (f : ℕ → Option (List ℕ)). f n) (chosen_other w v (replaced_at 0 (Some (frame_bytes (frame_of plan v 0))) (old.frames v)) (old.frames w) other)
      ∙ holds.frames w n ∙ ap (λ (a : Bool). below plan w n a (is_inner (vertex (plan_numbers plan) w).kind)) (sym (lt_more w v other)))
      (cases_eq w v);
}

same_fewer : (a : DepotTold) → NoFewer a a
same_fewer a = record { faults = omega arith; shorts = omega arith }

pub keeps_none : (plan : PlanText) (v : ℕ) (a : DepotTold) → is_inner (vertex (plan_numbers plan) v).kind ≡ false → HoldsFirstBelow plan v a.contents
    → KeepsFirst plan (v + 1) a a (Ok tt)
keeps_none plan v a inner holds = (none_first plan v a.contents inner holds, same_fewer a)

-- storing it
pub keeps_first : (plan : PlanText) (v : ℕ) (f : Frame) (old new : DepotTold) (result : Result (Unit {0}) VaultFault) → IsFirstOf plan v f
    → HoldsFirstBelow plan v old.contents → StoresCode old new (with_frame v 0 (frame_bytes (frame_of plan v 0)) old.contents) result
    → KeepsFirst plan (v + 1) old new result
keeps_first plan v f old new (Ok x) first holds stores =
    (one_first plan v old.contents new.contents first.operator.1 stores.contents holds, record { faults = stores.faults; shorts = stores.shorts })
keeps_first plan v f old new (Err (fault.Store count)) first holds stores =
    let refuses = stores.1.0 in (
      (stores.0, stores.1.1),
      (v, subst (λ (c : Contents). HoldsFirstBelow plan v c) (sym refuses.contents) holds),
      record { faults = refuses.faults; shorts = let e = refuses.shorts in omega (arith, e) },
    )
keeps_first plan v f old new (Err (fault.Output count)) first holds stores = absurd stores
keeps_first plan v f old new (Err (fault.Damaged w n)) first holds stores = absurd stores
keeps_first plan v f old new (Err fault.Halted) first holds stores = absurd stores
keeps_first plan v f old new (Err fault.Memory) first holds stores = (
  tt,
  (v, subst (λ (c : Contents). HoldsFirstBelow plan v c) (sym stores.contents) holds),
  record { faults = stores.faults; shorts = let e = stores.shorts in omega (arith, e) },
)

pub keeps_memory : (plan : PlanText) (v : ℕ) (a : DepotTold) → HoldsFirstBelow plan v a.contents → KeepsFirst plan (v + 1) a a (Err fault.Memory)
keeps_memory plan v a holds = (tt, (v, holds), same_fewer a)

-- one behind the other
pub fewer_on : (a b c : DepotTold) → NoFewer a b → NoFewer b c → NoFewer a c
fewer_on a b c h k = record { faults = omega (arith, h.faults, k.faults); shorts = omega (arith, h.shorts, k.shorts) }

stops_on : (a b c : DepotTold) (f : VaultFault) → NoFewer a b → StopsAtFirst b c f → StopsAtFirst a c f
stops_on a b c (fault.Store count) h stops = (stops.0, rose_on a.faults b.faults c.faults h.faults stops.1)
stops_on a b c (fault.Output count) h stops = absurd stops
stops_on a b c (fault.Damaged v n) h stops = absurd stops
stops_on a b c fault.Halted h stops = absurd stops
stops_on a b c fault.Memory h stops = tt

pub keeps_fault : (plan : PlanText) (limit next : ℕ) (a b c : DepotTold) (f : VaultFault) → NoFewer a b → KeepsFirst plan next b c (Err f)
    → KeepsFirst plan limit a c (Err f)
keeps_fault plan limit next a b c f h keeps = (stops_on a b c f h keeps.0, keeps.1, fewer_on a b c h keeps.2)

-- what computes nothing is no operator
bool_cases : (b : Bool) → (b ≡ true → ⊥) → b ≡ false
bool_cases true h = absurd (h refl)
bool_cases false h = refl

pub no_operator : (plan : PlanText) → PlanFacts plan → (v : ℕ) → v < length (plan_numbers plan).vertices → spec_of plan.job v ≡ None
    → is_inner (vertex (plan_numbers plan) v).kind ≡ false
no_operator plan facts v here none = bool_cases (is_inner (vertex (plan_numbers plan) v).kind) (λ inner.
    let some : is_some (spec_of plan.job v) ≡ true = facts.operator v (here, inner) in
    let empty : is_some (spec_of plan.job v) ≡ false = ap (λ (o : Option Spec). is_some o) none in
    cc (some, empty))

pub stored_first : (plan : PlanText) (v : ℕ) (f : Frame) (old new : DepotTold) (result : Result (Unit {0}) VaultFault) → IsFirstOf plan v f
    → StoresCode old new (with_frame f.v f.n (frame_bytes f) old.contents) result
    → StoresCode old new (with_frame v 0 (frame_bytes (frame_of plan v 0)) old.contents) result
stored_first plan v f old new result first stores =
    subst (λ (c : Contents). StoresCode old new c result)
    (ap (λ (x : Frame). with_frame x.v x.n (frame_bytes x) old.contents) first.is
    ∙ ap₂ (λ (a b : ℕ). with_frame a b (frame_bytes (frame_of plan v 0)) old.contents) first.coded.of_vertex first.coded.number)
    stores
