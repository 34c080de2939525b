-- Every failure that a file lists for a job can be made on it.
use Rattle.std.proofs.Common.{◌≡◌, ℕ, ◌<◌, ◌-◌, ◌^◌, Bool, true, false, List, [], ◌∷◌, Result, Ok, Err, refl, subst, sym, ap, ◌∙◌, inl, inr, arith, length}
use Rattle.std.specs.Prelude.{◌==◌, bytes_eq, codes, if◌then◌else◌}
use Rattle.std.specs.Option.{ok_or}
use Rattle.std.specs.List.{AllByRecursion}
use Rattle.std.specs.Str.Lines.{lines}
use Rattle.std.proofs.lemmas.Bool.{cases_Bool, cond-false}
use Rattle.std.proofs.lemmas.Slice.Eq.{bytes_eq-Decides}
use Rattle.ss_fail.specs.Acts as acts
use Rattle.ss_fail.specs.Acts.{◌>>=◌, count_to, only_word, replica_of, trigger_line, trigger_of, vertex_of, word_pair}
use Rattle.ss_fail.specs.Lines.{LineWords, said_lines, values_of}
use Rattle.ss_fail.specs.Scripts.{triggers_of}
use Rattle.ss_fail.specs.declared.act.Act.{Act}
use Rattle.ss_fail.specs.declared.act.Act.TheVariants as act
use Rattle.ss_fail.specs.declared.fault.ScriptWhy.{ScriptWhy}
use Rattle.ss_fail.specs.declared.fault.ScriptWhy.TheVariants.{BadCount, BadWord}
use Rattle.ss_fail.specs.declared.role.Role.{Role}
use Rattle.ss_fail.specs.declared.trigger.Trigger.{Trigger}
use Rattle.ss_frames.specs.Plans.{plan_numbers}
use Rattle.ss_plan.specs.Plan.{PlanText}
use Rattle.ss_report.specs.ReadAgain.{IsVertexOf}
use Rattle.ss_state.specs.Rule.{IsFailure, IsTrigger}
use Rattle.ss_state.specs.Step.{MayAct}
use Rattle.ss_play.specs.Roles.{HasRoles, PlansHaveRoles}
use Rattle.ss_play.specs.Schedules.{FailuresCanFire}
use Rattle.ss_play.proofs.ActsOfSchedules.{IsReplicaIn, Parts, bind_parts, counted, is_replica, is_stream, said_name, said_pair, then_parts}

-- a crash or a lose, of a replica or a stream that is there
abbrev IsListed : List Role → Act → Type 0
IsListed roles (act.Read v r) = ⊥
IsListed roles (act.Write v r) = ⊥
IsListed roles (act.Snap v r) = ⊥
IsListed roles (act.Crash v r) = IsReplicaIn roles v r
IsListed roles (act.Load v r) = ⊥
IsListed roles (act.Lose v) = IsVertexOf false roles v
IsListed roles (act.Flush v count) = ⊥
IsListed roles (act.Take k) = ⊥
IsListed roles (act.Collect v) = ⊥
IsListed roles (act.Trim v) = ⊥
IsListed roles act.Pass = ⊥

-- a trigger, as a line lists it
record IsTriggerIn (roles : List Role) (t : Trigger) : Type 0 where
  count : t.count < 2 ^ 64 - 1
  listed : IsListed roles t.act

tested_result : {A : Type 0} (b : Bool) (r : Result A ScriptWhy) (why : ScriptWhy) (y : A) → (if b then r else Err why) ≡ Ok y → r ≡ Ok y
tested_result true r why y e = e
tested_result false r why y e = absurd cc

-- ---- one line

trigger_same : (a b : Trigger) → ◌≡◌ {A = Result Trigger ScriptWhy} (Ok a) (Ok b) → a ≡ b
trigger_same a b e = cc

-- the trigger of a stream's name, a count and an act, as they are read
abbrev trigger_with : List Role → List ℕ → List ℕ → Result Act ScriptWhy → Result Trigger ScriptWhy
trigger_with roles name number made =
    vertex_of false roles name >>= (λ v. count_to (2 ^ 63 - 1) number >>= (λ count. made >>= (λ act. Ok (record { v = v; count = count; act = act }))))

listed_with : (roles : List Role) (fits : Bool) (name number : List ℕ) (made : Result Act ScriptWhy) (t : Trigger)
    → ((a : Act) → made ≡ Ok a → IsListed roles a) → (if fits then trigger_with roles name number made else Err BadCount) ≡ Ok t
    → IsTriggerIn roles t
listed_with roles fits name number made t lists e =
    let v = bind_parts (vertex_of false roles name)
    (λ v. count_to (2 ^ 63 - 1) number >>= (λ count. made >>= (λ act. Ok (record { v = v; count = count; act = act })))) t
    (tested_result fits (trigger_with roles name number made) BadCount t e) in
    let count = bind_parts (count_to (2 ^ 63 - 1) number) (λ count. made >>= (λ act. Ok (record { v = v.0; count = count; act = act }))) t v.2 in
    let act = bind_parts made (λ act. Ok (record { v = v.0; count = count.0; act = act })) t count.2 in
    let within = (counted (2 ^ 63 - 1) number count.0 count.1).1 in
    subst (IsTriggerIn roles) (trigger_same (record { v = v.0; count = count.0; act = act.0 }) t act.2)
    (record { count = omega (arith, within); listed = lists act.0 act.1 })

abbrev crash_of : List Role → List (List ℕ) → Result Act ScriptWhy
crash_of roles others =
    ok_or (word_pair others) BadCount >>= (λ pair. vertex_of false roles pair.0 >>= (λ v. replica_of roles v pair.1 >>= (λ r. Ok (act.Crash v r))))

abbrev lose_of : List Role → List (List ℕ) → Result Act ScriptWhy
lose_of roles others = ok_or (only_word others) BadCount >>= (λ name. vertex_of false roles name >>= (λ v. Ok (act.Lose v)))

-- what stands behind a count says a failure, where this is its first word
abbrev Lists : List Role → List ℕ → Type 0
Lists roles word = (name number : List ℕ) (others : List (List ℕ)) (t : Trigger)
    → trigger_of roles (name ∷ number ∷ word ∷ others) ≡ Ok t → IsTriggerIn roles t

lists_crash : (roles : List Role) → Lists roles (codes "crash")
lists_crash roles name number others t e =
    listed_with roles (length others == 2) name number (crash_of roles others) t
    (λ a f. said_pair (IsListed roles) roles others (λ v r. act.Crash v r) a (λ v r is. is) f) e

lists_lose : (roles : List Role) → Lists roles (codes "lose")
lists_lose roles name number others t e =
    listed_with roles (length others == 1) name number (lose_of roles others) t
    (λ a f. said_name (IsListed roles) false roles others (λ v. act.Lose v) a (λ v is. is) f) e

lists_none : (roles : List Role) (word : List ℕ) → bytes_eq word (codes "crash") ≡ false → bytes_eq word (codes "lose") ≡ false → Lists roles word
lists_none roles word no_crash no_lose name number others t e =
    let refused : ◌≡◌ {A = Result Trigger ScriptWhy} (trigger_of roles (name ∷ number ∷ word ∷ others)) (Err BadWord) =
    ap (λ w. w >>= (λ w. acts.trigger_with roles w name number others)) (cond-false _ _ _ no_crash ∙ cond-false _ _ _ no_lose) in
    let both : ◌≡◌ {A = Result Trigger ScriptWhy} (Err BadWord) (Ok t) = sym refused ∙ e in
    absurd cc

either : (roles : List Role) (word known : List ℕ) → Lists roles known → (bytes_eq word known ≡ false → Lists roles word) → Lists roles word
either roles word known lists other = elim (cases_Bool (bytes_eq word known)) [
  | inl e ↦ subst (Lists roles) (sym ((bytes_eq-Decides word known).0 e)) lists
  | inr ne ↦ other ne
]

lists_all : (roles : List Role) (word : List ℕ) → Lists roles word
lists_all roles word =
    either roles word (codes "crash") (lists_crash roles) (λ no_crash.
    either roles word (codes "lose") (lists_lose roles) (λ no_lose. lists_none roles word no_crash no_lose))

listed_of : (roles : List Role) (words : List (List ℕ)) (t : Trigger) → trigger_of roles words ≡ Ok t → IsTriggerIn roles t
listed_of roles [] t e = absurd cc
listed_of roles (name ∷ []) t e = absurd cc
listed_of roles (name ∷ number ∷ []) t e = absurd cc
listed_of roles (name ∷ number ∷ word ∷ others) t e = lists_all roles word name number others t e

listed_line : (roles : List Role) (words : List (List ℕ)) (t : Trigger) → trigger_line roles words ≡ Ok t → IsTriggerIn roles t
listed_line roles [] t e = absurd cc
listed_line roles (first ∷ others) t e =
    listed_of roles others t (tested_result (bytes_eq first (codes "when")) (trigger_of roles others) BadWord t e)

-- ---- and can be made

can_fire : (plan : PlanText) → HasRoles plan → (t : Trigger) (a : Act) → t.act ≡ a → t.count < 2 ^ 64 - 1 → IsListed plan.job.roles a
    → IsTrigger (plan_numbers plan) t
can_fire plan has t (act.Crash v r) e count is = record {
  count = count;
  failure = subst IsFailure (sym e) tt;
  act = subst (MayAct (plan_numbers plan)) (sym e) (is_replica plan has v r is);
}
can_fire plan has t (act.Lose v) e count is = record {
  count = count;
  failure = subst IsFailure (sym e) tt;
  act = subst (MayAct (plan_numbers plan)) (sym e) (is_stream plan has v is);
}
can_fire plan has t (act.Read v r) e count is = absurd is
can_fire plan has t (act.Write v r) e count is = absurd is
can_fire plan has t (act.Snap v r) e count is = absurd is
can_fire plan has t (act.Load v r) e count is = absurd is
can_fire plan has t (act.Flush v most) e count is = absurd is
can_fire plan has t (act.Take k) e count is = absurd is
can_fire plan has t (act.Collect v) e count is = absurd is
can_fire plan has t (act.Trim v) e count is = absurd is
can_fire plan has t act.Pass e count is = absurd is

fire_lines : (plan : PlanText) → HasRoles plan → (lines : List LineWords) (ts : List Trigger)
    → values_of (trigger_line plan.job.roles) lines ≡ Ok ts → AllByRecursion (IsTrigger (plan_numbers plan)) ts
fire_lines plan has [] ts e =
    let none : ts ≡ [] = cc in
    subst (AllByRecursion (IsTrigger (plan_numbers plan))) (sym none) tt
fire_lines plan has (line ∷ lines) ts e =
    let parts : Parts Trigger (trigger_line plan.job.roles line.words) (values_of (trigger_line plan.job.roles) lines) ts =
    then_parts Trigger line.number (trigger_line plan.job.roles line.words) (values_of (trigger_line plan.job.roles) lines) ts e in
    let one : IsTriggerIn plan.job.roles parts.one = listed_line plan.job.roles line.words parts.one parts.is_one in
    subst (AllByRecursion (IsTrigger (plan_numbers plan))) (sym parts.are)
    (can_fire plan has parts.one parts.one.act refl one.count one.listed, fire_lines plan has lines parts.others parts.are_others)

pub failures_fire : PlansHaveRoles → FailuresCanFire
unfolding triggers_of
failures_fire have plan bytes ts is e = fire_lines plan (have plan is) (said_lines 1 (lines bytes)) ts e
