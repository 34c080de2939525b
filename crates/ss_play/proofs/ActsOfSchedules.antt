-- Every act that a schedule says can be made on its job.
use Rattle.std.proofs.Common.{◌≡◌, ℕ, ◌<◌, ◌≤◌, ◌^◌, Bool, true, false, List, [], ◌∷◌, length, get_or, Option, Some, None, Result, Ok, Err}
use Rattle.std.proofs.Common.{refl, sym, ap, ◌∙◌, subst, inl, inr, arith}
use Rattle.std.specs.Prelude.{◌&&◌, All, bytes_eq, codes, nat_le, nat_lt, position, if◌then◌else◌}
use Rattle.std.specs.Option.{ok_or, option_map_or}
use Rattle.std.specs.Str.Lines.{lines}
use Rattle.std.proofs.lemmas.Bool.{and_parts, cases_Bool, cond-false, leb-true, ltb-true, not-true}
use Rattle.std.proofs.lemmas.List.Elements.{All-cons, All-nil, All-same}
use Rattle.std.proofs.lemmas.List.Quantifiers.{position-Some}
use Rattle.std.proofs.lemmas.Option.{slice_get-get_or}
use Rattle.std.proofs.lemmas.Slice.Eq.{bytes_eq-Decides}
use Rattle.ss_engine.specs.Applies.{MayApply}
use Rattle.ss_fail.specs.Acts.{◌>>=◌, act_line, act_of, act_word, count_to, is_wanted, only_word}
use Rattle.ss_fail.specs.Acts.{replica_of, replicas_of, suits, vertex_of, word_pair}
use Rattle.ss_fail.specs.Decimal.{number_below}
use Rattle.ss_fail.specs.Lines.{LineWords, said_lines, then_values, values_of}
use Rattle.ss_fail.specs.Scripts.{acts_of}
use Rattle.ss_fail.specs.declared.act.Act.{Act}
use Rattle.ss_fail.specs.declared.act.Act.TheVariants as act
use Rattle.ss_fail.specs.declared.fault.ScriptFault.{ScriptFault}
use Rattle.ss_fail.specs.declared.fault.ScriptWhy.{ScriptWhy}
use Rattle.ss_fail.specs.declared.fault.ScriptWhy.TheVariants.{BadWord, BadCount, UnknownName, BadNumber, NoReplica}
use Rattle.ss_fail.specs.declared.role.Role.{Role}
use Rattle.ss_frames.specs.Plans.{plan_numbers}
use Rattle.ss_plan.specs.Plan.{PlanText}
use Rattle.ss_report.specs.ReadAgain.{IsVertexOf}
use Rattle.ss_state.specs.Numbers.{IsStream, IsSink, vertex}
use Rattle.ss_state.specs.Step.{IsReplica}
use Rattle.ss_water.specs.Graph.{is_sink}
use Rattle.ss_water.specs.declared.node.Kind.{Kind}
use Rattle.ss_water.specs.declared.node.Kind.TheVariants as kind
use Rattle.ss_play.specs.Roles.{HasRoles, IsRoleOf, PlansHaveRoles}
use Rattle.ss_play.specs.Schedules.{SchedulesMayApply}

-- ---- what a reader has read that answers Ok

pub bind_parts : {A B : Type 0} (r : Result A ScriptWhy) (f : A → Result B ScriptWhy) (y : B) → (r >>= f) ≡ Ok y
    → (x : A) × (r ≡ Ok x) × (f x ≡ Ok y)
bind_parts (Ok x) f y e = (x, refl, e)
bind_parts (Err why) f y e = absurd cc

ok_same : (a b : Act) → ◌≡◌ {A = Result Act ScriptWhy} (Ok a) (Ok b) → a ≡ b
ok_same a b e = cc

ok_or_parts : {A : Type 0} (o : Option A) (why : ScriptWhy) (x : A) → ok_or o why ≡ Ok x → o ≡ Some x
ok_or_parts (Some y) why x e = cc
ok_or_parts None why x e = absurd cc

tested : {A : Type 0} (b : Bool) (x y : A) (why : ScriptWhy) → (if b then Ok x else Err why) ≡ Ok y → (b ≡ true) × (x ≡ y)
tested true x y why e = (refl, cc)
tested false x y why e = absurd cc

-- ---- vertices, replicas and counts

no_role : Role
no_role = record { name = []; kind = kind.Sink; replicas = 0 }

pub found : (sink : Bool) (roles : List Role) (name : List ℕ) (v : ℕ) → vertex_of sink roles name ≡ Ok v → IsVertexOf sink roles v
found sink roles name v e =
    let place = position-Some (is_wanted sink name) roles v no_role (ok_or_parts (position (is_wanted sink name) roles) UnknownName v e) in (
      place.0,
      ap (λ (o : Option Role). option_map_or (λ role. suits sink role.kind) o false) (slice_get-get_or roles v no_role place.0)
          ∙ (and_parts _ _ place.1).1,
    )

below : (roles : List Role) (v : ℕ) (text : List ℕ) (r : ℕ) → replica_of roles v text ≡ Ok r → r < replicas_of roles v
below roles v text r e =
    let parts = bind_parts (ok_or (number_below (2 ^ 32) text) BadNumber)
    (λ r. if nat_lt r (replicas_of roles v) then Ok r else Err NoReplica) r e in
    let test = tested (nat_lt parts.0 (replicas_of roles v)) parts.0 r NoReplica parts.2 in
    subst (λ (n : ℕ). n < replicas_of roles v) test.1 (ltb-true parts.0 (replicas_of roles v) test.0)

pub counted : (most : ℕ) (text : List ℕ) (count : ℕ) → count_to most text ≡ Ok count → (1 ≤ count) × (count ≤ most)
counted most text count e =
    let parts = bind_parts (ok_or (number_below (2 ^ 64) text) BadNumber)
    (λ c. if nat_le 1 c && nat_le c most then Ok c else Err BadNumber) count e in
    let test = tested (nat_le 1 parts.0 && nat_le parts.0 most) parts.0 count BadNumber parts.2 in
    let tests = and_parts (nat_le 1 parts.0) (nat_le parts.0 most) test.0 in
    let some = leb-true 1 parts.0 tests.0 in
    let few = leb-true parts.0 most tests.1 in
    let same = test.1 in
    (omega (arith, some, same), omega (arith, few, same))

-- ---- what an act says that a schedule says

abbrev pub IsReplicaIn : List Role → ℕ → ℕ → Type 0
IsReplicaIn roles v r = IsVertexOf false roles v × (r < replicas_of roles v)

-- its vertices and replicas are there
abbrev IsSaid : List Role → Act → Type 0
IsSaid roles (act.Read v r) = IsReplicaIn roles v r
IsSaid roles (act.Write v r) = IsReplicaIn roles v r
IsSaid roles (act.Snap v r) = IsReplicaIn roles v r
IsSaid roles (act.Crash v r) = IsReplicaIn roles v r
IsSaid roles (act.Load v r) = IsReplicaIn roles v r
IsSaid roles (act.Lose v) = IsVertexOf false roles v
IsSaid roles (act.Flush v count) = IsVertexOf false roles v × (1 ≤ count) × (count ≤ 64)
IsSaid roles (act.Take k) = IsVertexOf true roles k
IsSaid roles (act.Collect v) = IsVertexOf false roles v
IsSaid roles (act.Trim v) = IsVertexOf false roles v
IsSaid roles act.Pass = Unit {0}

-- an act of a replica, of a stream, a flush and a take, as their words are read
pub said_pair : (P : Act → Type 0) (roles : List Role) (others : List (List ℕ)) (make : ℕ → ℕ → Act) (a : Act)
    → ((v r : ℕ) → IsReplicaIn roles v r → P (make v r))
    → (ok_or (word_pair others) BadCount >>= (λ pair. vertex_of false roles pair.0 >>= (λ v. replica_of roles v pair.1 >>= (λ r. Ok (make v r))))) ≡ Ok a
    → P a
said_pair P roles others make a each e =
    let pair = bind_parts (ok_or (word_pair others) BadCount)
    (λ pair. vertex_of false roles pair.0 >>= (λ v. replica_of roles v pair.1 >>= (λ r. Ok (make v r)))) a e in
    let v = bind_parts (vertex_of false roles pair.0.0) (λ v. replica_of roles v pair.0.1 >>= (λ r. Ok (make v r))) a pair.2 in
    let r = bind_parts (replica_of roles v.0 pair.0.1) (λ r. Ok (make v.0 r)) a v.2 in
    subst P (ok_same (make v.0 r.0) a r.2)
    (each v.0 r.0 (found false roles pair.0.0 v.0 v.1, below roles v.0 pair.0.1 r.0 r.1))

pub said_name : (P : Act → Type 0) (sink : Bool) (roles : List Role) (others : List (List ℕ)) (make : ℕ → Act) (a : Act)
    → ((v : ℕ) → IsVertexOf sink roles v → P (make v))
    → (ok_or (only_word others) BadCount >>= (λ name. vertex_of sink roles name >>= (λ v. Ok (make v)))) ≡ Ok a → P a
said_name P sink roles others make a each e =
    let name = bind_parts (ok_or (only_word others) BadCount) (λ name. vertex_of sink roles name >>= (λ v. Ok (make v))) a e in
    let v = bind_parts (vertex_of sink roles name.0) (λ v. Ok (make v)) a name.2 in
    subst P (ok_same (make v.0) a v.2) (each v.0 (found sink roles name.0 v.0 v.1))

said_flush : (roles : List Role) (others : List (List ℕ)) (a : Act)
    → (ok_or (word_pair others) BadCount >>= (λ pair. vertex_of false roles pair.0 >>= (λ v. count_to 64 pair.1 >>= (λ c. Ok (act.Flush v c))))) ≡ Ok a
    → IsSaid roles a
said_flush roles others a e =
    let pair = bind_parts (ok_or (word_pair others) BadCount)
    (λ pair. vertex_of false roles pair.0 >>= (λ v. count_to 64 pair.1 >>= (λ c. Ok (act.Flush v c)))) a e in
    let v = bind_parts (vertex_of false roles pair.0.0) (λ v. count_to 64 pair.0.1 >>= (λ c. Ok (act.Flush v c))) a pair.2 in
    let count = bind_parts (count_to 64 pair.0.1) (λ c. Ok (act.Flush v.0 c)) a v.2 in
    let within = counted 64 pair.0.1 count.0 count.1 in
    subst (IsSaid roles) (ok_same (act.Flush v.0 count.0) a count.2) (found false roles pair.0.0 v.0 v.1, within.0, within.1)

said_pass : (roles : List Role) (others : List (List ℕ)) (a : Act) → act_line roles (codes "pass" ∷ others) ≡ Ok a → IsSaid roles a
said_pass roles [] a e = subst (IsSaid roles) (ok_same act.Pass a e) tt
said_pass roles (word ∷ words) a e = absurd cc

-- a line says an act, if its first word is one of the eleven
abbrev Says : List Role → List ℕ → Type 0
Says roles first = (others : List (List ℕ)) (a : Act) → act_line roles (first ∷ others) ≡ Ok a → IsSaid roles a

says_same : (roles : List Role) (first word : List ℕ) → bytes_eq first word ≡ true → Says roles word → Says roles first
says_same roles first word e says = subst (Says roles) (sym ((bytes_eq-Decides first word).0 e)) says

-- what the words behind it say, for each first word
says_read : (roles : List Role) → Says roles (codes "read")
says_read roles others a e = said_pair (IsSaid roles) roles others (λ v r. act.Read v r) a (λ v r is. is) e

says_write : (roles : List Role) → Says roles (codes "write")
says_write roles others a e = said_pair (IsSaid roles) roles others (λ v r. act.Write v r) a (λ v r is. is) e

says_snap : (roles : List Role) → Says roles (codes "snap")
says_snap roles others a e = said_pair (IsSaid roles) roles others (λ v r. act.Snap v r) a (λ v r is. is) e

says_crash : (roles : List Role) → Says roles (codes "crash")
says_crash roles others a e = said_pair (IsSaid roles) roles others (λ v r. act.Crash v r) a (λ v r is. is) e

says_load : (roles : List Role) → Says roles (codes "load")
says_load roles others a e = said_pair (IsSaid roles) roles others (λ v r. act.Load v r) a (λ v r is. is) e

says_lose : (roles : List Role) → Says roles (codes "lose")
says_lose roles others a e = said_name (IsSaid roles) false roles others (λ v. act.Lose v) a (λ v is. is) e

says_flush : (roles : List Role) → Says roles (codes "flush")
says_flush roles others a e = said_flush roles others a e

says_take : (roles : List Role) → Says roles (codes "take")
says_take roles others a e = said_name (IsSaid roles) true roles others (λ k. act.Take k) a (λ k is. is) e

says_collect : (roles : List Role) → Says roles (codes "collect")
says_collect roles others a e = said_name (IsSaid roles) false roles others (λ v. act.Collect v) a (λ v is. is) e

says_trim : (roles : List Role) → Says roles (codes "trim")
says_trim roles others a e = said_name (IsSaid roles) false roles others (λ v. act.Trim v) a (λ v is. is) e

says_pass : (roles : List Role) → Says roles (codes "pass")
says_pass roles others a e = said_pass roles others a e

-- it is none of them
record IsNoWord (first : List ℕ) : Type 0 where
  read : bytes_eq first (codes "read") ≡ false
  write : bytes_eq first (codes "write") ≡ false
  snap : bytes_eq first (codes "snap") ≡ false
  crash : bytes_eq first (codes "crash") ≡ false
  load : bytes_eq first (codes "load") ≡ false
  lose : bytes_eq first (codes "lose") ≡ false
  flush : bytes_eq first (codes "flush") ≡ false
  takes : bytes_eq first (codes "take") ≡ false
  collect : bytes_eq first (codes "collect") ≡ false
  trim : bytes_eq first (codes "trim") ≡ false
  pass : bytes_eq first (codes "pass") ≡ false

no_word : (first : List ℕ) → IsNoWord first → act_word first ≡ act_word []
no_word first none =
    cond-false _ _ _ none.read ∙ cond-false _ _ _ none.write ∙ cond-false _ _ _ none.snap ∙ cond-false _ _ _ none.crash
    ∙ cond-false _ _ _ none.load ∙ cond-false _ _ _ none.lose ∙ cond-false _ _ _ none.flush ∙ cond-false _ _ _ none.takes
    ∙ cond-false _ _ _ none.collect ∙ cond-false _ _ _ none.trim ∙ cond-false _ _ _ none.pass

says_none : (roles : List Role) (first : List ℕ) → IsNoWord first → Says roles first
says_none roles first none others a e =
    let refused : ◌≡◌ {A = Result Act ScriptWhy} (act_line roles (first ∷ others)) (Err BadWord) = ap (λ word. ok_or word BadWord >>= (λ w. act_of w roles others)) (no_word first none) in
    let both : ◌≡◌ {A = Result Act ScriptWhy} (Err BadWord) (Ok a) = sym refused ∙ e in
    absurd cc

either : (roles : List Role) (first word : List ℕ) → Says roles word → (bytes_eq first word ≡ false → Says roles first) → Says roles first
either roles first word says other =
    elim (cases_Bool (bytes_eq first word)) [ inl e ↦ says_same roles first word e says | inr ne ↦ other ne ]

says_all : (roles : List Role) (first : List ℕ) → Says roles first
says_all roles first =
    either roles first (codes "read") (says_read roles) (λ read.
    either roles first (codes "write") (says_write roles) (λ write.
    either roles first (codes "snap") (says_snap roles) (λ snap.
    either roles first (codes "crash") (says_crash roles) (λ crash.
    either roles first (codes "load") (says_load roles) (λ load.
    either roles first (codes "lose") (says_lose roles) (λ lose.
    either roles first (codes "flush") (says_flush roles) (λ flush.
    either roles first (codes "take") (says_take roles) (λ takes.
    either roles first (codes "collect") (says_collect roles) (λ collect.
    either roles first (codes "trim") (says_trim roles) (λ trim.
    either roles first (codes "pass") (says_pass roles) (λ pass.
    says_none roles first (record {
      read = read;
      write = write;
      snap = snap;
      crash = crash;
      load = load;
      lose = lose;
      flush = flush;
      takes = takes;
      collect = collect;
      trim = trim;
      pass = pass;
    }))))))))))))

-- the words of a line say such an act
said_line : (roles : List Role) (words : List (List ℕ)) (a : Act) → act_line roles words ≡ Ok a → IsSaid roles a
said_line roles [] a e = absurd cc
said_line roles (first ∷ others) a e = says_all roles first others a e

-- ---- all lines

pub record Parts (X : Type 0) (first : Result X ScriptWhy) (behind : Result (List X) ScriptFault) (all : List X) : Type 0 where
  pub one : X
  pub others : List X
  pub is_one : first ≡ Ok one
  pub are_others : behind ≡ Ok others
  pub are : all ≡ one ∷ others

pub then_parts : (X : Type 0) (number : ℕ) (first : Result X ScriptWhy) (behind : Result (List X) ScriptFault) (all : List X)
    → then_values number first behind ≡ Ok all → Parts X first behind all
then_parts X number (Err why) behind all e = absurd cc
then_parts X number (Ok a) (Err fault) all e = absurd cc
then_parts X number (Ok a) (Ok others) all e =
    record { one = a; others = others; is_one = refl; are_others = refl; are = cc }

said_values : (roles : List Role) (lines : List LineWords) (acts : List Act) → values_of (act_line roles) lines ≡ Ok acts
    → All (IsSaid roles) acts
said_values roles [] acts e =
    let none : acts ≡ [] = cc in
    All-same (IsSaid roles) acts [] none (All-nil (IsSaid roles))
said_values roles (line ∷ lines) acts e =
    let parts : Parts Act (act_line roles line.words) (values_of (act_line roles) lines) acts =
    then_parts Act line.number (act_line roles line.words) (values_of (act_line roles) lines) acts e in
    All-same (IsSaid roles) acts (parts.one ∷ parts.others) parts.are
    (All-cons (IsSaid roles) parts.one parts.others (said_line roles line.words parts.one parts.is_one)
    (said_values roles lines parts.others parts.are_others))

said_acts : (roles : List Role) (bytes : List ℕ) (acts : List Act) → acts_of roles bytes ≡ Ok acts → All (IsSaid roles) acts
unfolding acts_of
said_acts roles bytes acts e = said_values roles (said_lines 1 (lines bytes)) acts e

-- ---- and can be made

is_sink_kind : (k : Kind) → is_sink k ≡ true → k ≡ kind.Sink
is_sink_kind kind.Source e = absurd cc
is_sink_kind kind.Inner e = absurd cc
is_sink_kind kind.Sink e = refl

module _ (plan : PlanText) (has : HasRoles plan) where
  role_at : (v : ℕ) → v < length plan.job.roles → IsRoleOf plan v (get_or plan.job.roles v no_role)
  role_at v h = has.each v (get_or plan.job.roles v no_role) (slice_get-get_or plan.job.roles v no_role h)

  suited : (sink : Bool) (v : ℕ) (is : IsVertexOf sink plan.job.roles v) → suits sink (vertex (plan_numbers plan) v).kind ≡ true
  suited sink v is =
      ap (suits sink) (role_at v is.0).kind
      ∙ sym (ap (λ (o : Option Role). option_map_or (λ role. suits sink role.kind) o false) (slice_get-get_or plan.job.roles v no_role is.0))
      ∙ is.1

  pub is_stream : (v : ℕ) → IsVertexOf false plan.job.roles v → IsStream (plan_numbers plan) v
  is_stream v is =
      let count = has.count in
      let lt = is.0 in
      (omega (arith, lt, count), not-true _ (suited false v is))

  is_sink_of : (k : ℕ) → IsVertexOf true plan.job.roles k → IsSink (plan_numbers plan) k
  is_sink_of k is =
      let count = has.count in
      let lt = is.0 in
      (omega (arith, lt, count), is_sink_kind _ (suited true k is))

  pub is_replica : (v r : ℕ) → IsReplicaIn plan.job.roles v r → IsReplica (plan_numbers plan) v r
  is_replica v r is =
      let stream = is_stream v is.0 in
      let role : Role = get_or plan.job.roles v no_role in
      let of_role : IsRoleOf plan v role = role_at v is.0.0 in
      let many : replicas_of plan.job.roles v ≡ role.replicas =
      ap (λ (o : Option Role). option_map_or (λ role. role.replicas) o 0) (slice_get-get_or plan.job.roles v no_role is.0.0) in
      let same : (vertex (plan_numbers plan) v).replicas ≡ role.replicas = of_role.replicas (ap is_sink (sym of_role.kind) ∙ stream.1) in
      let lt = is.1 in
      (stream, omega (arith, lt, many, same))

  may_apply : (a : Act) → IsSaid plan.job.roles a → MayApply plan a
  may_apply (act.Read v r) is = is_replica v r is
  may_apply (act.Write v r) is = is_replica v r is
  may_apply (act.Snap v r) is = is_replica v r is
  may_apply (act.Crash v r) is = is_replica v r is
  may_apply (act.Load v r) is = is_replica v r is
  may_apply (act.Lose v) is = is_stream v is
  may_apply (act.Flush v count) is = (is_stream v is.0, is.1, is.2)
  may_apply (act.Take k) is = is_sink_of k is
  may_apply (act.Collect v) is = is_stream v is
  may_apply (act.Trim v) is = is_stream v is
  may_apply act.Pass is = tt

pub may_apply_all : PlansHaveRoles → SchedulesMayApply
may_apply_all have plan bytes acts is e k d lt =
    may_apply plan (have plan is) (get_or acts k d) (said_acts plan.job.roles bytes acts e k d lt)
