-- One order of work over one set of files goes one way.
use Rattle.std.proofs.Common.{◌≡◌, ℕ, ◌⊎◌, inl, inr, List, Option, Ok, Err, refl, sym, ap, ◌∙◌, subst}
use Rattle.std.proofs.Common.{◌<◌, zero, suc, arith, Result}
use Rattle.std.specs.Prelude.{unwrap_or}
use Rattle.ss_elem.specs.declared.element.Element.{Element}
use Rattle.ss_plan.specs.Limit.{IsFirst, IsLongAmong}
use Rattle.ss_plan.specs.Streams.{every}
use Rattle.ss_events.specs.Events.{event_list}
use Rattle.ss_events.specs.declared.fault.EventFault.{EventFault}
use Rattle.ss_job.specs.JobText.{JobText}
use Rattle.ss_job.specs.Says.{Says, Refuses}
use Rattle.ss_job.specs.declared.fault.JobFault.{JobFault}
use Rattle.ss_job.specs.declared.fault.JobsFault.TheVariants.{At}
use Rattle.ss_outside.specs.Faults.{Rose}
use Rattle.ss_outside.specs.Told.{InputsTold}
use Rattle.ss_fail.specs.Scripts.{acts_of, triggers_of}
use Rattle.ss_fail.specs.declared.fault.ScriptFault.{ScriptFault}
use Rattle.ss_report.specs.declared.fault.Fault.TheVariants.{Job, Script}
use Rattle.ss_words.specs.Words.{CommandText}
use Rattle.ss_command.specs.Ends.{MayHave, AreTold, StopsAt}
use Rattle.ss_command.specs.Order.{Reading, Step, words, job_file, source_file, schedule_file, failures_file, streams_fit, ListRefused, too_long, Value, Gives, Finds, Work, Order, first, last, ComesTo, ComesToStep}
use Rattle.ss_command.specs.Refusal.{Refusal, refusal_of, shared}

-- what the job reader says of bytes is one thing
pub record OneReading : Type 0 where
  pub one_job : (bytes : List ℕ) (job other : JobText) → Says bytes job → Says bytes other → job ≡ other
  pub no_fault : (bytes : List ℕ) (job : JobText) (fault : JobFault) → Says bytes job → ¬ (Refuses bytes (At fault))
  pub one_fault : (bytes : List ℕ) (fault other : JobFault) → Refuses bytes (At fault) → Refuses bytes (At other) → fault ≡ other

-- two readings give each file the same bytes
pub record Agree (R S : Reading) : Type 0 where
  pub bytes : (file x y : List ℕ) → R file x → S file y → y ≡ x

pub told_agrees : (told : InputsTold) → Agree (AreTold told) (MayHave told)
told_agrees told = record { bytes = λ file x y (has, e, is) may. (rw e at may) ∙ sym is }

pub agree-sym : (R S : Reading) → Agree R S → Agree S R
agree-sym R S agree = record { bytes = λ file x y h k. sym (agree.bytes file y x k h) }

-- ---- one step

pub same_value : (R S : Reading) → Agree R S → OneReading → (step : Step) (v w : Value step) → Gives R step v → Gives S step w → w ≡ v
same_value R S agree one (words asked) v w h k = sym (ap (λ (o : Option CommandText). unwrap_or o w) k) ∙ ap (λ (o : Option CommandText). unwrap_or o w) h
same_value R S agree one (job_file file) v w (x, read, says) (y, read_too, says_too) =
    one.one_job x w v (subst (λ (b : List ℕ). Says b w) (agree.bytes file x y read read_too) says_too) says
same_value R S agree one (streams_fit plan) v w h k = refl
same_value R S agree one (source_file job n file late) v w (x, read, has, short) (y, read_too, has_too, short_too) =
    let same : event_list y late ≡ event_list x late = ap (λ (b : List ℕ). event_list b late) (agree.bytes file x y read read_too) in cc
same_value R S agree one (schedule_file job file) v w (x, read, has) (y, read_too, has_too) =
    let same : acts_of job.roles y ≡ acts_of job.roles x = ap (λ (b : List ℕ). acts_of job.roles b) (agree.bytes file x y read read_too) in cc
same_value R S agree one (failures_file job file) v w (x, read, has) (y, read_too, has_too) =
    let same : triggers_of job.roles y ≡ triggers_of job.roles x = ap (λ (b : List ℕ). triggers_of job.roles b) (agree.bytes file x y read read_too) in cc

-- a step that gives a value finds nothing
pub gives_or_finds : (R S : Reading) → Agree R S → OneReading → (step : Step) (v : Value step) (refusal : Refusal) → Gives R step v → Finds S step refusal → ⊥
gives_or_finds R S agree one (words asked) v refusal h (none, is) = absurd (cc (h, none))
gives_or_finds R S agree one (job_file file) v refusal (x, read, says) (y, fault, read_too, refused, is) =
    one.no_fault x v fault says (subst (λ (b : List ℕ). Refuses b (At fault)) (agree.bytes file x y read read_too) refused)
gives_or_finds R S agree one (source_file job n file late) v refusal (x, read, has, short) (y, read_too, refused) =
    let same : event_list y late ≡ event_list x late = ap (λ (b : List ℕ). event_list b late) (agree.bytes file x y read read_too) in
    let long = subst (λ (r : Result (List Element) EventFault). ListRefused job n file r refusal) (same ∙ has) refused in
    let more = long.0 in
    omega (arith, more, short)
gives_or_finds R S agree one (schedule_file job file) v refusal (x, read, has) (y, fault, read_too, refused, is) =
    let same : acts_of job.roles y ≡ acts_of job.roles x = ap (λ (b : List ℕ). acts_of job.roles b) (agree.bytes file x y read read_too) in
    absurd (cc (same, has, refused))
gives_or_finds R S agree one (failures_file job file) v refusal (x, read, has) (y, fault, read_too, refused, is) =
    let same : triggers_of job.roles y ≡ triggers_of job.roles x = ap (λ (b : List ℕ). triggers_of job.roles b) (agree.bytes file x y read read_too) in
    absurd (cc (same, has, refused))
gives_or_finds R S agree one (streams_fit plan) v refusal fit (long, which, is) = fit long which.here

pub nat_three : (v w : ℕ) → (v < w) ⊎ ((v ≡ w) ⊎ (w < v))
nat_three zero zero = inr (inl refl)
nat_three zero (suc w) = inl (omega arith)
nat_three (suc v) zero = inr (inr (omega arith))
nat_three (suc v) (suc w) = elim (nat_three v w) [
  | inl less ↦ inl (omega (arith, less))
  | inr (inl same) ↦ inr (inl (ap suc same))
  | inr (inr more) ↦ inr (inr (omega (arith, more)))
]

-- the first number of which something holds is one
pub one_first : (P : ℕ → Type 0) (v w : ℕ) → IsFirst P v → IsFirst P w → v ≡ w
one_first P v w h k = elim (nat_three v w) [
  | inl less ↦ absurd (k.before v less h.here)
  | inr (inl same) ↦ same
  | inr (inr more) ↦ absurd (h.before w more k.here)
]

-- a step finds one thing
pub same_finding : (R S : Reading) → Agree R S → OneReading → (step : Step) (refusal other : Refusal) → Finds R step refusal → Finds S step other →
    other ≡ refusal
same_finding R S agree one (words asked) refusal other (none, is) (none_too, is_too) = is_too ∙ sym is
same_finding R S agree one (job_file file) refusal other (x, fault, read, refused, is) (y, fault_too, read_too, refused_too, is_too) =
    let alike : fault ≡ fault_too = one.one_fault x fault fault_too refused
    (subst (λ (b : List ℕ). Refuses b (At fault_too)) (agree.bytes file x y read read_too) refused_too) in
    is_too ∙ sym (ap (λ (f : JobFault). refusal_of (Job f)) alike) ∙ sym is
same_finding R S agree one (source_file job n file late) refusal other (x, read, refused) (y, read_too, refused_too) =
    let same : event_list y late ≡ event_list x late = ap (λ (b : List ℕ). event_list b late) (agree.bytes file x y read read_too) in
    one_list (event_list x late) refused (subst (λ (r : Result (List Element) EventFault). ListRefused job n file r other) same refused_too)
  where
    one_list : (r : Result (List Element) EventFault) → ListRefused job n file r refusal → ListRefused job n file r other → other ≡ refusal
    one_list (Ok list) (long, is) (long_too, is_too) = is_too ∙ sym is
    one_list (Err fault) is is_too = is_too ∙ sym is
same_finding R S agree one (schedule_file job file) refusal other (x, fault, read, refused, is) (y, fault_too, read_too, refused_too, is_too) =
    let same : acts_of job.roles y ≡ acts_of job.roles x = ap (λ (b : List ℕ). acts_of job.roles b) (agree.bytes file x y read read_too) in
    let alike : fault ≡ fault_too = cc in
    is_too ∙ sym (ap (λ (f : ScriptFault). refusal_of (Script (shared file) f)) alike) ∙ sym is
same_finding R S agree one (failures_file job file) refusal other (x, fault, read, refused, is) (y, fault_too, read_too, refused_too, is_too) =
    let same : triggers_of job.roles y ≡ triggers_of job.roles x = ap (λ (b : List ℕ). triggers_of job.roles b) (agree.bytes file x y read read_too) in
    let alike : fault ≡ fault_too = cc in
    is_too ∙ sym (ap (λ (f : ScriptFault). refusal_of (Script (shared file) f)) alike) ∙ sym is
same_finding R S agree one (streams_fit plan) refusal other (u, which, is) (w, which_too, is_too) =
    is_too ∙ ap (too_long plan.job) (one_first (IsLongAmong every plan) w u which_too which) ∙ sym is

-- ---- the whole way

pub refused_or_comes : (R S : Reading) → Agree R S → OneReading → (order : Order) (refusal : Refusal) (work : Work) →
    ComesToStep R (λ step. Finds R step refusal) order → ComesTo S work order → ⊥
refused_or_comes R S agree one (last o) refusal work h k = h
refused_or_comes R S agree one (first step next) refusal work (inl found) (w, gives, comes) =
    gives_or_finds S R (agree-sym R S agree) one step w refusal gives found
refused_or_comes R S agree one (first step next) refusal work (inr (v, gives, later)) (w, gives_too, comes) =
    let same : w ≡ v = same_value R S agree one step v w gives gives_too in
    refused_or_comes R S agree one (next v) refusal work later (subst (λ (x : Value step). ComesTo S work (next x)) same comes)

pub refused_alike : (before after : InputsTold) → OneReading → (order : Order) (refusal other : Refusal) →
    ComesToStep (AreTold before) (λ step. Finds (AreTold before) step refusal) order →
    ComesToStep (MayHave before) (StopsAt before after other) order → (other ≡ refusal) ⊎ ((other.status ≡ 5) × Rose before.faults after.faults)
refused_alike before after one (last o) refusal other h k = absurd h
refused_alike before after one (first step next) refusal other (inl found) (inl (inl (found_too, kept))) =
    inl (same_finding (AreTold before) (MayHave before) (told_agrees before) one step refusal other found found_too)
refused_alike before after one (first step next) refusal other h (inl (inr (file, reads, (fails, is)))) =
    inr (ap (λ (r : Refusal). r.status) is, fails.faults)
refused_alike before after one (first step next) refusal other (inl found) (inr (w, gives, later)) =
    absurd (gives_or_finds (MayHave before) (AreTold before) (agree-sym (AreTold before) (MayHave before) (told_agrees before)) one step w refusal gives found)
refused_alike before after one (first step next) refusal other (inr (v, gives, later)) (inl (inl (found, kept))) =
    absurd (gives_or_finds (AreTold before) (MayHave before) (told_agrees before) one step v other gives found)
refused_alike before after one (first step next) refusal other (inr (v, gives, later)) (inr (w, gives_too, later_too)) =
    let same : w ≡ v = same_value (AreTold before) (MayHave before) (told_agrees before) one step v w gives gives_too in
    refused_alike before after one (next v) refusal other later
    (subst (λ (x : Value step). ComesToStep (MayHave before) (StopsAt before after other) (next x)) same later_too)

-- where the files lead to the output, the work stops before it only where a file could not be read
pub done_or_unread : (before after : InputsTold) → OneReading → (order : Order) (work : Work) (other : Refusal) →
    ComesTo (AreTold before) work order → ComesToStep (MayHave before) (StopsAt before after other) order →
    (other.status ≡ 5) × Rose before.faults after.faults
done_or_unread before after one (last o) work other h k = absurd k
done_or_unread before after one (first step next) work other (v, gives, comes) (inl (inl (found, kept))) =
    absurd (gives_or_finds (AreTold before) (MayHave before) (told_agrees before) one step v other gives found)
done_or_unread before after one (first step next) work other h (inl (inr (file, reads, (fails, is)))) =
    (ap (λ (r : Refusal). r.status) is, fails.faults)
done_or_unread before after one (first step next) work other (v, gives, comes) (inr (w, gives_too, later)) =
    let same : w ≡ v = same_value (AreTold before) (MayHave before) (told_agrees before) one step v w gives gives_too in
    done_or_unread before after one (next v) work other comes
    (subst (λ (x : Value step). ComesToStep (MayHave before) (StopsAt before after other) (next x)) same later)

-- one order comes to one work
pub one_work : (R S : Reading) → Agree R S → OneReading → (order : Order) (work other : Work) → ComesTo R work order → ComesTo S other order → other ≡ work
one_work R S agree one (last o) work other h k = sym k ∙ h
one_work R S agree one (first step next) work other (v, gives, comes) (w, gives_too, comes_too) =
    let same : w ≡ v = same_value R S agree one step v w gives gives_too in
    one_work R S agree one (next v) work other comes (subst (λ (x : Value step). ComesTo S other (next x)) same comes_too)
