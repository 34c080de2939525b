-- How a command ends, from how its steps end.
use Rattle.std.proofs.Common.{◌≡◌, ℕ, ◌≤◌, ◌⊎◌, inl, inr, List, refl, sym, ap, ◌∙◌, subst, arith}
use Rattle.ss_outside.specs.Depot.{DepotTold}
use Rattle.ss_outside.specs.Faults.{Rose}
use Rattle.ss_outside.specs.Told.{InputsTold, OutputsTold, FileTold, KeepsInputs, FailsAt, MayGive, changed_at, with_failure, missed_after}
use Rattle.ss_play.specs.Playing.{Devices, IsCauseOf, NoCountFell}
use Rattle.ss_play.specs.declared.fault.PlayFault.{PlayFault}
use Rattle.ss_play.specs.declared.fault.PlayFault.TheVariants as fault
use Rattle.ss_plan.specs.Plan.{PlanText}
use Rattle.ss_command.specs.Ends.{MayHave, AreTold, StopsAt, WantsMemory, StopsEarly, StopsLate, Stops, IsDone, TellsLine, IsRefused, IsExcused, IsPutFault, MayStop, DoesAll, StopsDoing, EndsBy, Ends}
use Rattle.ss_command.specs.Order.{Asked, Reading, Step, Value, Gives, Finds, Work, puts, starts, Task, acts, finish, Order, first, order_of, last, ComesTo, ComesToStep}
use Rattle.ss_state.specs.State.{State}
use Rattle.ss_state.specs.Step.{Made}
use Rattle.ss_command.specs.Working.{IsDoneBy, IsStopped, Worked, devices, stop_told}
use Rattle.ss_command.specs.Puts.{Put, StopsInPuts}
use Rattle.ss_command.specs.Refusal.{Refusal}
use Rattle.ss_command.specs.Seen.{Seen}
use Rattle.ss_command.proofs.Puts.{rose-earlier, rose-later, Went-same}
use Rattle.ss_command.proofs.Ways.{OneReading, told_agrees, refused_or_comes, refused_alike, done_or_unread, one_work}

-- ---- inputs at a later moment

pub keeps-same : (told : InputsTold) → KeepsInputs told told
keeps-same told = record { file = refl; missed = refl; faults = omega arith }

pub keeps-then : (a b c : InputsTold) → KeepsInputs a b → KeepsInputs b c → KeepsInputs a c
keeps-then a b c h k = record { file = k.file ∙ h.file; missed = k.missed ∙ h.missed; faults = omega (arith, h.faults, k.faults) }

pub fails-then : (a b c : InputsTold) (file : List ℕ) → KeepsInputs a b → FailsAt b c file → FailsAt a c file
fails-then a b c file h k = record {
  file = k.file ∙ ap (λ (files : List ℕ → FileTold). changed_at file with_failure files) h.file;
  missed = k.missed ∙ ap (λ (files : List ℕ → FileTold). missed_after (files file) b.missed) h.file ∙ ap (missed_after (a.file file)) h.missed;
  faults = rose-earlier a.faults b.faults c.faults h.faults k.faults;
}

-- files with this telling may have these bytes
abbrev pub may : (List ℕ → FileTold) → Reading
may files file bytes = MayGive (files file) bytes

pub comes-earlier : (a b : InputsTold) (work : Work) (order : Order) → KeepsInputs a b → ComesTo (MayHave b) work order → ComesTo (MayHave a) work order
comes-earlier a b work order h = subst (λ (files : List ℕ → FileTold). ComesTo (may files) work order) h.file

pub step-there : (R : Reading) (Here There : Step → Type 0) (order : Order) → ((step : Step) → Here step → There step) → ComesToStep R Here order → ComesToStep R There order
step-there R Here There (last o) h k = k
step-there R Here There (first step next) h (inl here) = inl (h step here)
step-there R Here There (first step next) h (inr (value, gives, later)) = inr (value, gives, step-there R Here There (next value) h later)

pub stops-then : (a b c : InputsTold) (refusal : Refusal) (step : Step) → KeepsInputs a b → StopsAt b c refusal step → StopsAt a c refusal step
stops-then a b c refusal step h (inl (found, kept)) =
    inl (subst (λ (files : List ℕ → FileTold). Finds (may files) step refusal) h.file found, keeps-then a b c h kept)
stops-then a b c refusal step h (inr (file, reads, (fails, is))) = inr (file, reads, (fails-then a b c file h fails, is))

pub step-earlier : (a b c : InputsTold) (refusal : Refusal) (order : Order) → KeepsInputs a b → ComesToStep (MayHave b) (StopsAt b c refusal) order →
    ComesToStep (MayHave a) (StopsAt a c refusal) order
step-earlier a b c refusal order h k =
    subst (λ (files : List ℕ → FileTold). ComesToStep (may files) (StopsAt a c refusal) order) h.file
    (step-there (MayHave b) (StopsAt b c refusal) (StopsAt a c refusal) order (λ step. stops-then a b c refusal step h) k)

-- ---- work that goes on once the inputs were read

abbrev pub at_inputs : InputsTold → Seen → Seen
at_inputs inputs seen = record seen { inputs = inputs }

-- the same moment of a job, whatever inputs are told beside it
abbrev pub worked-earlier : (plan : PlanText) (task : Task) (before : Seen) (read : InputsTold) → Worked plan task (at_inputs read before) → Worked plan task before
worked-earlier plan task before read k = record { made = k.made; state = k.state; left = k.left; done = k.done }

pub does-earlier : (work : Work) (before after : Seen) (read : InputsTold) → KeepsInputs before.inputs read → DoesAll work (at_inputs read before) after → DoesAll work before after
does-earlier (puts output) before after read h k = record { whole = k.whole; store = k.store; inputs = keeps-then before.inputs read after.inputs h k.inputs }
does-earlier (starts plan task) before after read h k = record {
  worked = worked-earlier plan task before read k.worked;
  report = k.report;
  store = k.store;
  read = k.read;
  kept = keeps-then before.inputs read k.read h k.kept;
  released = k.released;
}

pub stops_doing-earlier : (work : Work) (before after : Seen) (read : InputsTold) (refusal : Refusal) → StopsDoing work (at_inputs read before) after refusal → StopsDoing work before after refusal
stops_doing-earlier (puts output) before after read refusal k = record { cause = k.cause; store = k.store }
stops_doing-earlier (starts plan task) before after read refusal (inl k) = inl (record { stop = k.stop; stops = k.stops; told = k.told })
stops_doing-earlier (starts plan task) before after read refusal (inr k) =
    inr (record { worked = worked-earlier plan task before read k.worked; cause = k.cause; store = k.store })

pub done-earlier : (order : Order) (before after : Seen) (read : InputsTold) → KeepsInputs before.inputs read → IsDone order (at_inputs read before) after → IsDone order before after
done-earlier order before after read h k = record {
  work = k.work;
  comes = comes-earlier before.inputs read k.work order h k.comes;
  whole = does-earlier k.work before after read h k.whole;
}

pub early-cause : (order : Order) (before after : Seen) (read : InputsTold) (refusal : Refusal) → KeepsInputs before.inputs read →
    ComesToStep (MayHave read) (StopsAt read after.inputs refusal) order ⊎ WantsMemory read after.inputs refusal →
    ComesToStep (MayHave before.inputs) (StopsAt before.inputs after.inputs refusal) order ⊎ WantsMemory before.inputs after.inputs refusal
early-cause order before after read refusal h (inl stops) = inl (step-earlier before.inputs read after.inputs refusal order h stops)
early-cause order before after read refusal h (inr (is, kept)) = inr (is, keeps-then before.inputs read after.inputs h kept)

pub stops-earlier : (order : Order) (before after : Seen) (read : InputsTold) (refusal : Refusal) → KeepsInputs before.inputs read →
    Stops order (at_inputs read before) after refusal → Stops order before after refusal
stops-earlier order before after read refusal h (inl early) =
    inl (record { cause = early-cause order before after read refusal h early.cause; nothing = early.nothing; store = early.store })
stops-earlier order before after read refusal h (inr late) = inr (record {
  work = late.work;
  comes = comes-earlier before.inputs read late.work order h late.comes;
  cause = stops_doing-earlier late.work before after read refusal late.cause;
  inputs = keeps-then before.inputs read after.inputs h late.inputs;
})

pub ends-earlier : (order : Order) (before after : Seen) (read : InputsTold) (status : ℕ) → KeepsInputs before.inputs read →
    EndsBy order (at_inputs read before) after status → EndsBy order before after status
ends-earlier order before after read status h (inl (zero, done)) = inl (zero, done-earlier order before after read h done)
ends-earlier order before after read status h (inr (refusal, refused)) = inr (
  refusal,
  record {
    stopped = refused.stopped;
    stops = stops-earlier order before refused.stopped read refusal h refused.stops;
    told = refused.told;
    line = refused.line;
    inputs = refused.inputs;
    store = refused.store;
  },
)

-- ---- work behind a step that gives a value

pub done-first : (step : Step) (next : Value step → Order) (value : Value step) (before after : Seen) → Gives (MayHave before.inputs) step value →
    IsDone (next value) before after → IsDone (first step next) before after
done-first step next value before after gives k = record { work = k.work; comes = (value, gives, k.comes); whole = k.whole }

pub first-cause : (step : Step) (next : Value step → Order) (value : Value step) (before after : Seen) (refusal : Refusal) → Gives (MayHave before.inputs) step value →
    ComesToStep (MayHave before.inputs) (StopsAt before.inputs after.inputs refusal) (next value) ⊎ WantsMemory before.inputs after.inputs refusal →
    ComesToStep (MayHave before.inputs) (StopsAt before.inputs after.inputs refusal) (first step next) ⊎ WantsMemory before.inputs after.inputs refusal
first-cause step next value before after refusal gives (inl stops) = inl (inr (value, gives, stops))
first-cause step next value before after refusal gives (inr wants) = inr wants

pub stops-first : (step : Step) (next : Value step → Order) (value : Value step) (before after : Seen) (refusal : Refusal) → Gives (MayHave before.inputs) step value →
    Stops (next value) before after refusal → Stops (first step next) before after refusal
stops-first step next value before after refusal gives (inl early) =
    inl (record { cause = first-cause step next value before after refusal gives early.cause; nothing = early.nothing; store = early.store })
stops-first step next value before after refusal gives (inr late) =
    inr (record { work = late.work; comes = (value, gives, late.comes); cause = late.cause; inputs = late.inputs })

pub ends-first : (step : Step) (next : Value step → Order) (value : Value step) (before after : Seen) (status : ℕ) → Gives (MayHave before.inputs) step value →
    EndsBy (next value) before after status → EndsBy (first step next) before after status
ends-first step next value before after status gives (inl (zero, done)) = inl (zero, done-first step next value before after gives done)
ends-first step next value before after status gives (inr (refusal, refused)) = inr (
  refusal,
  record {
    stopped = refused.stopped;
    stops = stops-first step next value before refused.stopped refusal gives refused.stops;
    told = refused.told;
    line = refused.line;
    inputs = refused.inputs;
    store = refused.store;
  },
)

-- the work stops at a step, or memory is wanting there, and nothing is put
pub stops_here : (step : Step) (next : Value step → Order) (before : Seen) (read : InputsTold) (refusal : Refusal) →
    StopsAt before.inputs read refusal step ⊎ WantsMemory before.inputs read refusal → Stops (first step next) before (at_inputs read before) refusal
stops_here step next before read refusal (inl stops) = inl (record { cause = inl (inl stops); nothing = Went-same before.outputs; store = refl })
stops_here step next before read refusal (inr wants) = inl (record { cause = inr wants; nothing = Went-same before.outputs; store = refl })

-- a stop, and the line behind it
pub refused_at : (order : Order) (before stopped after : Seen) (status : ℕ) (refusal : Refusal) → Stops order before stopped refusal →
    status ≡ refusal.status → TellsLine stopped.outputs after.outputs refusal.line → after.inputs ≡ stopped.inputs → after.depot ≡ stopped.depot →
    EndsBy order before after status
refused_at order before stopped after status refusal stops same line inputs store =
    inr (refusal, record { stopped = stopped; stops = stops; told = same; line = line; inputs = inputs; store = store })

-- ---- exactly

pub wants_excused : (status : ℕ) (before stopped after : Seen) (refusal : Refusal) → status ≡ refusal.status →
    WantsMemory before.inputs stopped.inputs refusal → IsExcused before after status
wants_excused status before stopped after refusal told (is, kept) = inl (told ∙ ap (λ (r : Refusal). r.status) is)

pub unread_excused : (status : ℕ) (before stopped after : Seen) (refusal : Refusal) → status ≡ refusal.status → after.inputs ≡ stopped.inputs →
    (refusal.status ≡ 5) × Rose before.inputs.faults stopped.inputs.faults → IsExcused before after status
unread_excused status before stopped after refusal told inputs (five, rose) =
    inr (told ∙ five, subst (λ (t : InputsTold). Rose before.inputs.faults t.faults) (sym inputs) rose)

pub refused_exactly : OneReading → (order : Order) (before after : Seen) (status : ℕ) → EndsBy order before after status → (refusal : Refusal) →
    ComesToStep (AreTold before.inputs) (λ step. Finds (AreTold before.inputs) step refusal) order →
    IsRefused order refusal before after status ⊎ IsExcused before after status
refused_exactly one order before after status (inl (zero, done)) refusal found =
    absurd (refused_or_comes (AreTold before.inputs) (MayHave before.inputs) (told_agrees before.inputs) one order refusal done.work found done.comes)
refused_exactly one order before after status (inr (other, refused)) refusal found = of_stop refused.stops
  where
    early : StopsEarly order before refused.stopped other → IsRefused order refusal before after status ⊎ IsExcused before after status
    early stop = elim stop.cause [
      | inl stops ↦ elim (refused_alike before.inputs refused.stopped.inputs one order refusal other found stops) [
        | inl same ↦ inl (subst (λ (r : Refusal). IsRefused order r before after status) same refused)
        | inr unread ↦ inr (unread_excused status before refused.stopped after other refused.told refused.inputs unread)
      ]
      | inr wants ↦ inr (wants_excused status before refused.stopped after other refused.told wants)
    ]

    of_stop : Stops order before refused.stopped other → IsRefused order refusal before after status ⊎ IsExcused before after status
    of_stop (inl stop) = early stop
    of_stop (inr late) =
        absurd (refused_or_comes (AreTold before.inputs) (MayHave before.inputs) (told_agrees before.inputs) one order refusal late.work found late.comes)

-- why a task stops, and that no count fell where it was done
stop_cause : (plan : PlanText) (task : Task) (before : Devices) (stop : PlayFault) (left : Devices) → IsStopped plan task before stop left →
    IsCauseOf plan before stop left
stop_cause plan (acts list) before stop left stops = stops.cause
stop_cause plan (finish triggers trace) before stop left stops = stops.stops.cause

done_counts : (plan : PlanText) (task : Task) (before : Devices) (made : List Made) (state : State) (left : Devices) →
    IsDoneBy plan task before made state left → NoCountFell before left
done_counts plan (acts list) before made state left done = done.counts
done_counts plan (finish triggers trace) before made state left done = done.played.counts

-- what a stop that has a cause of its own comes to
module _ (before stopped after : Seen) (status : ℕ) (refusal : Refusal) (told : status ≡ refusal.status) (line : TellsLine stopped.outputs after.outputs refusal.line)
    (inputs : after.inputs ≡ stopped.inputs) (store : after.depot ≡ stopped.depot) where
  in_puts : (work : Work) (left : OutputsTold) (all : List Put) → (IsPutFault before after status → MayStop work before after status) →
      before.outputs.faults ≤ left.faults → StopsInPuts left stopped.outputs all refusal → IsExcused before after status ⊎ MayStop work before after status
  in_puts work left all may h (inl (is, failed)) = inr (may (
    told ∙ ap (λ (r : Refusal). r.status) is,
    rose-later before.outputs.faults stopped.outputs.faults after.outputs.faults
        (rose-earlier before.outputs.faults left.faults stopped.outputs.faults h failed.rose) line.went.faults,
  ))
  in_puts work left all may h (inr (is, between)) = inl (inl (told ∙ ap (λ (r : Refusal). r.status) is))

  in_task : (plan : PlanText) (task : Task) (stop : PlayFault) → IsCauseOf plan (devices before) stop (devices stopped) → refusal ≡ stop_told plan.job stop →
      IsExcused before after status ⊎ MayStop (starts plan task) before after status
  in_task plan task fault.Store rose is = inr (inr (inl (inl (
    told ∙ ap (λ (r : Refusal). r.status) is,
    subst (λ (d : DepotTold). Rose before.depot.faults d.faults) (sym store) rose,
  ))))
  in_task plan task fault.Output rose is = inr (inl (
    told ∙ ap (λ (r : Refusal). r.status) is,
    rose-later before.outputs.faults stopped.outputs.faults after.outputs.faults rose line.went.faults,
  ))
  in_task plan task (fault.Full v) long is = inr (inr (inr (told ∙ ap (λ (r : Refusal). r.status) is, (v, long))))
  in_task plan task fault.Memory u is = inl (inl (told ∙ ap (λ (r : Refusal). r.status) is))
  in_task plan task (fault.Damaged v n) (within, rose) is = inr (inr (inl (inr (
    told ∙ ap (λ (r : Refusal). r.status) is,
    subst (λ (d : DepotTold). Rose before.depot.shorts d.shorts) (sym store) rose,
  ))))

  pub in_work : (work : Work) → StopsDoing work before stopped refusal → IsExcused before after status ⊎ MayStop work before after status
  in_work (puts output) stop = in_puts (puts output) before.outputs _ (λ h. h) (omega arith) stop.cause
  in_work (starts plan task) (inl stop) =
      in_task plan task stop.stop (stop_cause plan task (devices before) stop.stop (devices stopped) stop.stops) stop.told
  in_work (starts plan task) (inr stop) =
      in_puts (starts plan task) stop.worked.left.outputs _ (λ h. inl h) (done_counts plan task (devices before) stop.worked.made stop.worked.state stop.worked.left stop.worked.done).output_faults stop.cause

pub done_exactly : OneReading → (order : Order) (before after : Seen) (status : ℕ) → EndsBy order before after status → (work : Work) →
    ComesTo (AreTold before.inputs) work order → (status ≡ 0) ⊎ IsExcused before after status ⊎ MayStop work before after status
done_exactly one order before after status (inl (zero, done)) work comes = inl zero
done_exactly one order before after status (inr (other, refused)) work comes = of_stop refused.stops
  where
    early : StopsEarly order before refused.stopped other → (status ≡ 0) ⊎ IsExcused before after status ⊎ MayStop work before after status
    early stop = elim stop.cause [
      | inl stops ↦ inr (inl (unread_excused status before refused.stopped after other refused.told refused.inputs
          (done_or_unread before.inputs refused.stopped.inputs one order work other comes stops)))
      | inr wants ↦ inr (inl (wants_excused status before refused.stopped after other refused.told wants))
    ]

    late : StopsLate order before refused.stopped other → (status ≡ 0) ⊎ IsExcused before after status ⊎ MayStop work before after status
    late stop =
        let same : stop.work ≡ work =
        one_work (AreTold before.inputs) (MayHave before.inputs) (told_agrees before.inputs) one order work stop.work comes stop.comes in
        inr (in_work before refused.stopped after status other refused.told refused.line refused.inputs refused.store work
        (subst (λ (w : Work). StopsDoing w before refused.stopped other) same stop.cause))

    of_stop : Stops order before refused.stopped other → (status ≡ 0) ⊎ IsExcused before after status ⊎ MayStop work before after status
    of_stop (inl stop) = early stop
    of_stop (inr stop) = late stop

pub ends : OneReading → (asked : Asked) (before after : Seen) (status : ℕ) → EndsBy (order_of asked) before after status → Ends asked before after status
ends one asked before after status how = record {
  how = how;
  refused = refused_exactly one (order_of asked) before after status how;
  done = done_exactly one (order_of asked) before after status how;
}
