-- Worked examples: small runs, each act with its outcome, and the numbers in the end.
use Rattle.std.specs.Prelude.{◌≡◌, ℕ, zero, suc, ◌+◌, Bool, true, false, Option, Some, None, List, [], ◌∷◌, ◌++◌}
use Rattle.std.specs.Prelude.{replicate}
use Rattle.ss_water.specs.declared.node.Kind.{Kind}
use Rattle.ss_water.specs.declared.node.Kind.TheVariants as kind
use Rattle.ss_fail.specs.declared.act.Act.{Act}
use Rattle.ss_fail.specs.declared.act.Act.TheVariants.{Read, Write, Snap, Crash, Load, Lose, Flush, Take, Collect}
use Rattle.ss_fail.specs.declared.act.Act.TheVariants.{Trim, Pass}
use Rattle.ss_fail.specs.declared.act.Act.TheVariants.{Pass}
use Rattle.ss_fail.specs.declared.trigger.Trigger.{Trigger}
use Rattle.ss_fail.specs.declared.outcome.Outcome.{Outcome}
use Rattle.ss_fail.specs.declared.outcome.Outcome.TheVariants.{Got, Gone, Gap, Stored, Known, Old, Loaded, Lost}
use Rattle.ss_fail.specs.declared.outcome.Outcome.TheVariants.{Flushed}
use Rattle.ss_fail.specs.declared.outcome.Outcome.TheVariants.{PassDue, Took, Base, Passed}
use Rattle.ss_fail.specs.declared.outcome.Outcome.TheVariants as outcome
use Rattle.ss_state.specs.declared.entry.Entry.TheVariants as entry
use Rattle.ss_elem.specs.declared.element.Element.TheVariants.{End}
use Rattle.ss_meaning.specs.Emit as operator
use Rattle.ss_meaning.specs.Meaning.{Source, Inner, Sink}
use Rattle.ss_meaning.specs.Examples.{k, row}
use Rattle.ss_state.specs.NumbersOfMeaning.{Policy, job_numbers}
use Rattle.ss_state.specs.Numbers.{VertexNumbers, JobNumbers}
use Rattle.ss_state.specs.State.{InstNumbers, TailNumbers, State, empty_row, first_state, durable_at}
use Rattle.ss_state.specs.LowWater.{need, start, required}
use Rattle.ss_state.specs.Step.{run, with_entry, Store, Memory, Left}
use Rattle.ss_state.specs.Rule.{rule, Obeys}

-- a vertex that reads one stream of so many elements and gives each on, with so many replicas
abbrev pub gives_on : Kind → List ℕ → ℕ → ℕ → VertexNumbers
gives_on kind inputs elements replicas = record {
  kind = kind;
  inputs = inputs;
  arrivals = replicate elements 0;
  given = replicate elements 1;
  held = replicate (elements + 1) 0;
  every = 64;
  replay = false;
  replicas = replicas;
}

-- a source of so many elements
abbrev pub source_of : ℕ → VertexNumbers
source_of elements = record (gives_on kind.Source [] elements 1) { held = [] }

-- a sink over vertex u
abbrev pub sink_of : ℕ → VertexNumbers
sink_of u = record (gives_on kind.Sink (u ∷ []) 0 0) { held = [] }

-- vertex 0, a source of three rows and End; 1, an operator with two replicas that gives each element on; 2, a sink
abbrev pub job_of_three : JobNumbers
job_of_three = record {
  vertices = source_of 4 ∷ gives_on kind.Inner (0 ∷ []) 4 2 ∷ sink_of 1 ∷ [];
  max_elements = 131072;
  collect_every = 256;
}

-- a select that gives each row on as it is
abbrev pub gives_all : operator.Kind
gives_all =
    operator.Select
    (record { test = λ row. true; a = λ row. row.a; b = λ row. row.b; c = λ row. row.c; d = λ row. row.d })

-- the job of three vertices is that of a source of three rows, such a select with two replicas, and a sink
abbrev pub JobOfThreeIsMeant : Type 0
JobOfThreeIsMeant =
    let list = row 1 2 k 1 0 ∷ row 2 3 k 2 0 ∷ row 3 4 k 3 0 ∷ End ∷ [] in
    let policy : ℕ → Policy = λ replicas. record { every = 64; replay = false; replicas = replicas } in
    job_numbers (Source list ∷ Inner gives_all (0 ∷ []) ∷ Sink 1 ∷ []) (policy 1 ∷ policy 2 ∷ policy 1 ∷ [])
    (record { max_elements = 131072; collect_every = 256 })
    ≡ job_of_three

-- these acts, made on the job when it has just been started, come to these outcomes
abbrev pub ComesTo : JobNumbers → List Act → List Outcome → Type 0
ComesTo job acts outcomes = (run job (first_state job) acts).outcomes ≡ outcomes

-- what they leave
abbrev pub state_after : JobNumbers → List Act → State
state_after job acts = (run job (first_state job) acts).state

-- a replica that reads and then writes, so many times
abbrev pub pairs : ℕ → ℕ → ℕ → List Act
pairs zero v r = []
pairs (suc count) v r = Read v r ∷ Write v r ∷ pairs count v r

-- what comes of it where all goes well, from this element on
abbrev pub pairs_well : ℕ → ℕ → List Outcome
pairs_well zero n = []
pairs_well (suc count) n = Got 0 n ∷ Stored n ∷ pairs_well count (n + 1)

-- a tail that was never told of stored elements
abbrev pub tail_of : ℕ → ℕ → Bool → ℕ → TailNumbers
tail_of from end torn stored = record { from = from; end = end; seen = 0; torn = torn; stored = stored }

-- a replica that has taken n elements and written all that it made
abbrev pub up_at : ℕ → Option InstNumbers
up_at n = Some (record { n = n; left = 0 })

abbrev pub race : List Act
race = pairs 1 0 0 ++ Read 1 0 ∷ Read 1 1 ∷ Write 1 0 ∷ Write 1 1 ∷ []

-- two replicas that race write one element: the stream takes it once
abbrev pub ReplicasRace : Type 0
ReplicasRace = ComesTo job_of_three race (pairs_well 1 0 ++ Got 0 0 ∷ Got 0 0 ∷ Stored 0 ∷ Known 0 ∷ [])

-- and this is what they leave
abbrev pub ReplicasRaceLeaves : Type 0
ReplicasRaceLeaves =
    state_after job_of_three race
    ≡ record (first_state job_of_three) {
      tails = tail_of 0 1 false 1 ∷ tail_of 0 1 false 1 ∷ tail_of 0 0 false 0 ∷ [];
      insts = (up_at 1 ∷ []) ∷ (up_at 1 ∷ up_at 1 ∷ []) ∷ [] ∷ [];
    }

-- a tail is lost of which one element was stored: the next write meets a gap, and the replica begins again behind it
abbrev pub TailLost : Type 0
TailLost =
    ComesTo job_of_three
    (pairs 3 0 0 ++ Flush 0 1 ∷ Lose 0 ∷ Read 0 0 ∷ Write 0 0 ∷ Load 0 0 ∷ Read 0 0 ∷ Write 0 0 ∷ [])
    (pairs_well 3 0 ++ Flushed 1 ∷ Lost 3 ∷ Got 0 3 ∷ Gap 1 ∷ Loaded 1 ∷ Got 0 1 ∷ Stored 1 ∷ [])

abbrev pub collected_ahead : List Act
collected_ahead =
    pairs 3 0 0 ++ pairs 3 1 0 ++ Snap 1 0 ∷ Flush 1 3 ∷ Lose 0 ∷ Collect 0 ∷ Read 0 0 ∷ Write 0 0 ∷ Load 0 0
    ∷ Read 0 0 ∷ Write 0 0 ∷ Read 1 0 ∷ Write 1 0 ∷ []

-- a source's stream that was never stored is collected up to what its reader's snapshot needs: its dur rises with it
abbrev pub CollectedAhead : Type 0
CollectedAhead =
    ComesTo job_of_three collected_ahead
    (pairs_well 3 0 ++ pairs_well 3 0 ++ outcome.Kept 3 ∷ Flushed 3 ∷ Lost 3 ∷ Base 3 ∷ Got 0 3 ∷ Gap 0 ∷ Loaded 3
    ∷ Got 0 3 ∷ Stored 3 ∷ Got 0 3 ∷ Stored 3 ∷ [])

-- the tails, the ledger and the journal in the end
abbrev pub CollectedAheadLeaves : Type 0
CollectedAheadLeaves =
    state_after job_of_three collected_ahead
    ≡ record {
      tails = record { from = 3; end = 4; seen = 3; torn = true; stored = 4 }
          ∷ record { from = 0; end = 4; seen = 3; torn = false; stored = 4 } ∷ tail_of 0 0 false 0 ∷ [];
      insts = (up_at 4 ∷ []) ∷ (up_at 4 ∷ up_at 0 ∷ []) ∷ [] ∷ [];
      vault = record {
        ledger = record {
          rows = record { base = 3; dur = 3; snaps = []; mark = 0; taken = 0 }
              ∷ record { base = 0; dur = 3; snaps = 0 ∷ 3 ∷ []; mark = 0; taken = 0 }
              ∷ record { base = 0; dur = 0; snaps = []; mark = 0; taken = 0 } ∷ [];
          since = 3;
        };
        journal = entry.Kept 1 3 ∷ entry.Flushed 1 3 ∷ entry.Collected 0 ∷ [];
      };
    }

-- a slow replica finds the element that it wants gone, and goes on from the newer one's snapshot
abbrev pub SlowReplica : Type 0
SlowReplica =
    ComesTo job_of_three
    (pairs 3 0 0 ++ pairs 3 1 0 ++ pairs 1 1 1 ++ Snap 1 0 ∷ Flush 0 3 ∷ Flush 1 3 ∷ Collect 0 ∷ Flush 0 1 ∷ Snap 1 1
    ∷ Read 1 1 ∷ Load 1 1 ∷ Take 2 ∷ [])
    (pairs_well 3 0 ++ pairs_well 3 0 ++ Got 0 0 ∷ Known 0 ∷ outcome.Kept 3 ∷ Flushed 3 ∷ Flushed 3 ∷ Base 3 ∷ Flushed 0
    ∷ Old 3 ∷ Gone 0 1 ∷ Loaded 3 ∷ Took 0 ∷ [])

-- a source of seventy rows and End, and a sink; after 64 stored elements a pass is due
abbrev pub job_of_seventy_rows : JobNumbers
job_of_seventy_rows = record { vertices = source_of 71 ∷ sink_of 0 ∷ []; max_elements = 131072; collect_every = 64 }

-- no more is stored until the pass is made that is due
abbrev pub PassIsDue : Type 0
PassIsDue =
    ComesTo job_of_seventy_rows
    (pairs 65 0 0 ++ Flush 0 64 ∷ Flush 0 1 ∷ Pass ∷ Flush 0 1 ∷ Take 1 ∷ [])
    (pairs_well 65 0 ++ Flushed 64 ∷ PassDue 64 ∷ Passed ∷ Flushed 1 ∷ Took 0 ∷ [])

-- a source, an operator over it, another over that, and a sink
abbrev pub job_of_four : JobNumbers
job_of_four = record {
  vertices = source_of 4 ∷ gives_on kind.Inner (0 ∷ []) 4 1 ∷ gives_on kind.Inner (1 ∷ []) 4 1 ∷ sink_of 2 ∷ [];
  max_elements = 131072;
  collect_every = 256;
}

-- each replica has made three elements; both operators have stored a snapshot, and the last one its stream
abbrev pub before_the_pass : List Act
before_the_pass = pairs 3 0 0 ++ pairs 3 1 0 ++ pairs 3 2 0 ++ Snap 1 0 ∷ Snap 2 0 ∷ Flush 2 3 ∷ []

-- a number of each of the three streams
abbrev pub of_streams : (ℕ → ℕ) → List ℕ
of_streams f = f 0 ∷ f 1 ∷ f 2 ∷ []

-- a pass from the last stream to the first raises each dur and low-water mark before what lies below needs it
abbrev pub PassOverFour : Type 0
PassOverFour =
    let l = (state_after job_of_four before_the_pass).vault.ledger in
    (of_streams (need job_of_four l) ≡ 0 ∷ 3 ∷ 0 ∷ []) × (of_streams (required job_of_four l) ≡ 3 ∷ 3 ∷ 0 ∷ [])
    × (of_streams (start job_of_four l) ≡ 3 ∷ 3 ∷ 3 ∷ [])
    × ((state_after job_of_four (before_the_pass ++ Pass ∷ [])).vault.ledger.rows
    ≡ record { base = 3; dur = 3; snaps = []; mark = 3; taken = 0 }
    ∷ record { base = 3; dur = 3; snaps = 3 ∷ []; mark = 0; taken = 0 }
    ∷ record { base = 0; dur = 3; snaps = 3 ∷ []; mark = 0; taken = 0 } ∷ empty_row ∷ [])

-- the next acts of a replica of vertex 7, beside its newest stored snapshot
abbrev pub next_act : VertexNumbers → Option InstNumbers → ℕ → Act
next_act x inst last = rule x 7 0 inst last

-- what is made is written; then a snapshot is stored where one is due, here after three elements; then it reads
abbrev pub NextActs : Type 0
NextActs =
    let x = record (gives_on kind.Inner (0 ∷ []) 4 1) { every = 3 } in
    (next_act x None 0 ≡ Load 7 0) × (next_act x (Some (record { n = 3; left = 1 })) 0 ≡ Write 7 0)
    × (next_act x (up_at 3) 0 ≡ Snap 7 0) × (next_act x (up_at 3) 3 ≡ Read 7 0)
    × (next_act x (up_at 4) 0 ≡ Snap 7 0) × (next_act x (up_at 4) 3 ≡ Write 7 0)

-- an operator that is recovered by replay stores no snapshot while it holds entries
abbrev pub NoSnapWhileItHolds : Type 0
NoSnapWhileItHolds =
    let x = record (gives_on kind.Inner (0 ∷ []) 4 1) { every = 1; replay = true; held = 0 ∷ 2 ∷ 0 ∷ 1 ∷ 0 ∷ [] } in
    (next_act x (up_at 1) 0 ≡ Read 7 0) × (next_act x (up_at 2) 0 ≡ Snap 7 0)

-- a failure that follows the count-th write to the source's stream
abbrev pub after_write : ℕ → Act → Trigger
after_write count a = record { v = 0; count = count; act = a }

-- these acts of a driver obey the rule and the triggers in a job of three vertices that has just been started
abbrev pub IsObeyed : List Trigger → List Act → Type 0
IsObeyed ts acts = Obeys job_of_three ts (first_state job_of_three) acts

-- a driver that makes the trigger's act directly after that write obeys it
abbrev pub TriggerIsObeyed : Type 0
TriggerIsObeyed = IsObeyed (after_write 1 (Crash 0 0) ∷ []) (Read 0 0 ∷ Write 0 0 ∷ Crash 0 0 ∷ Load 0 0 ∷ [])

-- two triggers at one count are made in their order, and one that stands twice is made twice
abbrev pub TriggersInOrder : Type 0
TriggersInOrder =
    IsObeyed (after_write 1 (Crash 0 0) ∷ after_write 2 (Lose 1) ∷ after_write 1 (Lose 0) ∷ after_write 1 (Lose 0) ∷ [])
    (Read 0 0 ∷ Write 0 0 ∷ Crash 0 0 ∷ Lose 0 ∷ Lose 0 ∷ Load 0 0 ∷ [])

-- a driver that goes on without the trigger's act doesn't obey it, nor does one that ends before it
abbrev pub TriggerIsLeftOut : Type 0
TriggerIsLeftOut =
    (IsObeyed (after_write 1 (Crash 0 0) ∷ []) (Read 0 0 ∷ Write 0 0 ∷ Read 0 0 ∷ []) → ⊥)
    × (IsObeyed (after_write 1 (Crash 0 0) ∷ []) (Read 0 0 ∷ Write 0 0 ∷ []) → ⊥)

-- nor one that makes a load where the rule names another act, or a flush of more than may be asked for
abbrev pub NotByTheRule : Type 0
NotByTheRule = (IsObeyed [] (Load 0 0 ∷ []) → ⊥) × (IsObeyed [] (Flush 0 1000 ∷ []) → ⊥)

-- a take where nothing is stored waits; a write behind what the tail holds is old, and done with
abbrev pub WaitsAndOld : Type 0
WaitsAndOld =
    ComesTo job_of_three
    (Take 2 ∷ pairs 3 0 0 ++ pairs 2 1 0 ++ Read 1 1 ∷ Flush 1 2 ∷ Snap 1 0 ∷ Take 2 ∷ Take 2
    ∷ Collect 1 ∷ Flush 1 1 ∷ Write 1 1 ∷ [])
    (outcome.WaitDur 0 ∷ pairs_well 3 0 ++ pairs_well 2 0 ++ Got 0 0 ∷ Flushed 2 ∷ outcome.Kept 2
    ∷ Took 0 ∷ Took 1 ∷ Base 2 ∷ Flushed 0 ∷ Old 0 ∷ [])

-- a trim drops what lies below the low-water mark, and raises a source's mark to what is stored of its stream
abbrev pub TrimDrops : Type 0
TrimDrops =
    let acts = pairs 3 0 0 ++ pairs 3 1 0 ++ Snap 1 0 ∷ Flush 0 2 ∷ Flush 1 3 ∷ Trim 0 ∷ Trim 1 ∷ [] in
    ComesTo job_of_three acts
    (pairs_well 3 0 ++ pairs_well 3 0 ++ outcome.Kept 3 ∷ Flushed 2 ∷ Flushed 3 ∷ outcome.Mark 2 ∷ outcome.Low 3 ∷ [])
    × ((durable_at (state_after job_of_three acts) 1).snaps ≡ 3 ∷ [])
    × ((durable_at (state_after job_of_three acts) 0).mark ≡ 2)

-- a flush of three that met a failing store after two of them, and a pass that met one at its third half
abbrev pub SomeIsLeft : Type 0
SomeIsLeft =
    let s = state_after job_of_three (pairs 3 0 0) in
    Left job_of_three s (Flush 0 64) Store (with_entry job_of_three s (entry.Flushed 0 2))
    × Left job_of_three s Pass Store (with_entry job_of_three s (entry.Pass 2)) × Left job_of_three s Pass Memory s
