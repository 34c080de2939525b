-- What a vault comes to whose sink was to put its next line.
use Rattle.std.proofs.Common.{◌≡◌, ℕ, ◌<◌, ◌≤◌, ◌==◌, nat_le, Bool, false, Option, Some, None, Ok, Err, List, take, refl, sym, ap, ap₂, ◌∙◌, subst, arith, if◌then◌else◌}
use Rattle.std.specs.Prelude.{IsSome, option_and_then, slice_get}
use Rattle.std.proofs.lemmas.Bool.Decides.{nat_tests}
use Rattle.std.proofs.lemmas.Bool.{ne_eqb}
use Rattle.ss_elem.specs.Line.{line_of}
use Rattle.ss_elem.specs.declared.element.Element.{Element}
use Rattle.ss_frames.specs.Plans.{plan_numbers}
use Rattle.ss_job.specs.JobText.{VertexText, source, inner, sink, file_of, file_of_vertex, sink_file_of_vertex}
use Rattle.ss_outside.specs.Depot.{DepotTold}
use Rattle.ss_outside.specs.Told.{Puts}
use Rattle.ss_outside.specs.declared.outputs.PutFault.{PutFault}
use Rattle.ss_outside.specs.declared.outputs.PutFault.TheVariants as put
use Rattle.ss_plan.specs.Plan.{PlanText}
use Rattle.ss_state.specs.Journal.{enter}
use Rattle.ss_state.specs.Numbers.{JobNumbers, IsSink, input, size, vertex}
use Rattle.ss_state.specs.State.{Ledger, VaultNumbers}
use Rattle.ss_state.specs.declared.entry.Entry.TheVariants as entry
use Rattle.ss_vault.specs.Answers.{take_answer}
use Rattle.ss_vault.specs.Calls.{Delivers, Enters, PutsLine, Takes}
use Rattle.ss_vault.specs.Counts.{NoneFell}
use Rattle.ss_vault.specs.Facts.{PlanFacts, RunFacts}
use Rattle.ss_vault.specs.NumbersHeld.{ended_held}
use Rattle.ss_vault.specs.Sound.{FilesHave, FilesHavePart, HasFiles, IsCounted, Sound, behind_lines_of, nothing_behind, sink_file}
use Rattle.ss_vault.specs.Steps.{IsNextOf, IsOutputFault, halt_of, is_end}
use Rattle.ss_vault.specs.Told.{VaultTold, counts_of, durable_of, numbers_of}
use Rattle.ss_vault.specs.declared.answers.Take.TheVariants as take_variant
use Rattle.ss_vault.specs.declared.counts.Counts.{Counts}
use Rattle.ss_vault.specs.declared.fault.VaultFault.{VaultFault}
use Rattle.ss_vault.specs.declared.fault.VaultFault.TheVariants as fault
use Rattle.ss_vault.proofs.Files.{files_gain, files_stay}
use Rattle.ss_vault.proofs.Moved.{counted_going, counted_output, files_going, moved, same_contents}
use Rattle.ss_vault.proofs.Took.{took_sound}

-- the file of a sink
file_some : (o : Option VertexText) → IsSome (option_and_then sink_file_of_vertex o) → IsSome (option_and_then file_of_vertex o)
file_some None h = absurd cc
file_some (Some (source file late)) h = refl
file_some (Some (inner spec policy)) h = absurd cc
file_some (Some (sink file)) h = refl

pub has_file : (plan : PlanText) (k : ℕ) → IsSome (sink_file plan k) → IsSome (file_of plan.job k)
has_file plan k h = file_some (slice_get plan.job.vertices k) h

file_same : (o : Option VertexText) (f : List ℕ) → IsSome (option_and_then sink_file_of_vertex o) → option_and_then file_of_vertex o ≡ Some f
    → option_and_then sink_file_of_vertex o ≡ Some f
file_same None f h e = absurd cc
file_same (Some (source file late)) f h e = absurd cc
file_same (Some (inner spec policy)) f h e = absurd cc
file_same (Some (sink file)) f h e = e

pub is_file : (plan : PlanText) (k : ℕ) (f : List ℕ) → IsSome (sink_file plan k) → file_of plan.job k ≡ Some f → sink_file plan k ≡ Some f
is_file plan k f h e = file_same (slice_get plan.job.vertices k) f h e

-- what is answered where the line is to be put
le_no : (m n : ℕ) → n < m → nat_le m n ≡ false
le_no m n h = grind (arith, nat_tests)

pub take_due : (plan : PlanText) → (s : VaultTold) (k : ℕ) → Sound plan s
    → (durable_of s k).taken < (durable_of s (input (vertex (plan_numbers plan) k) 0)).dur
    → take_answer (plan_numbers plan) (numbers_of s).ledger k ≡ take_variant.Took (durable_of s k).taken
take_due plan s k sound stored =
    let job : JobNumbers = plan_numbers plan in
    let u : ℕ = input (vertex job k) 0 in
    let taken : ℕ = (durable_of s k).taken in
    let dur : ℕ = (durable_of s u).dur in
    let within = (sound.numbers.stands.row u).dur in
    let some : nat_le (size (vertex job u)) taken ≡ false = le_no (size (vertex job u)) taken (omega (arith, stored, within)) in
    let other : (taken == dur) ≡ false = ne_eqb taken dur (λ e. absurd (omega (arith, e, stored))) in
    ap₂ (λ (a b : Bool). if a then take_variant.Ended else (if b then take_variant.NotYet dur else take_variant.Took taken)) some other

pub take_is : (plan : PlanText) → PlanFacts plan → (s : VaultTold) (k : ℕ) (x : Element) → Sound plan s → IsSink (plan_numbers plan) k
    → IsNextOf plan k s x
    → take_variant.Took (durable_of s k).taken ≡ take_answer (plan_numbers plan) (numbers_of s).ledger k
take_is plan facts s k x sound is_sink_k next = sym (take_due plan s k sound next.stored)

pub taken_few : (plan : PlanText) → PlanFacts plan → (s : VaultTold) (k : ℕ) (x : Element) → Sound plan s → IsNextOf plan k s x
    → (durable_of s k).taken < 131072
taken_few plan facts s k x sound next =
    let u : ℕ = input (vertex (plan_numbers plan) k) 0 in
    let within = (sound.numbers.stands.row u).dur in
    let most = facts.most in
    let limit = facts.limit in
    let stored = next.stored in
    omega (arith, within, most, limit, stored)

-- what a put doesn't touch
pub record Puttings (s u : VaultTold) : Type 0 where
  pub numbers : u.held.numbers ≡ s.held.numbers
  pub snaps : u.held.snaps ≡ s.held.snaps
  pub ended : u.held.ended ≡ s.held.ended
  pub started : u.started ≡ s.started
  pub depot : u.depot ≡ s.depot

put_fell : (s u : VaultTold) → u.depot ≡ s.depot → s.outputs.faults ≤ u.outputs.faults → NoneFell (counts_of s) (counts_of u)
put_fell s u depot faults =
    let f : u.depot.faults ≡ s.depot.faults = ap (λ (d : DepotTold). d.faults) depot in
    let h : u.depot.shorts ≡ s.depot.shorts = ap (λ (d : DepotTold). d.shorts) depot in
    record { faults = omega (arith, f); output_faults = faults; shorts = omega (arith, h) }

put_enters : (plan : PlanText) (s u : VaultTold) (halt : Option VaultFault) → s.halted ≡ None → u.halted ≡ halt → Puttings s u
    → s.outputs.faults ≤ u.outputs.faults → Enters plan s None halt u
put_enters plan s u halt going on same faults = record {
  going = going;
  numbers = same.numbers;
  halted = on;
  started = same.started;
  counts = put_fell s u same.depot faults;
}

-- the put failed
pub put_failed : (plan : PlanText) → PlanFacts plan → (s u : VaultTold) (k : ℕ) (file : List ℕ) (x : Element) (p : PutFault) (f : VaultFault) → Sound plan s
    → s.halted ≡ None → IsSink (plan_numbers plan) k → IsNextOf plan k s x → sink_file plan k ≡ Some file → Puttings s u
    → u.halted ≡ halt_of f → IsOutputFault u.outputs p f → Puts s.outputs u.outputs file (line_of x) (Err p)
    → Sound plan u × Takes plan k s (Err f) u × Delivers plan k s (Err f) u
put_failed plan facts s u k file x put.Failed f sound going is_sink_k next named same on is puts =
    let job : JobNumbers = plan_numbers plan in
    let l : Ledger = (numbers_of s).ledger in
    let n : ℕ = puts.0 in
    let appends = puts.1 in
    let rose = puts.2 in
    let count : ℕ = u.outputs.faults in
    let halted : u.halted ≡ Some (fault.Output count) = on ∙ ap halt_of is in
    let fell : NoneFell (counts_of s) (counts_of u) = put_fell s u same.depot appends.faults in
    let gained : FilesHave plan l (behind_lines_of k (take n (line_of x))) u.outputs =
    files_gain plan facts l k file (take n (line_of x)) s.outputs u.outputs named appends (files_going plan s sound going) in
    let part : FilesHavePart plan l u.outputs = record { k = k; is_sink = is_sink_k; next = x; count = n; is_next = next.element; files = gained } in
    let here : FilesHavePart plan (numbers_of u).ledger u.outputs = subst (λ (m : VaultNumbers). FilesHavePart plan m.ledger u.outputs) (sym same.numbers) part in
    let sound_u : Sound plan u = moved plan s u sound same.numbers same.snaps same.ended
    (same_contents s.depot.contents u.depot.contents (ap (λ (d : DepotTold). d.contents) same.depot))
    (subst (λ (h : Option VaultFault). HasFiles plan (numbers_of u).ledger h u.outputs) (sym halted) here)
    (subst (λ (c : Counts). IsCounted u.halted c (counts_of u)) (sym same.started)
    (subst (λ (h : Option VaultFault). IsCounted h s.started (counts_of u)) (sym halted)
    (counted_output s.halted s.started (counts_of s) (counts_of u) count sound.counted fell rose))) in
    let takes : Takes plan k s (Err (fault.Output count)) u =
    (tt, sym (take_is plan facts s k x sound is_sink_k next), (refl, rose, put_enters plan s u (Some (fault.Output count)) going halted same appends.faults)) in
    let line : PutsLine plan k s (Err put.Failed) u = record { file = file; is_file = named; next = x; is_next = next.element; puts = (n, appends, rose) } in
    (sound_u, subst (λ (g : VaultFault). Takes plan k s (Err g) u) (sym is) takes, subst (λ (g : VaultFault). Delivers plan k s (Err g) u) (sym is) line)
put_failed plan facts s u k file x put.Memory f sound going is_sink_k next named same on is puts =
    let l : Ledger = (numbers_of s).ledger in
    let halted : u.halted ≡ None = on ∙ ap halt_of is in
    let fell : NoneFell (counts_of s) (counts_of u) = put_fell s u same.depot puts.faults in
    let files : FilesHave plan l nothing_behind u.outputs = files_stay plan l nothing_behind s.outputs u.outputs puts.bytes (files_going plan s sound going) in
    let here : FilesHave plan (numbers_of u).ledger nothing_behind u.outputs = subst (λ (m : VaultNumbers). FilesHave plan m.ledger nothing_behind u.outputs) (sym same.numbers) files in
    let sound_u : Sound plan u = moved plan s u sound same.numbers same.snaps same.ended
    (same_contents s.depot.contents u.depot.contents (ap (λ (d : DepotTold). d.contents) same.depot))
    (subst (λ (h : Option VaultFault). HasFiles plan (numbers_of u).ledger h u.outputs) (sym halted) here)
    (subst (λ (c : Counts). IsCounted u.halted c (counts_of u)) (sym same.started)
    (subst (λ (h : Option VaultFault). IsCounted h s.started (counts_of u)) (sym halted)
    (counted_going s.halted s.started (counts_of s) (counts_of u) sound.counted fell))) in
    let takes : Takes plan k s (Err fault.Memory) u = (tt, tt, put_enters plan s u None going halted same puts.faults) in
    (sound_u, subst (λ (g : VaultFault). Takes plan k s (Err g) u) (sym is) takes, subst (λ (g : VaultFault). Delivers plan k s (Err g) u) (sym is) puts)

-- the line was put, and counted
pub put_done : RunFacts → (plan : PlanText) → PlanFacts plan → (s u : VaultTold) (k : ℕ) (file : List ℕ) (x : Element) → Sound plan s
    → s.halted ≡ None → IsSink (plan_numbers plan) k → IsNextOf plan k s x → sink_file plan k ≡ Some file
    → Puts s.outputs u.outputs file (line_of x) (Ok tt)
    → numbers_of u ≡ enter (plan_numbers plan) (numbers_of s) (Some (entry.Took k)) → u.held.snaps ≡ s.held.snaps
    → ((w : ℕ) → ended_held u.held w ≡ (if w == k then is_end x else ended_held s.held w))
    → u.started ≡ s.started → u.depot ≡ s.depot → u.halted ≡ None
    → Sound plan u × Takes plan k s (Ok (take_variant.Took (durable_of s k).taken)) u
    × Delivers plan k s (Ok (take_variant.Took (durable_of s k).taken)) u
put_done runs plan facts s u k file x sound going is_sink_k next named puts e snaps ended started depot on =
    let fell : NoneFell (counts_of s) (counts_of u) = put_fell s u depot puts.0.faults in
    let counted : IsCounted u.halted u.started (counts_of u) =
    subst (λ (c : Counts). IsCounted u.halted c (counts_of u)) (sym started)
    (subst (λ (h : Option VaultFault). IsCounted h s.started (counts_of u)) (sym on)
    (counted_going s.halted s.started (counts_of s) (counts_of u) sound.counted fell)) in (
      took_sound runs plan facts s u k file x sound going is_sink_k next named puts.0 e snaps ended (ap (λ (d : DepotTold). d.contents) depot) on counted,
      (take_is plan facts s k x sound is_sink_k next, record { going = going; numbers = e; halted = on; started = started; counts = fell }),
      record { file = file; is_file = named; next = x; is_next = next.element; puts = puts },
    )
