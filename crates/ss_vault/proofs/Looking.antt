-- What a look into the depot leaves of a vault.
use Rattle.std.proofs.Common.{◌≡◌, ℕ, ◌+◌, ◌-◌, ◌<◌, ◌≤◌, nat_lt, Bool, false, Option, Some, None, Ok, Err, List, length, get_or, take, drop, refl, sym, ap, ◌∙◌, subst, arith, if◌then◌else◌}
use Rattle.std.specs.Prelude.{slice_get}
use Rattle.std.proofs.lemmas.Bool.Decides.{nat_tests}
use Rattle.std.proofs.lemmas.List.{get_or-drop, get_or-take, length-drop, length-take}
use Rattle.std.proofs.lemmas.Option.{slice_get-get_or}
use Rattle.ss_codec.specs.Record.{HasRecord, record_bytes}
use Rattle.ss_elem.specs.declared.element.Element.{Element}
use Rattle.ss_elem.specs.declared.element.Element.TheVariants.{End}
use Rattle.ss_frames.specs.Plans.{plan_numbers}
use Rattle.ss_meaning.specs.Meaning.{meaning}
use Rattle.ss_outside.specs.Depot.{Contents, Fails, Leaves, Refuses, record_at}
use Rattle.ss_outside.specs.Told.{KeepsOutputs, OutputsTold}
use Rattle.ss_plan.specs.Plan.{PlanText, vertices_of}
use Rattle.ss_state.specs.Numbers.{IsStream}
use Rattle.ss_state.specs.State.{Ledger, VaultNumbers}
use Rattle.ss_vault.specs.Calls.{Delivers, Enters, IsOfLook, IsOfPut, IsOfStore, OnlyWhere, Stops}
use Rattle.ss_vault.specs.Counts.{NoneFell}
use Rattle.ss_vault.specs.Devices.{GivesWhole, StoresCode}
use Rattle.ss_vault.specs.Facts.{PlanFacts}
use Rattle.ss_vault.specs.NumbersHeld.{NumbersHeld}
use Rattle.ss_vault.specs.Sound.{FilesHave, HasFiles, IsCounted, Sound, elements_from, nothing_behind, records_from}
use Rattle.ss_vault.specs.Steps.{halt_of}
use Rattle.ss_vault.specs.Told.{VaultTold, counts_of, durable_of, numbers_of}
use Rattle.ss_vault.specs.declared.counts.Counts.{Counts}
use Rattle.ss_vault.specs.declared.fault.VaultFault.{VaultFault}
use Rattle.ss_vault.specs.declared.fault.VaultFault.TheVariants as fault
use Rattle.ss_vault.proofs.Moved.{counted_damaged, counted_going, counted_store, files_going, moved, same_contents}
use Rattle.ss_vault.proofs.Records.{records_from-get}

-- ---- the record of a stored element

pub record StoredAt (plan : PlanText) (s : VaultTold) (v n : ℕ) : Type 0 where
  pub x : Element
  pub is_item : slice_get (meaning (vertices_of plan) v) n ≡ Some x
  pub has : HasRecord x
  pub at : record_at s.depot.contents v n ≡ Some (record_bytes v n x)

lt_no : (m n : ℕ) → n ≤ m → nat_lt m n ≡ false
lt_no m n h = grind (arith, nat_tests)

part_item : (xs : List Element) (base some n : ℕ) → base ≤ n → n < base + some → n < length xs
    → slice_get (take some (drop base xs)) (n - base) ≡ Some (get_or xs n End)
part_item xs base some n least below within =
    let there : base + (n - base) ≡ n = omega arith in
    slice_get-get_or (take some (drop base xs)) (n - base) End (omega (arith, length-take some (drop base xs), length-drop base xs))
    ∙ ap (λ (x : Element). Some x) (get_or-take some (drop base xs) (n - base) End (omega arith) ∙ get_or-drop base xs (n - base) End
    ∙ ap (λ (i : ℕ). get_or xs i End) there)

pub stored_at : (plan : PlanText) → PlanFacts plan → (s : VaultTold) (v n : ℕ) → Sound plan s → IsStream (plan_numbers plan) v
    → (durable_of s v).base ≤ n → n < (durable_of s v).dur → StoredAt plan s v n
stored_at plan facts s v n sound stream least below =
    let xs : List Element = meaning (vertices_of plan) v in
    let base : ℕ = (durable_of s v).base in
    let dur : ℕ = (durable_of s v).dur in
    let held = sound.records v in
    let within : n < length xs = let h = (sound.numbers.stands.row v).dur in let k = facts.size v stream in omega (arith, h, k, below) in
    let x : Element = get_or xs n End in
    let is_item : slice_get xs n ≡ Some x = slice_get-get_or xs n End within in
    let there : base + (n - base) ≡ n = omega (arith, least) in
    let item : slice_get (elements_from plan v base (dur - base)) (n - base) ≡ Some x = part_item xs base (dur - base) n least (omega (arith, least, below)) within in
    let given : slice_get (records_from v base (elements_from plan v base (dur - base))) (n - base) ≡ Some (record_bytes v n x) =
    records_from-get v base (n - base) (elements_from plan v base (dur - base)) x item
    ∙ ap (λ (i : ℕ). Some (record_bytes v i x)) there in
    record {
      x = x;
      is_item = is_item;
      has = held.each n x least below is_item;
      at = ap (λ (f : ℕ). if nat_lt n f then None else slice_get (s.depot.contents.records v) (n - f)) held.first
          ∙ ap (λ (b : Bool). if b then None else slice_get (s.depot.contents.records v) (n - base)) (lt_no n base least)
          ∙ ap (λ (r : List (List ℕ)). slice_get r (n - base)) held.records ∙ given;
    }

-- ---- what is left

-- what a call of the depot doesn't touch is as before
pub record Rests (s u : VaultTold) : Type 0 where
  pub numbers : u.held.numbers ≡ s.held.numbers
  pub snaps : u.held.snaps ≡ s.held.snaps
  pub ended : u.held.ended ≡ s.held.ended
  pub started : u.started ≡ s.started
  pub outputs : u.outputs ≡ s.outputs

-- and of the depot only counts may have changed
pub record Beside (s u : VaultTold) : Type 0 where
  pub rests : Rests s u
  pub contents : u.depot.contents ≡ s.depot.contents
  pub faults : s.depot.faults ≤ u.depot.faults
  pub shorts : s.depot.shorts ≤ u.depot.shorts

pub none_fell : (s u : VaultTold) → u.outputs ≡ s.outputs → s.depot.faults ≤ u.depot.faults → s.depot.shorts ≤ u.depot.shorts
    → NoneFell (counts_of s) (counts_of u)
none_fell s u outputs faults shorts = record {
  faults = faults;
  output_faults = let e : s.outputs.faults ≡ u.outputs.faults = ap (λ (o : OutputsTold). o.faults) (sym outputs) in omega (arith, e);
  shorts = shorts;
}

pub fell : (s u : VaultTold) → Beside s u → NoneFell (counts_of s) (counts_of u)
fell s u beside = none_fell s u beside.rests.outputs beside.faults beside.shorts

pub beside_enters : (plan : PlanText) (s u : VaultTold) (halt : Option VaultFault) → s.halted ≡ None → u.halted ≡ halt → Beside s u
    → Enters plan s None halt u
beside_enters plan s u halt going on beside = record {
  going = going;
  numbers = beside.rests.numbers;
  halted = on;
  started = beside.rests.started;
  counts = fell s u beside;
}

-- it is sound where its count tells why it was halted
pub beside_sound : (plan : PlanText) (s u : VaultTold) (halt : Option VaultFault) → Sound plan s → s.halted ≡ None → u.halted ≡ halt → Beside s u
    → ((l : Ledger) (o : OutputsTold) → FilesHave plan l nothing_behind o → HasFiles plan l halt o)
    → IsCounted halt s.started (counts_of u) → Sound plan u
beside_sound plan s u halt sound going on beside files counted =
    let rests = beside.rests in
    moved plan s u sound rests.numbers rests.snaps rests.ended (same_contents s.depot.contents u.depot.contents beside.contents)
    (subst (λ (h : Option VaultFault). HasFiles plan (numbers_of u).ledger h u.outputs) (sym on)
    (files (numbers_of u).ledger u.outputs
    (subst (λ (o : OutputsTold). FilesHave plan (numbers_of u).ledger nothing_behind o) (sym rests.outputs)
    (subst (λ (n : VaultNumbers). FilesHave plan n.ledger nothing_behind s.outputs) (sym rests.numbers) (files_going plan s sound going)))))
    (subst (λ (c : Counts). IsCounted u.halted c (counts_of u)) (sym rests.started)
    (subst (λ (h : Option VaultFault). IsCounted h s.started (counts_of u)) (sym on) counted))

-- a vault that goes on
pub going_sound : (plan : PlanText) (s u : VaultTold) → Sound plan s → s.halted ≡ None → u.halted ≡ None → Beside s u → Sound plan u
going_sound plan s u sound going on beside = beside_sound plan s u None sound going on beside (λ l o files. files)
    (counted_going s.halted s.started (counts_of s) (counts_of u) sound.counted (fell s u beside))

-- what the refusals of the depot leave
refused : (s u : VaultTold) → Rests s u → Refuses s.depot u.depot → Beside s u
refused s u rests refuses = record {
  rests = rests;
  contents = refuses.contents;
  faults = refuses.faults;
  shorts = let e = refuses.shorts in omega (arith, e);
}

left : (s u : VaultTold) → Rests s u → Leaves s.depot u.depot s.depot.contents → Beside s u
left s u rests leaves = record {
  rests = rests;
  contents = leaves.contents;
  faults = leaves.faults;
  shorts = leaves.shorts;
}

pub store_failed : (plan : PlanText) (s u : VaultTold) (count : ℕ) → Sound plan s → s.halted ≡ None → Rests s u
    → u.halted ≡ Some (fault.Store count) → count ≡ u.depot.faults → Fails s.depot u.depot
    → Sound plan u × Stops plan s None (fault.Store count) u
store_failed plan s u count sound going rests on is fails =
    let beside : Beside s u = refused s u rests fails.0 in (
      beside_sound plan s u (Some (fault.Store count)) sound going on beside (λ l o files. files)
          (counted_store s.halted s.started (counts_of s) (counts_of u) count sound.counted (fell s u beside) fails.1),
      (is, fails.1, beside_enters plan s u (Some (fault.Store count)) going on beside),
    )

pub memory_wanted : (plan : PlanText) (s u : VaultTold) → Sound plan s → s.halted ≡ None → u.halted ≡ None
    → Beside s u → Sound plan u × Stops plan s None fault.Memory u
memory_wanted plan s u sound going on beside =
    (going_sound plan s u sound going on beside, beside_enters plan s u None going on beside)

-- a look that gave the wanted
pub gave : {A : Type 0} (plan : PlanText) (s u : VaultTold) (v n : ℕ) (value given : A) → Sound plan s → s.halted ≡ None → Rests s u → u.halted ≡ None
    → GivesWhole s.depot u.depot v n value (Ok given) → (given ≡ value) × Sound plan u × Enters plan s None None u
gave plan s u v n value given sound going rests on gives =
    let beside : Beside s u = left s u rests gives.1 in
    (gives.0, going_sound plan s u sound going on beside, beside_enters plan s u None going on beside)

-- and one that met a fault
pub gave_fault : {A : Type 0} (plan : PlanText) (s u : VaultTold) (v n : ℕ) (value : A) (f : VaultFault) → Sound plan s → s.halted ≡ None
    → Rests s u → u.halted ≡ halt_of f → GivesWhole s.depot u.depot v n value (Err f)
    → Sound plan u × IsOfLook v n f × Stops plan s None f u
gave_fault plan s u v n value (fault.Store count) sound going rests on gives =
    let both = store_failed plan s u count sound going rests on gives.0 gives.1 in
    (both.0, tt, both.1)
gave_fault plan s u v n value (fault.Output count) sound going rests on gives = absurd gives
gave_fault plan s u v n value (fault.Damaged w m) sound going rests on gives =
    let beside : Beside s u = left s u rests gives.3 in (
      beside_sound plan s u (Some (fault.Damaged w m)) sound going on beside (λ l o files. files)
          (counted_damaged s.halted s.started (counts_of s) (counts_of u) w m sound.counted (fell s u beside) gives.2),
      (gives.0, gives.1),
      (gives.2, beside_enters plan s u (Some (fault.Damaged w m)) going on beside),
    )
gave_fault plan s u v n value fault.Halted sound going rests on gives = absurd gives
gave_fault plan s u v n value fault.Memory sound going rests on gives =
    let both = memory_wanted plan s u sound going on (left s u rests gives) in
    (both.0, tt, both.1)

-- a step that stores, and met a fault
pub store_fault : (plan : PlanText) (s u : VaultTold) (held : Contents) (f : VaultFault) → Sound plan s → s.halted ≡ None → Rests s u
    → u.halted ≡ halt_of f → StoresCode s.depot u.depot held (Err f) → Sound plan u × IsOfStore f × Stops plan s None f u
store_fault plan s u held (fault.Store count) sound going rests on stores =
    let both = store_failed plan s u count sound going rests on stores.0 stores.1 in
    (both.0, tt, both.1)
store_fault plan s u held (fault.Output count) sound going rests on stores = absurd stores
store_fault plan s u held (fault.Damaged v n) sound going rests on stores = absurd stores
store_fault plan s u held fault.Halted sound going rests on stores = absurd stores
store_fault plan s u held fault.Memory sound going rests on stores =
    let both = memory_wanted plan s u sound going on (refused s u rests stores) in
    (both.0, tt, both.1)

-- a fault that came where something was to be done
pub only_where : (Due : Type 0) (f : VaultFault) → Due → OnlyWhere Due f
only_where Due (fault.Store count) h = h
only_where Due (fault.Output count) h = h
only_where Due (fault.Damaged v n) h = h
only_where Due fault.Halted h = tt
only_where Due fault.Memory h = tt

-- a look for the sake of a put
pub look_put : (v n : ℕ) (f : VaultFault) → IsOfLook v n f → IsOfPut v n f
look_put v n (fault.Store count) h = tt
look_put v n (fault.Output count) h = tt
look_put v n (fault.Damaged w m) h = h
look_put v n fault.Halted h = tt
look_put v n fault.Memory h = tt

stay : (old new : OutputsTold) → new ≡ old → KeepsOutputs old new
stay old new e = record {
  bytes = ap (λ (o : OutputsTold). o.bytes) e;
  put_to = ap (λ (o : OutputsTold). o.put_to) e;
  faults = let f : old.faults ≡ new.faults = ap (λ (o : OutputsTold). o.faults) (sym e) in omega (arith, f);
}

pub look_delivers : (plan : PlanText) (k v n : ℕ) (s u : VaultTold) (f : VaultFault) → IsOfLook v n f → u.outputs ≡ s.outputs
    → Delivers plan k s (Err f) u
look_delivers plan k v n s u (fault.Store count) h e = e
look_delivers plan k v n s u (fault.Output count) h e = absurd h
look_delivers plan k v n s u (fault.Damaged w m) h e = e
look_delivers plan k v n s u fault.Halted h e = e
look_delivers plan k v n s u fault.Memory h e = stay s.outputs u.outputs e

-- places were reserved
pub placed : (plan : PlanText) (s : VaultTold) (h : NumbersHeld) → Sound plan s → s.halted ≡ None → h.numbers ≡ s.held.numbers
    → h.snaps ≡ s.held.snaps → h.ended ≡ s.held.ended
    → Sound plan (record s { held = h }) × Enters plan s None None (record s { held = h })
placed plan s h sound going numbers snaps ended =
    let u : VaultTold = record s { held = h } in
    let beside : Beside s u = record {
      rests = record { numbers = numbers; snaps = snaps; ended = ended; started = refl; outputs = refl };
      contents = refl;
      faults = omega arith;
      shorts = omega arith;
    } in
    (going_sound plan s u sound going going beside, beside_enters plan s u None going going beside)
