-- A vault in which nothing changed but its counts, what halted it, and perhaps its files.
use Rattle.std.proofs.Common.{◌≡◌, ℕ, ◌≤◌, Bool, true, Option, Some, None, List, [], get_or, sym, ap, ◌∙◌, subst, arith}
use Rattle.ss_frames.specs.Plans.{plan_numbers}
use Rattle.ss_outside.specs.Depot.{Contents}
use Rattle.ss_outside.specs.Faults.{Rose}
use Rattle.ss_plan.specs.Plan.{PlanText}
use Rattle.ss_state.specs.Joint.{IsSound}
use Rattle.ss_state.specs.Numbers.{JobNumbers}
use Rattle.ss_state.specs.State.{LedgerRow, VaultNumbers, row_at}
use Rattle.ss_water.specs.declared.snap_row.SnapRow.{SnapRow}
use Rattle.ss_vault.specs.Counts.{NoneFell}
use Rattle.ss_vault.specs.Sound.{FilesHave, HasFiles, HoldsRecords, HoldsSnapshots, IsCounted, Sound, nothing_behind, takes_no_more}
use Rattle.ss_vault.specs.Told.{VaultTold, numbers_of, counts_of}
use Rattle.ss_vault.specs.declared.counts.Counts.{Counts}
use Rattle.ss_vault.specs.declared.fault.VaultFault.{VaultFault}
use Rattle.ss_vault.specs.declared.fault.VaultFault.TheVariants as fault

-- a depot holds the same
pub record SameContents (old new : Contents) : Type 0 where
  pub first : (w : ℕ) → new.first w ≡ old.first w
  pub records : (w : ℕ) → new.records w ≡ old.records w
  pub frames : (w n : ℕ) → new.frames w n ≡ old.frames w n

pub same_contents : (old new : Contents) → new ≡ old → SameContents old new
same_contents old new e = record {
  first = λ w. ap (λ (c : Contents). c.first w) e;
  records = λ w. ap (λ (c : Contents). c.records w) e;
  frames = λ w n. ap (λ (c : Contents). c.frames w n) e;
}

same_records : (plan : PlanText) (v : ℕ) (row : LedgerRow) (old new : Contents) → SameContents old new → HoldsRecords plan v row old → HoldsRecords plan v row new
same_records plan v row old new same held = record {
  first = same.first v ∙ held.first;
  each = held.each;
  records = same.records v ∙ held.records;
}

same_snapshots : (plan : PlanText) (v : ℕ) (row : LedgerRow) (snaps : List SnapRow) (old new : Contents) → SameContents old new
    → HoldsSnapshots plan v row snaps old → HoldsSnapshots plan v row snaps new
same_snapshots plan v row snaps old new same held = record {
  frames = λ n. same.frames v n ∙ held.frames n;
  told = held.told;
  kept = held.kept;
}

pub moved : (plan : PlanText) (s u : VaultTold) → Sound plan s
    → u.held.numbers ≡ s.held.numbers → u.held.snaps ≡ s.held.snaps → u.held.ended ≡ s.held.ended
    → SameContents s.depot.contents u.depot.contents → HasFiles plan (numbers_of u).ledger u.halted u.outputs
    → IsCounted u.halted u.started (counts_of u) → Sound plan u
moved plan s u sound e snaps ended same files counted =
    let job : JobNumbers = plan_numbers plan in
    let n : VaultNumbers = s.held.numbers in
    let m : VaultNumbers = u.held.numbers in
    let c : Contents = u.depot.contents in
    record {
      numbers = subst (λ (x : VaultNumbers). IsSound job x) (sym e) sound.numbers;
      records = λ v. subst (λ (x : VaultNumbers). HoldsRecords plan v (row_at x.ledger v) c) (sym e)
          (same_records plan v (row_at n.ledger v) s.depot.contents c same (sound.records v));
      snapshots = λ v. subst (λ (k : List (List SnapRow)). HoldsSnapshots plan v (row_at m.ledger v) (get_or k v []) c) (sym snaps)
          (subst (λ (x : VaultNumbers). HoldsSnapshots plan v (row_at x.ledger v) (get_or s.held.snaps v []) c) (sym e)
          (same_snapshots plan v (row_at n.ledger v) (get_or s.held.snaps v []) s.depot.contents c same (sound.snapshots v)));
      delivered = record {
        ended = λ k within. subst (λ (b : List Bool). get_or b k true ≡ takes_no_more job m.ledger k) (sym ended)
            (subst (λ (x : VaultNumbers). get_or s.held.ended k true ≡ takes_no_more job x.ledger k) (sym e) (sound.delivered.ended k within));
        files = files;
      };
      counted = counted;
    }

-- ---- counts

pub fell_on : (a b c : Counts) → NoneFell a b → NoneFell b c → NoneFell a c
fell_on a b c h k = record {
  faults = omega (arith, h.faults, k.faults);
  output_faults = omega (arith, h.output_faults, k.output_faults);
  shorts = omega (arith, h.shorts, k.shorts);
}

pub rose_on : (a b c : ℕ) → a ≤ b → Rose b c → Rose a c
rose_on a b c h rose = let r = rose in omega (arith, h, r)

pub counted_going : (halted : Option VaultFault) (started before now : Counts) → IsCounted halted started before → NoneFell before now
    → IsCounted None started now
counted_going halted started before now counted rise = record { none_fell = fell_on started before now counted.none_fell rise; cause = tt }

pub counted_store : (halted : Option VaultFault) (started before now : Counts) (count : ℕ) → IsCounted halted started before → NoneFell before now
    → Rose before.faults now.faults → IsCounted (Some (fault.Store count)) started now
counted_store halted started before now count counted rise rose = record {
  none_fell = fell_on started before now counted.none_fell rise;
  cause = rose_on started.faults before.faults now.faults counted.none_fell.faults rose;
}

pub counted_output : (halted : Option VaultFault) (started before now : Counts) (count : ℕ) → IsCounted halted started before → NoneFell before now
    → Rose before.output_faults now.output_faults → IsCounted (Some (fault.Output count)) started now
counted_output halted started before now count counted rise rose = record {
  none_fell = fell_on started before now counted.none_fell rise;
  cause = rose_on started.output_faults before.output_faults now.output_faults counted.none_fell.output_faults rose;
}

pub counted_damaged : (halted : Option VaultFault) (started before now : Counts) (v n : ℕ) → IsCounted halted started before → NoneFell before now
    → Rose before.shorts now.shorts → IsCounted (Some (fault.Damaged v n)) started now
counted_damaged halted started before now v n counted rise rose = record {
  none_fell = fell_on started before now counted.none_fell rise;
  cause = rose_on started.shorts before.shorts now.shorts counted.none_fell.shorts rose;
}

-- ---- files of a vault that goes on

pub files_going : (plan : PlanText) (s : VaultTold) → Sound plan s → s.halted ≡ None → FilesHave plan (numbers_of s).ledger nothing_behind s.outputs
files_going plan s sound going = subst (λ (h : Option VaultFault). HasFiles plan (numbers_of s).ledger h s.outputs) going sound.delivered.files
