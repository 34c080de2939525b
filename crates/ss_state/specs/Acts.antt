-- What each act does to the parts that it touches.
use Rattle.std.specs.Prelude.{ℕ, ◌+◌, ◌-◌, max, ◌==◌, nat_lt, nat_le, Bool, false, not, ◌&&◌, ◌||◌, if◌then◌else◌}
use Rattle.std.specs.Prelude.{Option, Some, None}
use Rattle.ss_fail.specs.declared.outcome.Outcome.{Outcome}
use Rattle.ss_fail.specs.declared.outcome.Outcome.TheVariants as outcome
use Rattle.ss_state.specs.declared.entry.Entry.{Entry}
use Rattle.ss_state.specs.declared.entry.Entry.TheVariants as entry
use Rattle.ss_state.specs.Numbers.{VertexNumbers, JobNumbers, is_inner, vertex, input, mlen, out, size, wanted_input}
use Rattle.ss_state.specs.Numbers.{wanted_number}
use Rattle.ss_state.specs.State.{TailNumbers, InstNumbers, LedgerRow, VaultNumbers, row_at, next}
use Rattle.ss_state.specs.Tails.{appended, told, dropped_below, restarted, batch_from, batch_len}
use Rattle.ss_state.specs.LowWater.{snap_within, low, need}
use Rattle.ss_state.specs.Journal.{is_one_of, all_halves, enter}

-- what came of an act, and what it leaves of a replica
pub record InstStep : Type 0 where
  pub inst : Option InstNumbers
  pub outcome : Outcome

-- of a replica and a tail
pub record InstAndTailStep : Type 0 where
  pub inst : Option InstNumbers
  pub tail : TailNumbers
  pub outcome : Outcome

-- of a tail
pub record TailStep : Type 0 where
  pub tail : TailNumbers
  pub outcome : Outcome

-- of a tail and the vault
pub record TailAndVaultStep : Type 0 where
  pub tail : TailNumbers
  pub vault : VaultNumbers
  pub outcome : Outcome

-- of the vault
pub record VaultStep : Type 0 where
  pub vault : VaultNumbers
  pub outcome : Outcome

-- Write

-- a replica that has written the first of the elements that it had left
abbrev pub with_one_written : InstNumbers → InstNumbers
with_one_written up = record up { left = up.left - 1 }

-- the first element left has number n: the tail takes it, has it, or has passed it; behind a gap the replica goes down
unfoldable pub offer : InstNumbers → ℕ → TailNumbers → InstAndTailStep
offer up n tail =
    let done = Some (with_one_written up) in
    if nat_lt tail.end n then record { inst = None; tail = tail; outcome = outcome.Gap tail.end }
    else (if tail.end == n
    then record { inst = done; tail = appended tail; outcome = outcome.Stored n }
    else record { inst = done; tail = tail; outcome = if nat_lt n tail.from then outcome.Old n else outcome.Known n })

-- nothing is left, and the next element to be made has number n
unfoldable pub offer_nothing : InstNumbers → ℕ → TailNumbers → InstAndTailStep
offer_nothing up n tail =
    if nat_lt tail.end n then record { inst = None; tail = tail; outcome = outcome.Gap tail.end }
    else record { inst = Some up; tail = tail; outcome = outcome.Idle }

-- a replica writes its first element left to its own tail
abbrev pub write_act : VertexNumbers → Option InstNumbers → TailNumbers → InstAndTailStep
write_act x None tail = record { inst = None; tail = tail; outcome = outcome.Down }
write_act x (Some up) tail =
    if up.left == 0 then offer_nothing up (next x up) tail else offer up (next x up) tail

-- Read

-- a replica that had accepted n elements has accepted one more, and has to write what is given at it
abbrev pub accepted : VertexNumbers → ℕ → InstNumbers
accepted x n = record { n = n + 1; left = out x (n + 1) - out x n }

-- it got element `number` of input i
abbrev pub got : VertexNumbers → ℕ → ℕ → ℕ → InstStep
got x n i number = record { inst = Some (accepted x n); outcome = outcome.Got i number }

-- the element isn't there yet
abbrev pub waits : ℕ → ℕ → ℕ → InstStep
waits n i number = record { inst = Some (record { n = n; left = 0 }); outcome = outcome.Wait i number }

-- the element is there no more
abbrev pub gone : ℕ → ℕ → InstStep
gone i number = record { inst = None; outcome = outcome.Gone i number }

-- whether a read asks the vault: the wanted element lies before those in memory, or behind those of a torn tail
abbrev pub asks_vault : VertexNumbers → ℕ → TailNumbers → Bool
asks_vault x n tail = nat_lt (wanted_number x n) tail.from || (tail.torn && nat_le tail.end (wanted_number x n))

-- where the vault needn't be asked, the tail of the wanted input answers
unfoldable pub tail_answer : VertexNumbers → ℕ → TailNumbers → InstStep
tail_answer x n tail =
    let i = wanted_input x n in
    let number = wanted_number x n in
    if nat_lt number tail.end then got x n i number else waits n i number

-- where it must, what is stored of that input answers
unfoldable pub vault_answer : VertexNumbers → ℕ → LedgerRow → InstStep
vault_answer x n row =
    let i = wanted_input x n in
    let number = wanted_number x n in
    if nat_lt number row.base then gone i number
    else (if nat_lt number row.dur then got x n i number else waits n i number)

-- a source's list answers, which isn't asked below the mark
unfoldable pub list_answer : VertexNumbers → ℕ → ℕ → InstStep
list_answer x n mark = if nat_lt n mark then gone 0 n else got x n 0 n

-- a replica reads, where `answer` tells what comes of its wanted element
abbrev pub read_act : VertexNumbers → Option InstNumbers → (ℕ → InstStep) → InstStep
read_act x None answer = record { inst = None; outcome = outcome.Down }
read_act x (Some up) answer =
    if nat_lt 0 up.left then record { inst = Some up; outcome = outcome.Pending up.left }
    else (if nat_le (mlen x) up.n then record { inst = Some up; outcome = outcome.Ended } else answer up.n)

-- a replica that is ready to read wants an element for which the vault must be asked
abbrev pub needs_vault : VertexNumbers → Option InstNumbers → TailNumbers → Bool
needs_vault x None tail = false
needs_vault x (Some up) tail = not (nat_lt 0 up.left || nat_le (mlen x) up.n) && asks_vault x up.n tail

-- a replica of an operator reads from the tail of the wanted input
abbrev pub read_tail : VertexNumbers → Option InstNumbers → TailNumbers → InstStep
read_tail x inst tail = read_act x inst (λ n. tail_answer x n tail)

-- or from what is stored of that input
abbrev pub read_vault : VertexNumbers → Option InstNumbers → LedgerRow → InstStep
read_vault x inst row = read_act x inst (λ n. vault_answer x n row)

-- a replica of a source reads its list
abbrev pub read_list : VertexNumbers → Option InstNumbers → ℕ → InstStep
read_list x inst mark = read_act x inst (λ n. list_answer x n mark)

-- Snap, Crash, Load

-- snapshot n of v is stored, unless it is stored already or lies below the low-water mark
unfoldable pub keep : JobNumbers → ℕ → ℕ → VaultNumbers → VaultStep
keep job v n vault =
    let x = vertex job v in
    let row = row_at vault.ledger v in
    if is_one_of n row.snaps then record { vault = vault; outcome = outcome.Known n }
    else (if nat_lt n (low x row) then record { vault = vault; outcome = outcome.Old (low x row) }
    else record { vault = enter job vault (Some (entry.Kept v n)); outcome = outcome.Kept n })

-- a replica of an operator gives its snapshot to the vault
abbrev pub snap_inner : JobNumbers → ℕ → Option InstNumbers → VaultNumbers → VaultStep
snap_inner job v None vault = record { vault = vault; outcome = outcome.Down }
snap_inner job v (Some up) vault =
    if nat_lt 0 up.left then record { vault = vault; outcome = outcome.Pending up.left } else keep job v up.n vault

-- a source has no snapshots
unfoldable pub snap_act : JobNumbers → ℕ → Option InstNumbers → VaultNumbers → VaultStep
snap_act job v inst vault =
    if is_inner (vertex job v).kind then snap_inner job v inst vault
    else record { vault = vault; outcome = outcome.Idle }

abbrev pub crash_act : Option InstNumbers → InstStep
crash_act None = record { inst = None; outcome = outcome.Down }
crash_act (Some up) = record { inst = None; outcome = outcome.Crashed }

-- the tail into which a replica that comes up writes: begun anew where the stored elements reach past its end
unfoldable pub load_tail : TailNumbers → LedgerRow → TailNumbers
load_tail tail row = if nat_lt tail.end row.dur then restarted tail row.dur else tail

-- from where it goes on: an operator from its greatest snapshot that has given nothing past the tail's end
unfoldable pub load_inst : VertexNumbers → TailNumbers → LedgerRow → InstNumbers
load_inst x tail row = record { n = if is_inner x.kind then snap_within x row.snaps tail.end else tail.end; left = 0 }

-- a replica comes up, beside its own tail and what is stored of its vertex
abbrev pub load_act : VertexNumbers → Option InstNumbers → TailNumbers → LedgerRow → InstAndTailStep
load_act x (Some up) tail row = record { inst = Some up; tail = tail; outcome = outcome.Up }
load_act x None tail row =
    let begun = load_tail tail row in
    let loaded = load_inst x begun row in
    record { inst = Some loaded; tail = begun; outcome = outcome.Loaded loaded.n }

-- Lose, Flush

-- a tail loses all its elements, and goes on from the dur that it was last told
abbrev pub lose_act : TailNumbers → TailStep
lose_act tail = record { tail = restarted tail tail.seen; outcome = outcome.Lost (tail.end - tail.from) }

-- what dur is after a batch of the tail
abbrev pub flushed_dur : TailNumbers → ℕ → LedgerRow → ℕ
flushed_dur tail most row = max row.dur (batch_from tail + batch_len tail most)

-- the tail is told of them, and drops its elements below `base`
abbrev pub flushed_tail : TailNumbers → ℕ → LedgerRow → TailNumbers
flushed_tail tail most row = dropped_below (told tail (flushed_dur tail most row)) row.base

-- the entry of so many elements stored; none makes no entry
abbrev pub flush_entry : ℕ → ℕ → Option Entry
flush_entry v count = if count == 0 then None else Some (entry.Flushed v count)

-- at most so many elements of the tail of v are stored
unfoldable pub flush_act : JobNumbers → ℕ → ℕ → TailNumbers → VaultNumbers → TailAndVaultStep
flush_act job v most tail vault =
    let row = row_at vault.ledger v in
    let count = flushed_dur tail most row - row.dur in
    if nat_lt job.collect_every (vault.ledger.since + batch_len tail most)
    then record { tail = tail; vault = vault; outcome = outcome.PassDue vault.ledger.since }
    else (if nat_lt row.dur (batch_from tail)
    then record { tail = restarted tail row.dur; vault = vault; outcome = outcome.Apart (batch_from tail) row.dur }
    else record {
      tail = flushed_tail tail most row;
      vault = enter job vault (flush_entry v count);
      outcome = outcome.Flushed count;
    })

-- Take, Collect, Trim, Pass

-- sink k puts the line of the next stored element of its stream
unfoldable pub take_act : JobNumbers → ℕ → VaultNumbers → VaultStep
take_act job k vault =
    let u = input (vertex job k) 0 in
    let taken = (row_at vault.ledger k).taken in
    if nat_le (size (vertex job u)) taken then record { vault = vault; outcome = outcome.Ended }
    else (if taken == (row_at vault.ledger u).dur then record { vault = vault; outcome = outcome.WaitDur taken }
    else record { vault = enter job vault (Some (entry.Took k)); outcome = outcome.Took taken })

-- the stored elements of v that no reader needs are dropped
unfoldable pub collect_act : JobNumbers → ℕ → VaultNumbers → VaultStep
collect_act job v vault =
    record { vault = enter job vault (Some (entry.Collected v)); outcome = outcome.Base (need job vault.ledger v) }

-- what is stored for the vertex itself and needed no more is given up
unfoldable pub trim_act : JobNumbers → ℕ → VaultNumbers → VaultStep
trim_act job v vault =
    let x = vertex job v in
    let row = row_at vault.ledger v in
    record {
      vault = enter job vault (Some (entry.Trimmed v));
      outcome = if is_inner x.kind then outcome.Low (low x row) else outcome.Mark row.dur;
    }

-- every stream is collected and its vertex trimmed, from the last declared to the first
unfoldable pub pass_act : JobNumbers → VaultNumbers → VaultStep
pass_act job vault = record { vault = enter job vault (Some (entry.Pass (all_halves job))); outcome = outcome.Passed }
