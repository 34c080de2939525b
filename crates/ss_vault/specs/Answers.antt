-- What a vault that isn't halted answers, where no device fails and memory isn't wanting.
use Rattle.std.specs.Prelude.{◌≡◌, ℕ, ◌+◌, ◌-◌, max, ◌==◌, nat_le, nat_lt, List, get_or, slice_get, Option}
use Rattle.std.specs.Prelude.{Some, None}
use Rattle.std.specs.Prelude.{if◌then◌else◌}
use Rattle.ss_elem.specs.declared.element.Element.{Element}
use Rattle.ss_elem.specs.declared.element.Element.TheVariants.{End}
use Rattle.ss_meaning.specs.Meaning.{meaning}
use Rattle.ss_plan.specs.Plan.{PlanText, vertices_of}
use Rattle.ss_state.specs.Acts.{flush_entry}
use Rattle.ss_state.specs.Journal.{is_one_of}
use Rattle.ss_state.specs.LowWater.{low, low_at, snap_within}
use Rattle.ss_state.specs.Numbers.{JobNumbers, is_inner, vertex, input, size}
use Rattle.ss_state.specs.State.{Ledger, row_at}
use Rattle.ss_state.specs.declared.entry.Entry.{Entry}
use Rattle.ss_state.specs.declared.entry.Entry.TheVariants as entry
use Rattle.ss_vault.specs.declared.answers.Flush.{Flush}
use Rattle.ss_vault.specs.declared.answers.Flush.TheVariants as flush
use Rattle.ss_vault.specs.declared.answers.Keep.{Keep}
use Rattle.ss_vault.specs.declared.answers.Keep.TheVariants as keep
use Rattle.ss_vault.specs.declared.answers.Read.{Read}
use Rattle.ss_vault.specs.declared.answers.Read.TheVariants as read
use Rattle.ss_vault.specs.declared.answers.Take.{Take}
use Rattle.ss_vault.specs.declared.answers.Take.TheVariants as take

-- a batch of so many elements of stream v, from number `from` on, that is to be stored: those that are already are
-- left out
abbrev pub flush_answer : JobNumbers → Ledger → ℕ → ℕ → ℕ → Flush
flush_answer job l v from count =
    let dur = (row_at l v).dur in
    if nat_lt job.collect_every (l.since + count) then flush.PassDue l.since
    else (if nat_lt dur from then flush.Apart from dur
    else flush.Flushed (max dur (from + count) - dur) (max dur (from + count)))

-- the entry that it makes: one where something was stored
abbrev pub entry_of_flush : ℕ → Flush → Option Entry
entry_of_flush v (flush.PassDue since) = None
entry_of_flush v (flush.Apart from dur) = None
entry_of_flush v (flush.Flushed count dur) = flush_entry v count

-- snapshot n of vertex v is to be stored
abbrev pub keep_answer : JobNumbers → Ledger → ℕ → ℕ → Keep
keep_answer job l v n =
    let row = row_at l v in
    if is_one_of n row.snaps then keep.Known
    else (if nat_lt n (low (vertex job v) row) then keep.Old (low (vertex job v) row) else keep.Kept)

abbrev pub entry_of_keep : ℕ → ℕ → Keep → Option Entry
entry_of_keep v n keep.Known = None
entry_of_keep v n (keep.Old low) = None
entry_of_keep v n keep.Kept = Some (entry.Kept v n)

-- element n of vertex v's stream
abbrev pub element_at : PlanText → ℕ → ℕ → Element
element_at plan v n = get_or (meaning (vertices_of plan) v) n End

-- element n of stream v is to be read
abbrev pub read_answer : PlanText → Ledger → ℕ → ℕ → Read
read_answer plan l v n =
    let row = row_at l v in
    if nat_lt n row.base then read.Gone row.base
    else (if nat_le row.dur n then read.NotYet row.dur else read.Item (element_at plan v n))

-- what is given as element n of a list is that
abbrev pub IsOf : List Element → ℕ → Read → Type 0
IsOf list n (read.Gone base) = Unit {0}
IsOf list n (read.NotYet dur) = Unit {0}
IsOf list n (read.Item x) = slice_get list n ≡ Some x

-- sink k is to put its next line
abbrev pub take_answer : JobNumbers → Ledger → ℕ → Take
take_answer job l k =
    let u = input (vertex job k) 0 in
    let taken = (row_at l k).taken in
    let dur = (row_at l u).dur in
    if nat_le (size (vertex job u)) taken then take.Ended
    else (if taken == dur then take.NotYet dur else take.Took taken)

abbrev pub entry_of_take : ℕ → Take → Option Entry
entry_of_take k take.Ended = None
entry_of_take k (take.NotYet dur) = None
entry_of_take k (take.Took n) = Some (entry.Took k)

-- the snapshot that a fetch gives: the greatest stored one with at most so many elements given
abbrev pub fetched : JobNumbers → Ledger → ℕ → ℕ → ℕ
fetched job l v limit = snap_within (vertex job v) (row_at l v).snaps limit

-- what a trim of vertex v answers: of an operator the snapshot below which the others are dropped, of a source its mark
abbrev pub trim_answer : JobNumbers → Ledger → ℕ → ℕ
trim_answer job l v = if is_inner (vertex job v).kind then low_at job l v else (row_at l v).dur
