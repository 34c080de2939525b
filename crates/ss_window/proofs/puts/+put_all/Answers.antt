use Rattle.std.proofs.Common.{◌+◌, ◌-◌, ◌*◌, ◌^◌, ◌<◌, ◌≤◌, List, All, Option, sym, ap, subst, ◌∙◌, arith, rules, w64, ℤ, to_z, of_z}
use Rattle.std.specs.Prelude.{IsSome}
use Rattle.std.proofs.lemmas.Int.{to_z-of_z}
use Rattle.std.proofs.lemmas.List.Elements.{All-weaker}
use Rattle.ss_meaning.specs.Entries.{WindowEntry}
use Rattle.ss_meaning.specs.EntryLists.{put_value, put_values}
use Rattle.ss_window.specs.Held.{EntryTotal, join_of, ends_left}
use Rattle.ss_window.specs.Puts.{found, restored}
use Rattle.ss_window.proofs.Restores.{put_found, undone}
use Rattle.ss_window.proofs.Walks.{few_more, next_end}
use Rattle.ss_window.proofs.puts.+put_all.Goals as goal

pub put_all-requires-2 : goal.put_all-requires-2
put_all-requires-2 t c =
    let value : ℤ = to_z w64 (of_z w64 c.args.value) in
    let join = join_of c.args.agg in
    let old : List WindowEntry = c.args.panes.now in
    let left = c.args.to - c.args.from in
    let limit = 2 ^ 63 - left in
    let some : c.args.from < c.args.to = omega (arith, c.if-from-to.false) in
    let ends : left ≤ 64 = c.requires.ends in
    let before : All (λ (e : WindowEntry). e.rows < limit) old =
    All-weaker (λ (e : WindowEntry). e.rows + left < 2 ^ 63) (λ (e : WindowEntry). e.rows < limit) (λ e k. omega (arith, k)) old c.requires.few in
    let now : All (λ (e : WindowEntry). e.rows < limit + 1) c.put.new.self =
    subst (All (λ (e : WindowEntry). e.rows < limit + 1)) (sym c.in_ok-had.ensures.ok)
    (few_more limit join c.args.key.now value (c.args.hop * c.args.from) old (omega (arith, ends)) before) in
    let few =
    All-weaker (λ (e : WindowEntry). e.rows < limit + 1) (λ (e : WindowEntry). e.rows + (c.args.to - (c.args.from + 1)) < 2 ^ 63)
    (λ e k. omega (arith, k, some, ends)) c.put.new.self now in
    (search rules, (c.requires.near, (omega (arith, ends), few)))

pub returns-in-Ok-clause-ok : goal.returns-in-Ok-clause-ok
returns-in-Ok-clause-ok t c =
    let value : ℤ = to_z w64 (of_z w64 c.args.value) in
    let join = join_of c.args.agg in
    let key = c.args.key.now in
    let old : List WindowEntry = c.args.panes.now in
    let some : c.args.from < c.args.to = omega (arith, c.if-from-to.false) in
    let above : c.args.low < c.args.hop * c.args.from = omega (arith, c.if-end-low.false) in
    c.in-Ok.ensures.ok
    ∙ (ap (put_values join key value (ends_left c.args.hop (c.args.from + 1) c.args.to c.args.low)) c.in_ok-had.ensures.ok
    ∙ (sym (next_end c.args.hop c.args.from c.args.low c.args.to join key value old some above)
    ∙ ap (λ (v : ℤ). put_values join key v (ends_left c.args.hop c.args.from c.args.to c.args.low) old) (to_z-of_z w64 c.args.value c.ranges.value)))

pub restore-requires : goal.restore-requires
restore-requires t c =
    let end = c.args.hop * c.args.from in
    subst (λ (es : List WindowEntry). IsSome (found end c.args.key.now es)) (sym (c.in-Err.ensures.err ∙ c.in_ok-had.ensures.ok))
    (put_found (join_of c.args.agg) end c.args.key.now (to_z w64 (of_z w64 c.args.value)) c.args.panes.now)

pub returns-in-Err-clause-err : goal.returns-in-Err-clause-err
returns-in-Err-clause-err t c =
    let end = c.args.hop * c.args.from in
    let join = join_of c.args.agg in
    let value : ℤ = to_z w64 (of_z w64 c.args.value) in
    let put : List WindowEntry = put_value join c.args.key.now value end c.args.panes.now in
    c.restore.ensures
    ∙ (ap (restored end c.args.key.now c.in_ok-had.had) (c.in-Err.ensures.err ∙ c.in_ok-had.ensures.ok)
    ∙ (ap (λ (o : Option EntryTotal). restored end c.args.key.now o put) c.in_ok-had.ensures.told
    ∙ undone join end c.args.key.now value c.args.panes.now c.put.ensures.order))
