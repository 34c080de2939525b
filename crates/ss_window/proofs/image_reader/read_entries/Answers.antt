use Rattle.std.proofs.Common.{◌≡◌, ℕ, suc, ◌+◌, ◌-◌, ◌*◌, List, [], ◌∷◌, ◌++◌, length, take, drop, Option, Some, None, Result, sym, ap, ◌∙◌, arith}
use Rattle.std.proofs.lemmas.List.{drop-drop, take_rest}
use Rattle.ss_expr.specs.declared.stream_operator.Agg.{Agg}
use Rattle.ss_meaning.specs.Entries.{WindowEntry}
use Rattle.ss_window.specs.ImageTests.{entry_read, entries_read, last}
use Rattle.ss_window.proofs.EntryReads.{with_front, entries_read-some, entries_read-none, entries_read-done}
use Rattle.ss_window.proofs.image_reader.read_entries.Goals as goal

-- what is read behind the entries so far
ahead : (hop : ℕ) (agg : Agg) (low n : ℕ) (bytes : List ℕ) (seen es : List WindowEntry) (o : Option WindowEntry) → seen ≡ es
    → o ≡ entry_read hop agg low (last seen) (take (length bytes - 48 * n) (drop (48 * n) bytes))
    → o ≡ entry_read hop agg low (last es) (drop (48 * n) bytes)
ahead hop agg low n bytes seen es o same h =
    h ∙ (ap (λ xs. entry_read hop agg low (last xs) (take (length bytes - 48 * n) (drop (48 * n) bytes))) same
    ∙ ap (entry_read hop agg low (last es)) (take_rest bytes (48 * n)))

pub returns-in-None-clause-fault : goal.returns-in-None-clause-fault
returns-in-None-clause-fault c =
    let n = c.loop-number.number in
    let es : List WindowEntry = c.loop-number.entries.items in
    let left : c.args.count - n ≡ suc (c.args.count - (n + 1)) = omega (arith, c.loop-number-test.true) in
    let none = ahead c.args.hop c.args.agg c.args.low n c.args.bytes.now c.as_slice.result.now es None c.as_slice.ensures.value c.in-None.ensures in
    sym c.loop-number.invariant
    ∙ (ap (λ m. with_front es (entries_read c.args.hop c.args.agg c.args.low m (4 + 48 * n) (last es) (drop (48 * n) c.args.bytes.now))) left
    ∙ entries_read-none c.args.hop c.args.agg c.args.low (c.args.count - (n + 1)) (4 + 48 * n) es (drop (48 * n) c.args.bytes.now) none)

pub loop-number-preserved : goal.loop-number-preserved
loop-number-preserved c =
    let n = c.loop-number.number in
    let es : List WindowEntry = c.loop-number.entries.items in
    let e : WindowEntry = c.in-Some.entry in
    let bytes = c.args.bytes.now in
    let left : c.args.count - n ≡ suc (c.args.count - (n + 1)) = omega (arith, c.loop-number-test.true) in
    let some = ahead c.args.hop c.args.agg c.args.low n bytes c.as_slice.result.now es (Some e) c.as_slice.ensures.value c.in-Some.ensures in
    let at : 4 + 48 * (n + 1) ≡ 4 + 48 * n + 48 = omega arith in
    let place : 48 * (n + 1) ≡ 48 * n + 48 = omega arith in
    let rest : drop (48 * (n + 1)) bytes ≡ drop 48 (drop (48 * n) bytes) = ap (λ m. drop m bytes) place ∙ sym (drop-drop 48 (48 * n) bytes) in
    let reads : ℕ → List WindowEntry → List ℕ → Result (List WindowEntry) ℕ =
    λ m xs more. with_front xs (entries_read c.args.hop c.args.agg c.args.low (c.args.count - (n + 1)) m (last xs) more) in
    ap (λ xs. reads (4 + 48 * (n + 1)) xs (drop (48 * (n + 1)) bytes)) c.in_ok-push-in-Some.ensures.items
    ∙ (ap (λ m. reads m (es ++ e ∷ []) (drop (48 * (n + 1)) bytes)) at
    ∙ (ap (reads (4 + 48 * n + 48) (es ++ e ∷ [])) rest
    ∙ (sym (entries_read-some c.args.hop c.args.agg c.args.low (c.args.count - (n + 1)) (4 + 48 * n) es e (drop (48 * n) bytes) some)
    ∙ (ap (λ m. with_front es (entries_read c.args.hop c.args.agg c.args.low m (4 + 48 * n) (last es) (drop (48 * n) bytes))) (sym left)
    ∙ c.loop-number.invariant))))

pub returns-clause-ok : goal.returns-clause-ok
returns-clause-ok c =
    let none : c.args.count - c.loop-number.number ≡ 0 = omega (arith, c.loop-number-test.false) in
    sym c.loop-number.invariant ∙ entries_read-done c.args.hop c.args.agg c.args.low (c.args.count - c.loop-number.number) (4 + 48 * c.loop-number.number)
    c.loop-number.entries.items (drop (48 * c.loop-number.number) c.args.bytes.now) none
