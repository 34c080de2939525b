use Rattle.std.proofs.Common.{◌≡◌, ℕ, suc, ◌+◌, ◌-◌, ◌*◌, List, [], ◌∷◌, ◌++◌, length, take, drop, Option, Some, None, Result, sym, ap, ◌∙◌, arith}
use Rattle.std.proofs.lemmas.List.{drop-drop, take_rest}
use Rattle.ss_expr.specs.declared.stream_operator.Agg.{Agg}
use Rattle.ss_meaning.specs.Session.{SessionEntry}
use Rattle.ss_session.specs.SessionHeld.{last_of}
use Rattle.ss_session.specs.ImageTests.{session_read, sessions_read}
use Rattle.ss_session.proofs.SessionReads.{with_front, sessions_read-some, sessions_read-none, sessions_read-done}
use Rattle.ss_session.proofs.session_image_reader.read_sessions.Goals as goal

-- what is read behind the entries so far
ahead : (gap : ℕ) (agg : Agg) (low n : ℕ) (bytes : List ℕ) (seen es : List SessionEntry) (o : Option SessionEntry) → seen ≡ es
    → o ≡ session_read gap agg low (last_of seen) (take (length bytes - 56 * n) (drop (56 * n) bytes))
    → o ≡ session_read gap agg low (last_of es) (drop (56 * n) bytes)
ahead gap agg low n bytes seen es o same h =
    h ∙ (ap (λ xs. session_read gap agg low (last_of xs) (take (length bytes - 56 * n) (drop (56 * n) bytes))) same
    ∙ ap (session_read gap agg low (last_of es)) (take_rest bytes (56 * n)))

pub returns-in-None-clause-fault : goal.returns-in-None-clause-fault
returns-in-None-clause-fault c =
    let n = c.loop-number.number in
    let es : List SessionEntry = c.loop-number.entries.items in
    let left : c.args.count - n ≡ suc (c.args.count - (n + 1)) = omega (arith, c.loop-number-test.true) in
    let none = ahead c.args.gap c.args.agg c.args.low n c.args.bytes.now c.as_slice.result.now es None c.as_slice.ensures.value c.in-None.ensures in
    sym c.loop-number.invariant
    ∙ (ap (λ m. with_front es (sessions_read c.args.gap c.args.agg c.args.low m (4 + 56 * n) (last_of es) (drop (56 * n) c.args.bytes.now))) left
    ∙ sessions_read-none c.args.gap c.args.agg c.args.low (c.args.count - (n + 1)) (4 + 56 * n) es (drop (56 * n) c.args.bytes.now) none)

pub loop-number-preserved : goal.loop-number-preserved
loop-number-preserved c =
    let n = c.loop-number.number in
    let es : List SessionEntry = c.loop-number.entries.items in
    let e : SessionEntry = c.in-Some.entry in
    let bytes = c.args.bytes.now in
    let left : c.args.count - n ≡ suc (c.args.count - (n + 1)) = omega (arith, c.loop-number-test.true) in
    let some = ahead c.args.gap c.args.agg c.args.low n bytes c.as_slice.result.now es (Some e) c.as_slice.ensures.value c.in-Some.ensures in
    let at : 4 + 56 * (n + 1) ≡ 4 + 56 * n + 56 = omega arith in
    let place : 56 * (n + 1) ≡ 56 * n + 56 = omega arith in
    let rest : drop (56 * (n + 1)) bytes ≡ drop 56 (drop (56 * n) bytes) = ap (λ m. drop m bytes) place ∙ sym (drop-drop 56 (56 * n) bytes) in
    let reads : ℕ → List SessionEntry → List ℕ → Result (List SessionEntry) ℕ =
    λ m xs more. with_front xs (sessions_read c.args.gap c.args.agg c.args.low (c.args.count - (n + 1)) m (last_of xs) more) in
    ap (λ xs. reads (4 + 56 * (n + 1)) xs (drop (56 * (n + 1)) bytes)) c.in_ok-push-in-Some.ensures.items
    ∙ (ap (λ m. reads m (es ++ e ∷ []) (drop (56 * (n + 1)) bytes)) at
    ∙ (ap (reads (4 + 56 * n + 56) (es ++ e ∷ [])) rest
    ∙ (sym (sessions_read-some c.args.gap c.args.agg c.args.low (c.args.count - (n + 1)) (4 + 56 * n) es e (drop (56 * n) bytes) some)
    ∙ (ap (λ m. with_front es (sessions_read c.args.gap c.args.agg c.args.low m (4 + 56 * n) (last_of es) (drop (56 * n) bytes))) (sym left)
    ∙ c.loop-number.invariant))))

pub returns-clause-ok : goal.returns-clause-ok
returns-clause-ok c =
    let none : c.args.count - c.loop-number.number ≡ 0 = omega (arith, c.loop-number-test.false) in
    sym c.loop-number.invariant ∙ sessions_read-done c.args.gap c.args.agg c.args.low (c.args.count - c.loop-number.number) (4 + 56 * c.loop-number.number)
    c.loop-number.entries.items (drop (56 * c.loop-number.number) c.args.bytes.now) none
