use Rattle.std.proofs.Common.{◌≡◌, ℕ, suc, ◌+◌, ◌-◌, ◌*◌, List, [], ◌∷◌, ◌++◌, length, take, drop, Option, Some, None, Result, Err, sym, ap, subst, ◌∙◌, arith}
use Rattle.std.proofs.lemmas.List.{drop-drop, take_rest}
use Rattle.ss_elem.specs.declared.element.Event.{Event}
use Rattle.ss_image.specs.declared.row_form.RowForm.{RowForm}
use Rattle.ss_image.specs.declared.row_form.RowForm.TheVariants.{Narrow, Wide}
use Rattle.ss_image.specs.Images.{row_len}
use Rattle.ss_join.specs.ImageTests.{row_read, rows_read}
use Rattle.ss_join.proofs.RowReads.{with_front, rows_read-some, rows_read-none, rows_read-done}
use Rattle.ss_join.proofs.image_reader.read_rows.Goals as goal

-- what is read behind the rows so far
ahead : (form : RowForm) (bound n : ℕ) (bytes : List ℕ) (o : Option Event)
    → o ≡ row_read form bound (take (length bytes - row_len form * n) (drop (row_len form * n) bytes)) → o ≡ row_read form bound (drop (row_len form * n) bytes)
ahead form bound n bytes o h = h ∙ ap (row_read form bound) (take_rest bytes (row_len form * n))

-- the same, of a length that is that of a row
row_there : (form : RowForm) (bound n len : ℕ) (bytes : List ℕ) (o : Option Event) → len ≡ row_len form
    → o ≡ row_read form bound (take (length bytes - len * n) (drop (len * n) bytes)) → o ≡ row_read form bound (drop (row_len form * n) bytes)
row_there form bound n len bytes o same h =
    ahead form bound n bytes o (h ∙ ap (λ (m : ℕ). row_read form bound (take (length bytes - m * n) (drop (m * n) bytes))) same)

-- one row further
further : (form : RowForm) (at n : ℕ) → at + row_len form * (n + 1) ≡ at + row_len form * n + row_len form
further Narrow at n = omega arith
further Wide at n = omega arith

times : (form : RowForm) (n : ℕ) → row_len form * (n + 1) ≡ row_len form * n + row_len form
times Narrow n = omega arith
times Wide n = omega arith

behind : (form : RowForm) (n : ℕ) (bytes : List ℕ) → drop (row_len form * (n + 1)) bytes ≡ drop (row_len form) (drop (row_len form * n) bytes)
behind form n bytes = ap (λ m. drop m bytes) (times form n) ∙ sym (drop-drop (row_len form) (row_len form * n) bytes)

pub returns-in-None-clause-fault : goal.returns-in-None-clause-fault
returns-in-None-clause-fault c =
    let form : RowForm = c.args.form in
    let n = c.loop-number.number in
    let rows : List Event = c.loop-number.rows.items in
    let left : c.args.count - n ≡ suc (c.args.count - (n + 1)) = omega (arith, c.loop-number-test.true) in
    let none = row_there form c.args.bound n c.row_len.result c.args.bytes.now None c.row_len.ensures c.in-None.ensures in
    subst (λ (len : ℕ). rows_read form c.args.bound c.args.count c.args.at c.args.bytes.now ≡ Err (c.args.at + len * n)) (sym c.row_len.ensures)
    (sym c.loop-number.invariant
    ∙ (ap (λ m. with_front rows (rows_read form c.args.bound m (c.args.at + row_len form * n) (drop (row_len form * n) c.args.bytes.now))) left
    ∙ rows_read-none form c.args.bound (c.args.count - (n + 1)) (c.args.at + row_len form * n) rows (drop (row_len form * n) c.args.bytes.now) none))

pub loop-number-preserved : goal.loop-number-preserved
loop-number-preserved c =
    let form : RowForm = c.args.form in
    let n = c.loop-number.number in
    let rows : List Event = c.loop-number.rows.items in
    let row : Event = c.in-Some.row in
    let bytes = c.args.bytes.now in
    let left : c.args.count - n ≡ suc (c.args.count - (n + 1)) = omega (arith, c.loop-number-test.true) in
    let some = row_there form c.args.bound n c.row_len.result bytes (Some row) c.row_len.ensures c.in-Some.ensures in
    let reads : ℕ → List Event → List ℕ → Result (List Event) ℕ =
    λ m xs more. with_front xs (rows_read form c.args.bound (c.args.count - (n + 1)) m more) in
    ap (λ xs. reads (c.args.at + row_len form * (n + 1)) xs (drop (row_len form * (n + 1)) bytes)) c.in_ok-push-in-Some.ensures.items
    ∙ (ap (λ m. reads m (rows ++ row ∷ []) (drop (row_len form * (n + 1)) bytes)) (further form c.args.at n)
    ∙ (ap (reads (c.args.at + row_len form * n + row_len form) (rows ++ row ∷ [])) (behind form n bytes)
    ∙ (sym (rows_read-some form c.args.bound (c.args.count - (n + 1)) (c.args.at + row_len form * n) rows row (drop (row_len form * n) bytes) some)
    ∙ (ap (λ m. with_front rows (rows_read form c.args.bound m (c.args.at + row_len form * n) (drop (row_len form * n) bytes))) (sym left)
    ∙ c.loop-number.invariant))))

pub returns-clause-ok : goal.returns-clause-ok
returns-clause-ok c =
    let form : RowForm = c.args.form in
    let none : c.args.count - c.loop-number.number ≡ 0 = omega (arith, c.loop-number-test.false) in
    sym c.loop-number.invariant ∙ rows_read-done form c.args.bound (c.args.count - c.loop-number.number) (c.args.at + row_len form * c.loop-number.number)
    c.loop-number.rows.items (drop (row_len form * c.loop-number.number) c.args.bytes.now) none
