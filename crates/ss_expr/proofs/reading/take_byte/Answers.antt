-- Each way out is one case of reading a byte.
use Rattle.std.proofs.Common.{◌≡◌, length, ap, sym, ◌∙◌, arith}
use Rattle.ss_expr.specs.Reading.{read_from}
use Rattle.ss_expr.specs.Tokens.{Scanned, token_at}
use Rattle.ss_expr.proofs.Scans.{from_place, scan_skips, read_taken, read_stopped, read_broken}
use Rattle.ss_expr.proofs.reading.take_byte.Goals as goal

pub returns-then-taken-gt0-clause-goes_on : goal.returns-then-taken-gt0-clause-goes_on
returns-then-taken-gt0-clause-goes_on c =
    let text = c.args.text.now in
    ap (λ (s : Scanned). read_from (length text) s c.args.parser.now) (scan_skips text c.args.at c.args.taken c.requires c.if-taken-gt0.true)

pub returns-in-Ok-take-clause-goes_on : goal.returns-in-Ok-take-clause-goes_on
returns-in-Ok-take-clause-goes_on c =
    let text = c.args.text.now in
    let none : c.args.taken ≡ 0 = omega arith in
    let found = ap token_at (sym (from_place text c.args.at c.requires)) in
    rw (none, c.saturating_sub.ensures)
    (read_taken text c.args.at (length text) c.in-Ok.len c.in-Ok.token c.args.parser.now c.take.new.self c.requires (sym c.is_blank.ensures ∙ c.if-is_blank.false) (found ∙ sym c.in-Ok.ensures) c.in-Ok-take.ensures)

pub returns-in-Err-take-clause-refused : goal.returns-in-Err-take-clause-refused
returns-in-Err-take-clause-refused c =
    let text = c.args.text.now in
    let none : c.args.taken ≡ 0 = omega arith in
    let found = ap token_at (sym (from_place text c.args.at c.requires)) in
    rw none
    (read_stopped text c.args.at (length text) c.in-Ok.len c.in-Ok.token c.args.parser.now c.in-Err-take.fault c.requires (sym c.is_blank.ensures ∙ c.if-is_blank.false) (found ∙ sym c.in-Ok.ensures) c.in-Err-take.ensures)

pub returns-in-Err-clause-refused : goal.returns-in-Err-clause-refused
returns-in-Err-clause-refused c =
    let text = c.args.text.now in
    let none : c.args.taken ≡ 0 = omega arith in
    let found = ap token_at (sym (from_place text c.args.at c.requires)) in
    rw none
    (read_broken text c.args.at (length text) c.in-Err.why c.args.parser.now c.requires (sym c.is_blank.ensures ∙ c.if-is_blank.false) (found ∙ sym c.in-Err.ensures))
