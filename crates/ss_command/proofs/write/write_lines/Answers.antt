use Rattle.std.proofs.Common.{◌≡◌, ◌+◌, ◌∷◌, [], ◌∙◌, ℕ, List, Err, Ok, drop, take, subst, sym}
use Rattle.ss_elem.specs.Line.{line_of}
use Rattle.ss_outside.specs.Told.{Puts}
use Rattle.ss_command.specs.Puts.{WentWhole, lines_to, put_of}
use Rattle.ss_command.proofs.Puts.{WentWhole-append}
use Rattle.ss_command.proofs.Wrote.{lines_to-more, lines_to-split, wrote-between, wrote-one}
use Rattle.ss_command.proofs.write.write_lines.Goals as goal

pub returns-in-Err : goal.returns-in-Err
returns-in-Err g c =
    let old = g.O.Outputs.told c.args.outputs.now in
    let mid = g.O.Outputs.told c.loop-element.outputs in
    let new = g.O.Outputs.told c.put.new.self in
    let file = c.args.file.now in
    let x = c.element-item.result in
    let text : c.as_slice.result.now ≡ line_of x = c.as_slice.ensures ∙ c.line.ensures in
    let puts : Puts mid new file (line_of x) (Err c.in-Err.fault) = subst (λ (t : List ℕ). Puts mid new file t (Err c.in-Err.fault)) text c.in-Err.ensures in
    let i = c.loop-element.element-index in
    wrote-between old mid new (lines_to file (take i c.args.list.now)) (put_of file (line_of x) ∷ []) (lines_to file c.args.list.now)
    (lines_to file (drop (i + 1) c.args.list.now)) c.in-Err.fault
    (lines_to-split file c.args.list.now i x c.loop-element-test.true c.element-item.is) c.loop-element.invariant
    (wrote-one mid new file (line_of x) (Err c.in-Err.fault) puts)

pub loop-element-preserved : goal.loop-element-preserved
loop-element-preserved g c =
    let old = g.O.Outputs.told c.args.outputs.now in
    let mid = g.O.Outputs.told c.loop-element.outputs in
    let new = g.O.Outputs.told c.put.new.self in
    let file = c.args.file.now in
    let x = c.element-item.result in
    let text : c.as_slice.result.now ≡ line_of x = c.as_slice.ensures ∙ c.line.ensures in
    let puts : Puts mid new file (line_of x) (Ok tt) = subst (λ (t : List ℕ). Puts mid new file t (Ok tt)) text c.in-Ok.ensures in
    let i = c.loop-element.element-index in
    subst (WentWhole old new) (sym (lines_to-more file c.args.list.now i x c.loop-element-test.true c.element-item.is))
    (WentWhole-append old mid new (lines_to file (take i c.args.list.now)) (put_of file (line_of x) ∷ []) c.loop-element.invariant
    (wrote-one mid new file (line_of x) (Ok tt) puts))
