use Rattle.std.proofs.Common.{◌+◌, List, drop, sym, ap, ◌∙◌, arith}
use Rattle.std.specs.Prelude.{map}
use Rattle.ss_fail.specs.Acts.{act_line}
use Rattle.ss_fail.specs.Lines.{LineWords, values_of}
use Rattle.ss_fail.specs.SaidLine.{said}
use Rattle.ss_fail.proofs.Values.{ends, fails, goes_on, next_line, no_line, with_front}
use Rattle.ss_fail.proofs.script.read_acts.Goals as goal

pub loop-line-preserved : goal.loop-line-preserved
loop-line-preserved c =
    let lines = c.args.lines.now in
    let behind = map said (drop (c.loop-line.line-index + 1) lines) in
    let reads = act_line c.args.roles.now in
    let here = next_line lines c.loop-line.line-index c.line-item.result (omega arith) c.line-item.is in
    let is = c.in-Ok.ensures ∙ ap (λ ws. reads (map (λ word. word.now) ws)) c.deref.ensures.value in
    rw c.in-Ok-push.ensures.items
    (goes_on reads c.loop-line.acts.items (said c.line-item.result) behind c.in-Ok.act (values_of reads (map said lines)) is
    (sym (ap (λ (ls : List LineWords). with_front c.loop-line.acts.items (values_of reads ls)) here) ∙ c.loop-line.invariant))

pub returns-in-Err : goal.returns-in-Err
returns-in-Err c =
    let lines = c.args.lines.now in
    let behind = map said (drop (c.loop-line.line-index + 1) lines) in
    let reads = act_line c.args.roles.now in
    let here = next_line lines c.loop-line.line-index c.line-item.result (omega arith) c.line-item.is in
    let is = c.in-Err.ensures ∙ ap (λ ws. reads (map (λ word. word.now) ws)) c.deref.ensures.value in
    rw c.fault_at.ensures
    (fails reads c.loop-line.acts.items (said c.line-item.result) behind c.in-Err.why (values_of reads (map said lines)) is
    (sym (ap (λ (ls : List LineWords). with_front c.loop-line.acts.items (values_of reads ls)) here) ∙ c.loop-line.invariant))

pub returns : goal.returns
returns c =
    let lines = c.args.lines.now in
    let reads = act_line c.args.roles.now in
    let none = no_line lines c.loop-line.line-index (omega arith) in
    ends reads c.loop-line.acts.items (values_of reads (map said lines))
    (sym (ap (λ (ls : List LineWords). with_front c.loop-line.acts.items (values_of reads ls)) none) ∙ c.loop-line.invariant)
