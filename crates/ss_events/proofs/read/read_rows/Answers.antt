use Rattle.std.proofs.Common.{◌≡◌, ◌≤◌, arith}
use Rattle.ss_events.specs.Events.{event_list}
use Rattle.ss_events.proofs.Rows.{at-end, one-more, refused, too-many}
use Rattle.ss_events.proofs.read.read_rows.Goals as goal

pub returns-then-not-branch : goal.returns-then-not-branch
returns-then-not-branch c =
    let l = c.loop-number in
    let none = rw c.if-not-branch.true at c.in_ok-next.ensures.found in
    let all = at-end (event_list c.args.bytes.now c.args.late) c.args.late l.list.items l.records l.number l.bound l.invariant none in
    rw all c.ended.ensures

pub returns-in-Err : goal.returns-in-Err
returns-in-Err c =
    let l = c.loop-number in
    let first = rw c.if-not-branch.false at c.in_ok-next.ensures.found in
    refused (event_list c.args.bytes.now c.args.late) c.args.late l.list.items l.records l.number l.bound l.invariant _ _ c.in-Err.why first (omega arith) c.in-Err.ensures

pub loop-number-preserved : goal.loop-number-preserved
loop-number-preserved c =
    let l = c.loop-number in
    let first = rw c.if-not-branch.false at c.in_ok-next.ensures.found in
    let items = c.in_ok-push_given.ensures.pushed in
    let told = one-more (event_list c.args.bytes.now c.args.late) c.args.late l.list.items l.records l.number l.bound l.invariant _ _ c.in-Ok.next.0 c.in-Ok.next.1 first (omega arith) c.in-Ok.ensures in
    rw items told

pub returns-then-branch : goal.returns-then-branch
returns-then-branch c =
    let l = c.loop-number in
    let first = rw c.if-branch.true at c.in_ok-next-2.ensures.found in
    let most : l.number ≤ 131073 = l.auto.number-end (omega arith) in
    let last : l.number ≡ 131073 = omega arith in
    rw last at (too-many (event_list c.args.bytes.now c.args.late) c.args.late l.list.items l.records l.number l.bound l.invariant _ _ first (omega arith))

pub returns : goal.returns
returns c =
    let l = c.loop-number in
    let none = rw c.if-branch.false at c.in_ok-next-2.ensures.found in
    let all = at-end (event_list c.args.bytes.now c.args.late) c.args.late l.list.items l.records l.number l.bound l.invariant none in
    rw all c.ended-2.ensures
