use Rattle.std.proofs.Common.{is_ok, refl, arith}
use Rattle.ss_tail.proofs.Paged.{set_last}
use Rattle.ss_tail.proofs.page_list.add_on_last.Goals as goal

pub returns-in-Some : goal.returns-in-Some
returns-in-Some c =
    let q = c.args.pages.now in
    set_last q.items q.len c.in-Some.last.now c.push.new.self c.args.x.now (is_ok c.push.result) (let ok = q.ok in omega arith) (c.in-Some.ensures.variant.0 refl) c.in-Some.ensures.value c.push.ensures
