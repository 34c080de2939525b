use Rattle.std.proofs.Common.{◌%◌, List, drop, sym, ap, subst, ◌∙◌, arith}
use Rattle.ss_elem.specs.declared.element.Element.{Element}
use Rattle.ss_tail.specs.Pages.{ArePages, joined}
use Rattle.ss_tail.proofs.Paged.{fewer_are}
use Rattle.ss_tail.proofs.page_list.drop_below.Goals as goal

pub returns-else-m-end-clause-pages : goal.returns-else-m-end-clause-pages
returns-else-m-end-clause-pages c =
    let order = c.requires.end in
    let other = c.if-m-end.false in
    subst (λ (p : List (List Element)). ArePages c.args.m c.args.end p) (sym c.drop_front.ensures)
    (fewer_are c.args.from c.args.m c.args.end c.args.pages.now.items c.requires.pages c.requires.from (omega (arith, order, other))).0

pub returns-else-m-end-clause-items : goal.returns-else-m-end-clause-items
returns-else-m-end-clause-items c =
    let order = c.requires.end in
    let other = c.if-m-end.false in
    ap (λ (p : List (List Element)). drop (c.args.m % 64) (joined p)) c.drop_front.ensures
    ∙ (fewer_are c.args.from c.args.m c.args.end c.args.pages.now.items c.requires.pages c.requires.from (omega (arith, order, other))).1
