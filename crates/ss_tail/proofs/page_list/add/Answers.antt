use Rattle.std.proofs.Common.{◌≡◌, ◌+◌, ◌%◌, ◌++◌, [], ◌∷◌, List, drop, arith}
use Rattle.ss_elem.specs.declared.element.Element.{Element}
use Rattle.ss_tail.specs.Pages.{AddsPage, ArePages, joined}
use Rattle.ss_tail.proofs.Paged.{last_added, next_added, on_ok, on_ok_of}
use Rattle.ss_tail.proofs.page_list.add.Goals as goal

pub returns-then-place-eq0-clause-pages : goal.returns-then-place-eq0-clause-pages
returns-then-place-eq0-clause-pages c =
    let order = c.requires.order in
    let other = c.if-from-end.false in
    let old : List (List Element) = c.args.pages.now.items in
    let new : List (List Element) = c.add_page-then-place-eq0.new.pages.items in
    let to = λ (adds : AddsPage old 0 c.args.x.now new). (next_added c.args.from c.args.end c.args.x.now old new c.requires (omega (arith, order, other)) c.if-place-eq0.true adds).0 in
    on_ok c.add_page-then-place-eq0.result to c.add_page-then-place-eq0.ensures.ok

pub returns-then-place-eq0-clause-items : goal.returns-then-place-eq0-clause-items
returns-then-place-eq0-clause-items c =
    let order = c.requires.order in
    let other = c.if-from-end.false in
    let old : List (List Element) = c.args.pages.now.items in
    let new : List (List Element) = c.add_page-then-place-eq0.new.pages.items in
    let to = λ (adds : AddsPage old 0 c.args.x.now new). (next_added c.args.from c.args.end c.args.x.now old new c.requires (omega (arith, order, other)) c.if-place-eq0.true adds).1 in
    on_ok c.add_page-then-place-eq0.result to c.add_page-then-place-eq0.ensures.ok

pub returns-else-place-eq0-clause-pages : goal.returns-else-place-eq0-clause-pages
returns-else-place-eq0-clause-pages c =
    let order = c.requires.order in
    let other = c.if-from-end.false in
    let inside = c.if-place-eq0.false in
    let old : List (List Element) = c.args.pages.now.items in
    let are = (last_added c.args.from c.args.end c.args.x.now old c.requires (omega (arith, order, other)) (omega (arith, inside))).0 in
    on_ok_of (λ (p : List (List Element)). ArePages c.args.from (c.args.end + 1) p) c.add_on_last.result _ old _ c.add_on_last.ensures are

pub returns-else-place-eq0-clause-items : goal.returns-else-place-eq0-clause-items
returns-else-place-eq0-clause-items c =
    let order = c.requires.order in
    let other = c.if-from-end.false in
    let inside = c.if-place-eq0.false in
    let old : List (List Element) = c.args.pages.now.items in
    let items = (last_added c.args.from c.args.end c.args.x.now old c.requires (omega (arith, order, other)) (omega (arith, inside))).1 in
    on_ok_of (λ (p : List (List Element)). drop (c.args.from % 64) (joined p) ≡ drop (c.args.from % 64) (joined old) ++ c.args.x.now ∷ []) c.add_on_last.result _ old _ c.add_on_last.ensures items
