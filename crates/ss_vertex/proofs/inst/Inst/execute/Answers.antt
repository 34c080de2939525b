use Rattle.std.proofs.Common.{◌<◌, ◌^◌, arith}
use Rattle.ss_vertex.proofs.Executing.{idle, counted, executed}
use Rattle.ss_vertex.proofs.inst.Inst.execute.Goals as goal

pub invariant_of-self : goal.invariant_of-self
invariant_of-self c =
    let i = c.self.inside in
    let before = idle c.args.plan.now c.args.self.now i.v i.next i.given i.done i.work c.self.view_is c.requires.stands c.requires.ready in
    let fits : i.next < 2 ^ 64 = omega arith in
    counted c.laws_of_vertices.ensures c.args.plan.now c.max_elements.ensures.plan i.v i.next i.given i.done i.work c.accept.new.self
    c.accept.new.given c.accept.result before fits c.accept.ensures.accepted c.accept.ensures.within
    c.accept.ensures.kept c.accept.ensures.err_given

pub returns-clause-stands : goal.returns-clause-stands
returns-clause-stands c =
    let i = c.self.inside in
    let before = idle c.args.plan.now c.args.self.now i.v i.next i.given i.done i.work c.self.view_is c.requires.stands c.requires.ready in
    executed c.laws_of_vertices.ensures c.args.plan.now c.max_elements.ensures.plan i.v i.next i.given i.done i.work c.accept.new.self
    c.accept.new.given c.accept.result before c.accept.ensures.list c.accept.ensures.accepted c.accept.ensures.within
    c.accept.ensures.kept c.accept.ensures.err c.accept.ensures.err_given
