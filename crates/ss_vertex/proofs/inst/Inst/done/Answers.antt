use Rattle.std.proofs.Common.{◌+◌, ◌^◌, ◌<◌, length, sym, ap, ◌∙◌, subst, arith}
use Rattle.std.proofs.lemmas.List.{length-drop}
use Rattle.ss_vertex.specs.Inst.{InstState, left_of, with_one_done}
use Rattle.ss_vertex.specs.Kept.{inst_kept, left_kept}
use Rattle.ss_vertex.specs.Standing.{InstStands}
use Rattle.ss_vertex.proofs.Stays as stays
use Rattle.ss_vertex.proofs.Views.{some_left, inst_done}
use Rattle.ss_vertex.proofs.inst.Inst.done.Goals as goal

pub overflow_add-self : goal.overflow_add-self
overflow_add-self c =
    let i = c.self.inside in
    let some : 0 < left_of (inst_kept i.v i.next i.given i.done i.work) = subst (λ (x : InstState). 0 < left_of x) (sym c.self.view_is) c.requires in
    let left = some_left i.work i.next (left_kept i.given i.done) some in
    let count = length-drop i.done i.given.elements in
    let few = c.self.invariant.few in
    let numbered : i.next + length i.given.elements < 2 ^ 63 + i.done = c.self.invariant.numbered (omega arith) in
    omega arith

pub invariant_of-self : goal.invariant_of-self
invariant_of-self c =
    let i = c.self.inside in
    let some : 0 < left_of (inst_kept i.v i.next i.given i.done i.work) = subst (λ (x : InstState). 0 < left_of x) (sym c.self.view_is) c.requires in
    let left = some_left i.work i.next (left_kept i.given i.done) some in
    let count = length-drop i.done i.given.elements in
    let numbered : i.next + length i.given.elements < 2 ^ 63 + i.done = c.self.invariant.numbered (omega arith) in
    record { within = omega arith; few = c.self.invariant.few; numbered = λ k. omega arith }

pub overflow_add-self-2 : goal.overflow_add-self-2
overflow_add-self-2 c =
    let i = c.self.inside in
    let some : 0 < left_of (inst_kept i.v i.next i.given i.done i.work) = subst (λ (x : InstState). 0 < left_of x) (sym c.self.view_is) c.requires in
    let left = some_left i.work i.next (left_kept i.given i.done) some in
    let count = length-drop i.done i.given.elements in
    let few = c.self.invariant.few in
    omega arith

pub returns-clause-done : goal.returns-clause-done
returns-clause-done c =
    let i = c.self.inside in
    inst_done i.v i.next i.given i.done i.work ∙ ap with_one_done c.self.view_is

pub returns-clause-stands : goal.returns-clause-stands
returns-clause-stands c plan stands =
    let i = c.self.inside in
    subst (InstStands plan) (sym (inst_done i.v i.next i.given i.done i.work ∙ ap with_one_done c.self.view_is))
    (stays.inst_done plan c.args.self.now c.requires stands)
