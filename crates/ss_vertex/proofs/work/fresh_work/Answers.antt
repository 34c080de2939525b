use Rattle.std.proofs.Common.{ℕ, Some, sym, ap, ◌∙◌}
use Rattle.ss_vertex.specs.Standing.{list_len}
use Rattle.ss_vertex.proofs.Operators.{no_spec_found}
use Rattle.ss_vertex.proofs.Stays.{source_of}
use Rattle.ss_vertex.proofs.work.fresh_work.Goals as goal

pub source_len-requires : goal.source_len-requires
source_len-requires c =
    let none = no_spec_found c.args.plan.now.job c.job.result.now c.args.v c.spec.result c.job.ensures.job c.spec.ensures c.in-None.is in
    (source_of c.laws_of_vertices.ensures c.args.plan.now c.max_elements.ensures.plan c.args.v c.requires none).op

pub returns-in-None-clause-list : goal.returns-in-None-clause-list
returns-in-None-clause-list c =
    let none = no_spec_found c.args.plan.now.job c.job.result.now c.args.v c.spec.result c.job.ensures.job c.spec.ensures c.in-None.is in
    ap (λ (n : ℕ). Some n) c.source_len.ensures
    ∙ sym (ap list_len (source_of c.laws_of_vertices.ensures c.args.plan.now c.max_elements.ensures.plan c.args.v c.requires none).is)
