use Rattle.std.proofs.Common.{◌≡◌, ap, ◌∙◌, arith}
use Rattle.toml.specs.View.{array_view}
use Rattle.ss_job.proofs.Views.{item_count-view}
use Rattle.ss_job.specs.Faults.{item_count}
use Rattle.ss_job.specs.Wrong.{has_input_count}
use Rattle.ss_job.proofs.vertices.takes.Goals as goal

pub returns-clause-count : goal.returns-clause-count
returns-clause-count c =
    let count : c.len.result ≡ item_count (array_view c.args.array.now) = omega (arith, item_count-view c.args.array.now.items, c.len.ensures, c.args.array.now.ok.0) in
    c.takes.ensures.count ∙ ap (has_input_count c.args.op) count

pub returns-clause-few : goal.returns-clause-few
returns-clause-few c = λ yes. let few = c.takes.ensures.few yes in omega (arith, item_count-view c.args.array.now.items, few, c.len.ensures)
