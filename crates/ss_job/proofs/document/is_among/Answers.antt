use Rattle.std.proofs.Common.{bytes_eq, ◌∙◌}
use Rattle.ss_job.proofs.Views.{list_any-map}
use Rattle.ss_job.proofs.document.is_among.Goals as goal

pub returns : goal.returns
returns c = c.contains.ensures.value ∙ list_any-map (λ field. bytes_eq field c.args.key.now) c.args.fields.now
