use Rattle.std.proofs.Common.{bytes_eq, ap, ◌∙◌}
use Rattle.std.specs.List.{position}
use Rattle.ss_job.proofs.NameLists.{position-names}
use Rattle.ss_job.proofs.name_index.NameIndex.number_of.Goals as goal

pub returns : goal.returns
returns c =
    c.get_index_of.ensures.index
    ∙ position-names (bytes_eq c.args.name.now) c.self.inside.names.keys
    ∙ ap (position (λ other. bytes_eq c.args.name.now other)) c.self.view_is
