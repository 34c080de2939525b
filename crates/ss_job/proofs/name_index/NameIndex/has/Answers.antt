use Rattle.std.proofs.Common.{bytes_eq, ap, ◌∙◌}
use Rattle.ss_job.proofs.NameLists.{list_any-names}
use Rattle.ss_job.specs.Wrong.{is_among}
use Rattle.ss_job.proofs.name_index.NameIndex.has.Goals as goal

pub returns : goal.returns
returns c =
    c.contains.ensures
    ∙ list_any-names (bytes_eq c.args.name.now) c.self.inside.names.keys
    ∙ ap (is_among c.args.name.now) c.self.view_is
