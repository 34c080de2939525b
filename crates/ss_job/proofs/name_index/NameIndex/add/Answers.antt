use Rattle.ss_job.proofs.NameLists.{names-added}
use Rattle.ss_job.proofs.name_index.NameIndex.add.Goals as goal

pub returns : goal.returns
returns c =
    names-added c.args.name.now c.args.self.now c.in_ok-name.name c.self.inside.names.keys c.insert_full.new.self.keys c.requires c.self.view_is c.in_ok-name.ensures.ok c.in_ok-insert_full.ensures.keys
