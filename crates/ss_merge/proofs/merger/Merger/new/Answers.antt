use Rattle.ss_merge.proofs.Steps.{before_any}
use Rattle.ss_merge.proofs.merger.Merger.new.Goals as goal

pub returns : goal.returns
returns c = before_any c.args.width c.requires.few
