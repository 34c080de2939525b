use Rattle.ss_meaning.proofs.Prefixes.{output_grows_by_emit, output_only_grows}
use Rattle.ss_meaning.proofs.laws.output_only_grows.Goals as goal

pub returns : goal.returns
returns c = record { step = output_grows_by_emit; prefix = output_only_grows }
