use Rattle.ss_join.proofs.EarlyRows.{images_have_early_rows}
use Rattle.ss_join.proofs.image_laws.images_have_early_rows.Goals as goal

pub returns : goal.returns
returns c = images_have_early_rows
