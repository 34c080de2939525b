use Rattle.ss_join.proofs.OneSpelling.{image_read-spelled}
use Rattle.ss_join.proofs.image_laws.images_have_one_spelling.Goals as goal

pub returns : goal.returns
returns c bounds bytes sides fits read = image_read-spelled c.numbers_have_one_spelling.ensures bounds bytes sides fits read
