use Rattle.ss_join.proofs.ReadAgain.{narrow_images_are_read, sides_are_read_again}
use Rattle.ss_join.proofs.StateImages.{states_are_read_again, absence_is_read_again}
use Rattle.ss_join.proofs.image_laws.images_are_read_again.Goals as goal

pub returns : goal.returns
returns c =
    let sides = sides_are_read_again c.numbers_are_read_again.ensures in
    record { sides = sides; narrow = narrow_images_are_read c.numbers_are_read_again.ensures; states = states_are_read_again sides; absence = absence_is_read_again sides }
