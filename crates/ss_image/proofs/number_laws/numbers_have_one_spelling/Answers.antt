use Rattle.ss_image.proofs.Fronts.{number_at-below, number_at-front, key_in-bytes}
use Rattle.ss_image.proofs.number_laws.numbers_have_one_spelling.Goals as goal

pub returns : goal.returns
returns c = record { below = number_at-below; number = number_at-front; key = key_in-bytes }
