use Rattle.std.proofs.Common.{refl}
use Rattle.ss_image.specs.Numbers.{number_bytes, number_at, key_bytes, key_in}
use Rattle.ss_image.specs.Images.{narrow_bytes, join_image}
use Rattle.ss_join.specs.ImageTests.{row_read, rows_read}
use Rattle.ss_join.proofs.image_laws.image_examples.Goals as goal

pub returns-clause-one_row : goal.returns-clause-one_row
unfolding join_image narrow_bytes number_bytes key_bytes
returns-clause-one_row c = refl

pub returns-clause-negative : goal.returns-clause-negative
unfolding narrow_bytes number_bytes key_bytes
returns-clause-negative c = refl

pub returns-clause-read : goal.returns-clause-read
unfolding rows_read row_read number_at key_in key_bytes
returns-clause-read c = refl

pub returns-clause-one_byte_fewer : goal.returns-clause-one_byte_fewer
unfolding rows_read row_read number_at key_in key_bytes
returns-clause-one_byte_fewer c = refl

pub returns-clause-ended : goal.returns-clause-ended
unfolding rows_read row_read number_at key_in key_bytes
returns-clause-ended c = refl
