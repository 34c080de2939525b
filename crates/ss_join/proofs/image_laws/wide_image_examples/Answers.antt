use Rattle.std.proofs.Common.{refl}
use Rattle.ss_image.specs.Numbers.{number_bytes, number_at, key_bytes, key_in}
use Rattle.ss_image.specs.Images.{narrow_bytes, wide_bytes, join_image}
use Rattle.ss_join.specs.ImageTests.{row_read, rows_read, say_two_values}
use Rattle.ss_join.proofs.image_laws.wide_image_examples.Goals as goal

pub returns-clause-spelled : goal.returns-clause-spelled
unfolding join_image wide_bytes narrow_bytes number_bytes key_bytes
returns-clause-spelled c = refl

pub returns-clause-read : goal.returns-clause-read
unfolding rows_read row_read say_two_values number_at key_in key_bytes
returns-clause-read c = (refl, refl)

pub returns-clause-without_need : goal.returns-clause-without_need
unfolding rows_read row_read say_two_values number_at key_in key_bytes
returns-clause-without_need c = refl

pub returns-clause-neither : goal.returns-clause-neither
unfolding rows_read row_read say_two_values number_at key_in key_bytes
returns-clause-neither c = refl

pub returns-clause-no_rows : goal.returns-clause-no_rows
unfolding join_image rows_read number_at number_bytes
returns-clause-no_rows c = (refl, refl)

pub returns-clause-ended : goal.returns-clause-ended
unfolding rows_read row_read say_two_values number_at key_in key_bytes
returns-clause-ended c = refl

pub returns-clause-narrow_again : goal.returns-clause-narrow_again
unfolding join_image narrow_bytes number_bytes key_bytes
returns-clause-narrow_again c = refl
