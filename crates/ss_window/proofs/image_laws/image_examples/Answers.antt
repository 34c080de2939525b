use Rattle.std.proofs.Common.{refl}
use Rattle.ss_image.specs.Numbers.{number_bytes, number_at, key_bytes, key_in}
use Rattle.ss_image.specs.Images.{entry_bytes, window_image}
use Rattle.ss_window.specs.ImageTests.{entry_read, entries_read}
use Rattle.ss_window.proofs.image_laws.image_examples.Goals as goal

pub returns-clause-two_entries : goal.returns-clause-two_entries
unfolding window_image entry_bytes number_bytes key_bytes
returns-clause-two_entries c = refl

pub returns-clause-negative : goal.returns-clause-negative
unfolding entry_bytes number_bytes key_bytes
returns-clause-negative c = refl

pub returns-clause-read : goal.returns-clause-read
unfolding entries_read entry_read number_at key_in key_bytes
returns-clause-read c = refl

pub returns-clause-first_closed : goal.returns-clause-first_closed
unfolding entries_read entry_read number_at key_in key_bytes
returns-clause-first_closed c = refl
