use Rattle.std.proofs.Common.{refl}
use Rattle.ss_image.specs.Numbers.{number_bytes, number_at, key_bytes, key_in}
use Rattle.ss_image.specs.Images.{session_bytes, session_image}
use Rattle.ss_session.specs.ImageTests.{session_read, sessions_read}
use Rattle.ss_session.proofs.session_image_laws.session_image_examples.Goals as goal

pub returns-clause-two_sessions : goal.returns-clause-two_sessions
unfolding session_image session_bytes number_bytes key_bytes
returns-clause-two_sessions c = refl

pub returns-clause-negative : goal.returns-clause-negative
unfolding session_bytes number_bytes key_bytes
returns-clause-negative c = refl

pub returns-clause-read : goal.returns-clause-read
unfolding sessions_read session_read number_at key_in key_bytes
returns-clause-read c = refl

pub returns-clause-one_byte_fewer : goal.returns-clause-one_byte_fewer
unfolding sessions_read session_read number_at key_in key_bytes
returns-clause-one_byte_fewer c = refl

pub returns-clause-first_closed : goal.returns-clause-first_closed
unfolding sessions_read session_read number_at key_in key_bytes
returns-clause-first_closed c = refl

pub returns-clause-not_apart : goal.returns-clause-not_apart
unfolding sessions_read session_read number_at key_in key_bytes
returns-clause-not_apart c = refl
