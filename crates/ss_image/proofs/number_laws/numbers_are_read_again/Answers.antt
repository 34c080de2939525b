use Rattle.ss_image.proofs.Spellings.{length-number_bytes, number_at-bytes, length-key_bytes, key_in-key_bytes}
use Rattle.ss_image.proofs.number_laws.numbers_are_read_again.Goals as goal

pub returns : goal.returns
returns c = record { number_len = length-number_bytes; number = number_at-bytes; key_len = length-key_bytes; key = key_in-key_bytes }
