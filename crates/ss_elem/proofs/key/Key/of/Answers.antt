use Rattle.std.proofs.Common.{◌≡◌, true, sym}
use Rattle.std.specs.List.{list_all}
use Rattle.ss_elem.specs.Key.{is_key_byte, is_key_text}
use Rattle.ss_elem.proofs.KeyNumbers.{number_is_key, is_key_text_of, no_key-bad_byte}
use Rattle.ss_elem.proofs.key.Key.of.Goals as goal

pub invariant_of-result : goal.invariant_of-result
invariant_of-result c =
    let bytes : list_all is_key_byte c.args.bytes.now ≡ true = c.in-None.ensures.none in
    let text : is_key_text c.args.bytes.now ≡ true = is_key_text_of _ (sym c.if-is_empty.ensures) c.if-bytes-gt-MOST_BYTES.false bytes in
    rw c.number_of.ensures (number_is_key _ text)

pub returns-in-Some-clause-key : goal.returns-in-Some-clause-key
returns-in-Some-clause-key c = no_key-bad_byte c.args.bytes.now c.in-Some.at c.in-Some.byte c.in-Some.ensures.found
