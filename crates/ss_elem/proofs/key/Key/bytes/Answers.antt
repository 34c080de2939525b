use Rattle.std.proofs.Common.{◌∙◌}
use Rattle.ss_elem.proofs.KeyNumbers.{key_facts}
use Rattle.ss_elem.proofs.key.Key.bytes.Goals as goal

pub returns-clause-padded : goal.returns-clause-padded
returns-clause-padded c = rw (← c.self.view_is) (c.to_be_bytes-bytes.ensures ∙ (key_facts _ c.self.invariant).bytes)

pub returns-clause-same_key : goal.returns-clause-same_key
returns-clause-same_key c = rw (← c.self.view_is) c.self.invariant
