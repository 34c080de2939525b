-- Why a text is no key.
use Rattle.std.specs.Prelude.{◌≡◌, ◌<◌, ◌≤◌, ℕ, List, [], length}
use Rattle.ss_elem.specs.declared.key.BadKey.{BadKey}
use Rattle.ss_elem.specs.declared.key.BadKey.TheVariants.{Empty, TooLong, BadByte}
use Rattle.ss_elem.specs.Key.{IsFirstBadByte}

-- each reason stands only where none before it does
abbrev pub IsBadKey : List ℕ → BadKey → Type 0
IsBadKey text Empty = text ≡ []
IsBadKey text (TooLong len) = (16 < length text) × (len ≡ length text)
IsBadKey text (BadByte at byte) = (0 < length text) × (length text ≤ 16) × IsFirstBadByte text at byte
