-- The order of keys.
use Rattle.std.specs.Prelude.{◌≡◌, ℕ}
use Rattle.std.specs.Ordering.{nat_cmp}
use Rattle.std.specs.Cmp.Lexicographic.{slice_cmp}
use Rattle.ss_elem.specs.Key.{key_text, IsKeyNumber}
use Rattle.ss_elem.specs.contracts.key.KeyOrd.TheImpl as key_ord

-- the comparison of keys in the program is that of their texts, byte by byte, and of texts that begin alike the
-- shorter one comes first
abbrev pub KeysCompareAsTexts : Type 0
KeysCompareAsTexts =
    (x y : ℕ) → IsKeyNumber x → IsKeyNumber y → key_ord.ghosts.cmp x y ≡ slice_cmp nat_cmp (key_text x) (key_text y)

-- it is also that of their numbers
abbrev pub KeysCompareAsNumbers : Type 0
KeysCompareAsNumbers = (x y : ℕ) → IsKeyNumber x → IsKeyNumber y → key_ord.ghosts.cmp x y ≡ nat_cmp x y
